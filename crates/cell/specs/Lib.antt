pub mod Answer
pub mod Text
pub mod Cuts
pub mod Given
