pub mod Spans
pub mod Parts
pub mod Needs
pub mod Lent
pub mod Answer
