pub mod Needs
pub mod Call
pub mod Room
