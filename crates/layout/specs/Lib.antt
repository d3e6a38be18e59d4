pub mod Call
pub mod Columns
pub mod Marked
pub mod Sized
pub mod Written
