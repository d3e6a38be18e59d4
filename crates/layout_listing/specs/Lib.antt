pub mod Listed
pub mod Printing
