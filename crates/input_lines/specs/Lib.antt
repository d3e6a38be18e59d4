pub mod Splitting
pub mod Sheet
