pub mod Lines
pub mod Characters
pub mod Utf8
pub mod Columns
pub mod Trim
pub mod Rule
pub mod Computing
