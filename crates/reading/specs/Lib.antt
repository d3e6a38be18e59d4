pub mod Call
pub mod Agreement
pub mod Checks
pub mod Sheets
