pub mod Entries
pub mod Agreement
pub mod Places
pub mod Shapes
pub mod Skyline
pub mod Checks
