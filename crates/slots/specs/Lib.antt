pub mod Filling
pub mod Replaced
pub mod Line
pub mod Scan
pub mod Reaching
pub mod Glyphs
