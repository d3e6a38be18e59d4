pub mod Lines
pub mod Cells
pub mod Needs
pub mod Measured
