pub mod Board
pub mod Bears
pub mod Counted
pub mod Hits
pub mod Sketch
pub mod Plans
pub mod Late
