pub mod Frames
pub mod Painting
pub mod Picture
