-- Laws of the borders of cells in their array.
pub mod FrameLaws
