-- From given sizes to the drawing.
pub mod FrameLaws
pub mod SizeLaws
pub mod LateLaws
pub mod SizedLaws
