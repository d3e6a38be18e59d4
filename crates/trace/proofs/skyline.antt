-- Laws of the skyline.
pub mod SkyLaws
