-- Laws of a layout's sizes.
pub mod SizedLaws
