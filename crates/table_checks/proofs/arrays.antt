-- Laws of the sizes and codes of arrays.
pub mod ArrayLaws
