-- Laws of the two calls.
pub mod ToldLaws
