-- Laws of the rows and columns in which cells start.
pub mod StartLaws
