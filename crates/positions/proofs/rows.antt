-- Laws of the positions of whole lines.
pub mod RowLaws
