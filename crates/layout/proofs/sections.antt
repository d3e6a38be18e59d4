-- Laws of sections.
pub mod PartLaws
