-- Laws of the slots of one line.
pub mod PlainLaws
