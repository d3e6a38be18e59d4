pub mod SectionLaws
pub mod CornerLaws
pub mod LackLaws
pub mod AlignmentLaws
