-- Laws of alignments.
pub mod AlignmentLaws
