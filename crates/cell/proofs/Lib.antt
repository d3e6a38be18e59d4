pub mod CellLaws
pub mod FrameLaws
pub mod CallLaws
