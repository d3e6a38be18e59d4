pub mod TableLaws
pub mod FinishLaws
pub mod CallLaws
