pub mod FoundLaws
pub mod FinishLaws
pub mod FinishNeeds
pub mod CallLaws
