pub mod EachLaws
pub mod FactLaws
pub mod TableLaws
