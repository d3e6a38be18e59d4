pub mod Common
pub mod Several
