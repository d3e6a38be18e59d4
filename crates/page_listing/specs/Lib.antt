pub mod Inner
pub mod Paged
