pub mod Paged
pub mod Call
