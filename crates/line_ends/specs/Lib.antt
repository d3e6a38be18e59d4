pub mod Call
pub mod Search
