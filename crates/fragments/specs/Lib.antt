pub mod Call
pub mod Part
pub mod View
