pub mod Skylines
pub mod Ready
pub mod Search
pub mod Placing
pub mod Tracing
