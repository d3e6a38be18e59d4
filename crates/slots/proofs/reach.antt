-- Laws of how far borders reach.
pub mod RunLaws
pub mod ReachLaws
