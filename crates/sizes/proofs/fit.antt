-- Laws of sizes that hold their cells.
pub mod TurnLaws
pub mod TotalLaws
