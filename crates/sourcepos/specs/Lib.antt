pub mod Positions
pub mod PositionsCall
pub mod LineEnds
pub mod LineEndCalls
pub mod LineEndPromises
pub mod Computing
