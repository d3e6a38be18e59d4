-- Computed examples of the definitions.
mod Examples
-- Lists, ranges and the element at a position.
pub mod ListsLaws
pub mod Tests
pub mod Ranges
pub mod Searches
pub mod Finds
pub mod Positions
pub mod Smallest
pub mod Prefixes
-- Order: permutations, sorted and rising lists, lists number by number.
pub mod Permutations
pub mod Sorted
pub mod Rising
pub mod Pointwise
-- What loops gather and write: lists end to end, entries of arrays, sums.
pub mod FlatMaps
pub mod Gathered
pub mod Entries
pub mod Walks
pub mod Sums
