-- Reading with line and byte numbers, and the calls after it.
pub mod PlacedLaws
pub mod PartsLaws
-- The positions of rows and cells: what the arrays say is what the definitions say.
pub mod CellLaws
pub mod SpansLaws
-- The calls' last parts, and the calls at each of their returns.
pub mod FinishLaws
pub mod CallLaws
