-- `table_checks::cover::covers_once` meets its contract. The invariant: the first k cells hold each square above the skyline once.
use lib.ListN.{length, take}
use Rattle.table_checks.specs.Places.{places_of}
use Rattle.table_checks.proofs.cover.CoverLaws.{Heaped}
use Rattle.table_checks.proofs.cover.covers_once.Given as goal

abbrev pub invariant-loop-k : goal.invariant-loop-k
invariant-loop-k l = Heaped (take l.k (places_of l.shape.cells l.shape.cell_entries.now)) (length l.shape.sections.now) l.bottoms.each
