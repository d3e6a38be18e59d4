-- `reading::checks::adds_up` meets its contract. The invariant: the lengths add up where those from the index on add up to what is left.
use mathlib.Core.Path.{◌≡◌}
use lib.Dec.{eqb}
use lib.ListN.{drop}
use Rattle.seq.specs.Lists.{sum}
use Rattle.reading.proofs.checks.adds_up.Given as goal

abbrev pub invariant-loop-length : goal.invariant-loop-length
invariant-loop-length l = eqb (sum l.lengths) l.bytes ≡ eqb (sum (drop l.length-index l.lengths)) l.left
