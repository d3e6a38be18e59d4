-- `table_checks::arrays::known_alignments` meets its contract. The invariant: every alignment is known where every one from column k on is.
use Prim.Native.Nat.{◌-◌, ◌*◌}
use mathlib.Core.Path.{◌≡◌}
use lib.Dec.{ltb}
use lib.ListN.{drop}
use Rattle.seq.specs.Lists.{all}
use Rattle.grid.specs.Flat.{every_nth}
use Rattle.table_checks.proofs.arrays.known_alignments.Given as goal

abbrev pub invariant-loop-k : goal.invariant-loop-k
invariant-loop-k l =
    all (λ code. ltb code 4) (every_nth 2 l.columns l.column_entries)
    ≡ all (λ code. ltb code 4) (every_nth 2 (l.columns - l.k) (drop (2 * l.k) l.column_entries))
