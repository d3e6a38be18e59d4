-- `table_checks::arrays::known_sections` meets its contract. The invariant: every section is known where every one from the index on is.
use mathlib.Core.Path.{◌≡◌}
use lib.Dec.{ltb}
use lib.ListN.{drop}
use Rattle.seq.specs.Lists.{all}
use Rattle.table_checks.proofs.arrays.known_sections.Given as goal

abbrev pub invariant-loop-code : goal.invariant-loop-code
invariant-loop-code l = all (λ code. ltb code 3) l.sections ≡ all (λ code. ltb code 3) (drop l.code-index l.sections)
