-- `html_page::colgroup::total_width` meets its contract. The invariant: the sum of the first k widths.
use Prim.Native.Nat.{◌*◌, ◌≤◌}
use mathlib.Core.Path.{◌≡◌}
use lib.ListN.{take}
use Rattle.seq.specs.Lists.{sum}
use Rattle.grid.specs.Flat.{columns_of_array}
use Rattle.html_page.proofs.colgroup.ColgroupLaws.{widths_of}
use Rattle.html_page.proofs.colgroup.total_width.Given as goal

abbrev pub invariant-loop-k : goal.invariant-loop-k
invariant-loop-k l = (l.total ≤ 65536 * l.k) × (l.total ≡ sum (widths_of (take l.k (columns_of_array l.columns l.cols))))
