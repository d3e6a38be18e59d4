-- `html_page::colgroup::render_cols` meets its contract. The invariant: the tags of the first k columns are written.
use Prim.Native.Nat.{◌+◌, ◌*◌, ◌≤◌}
use mathlib.Core.Path.{◌≡◌}
use mathlib.Core.List.{flat_map}
use lib.ListN.{length, take}
use Rattle.grid.specs.Flat.{columns_of_array}
use Rattle.writer.specs.Writing.{Wrote}
use Rattle.html_page.specs.Paged.{col_of}
use Rattle.html_page.proofs.colgroup.render_cols.Given as goal

abbrev pub invariant-loop-k : goal.invariant-loop-k
invariant-loop-k l =
    (length l.out ≡ length l.initial.out) × (l.end ≤ l.at + 64 * l.k)
    × Wrote l.initial.out l.at (flat_map (col_of l.total) (take l.k (columns_of_array l.columns l.cols))) l.out l.end
