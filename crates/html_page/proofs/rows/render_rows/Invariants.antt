-- `html_page::rows::render_rows` meets its contract. The invariant: the first rows are written, and the next cell is the first of the next row or later.
use Prim.Native.Nat.{◌+◌, ◌*◌, ◌≤◌}
use mathlib.Core.Path.{◌≡◌}
use mathlib.Core.List.{flat_map}
use lib.ListN.{length}
use Rattle.seq.specs.Lists.{up_to}
use Rattle.html.specs.Page.{row_page}
use Rattle.writer.specs.Writing.{Wrote}
use Rattle.html_page.specs.Call.{page_of, IsStanding}
use Rattle.html_page.proofs.rows.render_rows.Given as goal

abbrev pub invariant-loop-row : goal.invariant-loop-row
invariant-loop-row l =
    IsStanding l.table l.row l.row l.reached.k l.reached.from × (l.reached.at ≤ 49152 + 65536 * l.reached.k + 64 * l.row)
    × (length l.out ≡ length l.initial.out) × Wrote l.initial.out l.at (flat_map (row_page (page_of l.table)) (up_to l.row)) l.out l.reached.at
