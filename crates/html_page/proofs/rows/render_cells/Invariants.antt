-- `html_page::rows::render_cells` meets its contract. The invariant: those of the row's cells that stand before cell k are written.
use Prim.Native.Nat.{◌+◌, ◌*◌, ◌≤◌}
use mathlib.Core.Path.{◌≡◌}
use mathlib.Core.List.{flat_map}
use lib.ListN.{length}
use Rattle.grid.specs.Flat.{code_section}
use Rattle.html.specs.Page.{cell_page}
use Rattle.writer.specs.Writing.{Wrote}
use Rattle.html_page.specs.Call.{columns_of, IsStanding}
use Rattle.html_page.proofs.rows.RowLaws.{held}
use Rattle.html_page.proofs.rows.render_cells.Given as goal

abbrev pub invariant-loop-k : goal.invariant-loop-k
invariant-loop-k l =
    let t = l.table in
    let written = flat_map (cell_page (columns_of t) (code_section l.section)) (held t.shape.cells t.shape.cell_entries.now t.inner.now l.row l.k) in
    IsStanding t l.row (l.row + 1) l.k l.from × (l.at ≤ 49152 + 65536 * l.k + 64 * l.row + 12) × (length l.out ≡ length l.initial.out)
    × Wrote l.initial.out l.fn.first.at written l.out l.at
