use borrow.Author.Rules.{rules}
use Rattle.page_listing.proofs.escape.CellLaws.{cells-none, lines-within, text-within, cell-asked, cell-past, text-next, cell-next, cells-all}
use Prim.Native.Nat.{◌+◌, ◌*◌, ◌≤◌}
use lib.ListN.{get_or}
use native.Mathlib.Omega.{arith}
use Rattle.page_listing.proofs.escape.escape_cells.Goals as goal

pub loop-k-init : goal.loop-k-init
loop-k-init c = cells-none _ _ _ _ _ _ c.requires.cells c.requires.lines c.requires.room

pub overflow_add-stop : goal.overflow_add-stop
overflow_add-stop c =
    let within : c.loop-k.line + get_or c.args.table.cell_entries.now (5 * c.loop-k.k + 4) 0 ≤ 16384 = omega (arith, lines-within _ _ _ _ _ _ c.loop-k.invariant c.loop-k-test.true, c.loop-k.invariant.lines_given) in search rules

pub offset_bounds-table-line : goal.offset_bounds-table-line
offset_bounds-table-line c =
    let within : c.loop-k.line + get_or c.args.table.cell_entries.now (5 * c.loop-k.k + 4) 0 ≤ 16384 = omega (arith, lines-within _ _ _ _ _ _ c.loop-k.invariant c.loop-k-test.true, c.loop-k.invariant.lines_given) in search rules

pub slice_bounds-escape_lines-end : goal.slice_bounds-escape_lines-end
slice_bounds-escape_lines-end c = rw c.at-cell.ensures (lines-within _ _ _ _ _ _ c.loop-k.invariant c.loop-k-test.true)

pub slice_bounds-escape_lines-count-in-loop-k : goal.slice_bounds-escape_lines-count-in-loop-k
slice_bounds-escape_lines-count-in-loop-k c = search (rules, (text-within _ _ _ _ _ _ c.loop-k.invariant c.loop-k-test.true))

pub slice_bounds-escape_lines-start-in-loop-k : goal.slice_bounds-escape_lines-start-in-loop-k
slice_bounds-escape_lines-start-in-loop-k c = (text-within _ _ _ _ _ _ c.loop-k.invariant c.loop-k-test.true)

pub escape_lines-escaped-requires : goal.escape_lines-escaped-requires
escape_lines-escaped-requires c = rw c.at-cell.ensures (cell-asked _ _ _ _ _ _ c.loop-k.invariant c.loop-k-test.true)

pub returns-then-escaped-gt-MAX_BYTES : goal.returns-then-escaped-gt-MAX_BYTES
returns-then-escaped-gt-MAX_BYTES c = cell-past _ _ _ _ _ _ c.loop-k.invariant c.loop-k-test.true (rw c.at-cell.ensures at c.escape_lines-escaped.ensures) c.if-escaped-gt-MAX_BYTES.true

pub overflow_add-used : goal.overflow_add-used
overflow_add-used c = search (rules, text-next _ _ _ _ _ _ c.loop-k.invariant c.loop-k-test.true (rw c.at-cell.ensures at c.escape_lines-escaped.ensures))

pub loop-k-preserved : goal.loop-k-preserved
loop-k-preserved c =
    rw c.at-cell.ensures
    (cell-next _ _ _ _ _ _ c.loop-k.invariant c.loop-k-test.true (rw c.at-cell.ensures at c.escape_lines-escaped.ensures) c.if-escaped-gt-MAX_BYTES.false
    (rw c.at-cell.ensures at c.write_cell.ensures))

pub returns : goal.returns
returns c = cells-all _ _ _ _ _ _ c.loop-k.invariant c.loop-k-test.false
