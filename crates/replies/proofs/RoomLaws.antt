-- With output arrays of the lengths named no call that reads a drawing answers 12: `layout-room`, `cell_room_lem`, `positions-room`,
-- `table-room`.
use Prim.Native.Nat.{ℕ, ◌+◌, ◌*◌, ◌-◌, ◌≤◌, ◌<◌}
use mathlib.Core.Path.{◌≡◌, refl, sym, ap, ap₂, ◌∙◌}
use mathlib.Core.Bool.{Bool, false, ◌||◌}
use mathlib.Core.Logic.{⊎_elim}
use mathlib.Core.List.{List, map, flat_map}
use native.Mathlib.Omega.{arith}
use lib.Dec.{leb}
use lib.ListN.{length, get_or, length-map}
use borrow.Author.Tests.{le-ltb, leb-false}
use Rattle.seq.proofs.Tests.{or-none}
use Rattle.seq.proofs.FlatMaps.{length-flat_map}
use Rattle.seq.proofs.Ranges.{length-range}
use Rattle.seq.proofs.Positions.{get_d_map, get_or-mem}
use Rattle.grid.specs.Answer.{Answer, accept, refuse, refuse_if, and_then}
use Rattle.grid.specs.Values.{Line, Rect, Row, Cell, Layout}
use Rattle.grid.specs.Slots.{grid_of}
use Rattle.grid.specs.Layout.{column_lines, row_lines, inner_lines, inner_count, cell_read, layout_of}
use Rattle.grid.specs.Cut.{cell_fragments}
use Rattle.grid.specs.Read.{read_rects, read_layout, read_table}
use Rattle.grid.specs.Flat.{FlatDrawing, drawing_contradicts, lines_of, TableArrays, table_sizes, shorter}
use Rattle.grid.specs.LayoutCall.{LayoutSpace, LayoutArrays, space_short, layout_sizes, layout_arrays, layout_short, layout_accepts, layout_answer}
use Rattle.grid.specs.CutCall.{CutNumbers, cut_numbers}
use Rattle.grid.specs.TableCall.{TableSpace, starts_short, table_space_short, read_contradicts, table_accepts, table_answer, no_cell, cell_cuts, four_of}
use Rattle.grid.specs.TableCall.{cut_array, cell_accepts, cell_answer}
use Rattle.grid.proofs.AnswerLaws.{refuse_if-passed}
use Rattle.grid.proofs.CoverTheorems.{stopped-six-or-seven}
use Rattle.grid.proofs.LayoutLaws.{column_lines-few, row_lines-few}
use Rattle.grid.proofs.SizeLaws.{columns-count, rows-count, short-agrees}
use Rattle.grid.proofs.ReadLaws.{Passed, read_rects-passed, passed-if, refuse_if-later, accept-not-refuse, and_then-accepting, height-of, read-cover, read-few}
use Rattle.grid.proofs.ReadLaws.{read-limited, read-narrow, layout-read, read_rects-stopped, read_layout-refused, read_table-refused}
use Rattle.grid.proofs.CellLaws.{cut_at, cell_cuts_lem}
use Rattle.grid.proofs.CellTexts.{all_lines}
use Rattle.sourcepos.specs.Positions.{table_position, row_position, cell_position}
use Rattle.sourcepos.specs.PositionsCall.{FlatPlaced, placed_contradicts, placed_of, numbers_too_large, placed_layout, four_numbers, PositionArrays}
use Rattle.sourcepos.specs.PositionsCall.{position_arrays, PositionsFound, positions_accept, positions_answer}
use Rattle.drawing.specs.RoundTripCall as enough
use Rattle.drawing.proofs.CallLaws.{table-with-room}
use Rattle.replies.specs.Room.{cell_room, LayoutLent, TableLent, PositionsLent}

-- ---- 12

-- where it is answered neither before nor after, it is not answered
pub then-no-twelve : {A B : Type 0} (a : Answer A) (next : A → Answer B) (p : ℕ)
    → ((x : A) → a ≡ accept x → next x ≡ refuse 12 p → ⊥) → (a ≡ refuse 12 p → ⊥) → and_then a next ≡ refuse 12 p → ⊥
then-no-twelve {A} a next p after before e = go a refl e where
  go : (b : Answer A) → a ≡ b → and_then b next ≡ refuse 12 p → ⊥
  go (accept x) is f = after x is f
  go (refuse number place) is f = let n : number ≡ 12 = cc f in let q : place ≡ p = cc f in before (is ∙ (λ i. refuse (n i) (q i)))

-- nor where the result is not too long
pub fits-no-twelve : {A : Type 0} (short : Bool) (x : A) (p : ℕ) → short ≡ false → refuse_if short 12 (accept x) ≡ refuse 12 p → ⊥
fits-no-twelve short x p fits e = accept-not-refuse x 12 p (rw fits at e)

-- ---- reading

-- it gives no 12 of its own
module _ (lines : List Line) (p : ℕ) where
  rects-no-twelve : read_rects lines ≡ refuse 12 p → ⊥
  rects-no-twelve e =
      ⊎_elim (λ (h : 12 ≡ 6). omega arith) (λ (h : 12 ≡ 7). omega arith)
      (stopped-six-or-seven (grid_of lines) 12 (read_rects-stopped lines 12 p (omega arith) e))

  layout-no-twelve : read_layout lines ≡ refuse 12 p → ⊥
  layout-no-twelve e = rects-no-twelve (read_layout-refused lines 12 p e)

  pub table-no-twelve : read_table lines ≡ refuse 12 p → ⊥
  table-no-twelve e = rects-no-twelve (read_table-refused lines 12 p e)

-- a layout that is read: its rectangles, and how many columns, rows and cells it has
record LayoutRead (lines : List Line) (l : Layout) : Type 0 where
  rects : List Rect
  checks : Passed lines rects
  made : l ≡ layout_of lines (grid_of lines) rects
  columns : length l.columns ≤ 127
  rows : length l.rows ≤ 127
  cells : length l.cells ≤ 1024

layout-limits : (lines : List Line) (l : Layout) → read_layout lines ≡ accept l → LayoutRead lines l
unfolding layout_of
layout-limits lines l e =
    let (rs, read, made) = layout-read lines l e in
    let g = grid_of lines in
    let checks = read_rects-passed lines rs read in
    let few = read-limited checks in
    record {
      rects = rs;
      checks = checks;
      made = made;
      columns = omega (arith, ap (λ (l : Layout). length l.columns) made, columns-count lines g rs, column_lines-few g rs, read-narrow checks);
      rows = omega (arith, ap (λ (l : Layout). length l.rows) made, rows-count lines g rs, row_lines-few g rs, height-of lines, few.few_lines);
      cells = omega (arith, ap (λ (l : Layout). length l.cells) made, length-map rs (cell_read g rs), read-few checks);
    }

-- ---- layout
layout-fits : (lines : List Line) (l : Layout) (out : LayoutArrays) → LayoutLent out → read_layout lines ≡ accept l
    → layout_short out (layout_arrays l) ≡ false
layout-fits lines l out room e =
    let h = layout-limits lines l e in
    let g = grid_of lines in
    let rs = h.rects in
    rw (
      h.made,
      short-agrees lines g rs out,
      le-ltb (length out.columns) (2 * (length (column_lines g rs) - 1)) (omega (arith, column_lines-few g rs, read-narrow h.checks, room.columns)),
      le-ltb (length out.rows) (3 * (length (row_lines g rs) - 1))
          (omega (arith, row_lines-few g rs, height-of lines, (read-limited h.checks).few_lines, room.rows)),
      le-ltb (length out.cells) (5 * length rs) (omega (arith, read-few h.checks, room.cells)),
      le-ltb (length out.ranges) (2 * inner_count rs) (omega (arith, all_lines lines rs h.checks, room.ranges)),
    )

-- With the room named the layout call gives no 12.
pub layout-room : (w : LayoutSpace) (d : FlatDrawing) (out : LayoutArrays) → LayoutLent out → (p : ℕ) → layout_answer w d out ≡ refuse 12 p → ⊥
unfolding layout_answer layout_accepts
layout-room w d out room p e =
    let lines = lines_of d in
    let handed : Layout → Answer Layout = λ l. refuse_if (layout_short out (layout_arrays l)) 12 (accept l) in
    let accepts = and_then-accepting (layout_accepts w d out) (λ l. layout_sizes lines l) 12 p e in
    let reads = refuse_if-later (drawing_contradicts d || space_short w) 13 (and_then (read_layout lines) handed) 12 p (λ h. omega arith) accepts in
    then-no-twelve (read_layout lines) handed p (λ l is. fits-no-twelve (layout_short out (layout_arrays l)) l p (layout-fits lines l out room is))
    (layout-no-twelve lines p) reads

-- ---- cell

-- a cell has no more cut lines than the drawing has lines
cell-fits : (lines : List Line) (l : Layout) (k : ℕ) (out : List ℕ) → cell_room ≤ length out → read_layout lines ≡ accept l
    → leb (length l.cells) k ≡ false → shorter out (cut_array (cell_cuts lines l k)) ≡ false
unfolding cell_cuts layout_of
cell-fits lines l k out room e inside =
    let h = layout-limits lines l e in
    let g = grid_of lines in
    let rs = h.rects in
    let nowhere : Rect = record { top = 0; left = 0; bottom = 0; right = 0 } in
    let at = leb-false (length l.cells) k inside in
    let within : k < length rs = omega (arith, at, ap (λ (l : Layout). length l.cells) h.made, length-map rs (cell_read g rs)) in
    let r = get_or rs k nowhere in
    let m = get_or-mem rs k nowhere within in
    let cover = read-cover h.checks in
    let cell : get_or l.cells k no_cell ≡ cell_read g rs r =
    ap (λ (l : Layout). get_or l.cells k no_cell) h.made ∙ get_d_map (cell_read g rs) rs k no_cell nowhere within in
    let cuts : cell_fragments lines l (get_or l.cells k no_cell) ≡ map (cut_at lines g r) (inner_lines r) =
    ap₂ (cell_fragments lines) h.made cell ∙ cell_cuts_lem lines g rs cover m in
    le-ltb (length out) (length (cut_array (cell_cuts lines l k)))
    (omega (
      arith,
      room,
      length-flat_map 4 four_of (cell_cuts lines l k) (λ f. refl),
      length-map (cell_fragments lines l (get_or l.cells k no_cell)) (cut_numbers 0),
      ap length cuts,
      length-map (inner_lines r) (cut_at lines g r),
      length-range (r.top + 1) (r.bottom - r.top - 1),
      (cover.first r m).bordered.bottom_inside,
      height-of lines,
      (read-limited h.checks).few_lines,
    ))

-- With the room named the cell call gives no 12.
pub cell_room_lem : (w : LayoutSpace) (starts : ℕ) (d : FlatDrawing) (k : ℕ) (out : List ℕ) → cell_room ≤ length out
    → (p : ℕ) → cell_answer w starts d k out ≡ refuse 12 p → ⊥
unfolding cell_answer cell_accepts
cell_room_lem w starts d k out room p e =
    let lines = lines_of d in
    let cuts : Layout → List CutNumbers = λ l. cell_cuts lines l k in
    let past : Layout → Bool = λ l. leb (length l.cells) k in
    let handed : Layout → Answer (List CutNumbers) = λ l. refuse_if (shorter out (cut_array (cuts l))) 12 (accept (cuts l)) in
    let asked : Layout → Answer (List CutNumbers) = λ l. refuse_if (past l) 13 (handed l) in
    let accepts = and_then-accepting (cell_accepts w starts d k out) (λ (cuts : List CutNumbers). length cuts) 12 p e in
    let reads = refuse_if-later (read_contradicts w (starts_short starts) d) 13 (and_then (read_layout lines) asked) 12 p (λ h. omega arith) accepts in
    then-no-twelve (read_layout lines) asked p
    (λ l is f.
    let inside = refuse_if-passed (past l) 13 (handed l) 12 p (λ h. omega arith) f in
    fits-no-twelve (shorter out (cut_array (cuts l))) (cuts l) p (cell-fits lines l k out room is inside)
    (refuse_if-later (past l) 13 (handed l) 12 p (λ h. omega arith) f))
    (layout-no-twelve lines p) reads

-- ---- positions
module _ (w : LayoutSpace) (starts : ℕ) (given : FlatPlaced) (out : PositionArrays) where
  abbrev drawing_lines : List Line
  drawing_lines = lines_of given.drawing

  positions-fit : PositionsLent out → (l : Layout) → read_layout drawing_lines ≡ accept l
      → shorter out.rows (position_arrays (placed_of given) l).rows || shorter out.cells (position_arrays (placed_of given) l).cells ≡ false
  unfolding position_arrays
  positions-fit room l e =
      let h = layout-limits drawing_lines l e in
      let row : Row → List ℕ = λ r. four_numbers (row_position (placed_of given) r) in
      let cell : Cell → List ℕ = λ c. four_numbers (cell_position (placed_of given) l c) in
      or-none
      (le-ltb (length out.rows) (length (flat_map row l.rows)) (omega (arith, room.rows, h.rows, length-flat_map 4 row l.rows (λ r. refl))))
      (le-ltb (length out.cells) (length (flat_map cell l.cells)) (omega (arith, room.cells, h.cells, length-flat_map 4 cell l.cells (λ c. refl))))

  placed-read : (l : Layout) → placed_layout w starts given ≡ accept l → read_layout drawing_lines ≡ accept l
  unfolding placed_layout
  placed-read l e =
      let few = refuse_if (numbers_too_large given) 2 (read_layout drawing_lines) in
      (passed-if (numbers_too_large given) 2 (read_layout drawing_lines) l (passed-if (placed_contradicts w starts given) 13 few l e).1).1

  placed-no-twelve : (p : ℕ) → placed_layout w starts given ≡ refuse 12 p → ⊥
  unfolding placed_layout
  placed-no-twelve p e =
      let few = refuse_if (numbers_too_large given) 2 (read_layout drawing_lines) in
      let numbers = refuse_if-later (placed_contradicts w starts given) 13 few 12 p (λ h. omega arith) e in
      layout-no-twelve drawing_lines p (refuse_if-later (numbers_too_large given) 2 (read_layout drawing_lines) 12 p (λ h. omega arith) numbers)

  -- With the room named the positions call gives no 12.
  pub positions-room : PositionsLent out → (p : ℕ) → positions_answer w starts given out ≡ refuse 12 p → ⊥
  unfolding positions_answer positions_accept
  positions-room room p e =
      let arrays = position_arrays (placed_of given) in
      let found : Layout → PositionsFound = λ l. record { table = table_position (placed_of given); rows = length l.rows; cells = length l.cells } in
      let accepts = and_then-accepting (positions_accept w starts given out) found 12 p e in
      let short : Layout → Bool = λ l. shorter out.rows (arrays l).rows || shorter out.cells (arrays l).cells in
      then-no-twelve (placed_layout w starts given) (λ l. refuse_if (short l) 12 (accept l)) p
      (λ l is. fits-no-twelve (short l) l p (positions-fit room l (placed-read l is))) (placed-no-twelve p) accepts

-- ---- table
-- the same room, as the round trip names it
table_roomy : {out : TableArrays} → TableLent out → enough.TableRoom out
table_roomy room = record { columns = room.columns; sections = room.sections; cells = room.cells; lengths = room.lengths; text = room.text }

-- With the room named the table call gives no 12.
pub table-room : (w : LayoutSpace) (s : TableSpace) (d : FlatDrawing) (out : TableArrays) → TableLent out
    → (p : ℕ) → table_answer w s d out ≡ refuse 12 p → ⊥
unfolding table_answer
table-room w s d out room p e =
    let accepts = and_then-accepting (table_accepts w s d out) table_sizes 12 p e in
    let reads = sym (table-with-room w s d out (table_roomy room)) ∙ accepts in
    table-no-twelve (lines_of d) p (refuse_if-later (read_contradicts w (table_space_short s) d) 13 (read_table (lines_of d)) 12 p (λ h. omega arith) reads)
