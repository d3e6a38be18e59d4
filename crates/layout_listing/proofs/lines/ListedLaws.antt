-- From the layout call's answer and arrays to the listing.
use Prim.Native.Nat.{ℕ, ◌≤◌}
use mathlib.Core.Path.{◌≡◌, refl, ap, sym, ◌∙◌}
use mathlib.Core.Bool.{false}
use mathlib.Core.List.{List, ◌++◌, flat_map, Memᴰ}
use native.Mathlib.Omega.{arith}
use lib.ListN.{length, drop}
use Rattle.seq.specs.Lists.{sum}
use Rattle.grid.specs.Answer.{Answer, accept, refuse, refuse_if, and_then, afterwards, over}
use Rattle.grid.specs.Values.{Line, Layout, Cell}
use Rattle.grid.specs.Slots.{grid_of, trimmed_at}
use Rattle.grid.specs.Layout.{layout_of}
use Rattle.grid.specs.Read.{read_layout}
use Rattle.grid.specs.Flat.{FlatDrawing, drawing_contradicts, lines_of, column_numbers}
use Rattle.grid.specs.LayoutCall as grid
use Rattle.grid.specs.LayoutCall.{LayoutSpace, LayoutArrays, space_short, row_numbers, cell_numbers, layout_arrays, layout_sizes, layout_short, layout_over, layout_accepts, layout_answer, layout_afterwards}
use Rattle.grid.specs.Listing.{listed, refused_line}
use Rattle.grid.proofs.ReadLaws.{read-cover}
use Rattle.std.specs.Prelude.{Result, Ok, Err}
use Rattle.refusals.specs.Refusal.{number_of, place_of}
use Rattle.refusals.specs.declared.Refusal.{Refusal}
use Rattle.layout.specs.Call.{sizes_of, layout_answer_of, layout_lent}
use Rattle.layout.specs.declared.LayoutSizes.{LayoutSizes}
use Rattle.layout_listing.specs.Printing.{inner_height, table_printed}
use Rattle.layout_listing.proofs.print.TableLaws.{columns-back, rows_back, cells-back, inner-cells}
use Rattle.input_lines.proofs.SheetLaws.{zeroes, length-zeroes, sheet_of, sheet-agrees, sheet-lines, lines-counted, fresh_space, fresh-enough}
use Rattle.layout_listing.specs.Listed.{LayoutTold}
use Rattle.layout_listing.proofs.lines.SizeLaws.{LayoutRead, layout_read-made, layout-small, Rooms, layout-fits}

-- what an answer tells of the listing of lines, given what reading them answers
abbrev LayoutToldOf : List Line → LayoutArrays → Answer Layout → Result LayoutSizes Refusal → Type 0
LayoutToldOf lines after a (Ok s) =
    (s.columns ≤ 127) × (s.rows ≤ 127) × (s.cells ≤ 1024)
    × (table_printed s.width.0 (length lines) s.columns s.rows s.cells after.columns after.rows after.cells ≡ listed lines a)
LayoutToldOf lines after a (Err e) = refused_line (number_of e) (place_of e) ≡ listed lines a

-- The answer

module _ (w : LayoutSpace) (d : FlatDrawing) (out : LayoutArrays) (agree : drawing_contradicts d ≡ false) (enough : space_short w ≡ false) (rooms : Rooms out) where
  no-check : (a : Answer Layout) → read_layout (lines_of d) ≡ a → and_then a (λ l. refuse_if (layout_short out (layout_arrays l)) 12 (accept l)) ≡ a
  no-check (refuse number place) e = refl
  no-check (accept l) e = rw (layout-fits (lines_of d) l out (layout_read-made (lines_of d) l e) rooms)

  accepts-all : layout_accepts w d out ≡ read_layout (lines_of d)
  unfolding layout_accepts
  accepts-all = rw (agree, enough) (no-check (read_layout (lines_of d)) refl)

  answer-all : layout_answer w d out ≡ and_then (read_layout (lines_of d)) (λ l. accept (layout_sizes (lines_of d) l))
  unfolding layout_answer
  answer-all = rw accepts-all

  after-all : layout_afterwards w d out ≡ afterwards (read_layout (lines_of d)) (λ l. layout_over (layout_arrays l) out) out
  unfolding layout_afterwards
  after-all = rw accepts-all

  inner_made : (l : Layout) → LayoutRead (lines_of d) l → (rest : List ℕ) (c : Cell) → Memᴰ c l.cells
      → inner_height (flat_map row_numbers l.rows ++ rest) c.row c.rowspan ≡ length c.content
  unfolding layout_of
  inner_made l h rest = rw h.made (inner-cells (grid_of (lines_of d)) h.rects (read-cover h.checks) rest)

  table_of : (l : Layout) → LayoutRead (lines_of d) l
      → table_printed (length (trimmed_at (lines_of d) 0)) (length (lines_of d)) (length l.columns) (length l.rows) (length l.cells)
      (over (flat_map column_numbers l.columns) out.columns) (over (flat_map row_numbers l.rows) out.rows) (over (flat_map cell_numbers l.cells) out.cells)
      ≡ listed (lines_of d) (accept l)
  unfolding table_printed
  table_of l h =
      let column_rest = drop (length (flat_map column_numbers l.columns)) out.columns in
      let row_rest = drop (length (flat_map row_numbers l.rows)) out.rows in
      let cell_rest = drop (length (flat_map cell_numbers l.cells)) out.cells in
      rw (columns-back l.columns column_rest, rows_back l.rows row_rest, cells-back l.cells (flat_map row_numbers l.rows ++ row_rest) cell_rest (inner_made l h row_rest))

  -- the answer and the arrays afterwards, for each of reading's answers
  told-by : (a : Answer Layout) (r : Result LayoutSizes Refusal) (after : LayoutArrays) → read_layout (lines_of d) ≡ a → layout_answer_of r ≡ and_then a (λ l. accept (layout_sizes (lines_of d) l))
      → after ≡ afterwards a (λ l. layout_over (layout_arrays l) out) out → LayoutToldOf (lines_of d) after a r
  unfolding layout_sizes layout_over layout_arrays
  told-by (refuse m q) (Err x) after h e f =
      let same : number_of x ≡ m = cc in
      let there : place_of x ≡ q = cc in
      rw (same, there)
  told-by (refuse m q) (Ok s) after h e f = let z : ◌≡◌ {A = ℕ} 0 1 = cc in absurd (omega arith)
  told-by (accept l) (Err x) after h e f = let z : ◌≡◌ {A = ℕ} 0 1 = cc in absurd (omega arith)
  told-by (accept l) (Ok s) after h e f =
      let sizes : sizes_of s ≡ layout_sizes (lines_of d) l = cc in
      let a : s.width.0 ≡ length (trimmed_at (lines_of d) 0) = ap (λ (s : grid.LayoutSizes). s.width) sizes in
      let b : s.columns ≡ length l.columns = ap (λ (s : grid.LayoutSizes). s.columns) sizes in
      let c : s.rows ≡ length l.rows = ap (λ (s : grid.LayoutSizes). s.rows) sizes in
      let x : s.cells ≡ length l.cells = ap (λ (s : grid.LayoutSizes). s.cells) sizes in
      let made = layout_read-made (lines_of d) l h in
      let small = layout-small (lines_of d) l made in
      (omega (arith, b, small.columns), omega (arith, c, small.rows), omega (arith, x, small.cells), rw (a, b, c, x, f) (table_of l made))

  pub layout_answer-told : (r : Result LayoutSizes Refusal) (after : LayoutArrays) → layout_answer_of r ≡ layout_answer w d out → after ≡ layout_afterwards w d out
      → LayoutToldOf (lines_of d) after (read_layout (lines_of d)) r
  layout_answer-told r after e f = told-by (read_layout (lines_of d)) r after refl (e ∙ answer-all) (f ∙ after-all)

-- The lines that are handed in, with fresh working space

module _ (lengths text cols rows cells : List ℕ) (few : length lengths ≤ 128) (whole : sum lengths ≡ length text) where
  as-told : (after : LayoutArrays) (r : Result LayoutSizes Refusal) → LayoutToldOf (lines_of (sheet_of lengths text)) after (read_layout (lines_of (sheet_of lengths text))) r
      → LayoutTold lengths text after.columns after.rows after.cells r
  as-told after (Err e) h = h ∙ ap (λ (ls : List Line). listed ls (read_layout ls)) (sheet-lines lengths text)
  as-told after (Ok s) h = (
    h.0,
    h.1,
    h.2,
    ap (λ (n : ℕ). table_printed s.width.0 n s.columns s.rows s.cells after.columns after.rows after.cells) (sym (lines-counted lengths text)) ∙ h.3
        ∙ ap (λ (ls : List Line). listed ls (read_layout ls)) (sheet-lines lengths text),
  )

  pub layout_told-call : (length cols ≡ 254) × (length rows ≡ 381) × (length cells ≡ 5120) → (r : Result LayoutSizes Refusal) (cols' rows' cells' ranges' : List ℕ)
      → layout_answer_of r ≡ layout_answer fresh_space (sheet_of lengths text) (layout_lent cols rows cells (zeroes 32768))
      → layout_lent cols' rows' cells' ranges' ≡ layout_afterwards fresh_space (sheet_of lengths text) (layout_lent cols rows cells (zeroes 32768))
      → LayoutTold lengths text cols' rows' cells' r
  layout_told-call rooms r cols' rows' cells' ranges' e f =
      as-told (layout_lent cols' rows' cells' ranges') r
      (layout_answer-told fresh_space (sheet_of lengths text) (layout_lent cols rows cells (zeroes 32768)) (sheet-agrees lengths text few whole) fresh-enough
      (record { columns = rooms.0; rows = rooms.1; cells = rooms.2; ranges = length-zeroes 32768 }) r (layout_lent cols' rows' cells' ranges') e f)
