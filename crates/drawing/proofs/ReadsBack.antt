-- What reading gives of a drawing. Where no cell splits and line 0 bears no `=` it is read (`drawing-reads`), and the table read is the
-- same where a Foot has a Head and each alignment its corner (`read_back-same`). So it is for a table that passes redraw's checks
-- (`passes-read_back`).
use Prim.Native.Nat.{ℕ, ◌<◌}
use mathlib.Core.Path.{◌≡◌, refl, sym, ap, ◌∙◌}
use mathlib.Core.Bool.{Bool, true, false, not, ◌&&◌, ◌||◌, cond}
use mathlib.Core.Option.{none}
use mathlib.Core.List.{List, map}
use native.Mathlib.Omega.{arith}
use lib.Dec.{eqb, ltb}
use lib.ListN.{length, get_or, length-map}
use lib.Seq.{ext_get_or}
use Rattle.seq.specs.Lists.{any, is_empty}
use Rattle.seq.proofs.ListsLaws.{length_some}
use Rattle.seq.proofs.Tests.{true-not-false}
use Rattle.seq.proofs.Positions.{get_d_map}
use Rattle.seq.proofs.Gathered.{first-nowhere}
use Rattle.text.specs.Utf8.{well_formed}
use Rattle.text.specs.Rule.{is_rule}
use Rattle.grid.specs.Answer.{accept}
use Rattle.grid.specs.Limits.{max_width}
use Rattle.grid.specs.Values.{Line, GridTableColumn, Table, no_line}
use Rattle.grid.specs.Slots.{dash}
use Rattle.grid.specs.Layout.{columns_read, layout_of}
use Rattle.grid.specs.Cut.{table_of}
use Rattle.grid.specs.Read.{outside_set, no_rule, wrong_width, read_grid, read_rects, read_layout, read_table}
use Rattle.grid.specs.Same.{normal, Same}
use Rattle.grid.specs.declared.TableAlignment.{TableAlignment}
use Rattle.grid.specs.declared.TableAlignment.TheVariants.{None, Left, Right, Center}
use Rattle.grid.proofs.SlotLaws.{row-at, no-wrong-row}
use Rattle.drawing.specs.Plain.{Canvas, canvas_of, canvas_at, canvas_height, corner_at, alignment_row, has_left_colon, has_right_colon, column_alignment, left_colon, right_colon}
use Rattle.drawing.specs.Redraw.{foot_without_head, inside_segment, colons_misplaced, misaligned, drawn_too_large, split_cell}
use Rattle.drawing.proofs.LimitLaws.{drawn_too_large-parts}
use Rattle.drawing.proofs.RowLaws.{drawn_line-text, flat-slots, flat-spans}
use Rattle.drawing.proofs.RuleRows.{flat-first-rule}
use Rattle.drawing.proofs.CanvasLaws.{Fine, alignment_in, x_at, canvas-columns, cell-box, frames}
use Rattle.drawing.proofs.CheckLaws.{misaligned-none, split_cell-none}
use Rattle.drawing.proofs.GlyphRows.{canvas_lines-length, canvas_lines-at, trimmed_at-flat, rows-flat, grid-width, zero-low}
use Rattle.drawing.proofs.CellsBack.{lines, g, L, Unsplit, frames-traced, cells_same}
use Rattle.drawing.proofs.SectionsBack.{Headed, foot_without_head-headed, rules-below, sections-back}
use Rattle.drawing.proofs.AlignmentsBack.{columns-length, alignment-back}
use Rattle.drawing.proofs.SameDrawn.{bare_column}

-- column c is read with its alignment: it has none, or a corner at its left on the alignment line
abbrev pub AlignmentKept : Table → ℕ → Type 0
AlignmentKept t c = cond (corner_at (canvas_of t) (alignment_row (canvas_of t)) (x_at t c)) (alignment_in t c) None ≡ alignment_in t c

abbrev pub AlignmentsKept : Table → Type 0
AlignmentsKept t = (c : ℕ) → c < length t.columns → AlignmentKept t c

-- ---- a drawing passes the checks of reading
module _ {t : Table} (F : Fine t) (o : ℕ) where
  abbrev v : Canvas
  v = canvas_of t

  abbrev H : ℕ
  H = canvas_height (canvas_of t)

  abbrev d : Line
  d = no_line

  some-lines : is_empty (lines F o) ≡ false
  some-lines = length_some (lines F o) (omega (arith, canvas_lines-length o v, zero-low (L F o) o))

  line-well : (y : ℕ) → y < H → well_formed (get_or (lines F o) y d).text ≡ true
  line-well y u = ap (λ (l : Line). well_formed l.text) (canvas_lines-at o v y d u) ∙ ap well_formed (drawn_line-text o v y) ∙ (flat-spans (L F o).written o y u).well

  all-in-set : outside_set (lines F o) ≡ none
  unfolding outside_set
  all-in-set = first-nowhere (λ (line : Line). not (well_formed line.text)) (lines F o) d (λ y h. ap not (line-well y (omega (arith, canvas_lines-length o v))))

  is-ruled : any (eqb 0) v.rules ≡ false → no_rule (lines F o) ≡ false
  unfolding no_rule
  is-ruled z = ap (λ (l : List ℕ). not (is_rule dash l)) (trimmed_at-flat (L F o) o 0 (zero-low (L F o) o)) ∙ ap not (flat-first-rule (L F o) o z)

  is-filled : wrong_width (g F o) ≡ none
  is-filled =
      no-wrong-row (lines F o)
      (λ y h.
      ap length (sym (row-at (lines F o) y h) ∙ rows-flat (L F o) o y (omega (arith, canvas_lines-length o v)))
      ∙ flat-slots (L F o).written o y (omega (arith, canvas_lines-length o v)) _ ∙ sym (grid-width (L F o) o))

  module _ (unsplit : Unsplit F o) where
    abbrev pub read_back : Table
    read_back = table_of (lines F o) (layout_of (lines F o) (g F o) (frames F))

    pub drawing-reads : any (eqb 0) v.rules ≡ false → drawn_too_large v (lines F o) ≡ false → read_table (lines F o) ≡ accept read_back
    unfolding read_table read_layout read_rects read_grid
    drawing-reads z small =
        let parts = drawn_too_large-parts v (lines F o) small in
        let narrow : ltb max_width (g F o).width ≡ false = ap (ltb max_width) (grid-width (L F o) o) ∙ parts.0 in
        rw (some-lines, parts.1, all-in-set, is-ruled z, narrow, is-filled, frames-traced F o unsplit)

    columns-same : any (eqb 0) v.rules ≡ false → AlignmentsKept t → map bare_column (columns_read (lines F o) (g F o) (frames F)) ≡ map bare_column t.columns
    columns-same z keep =
        let e : GridTableColumn = record { alignment = None; width = 0 } in
        let read = columns_read (lines F o) (g F o) (frames F) in
        let n = columns-length F o unsplit in
        ext_get_or e (map bare_column read) (map bare_column t.columns) (length-map read bare_column ∙ n ∙ sym (length-map t.columns bare_column))
        (λ c h.
        let u : c < length t.columns = omega (arith, length-map read bare_column) in
        get_d_map bare_column read c e e (omega arith)
        ∙ ap (λ (a : TableAlignment). record { alignment = a; width = 0 }) (alignment-back F o unsplit z c u e ∙ keep c u)
        ∙ sym (get_d_map bare_column t.columns c e e u))

    pub read_back-same : Headed F o → AlignmentsKept t → Same read_back t
    unfolding normal table_of layout_of
    read_back-same k keep =
        let columns = columns-same (rules-below F o k) keep in
        let sections = sections-back F o unsplit k in
        let cells = cells_same F o unsplit in
        λ i. record { columns = columns i; sections = sections i; cells = cells i }

-- ---- what the later checks say
alignment-kept : (t : Table) (c : ℕ) → colons_misplaced (canvas_of t) c (column_alignment (canvas_of t) c) ≡ false → AlignmentKept t c
unfolding canvas_of canvas_at
alignment-kept t c h =
    go (corner_at (canvas_of t) (alignment_row (canvas_of t)) (x_at t c)) (alignment_in t c) (inside_segment (canvas_of t) (left_colon (canvas_of t) c)) (inside_segment (canvas_of t) (right_colon (canvas_of t) c)) h where
      go : (b : Bool) (a : TableAlignment) (l r : Bool) → (has_left_colon a || has_right_colon a) && (not b || has_left_colon a && l || has_right_colon a && r) ≡ false → cond b a None ≡ a
      go true a l r e = refl
      go false None l r e = refl
      go false Left l r e = absurd (true-not-false e)
      go false Right l r e = absurd (true-not-false e)
      go false Center l r e = absurd (true-not-false e)

pub alignments-kept : (t : Table) → misaligned (canvas_of t) ≡ none → AlignmentsKept t
alignments-kept t h c u = alignment-kept t c (misaligned-none (canvas_of t) h c (rw (canvas-columns t) u))

pub split_cell-unsplit : {t : Table} (F : Fine t) (o : ℕ) → split_cell (canvas_of t) (g F o) ≡ none → Unsplit F o
split_cell-unsplit {t} F o h c m = split_cell-none (canvas_of t) (g F o) h (cell-box F m)

-- a table that passes the later checks too is read back
pub passes-read_back : {t : Table} (F : Fine t) (o : ℕ) → foot_without_head t ≡ false → misaligned (canvas_of t) ≡ none → drawn_too_large (canvas_of t) (lines F o) ≡ false
    → split_cell (canvas_of t) (g F o) ≡ none → (u : Table) × (read_table (lines F o) ≡ accept u) × Same u t
passes-read_back {t} F o h₉ h₁₀ h₂ h₁₁ =
    let unsplit = split_cell-unsplit F o h₁₁ in
    let k = foot_without_head-headed F o h₉ in
    (read_back F o unsplit, drawing-reads F o unsplit (rules-below F o k) h₂, read_back-same F o unsplit k (alignments-kept t h₁₀))
