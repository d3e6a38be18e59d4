-- The calls at each of their returns, from what reading leaves.
use Prim.Native.Nat.{ℕ, ◌≤◌, ◌<◌}
use mathlib.Core.Path.{◌≡◌, refl, sym, ap, ◌∙◌}
use mathlib.Core.Bool.{Bool, true, false, cond}
use mathlib.Core.List.{List}
use lib.Dec.{leb}
use lib.ListN.{length, get_or}
use borrow.Author.Tests.{leb-false, le-leb, lt-leb}
use Rattle.grid.specs.Answer.{Answer, accept, refuse, refuse_if, and_then, afterwards, over}
use Rattle.grid.specs.Values.{Rect, Layout}
use Rattle.grid.specs.Slots.{grid_of}
use Rattle.grid.specs.Layout.{layout_of}
use Rattle.grid.specs.Flat.{FlatDrawing, lines_of}
use Rattle.grid.specs.LayoutCall.{LayoutSpace}
use Rattle.grid.specs.TableCall.{no_cell}
use Rattle.representation.specs.Arrays.{rect_in}
use Rattle.representation.specs.Edges.{row_lines_below}
use Rattle.representation.proofs.RectsLaws.{length-rects}
use Rattle.reading.specs.Call.{SheetArrays, sheet_of, lines_in, rects_in, TracedSheet}
use Rattle.reading.specs.declared.Reading.{Reading}
use Rattle.sourcepos.specs.Positions.{Sourcepos, Placed, table_position, cell_position}
use Rattle.sourcepos.specs.PositionsCall.{FlatPlaced, placed, placed_of, PositionArrays, positions_lent, position_arrays, PositionsFound}
use Rattle.sourcepos.specs.PositionsCall.{positions_answer, positions_afterwards, cell_position_answer}
use Rattle.positions.specs.Spans.{placed_lines, rect_span}
use Rattle.positions.specs.Parts.{placed_rects, spans_short, spans_found, spans_written, span_at}
use Rattle.positions.proofs.PartsLaws.{positions-known, cell-known}
use Rattle.positions.proofs.SpansLaws.{row_spans-told, rect_spans-told, spans_short-told, layout_of-rows, layout_of-cells, rect_span-at}

-- ---- 12 or what comes after
then-short : {A B : Type 0} (t : Bool) (a : A) (f : A → B) → and_then (refuse_if t 12 (accept a)) (λ x. accept (f x)) ≡ refuse_if t 12 (accept (f a))
then-short true a f = refl
then-short false a f = refl

after-short : {A B : Type 0} (t : Bool) (a : A) (new : A → B) (old : B) → afterwards (refuse_if t 12 (accept a)) new old ≡ cond t old (new a)
after-short true a new old = refl
after-short false a new old = refl

-- ---- the returns
module _ (w : LayoutSpace) (starts : ℕ) (d : FlatDrawing) (numbers table_bytes glyphs offsets rects : List ℕ) (o : Reading)
    (traced : TracedSheet (sheet_of d glyphs offsets rects) o)
    (accepted : accept (rects_in (sheet_of d glyphs offsets rects) o.cells) ≡ placed_rects w starts (placed d numbers table_bytes)) where
  abbrev a : SheetArrays
  a = sheet_of d glyphs offsets rects

  abbrev given : FlatPlaced
  given = placed d numbers table_bytes

  abbrev drawn : Placed
  drawn = placed_lines numbers table_bytes (lines_in a)

  abbrev rs : List Rect
  rs = rects_in a o.cells

  abbrev rows : List ℕ
  rows = row_lines_below (length a.lengths) rs

  abbrev layout : Layout
  layout = layout_of (lines_in a) (grid_of (lines_in a)) rs

  positions-answered : (out : PositionArrays) → positions_answer w starts given out ≡ spans_found drawn rows o.cells out
  unfolding positions_answer lines_of placed_of
  positions-answered out =
      rw (positions-known w starts given (sym accepted) out (spans_short-told traced numbers table_bytes out))
      (then-short (spans_short (length rows) (length rs) out) layout
      (λ (l : Layout). record { table = table_position drawn; rows = length l.rows; cells = length l.cells })
      ∙ rw (
        layout_of-rows traced numbers table_bytes,
        layout_of-cells traced numbers table_bytes,
        length-rects o.cells a.rects,
      ))

  positions-left : (out : PositionArrays) → positions_afterwards w starts given out ≡ spans_written drawn a.offsets rows rs out
  unfolding positions_afterwards lines_of placed_of
  positions-left out =
      rw (positions-known w starts given (sym accepted) out (spans_short-told traced numbers table_bytes out))
      (after-short (spans_short (length rows) (length rs) out) layout
      (λ l. positions_lent (over (position_arrays drawn l).rows out.rows) (over (position_arrays drawn l).cells out.cells)) out
      ∙ rw (
        row_spans-told traced numbers table_bytes,
        rect_spans-told traced numbers table_bytes,
      ))

  pub positions-finished : (out : PositionArrays) (answer : Answer PositionsFound) (after : PositionArrays)
      → answer ≡ spans_found drawn rows o.cells out → after ≡ spans_written drawn a.offsets rows rs out
      → (answer ≡ positions_answer w starts given out) × (after ≡ positions_afterwards w starts given out)
  positions-finished out answer after told left = (told ∙ sym (positions-answered out), left ∙ sym (positions-left out))

  cell-answered : (k : ℕ) → cell_position_answer w starts given k ≡ span_at drawn a.offsets a.rects o.cells k
  unfolding lines_of placed_of
  cell-answered k =
      cell-known w starts given (sym accepted) k
      ∙ rw (layout_of-cells traced numbers table_bytes) (go (leb o.cells k) refl) where
        go : (past : Bool) → leb o.cells k ≡ past
            → refuse_if past 13 (accept (cell_position drawn layout (get_or layout.cells k no_cell))) ≡ refuse_if past 13 (accept (rect_span drawn a.offsets (rect_in a.rects k)))
        go true e = refl
        go false e = ap accept (rect_span-at traced numbers table_bytes k (leb-false o.cells k e))

  pub cell-position-past : (k : ℕ) → o.cells ≤ k → refuse 13 0 ≡ cell_position_answer w starts given k
  cell-position-past k past = rw (cell-answered k, le-leb o.cells k past)

  pub cell-position-found : (k : ℕ) → k < o.cells → (s : Sourcepos) → s ≡ rect_span drawn a.offsets (rect_in a.rects k) → accept s ≡ cell_position_answer w starts given k
  cell-position-found k before s told = rw (cell-answered k, lt-leb o.cells k before) (ap accept told)
