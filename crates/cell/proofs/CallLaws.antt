-- What the cell call asks of its parts, and its returns.
use Prim.Native.Nat.{ℕ, ◌≤◌, ◌<◌}
use mathlib.Core.Path.{◌≡◌, refl, sym, ap, ◌∙◌}
use mathlib.Core.Bool.{Bool, true, false}
use mathlib.Core.List.{List, map, map-map}
use lib.Dec.{leb}
use lib.ListN.{length, get_or}
use borrow.Author.Tests.{lt-ltb, le-ltb, leb-true, leb-false}
use Rattle.seq.proofs.Positions.{get_d_map}
use Rattle.grid.specs.Limits.{max_lines}
use Rattle.grid.specs.Answer.{Answer, accept, refuse}
use Rattle.grid.specs.Values.{Cell}
use Rattle.grid.specs.Slots.{grid_of}
use Rattle.grid.specs.Layout.{inner_lines, cell_read, layout_of}
use Rattle.grid.specs.Cut.{cell_fragments}
use Rattle.grid.specs.CutCall.{CutNumbers, cut_numbers}
use Rattle.grid.specs.Flat.{FlatDrawing, lines_of}
use Rattle.grid.specs.LayoutCall.{LayoutSpace}
use Rattle.representation.specs.LayoutParts.{rects_answer}
use Rattle.representation.specs.Arrays.{rect_in}
use Rattle.grid.specs.TableCall.{starts_short, no_cell, cell_cuts, cell_answer, cell_afterwards}
use Rattle.representation.specs.TableParts.{cuts_count_of, cuts_array_of}
use Rattle.grid.proofs.CellLaws.{cell_cuts_lem}
use Rattle.representation.proofs.RectsLaws.{length-rects, get_or-rects}
use Rattle.representation.proofs.TablePartsLaws.{short-cell, refused-cell, past_the_end, finished-cell}
use Rattle.cell.specs.Text.{source_in, fragment_between, no_rect}
use Rattle.cell.specs.Cuts.{cuts_of}
use Rattle.cell.specs.Answer.{cell_count_of, cell_array_of}
use Rattle.cell.proofs.CellLaws.{rect-held}
use Rattle.reading.specs.Call.{SheetArrays, sheet_of, lines_in, rects_in, TracedSheet}
use Rattle.reading.specs.declared.Reading.{Reading}
use Rattle.reading.proofs.SheetLaws.{traced-cover}
use Rattle.cell.proofs.FrameLaws.{traced-cuts}

-- ---- cell k of a traced drawing
module _ (a : SheetArrays) (o : Reading) (t : TracedSheet a o) (starts : List ℕ)
    (k : ℕ) (h : k < o.cells) where
  pub cell-here : get_or (layout_of (lines_in a) (grid_of (lines_in a)) (rects_in a o.cells)).cells k no_cell
      ≡ cell_read (grid_of (lines_in a)) (rects_in a o.cells) (rect_in a.rects k)
  unfolding layout_of
  cell-here =
      get_d_map (cell_read (grid_of (lines_in a)) (rects_in a o.cells)) (rects_in a o.cells) k no_cell no_rect (rw length-rects h)
      ∙ ap (cell_read (grid_of (lines_in a)) (rects_in a o.cells)) (get_or-rects o.cells k a.rects no_rect h)

  cuts-here : cell_cuts (lines_in a) (layout_of (lines_in a) (grid_of (lines_in a)) (rects_in a o.cells)) k
      ≡ cuts_of (source_in a starts) (rect_in a.rects k)
  unfolding cell_cuts
  cuts-here =
      let lines = lines_in a in
      let rs = rects_in a o.cells in
      let r = rect_in a.rects k in
      ap (λ (c : Cell). map (cut_numbers 0) (cell_fragments lines (layout_of lines (grid_of lines) rs) c)) cell-here
      ∙ ap (map (cut_numbers 0)) (cell_cuts_lem lines (grid_of lines) rs (traced-cover a o t) (rect-held a.rects o.cells k h) ∙ sym (traced-cuts a o t starts (rect-held a.rects o.cells k h)))
      ∙ map-map (cut_numbers 0) (fragment_between (source_in a starts) r.left r.right) (inner_lines r)

-- ---- the returns of the call
pub cell-no-starts : (w : LayoutSpace) (starts : List ℕ) (d : FlatDrawing) (k : ℕ) (out : List ℕ) → length starts < max_lines
    → (refuse 13 0 ≡ cell_answer w (length starts) d k out) × (out ≡ cell_afterwards w (length starts) d k out)
unfolding starts_short
cell-no-starts w starts d k out short = short-cell w (length starts) d k out (lt-ltb (length starts) max_lines short)

starts-enough : (starts : List ℕ) → max_lines ≤ length starts → starts_short (length starts) ≡ false
unfolding starts_short
starts-enough starts room = le-ltb (length starts) max_lines room

module _ (w : LayoutSpace) (starts : List ℕ) (room : max_lines ≤ length starts) (d : FlatDrawing) (k : ℕ) (out : List ℕ) where
  pub cell-refused : {number place : ℕ} → refuse number place ≡ rects_answer w d
      → (refuse number place ≡ cell_answer w (length starts) d k out) × (out ≡ cell_afterwards w (length starts) d k out)
  cell-refused refused = refused-cell w (length starts) d k out (starts-enough starts room) (sym refused)

  module _ (glyphs offsets rects : List ℕ) (s : Reading) (t : TracedSheet (sheet_of d glyphs offsets rects) s)
      (accepted : accept (rects_in (sheet_of d glyphs offsets rects) s.cells) ≡ rects_answer w d) where
    abbrev a : SheetArrays
    a = sheet_of d glyphs offsets rects

    abbrev cuts : List CutNumbers
    cuts = cuts_of (source_in a starts) (rect_in a.rects k)

    cell-before : k < s.cells
        → (cuts_count_of cuts out ≡ cell_answer w (length starts) d k out)
        × (cuts_array_of cuts out ≡ cell_afterwards w (length starts) d k out)
    unfolding lines_of
    cell-before before =
        let last = finished-cell w (length starts) d k out (starts-enough starts room) (sym accepted) (rw length-rects before) in
        let same = sym (cuts-here a s t starts k before) in
        (ap (λ (l : List CutNumbers). cuts_count_of l out) same ∙ last.0, ap (λ (l : List CutNumbers). cuts_array_of l out) same ∙ last.1)

    pub cell-finished : (answer : Answer ℕ) (after : List ℕ) → answer ≡ cell_count_of s.cells k cuts out → after ≡ cell_array_of s.cells k cuts out
        → (answer ≡ cell_answer w (length starts) d k out) × (after ≡ cell_afterwards w (length starts) d k out)
    cell-finished answer after told written = go (leb s.cells k) refl where
      go : (past : Bool) → leb s.cells k ≡ past
          → (answer ≡ cell_answer w (length starts) d k out) × (after ≡ cell_afterwards w (length starts) d k out)
      go true e =
          let last =
          past_the_end w (length starts) d k out (starts-enough starts room) (sym accepted) (rw length-rects (leb-true s.cells k e)) in
          (rw e at told ∙ last.0, rw e at written ∙ last.1)
      go false e = let last = cell-before (leb-false s.cells k e) in (rw e at told ∙ last.0, rw e at written ∙ last.1)
