-- The arguments and answers of reading, in the terms of the definitions.
use Rattle.std.specs.Prelude.{ℕ, ◌≤◌, ◌≡◌, List, length}
use Rattle.grid.specs.Answer.{accept}
use Rattle.grid.specs.Limits.{max_bytes}
use Rattle.grid.specs.Values.{Line, Rect}
use Rattle.grid.specs.Slots.{Grid, grid_of}
use Rattle.grid.specs.Flat.{FlatDrawing, lines_from}
use Rattle.grid.specs.LayoutCall.{rect_space}
use Rattle.representation.specs.LayoutParts.{grid_answer}
use Rattle.representation.specs.Arrays.{Holds, Roomy, rects_of}
use Rattle.slots.specs.Filling.{separator_lines}
use Rattle.representation.specs.Sheet.{Sheet}
use Rattle.reading.specs.declared.Reading.{Reading}

-- what filling and tracing leave of a grid that they accept
pub record Through (g : Grid) (glyphs offsets rects : List ℕ) (s : Reading) : Type 0 where
  pub accepted : grid_answer g ≡ accept (rects_of s.cells rects)
  pub wide : s.width.0 ≡ g.width
  pub few : s.cells ≤ 1024
  pub held : Holds g.rows g.width glyphs offsets
  pub separators_room : length s.separators.lines ≡ 128
  pub few_separators : s.separators.count ≤ 128
  pub separated : separator_lines s.separators ≡ g.separators

-- the arrays of a drawing, with the glyphs, offsets and rectangles that reading leaves in its working space
pub record SheetArrays : Type 0 where
  pub lengths : List ℕ
  pub columns : List ℕ
  pub text : List ℕ
  pub glyphs : List ℕ
  pub offsets : List ℕ
  pub rects : List ℕ

abbrev pub sheet_of : FlatDrawing → (glyphs offsets rects : List ℕ) → SheetArrays
sheet_of d glyphs offsets rects =
    record { lengths = d.lengths; columns = d.columns; text = d.text; glyphs = glyphs; offsets = offsets; rects = rects }

-- its lines
abbrev pub lines_in : SheetArrays → List Line
lines_in a = lines_from a.lengths a.columns a.text

-- its rectangles, so many
abbrev pub rects_in : SheetArrays → ℕ → List Rect
rects_in a n = rects_of n a.rects

-- a drawing that was traced: what its arrays have room for and hold
pub record TracedSheet (a : SheetArrays) (s : Reading) : Type 0 where
  pub sheet : Sheet a.lengths a.columns a.text
  pub few_bytes : length a.text ≤ max_bytes
  pub roomy : Roomy (length a.lengths) s.width.0 a.glyphs a.offsets
  pub rect_room : rect_space ≤ length a.rects
  pub through : Through (grid_of (lines_in a)) a.glyphs a.offsets a.rects s
