-- What the layout call writes, from the arrays of slots and rectangles.
use Rattle.std.specs.Prelude.{ℕ, ◌+◌, ◌-◌, ◌<◌, ◌≡◌, cond, get_or, take, drop, leb, ltb}
use mathlib.Core.List.{List, [], ◌∷◌, flat_map}
use Rattle.text.specs.Rule.{to_plus}
use Rattle.grid.specs.Values.{Rect}
use Rattle.grid.specs.Slots.{is_plus}
use Rattle.grid.specs.Layout.{Between, between, index_of, inner_lines, segment_alignment}
use Rattle.grid.specs.Flat.{alignment_code}
use Rattle.representation.specs.Arrays.{code_glyph, code_at}
use Rattle.representation.specs.declared.Bounds.{Bounds}
use Rattle.representation.specs.declared.Numbering.{Numbering}
use Rattle.representation.specs.declared.Parts.{Parts}

-- the lines that an array holds, in rising order
abbrev pub lines_held : Bounds → List ℕ
lines_held l = take l.count l.lines

-- the same of lines of which nothing is known; bounds without their facts
abbrev pub lines_numbered : Numbering → List ℕ
lines_numbered n = take n.count n.lines

abbrev pub numbering_of : Bounds → Numbering
numbering_of b = record { lines = b.lines; index = b.index; count = b.count }

-- the alignment of the column that starts at x, from the trimmed alignment line a
abbrev pub alignment_from : List ℕ → List ℕ → List ℕ → ℕ → ℕ → ℕ
alignment_from glyphs offsets line a x =
    cond (is_plus (code_glyph (code_at glyphs a x))) (alignment_code (segment_alignment (to_plus (drop (code_at offsets a x + 1) line)))) 0

abbrev pub column_entries : List ℕ → List ℕ → List ℕ → ℕ → List ℕ → List ℕ
column_entries glyphs offsets line a lines =
    flat_map (λ (b : Between). alignment_from glyphs offsets line a b.from ∷ (b.to - b.from - 1) ∷ []) (between lines)

-- Head rows lie above line `head`, 0 for none; Foot rows from line `foot` on, 128 for none
abbrev pub section_from : Parts → ℕ → ℕ
section_from p top = cond (ltb top p.head) 0 (cond (leb p.foot top) 2 1)

abbrev pub row_entries : Parts → List ℕ → List ℕ
row_entries p lines = flat_map (λ (b : Between). section_from p b.from ∷ b.from ∷ b.to ∷ []) (between lines)

abbrev pub cell_entry : List ℕ → List ℕ → Rect → List ℕ
cell_entry rows columns r =
    index_of rows r.top ∷ index_of columns r.left ∷ (index_of columns r.right - index_of columns r.left)
    ∷ (index_of rows r.bottom - index_of rows r.top) ∷ r.left ∷ []

abbrev pub cell_entries : List ℕ → List ℕ → List Rect → List ℕ
cell_entries rows columns rs = flat_map (cell_entry rows columns) rs

-- the ranges of one cell, and of all
abbrev pub range_entries : List ℕ → Rect → List ℕ
range_entries offsets r = flat_map (λ y. (code_at offsets y r.left + 1) ∷ code_at offsets y r.right ∷ []) (inner_lines r)

abbrev pub all_ranges : List ℕ → List Rect → List ℕ
all_ranges offsets rs = flat_map (range_entries offsets) rs

-- every rectangle has its edges in order and within the sizes
pub record Inside (height width : ℕ) (r : Rect) : Type 0 where
  pub down : r.top < r.bottom
  pub across : r.left < r.right
  pub tall : r.bottom < height
  pub wide : r.right < width

-- the index tables have the number of each edge
pub record Numbered (rows columns : Numbering) (r : Rect) : Type 0 where
  pub inside : Inside 128 128 r
  pub top_number : get_or rows.index r.top 0 ≡ index_of (lines_numbered rows) r.top
  pub bottom_number : get_or rows.index r.bottom 0 ≡ index_of (lines_numbered rows) r.bottom
  pub left_number : get_or columns.index r.left 0 ≡ index_of (lines_numbered columns) r.left
  pub right_number : get_or columns.index r.right 0 ≡ index_of (lines_numbered columns) r.right
