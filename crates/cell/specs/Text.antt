-- Document 01, "Cutting": the lines of a table read, from the arrays that reading a drawing leaves.
use Rattle.std.specs.Prelude.{ℕ, ◌+◌, ◌*◌, ◌≤◌, ◌<◌, ◌≡◌, length, get_or, take}
use mathlib.Core.List.{List, map, flat_map, Memᴰ}
use Rattle.seq.specs.Lists.{sum}
use Rattle.grid.specs.Limits.{max_bytes}
use Rattle.grid.specs.Values.{Rect, Fragment, no_line}
use Rattle.grid.specs.Layout.{inner_lines}
use Rattle.grid.specs.Cut.{cut, drop_empty_last}
use Rattle.grid.specs.CutCall.{cut_numbers}
use Rattle.grid.specs.Flat.{lines_from, join_text}
use Rattle.grid.specs.LayoutCall.{slot_space}
use Rattle.representation.specs.Arrays.{code_at, rects_of}
use Rattle.representation.specs.Sheet.{Sheet}
use Rattle.representation.specs.LayoutEntries.{Inside}
use Rattle.reading.specs.Call.{SheetArrays}
use Rattle.fragments.specs.declared.part.Piece.{Piece}
use Rattle.cell.specs.declared.pieces.TextSize.{TextSize}

-- how many bytes all cells have at most: 65,536 in each of 1,024
abbrev pub most_text : ℕ
most_text = 67108864

-- a drawing's arrays, where each line's text starts, and the byte of each slot
pub record Source : Type 0 where
  pub lengths : List ℕ
  pub columns : List ℕ
  pub text : List ℕ
  pub starts : List ℕ
  pub offsets : List ℕ

abbrev pub source : List ℕ → List ℕ → List ℕ → List ℕ → List ℕ → Source
source lengths columns text starts offsets = record { lengths = lengths; columns = columns; text = text; starts = starts; offsets = offsets }

-- that of a drawing that was read
abbrev pub source_in : SheetArrays → List ℕ → Source
source_in a starts = source a.lengths a.columns a.text starts a.offsets

-- what lies between two columns of line y, cut
abbrev pub fragment_between : Source → ℕ → ℕ → ℕ → Fragment
fragment_between s left right y =
    cut (get_or (lines_from s.lengths s.columns s.text) y no_line) y 0
    (record { start = code_at s.offsets y left + 1; end = code_at s.offsets y right }) left

abbrev pub cut_between : Source → ℕ → ℕ → ℕ → List ℕ
cut_between s left right y = (fragment_between s left right y).text

-- the cut lines of a rectangle, and those that are kept: "with empty last lines dropped"
abbrev pub cut_lines : Source → Rect → List (List ℕ)
cut_lines s r = map (cut_between s r.left r.right) (inner_lines r)

abbrev pub kept_lines : Source → Rect → List (List ℕ)
kept_lines s r = drop_empty_last (cut_lines s r)

-- the cut lines of all cells
abbrev pub all_lines : Source → List Rect → List (List ℕ)
all_lines s rs = flat_map (kept_lines s) rs

-- a drawing within the limits, and where its lines start
pub record SourceReady (s : Source) : Type 0 where
  pub sheet : Sheet s.lengths s.columns s.text
  pub few_bytes : length s.text ≤ max_bytes
  pub start_room : length s.lengths ≤ length s.starts
  pub started : (y : ℕ) → y < length s.lengths → get_or s.starts y 0 ≡ sum (take y s.lengths)
  pub offset_room : slot_space ≤ length s.offsets

-- a line with its borders at two columns
pub record Cuttable (s : Source) (left right y : ℕ) : Type 0 where
  pub line : y < length s.lengths
  pub left_fits : left < 128
  pub right_fits : right < 128
  pub forward : code_at s.offsets y left < code_at s.offsets y right
  pub inside : code_at s.offsets y right ≤ get_or s.lengths y 0

-- the cut of line y in numbers, inside the line and small
pub record PieceOf (s : Source) (left right y : ℕ) (p : Piece) : Type 0 where
  pub numbers : cut_numbers 0 (fragment_between s left right y)
      ≡ record { start = p.start.0; end = p.end.0; line = y; byte = p.start.0; column = p.column.0 }
  pub forward : p.start.0 ≤ p.end.0
  pub inside : p.end.0 ≤ get_or s.lengths y 0
  pub short_end : p.end.0 ≤ 512
  pub low_column : p.column.0 ≤ 512

-- a rectangle, each inner line of which has its borders
pub record Framed (s : Source) (r : Rect) : Type 0 where
  pub inside : Inside 128 128 r
  pub borders : (y : ℕ) → r.top < y → y < r.bottom → Cuttable s r.left r.right y

-- each of these rectangles
abbrev pub AllFramed : Source → List Rect → Type 0
AllFramed s rs = (r : Rect) → Memᴰ r rs → Framed s r

abbrev pub no_rect : Rect
no_rect = record { top = 0; left = 0; bottom = 0; right = 0 }

-- the array has a number for each rectangle
abbrev pub CountedBy : (Rect → ℕ) → List Rect → List ℕ → Type 0
CountedBy f rs counts =
    (length rs ≤ length counts) × ((k : ℕ) → k < length rs → get_or counts k 0 ≡ f (get_or rs k no_rect))

-- a drawing whose rectangles can be measured, wherever its lines start
pub record Preparable (lengths columns text offsets rects : List ℕ) (n : ℕ) (starts counts : List ℕ) : Type 0 where
  pub sheet : Sheet lengths columns text
  pub few_bytes : length text ≤ max_bytes
  pub offset_room : slot_space ≤ length offsets
  pub few : n ≤ 1024
  pub rect_room : 4 * n ≤ length rects
  pub start_room : length lengths ≤ length starts
  pub count_room : n ≤ length counts
  pub framed : (starts : List ℕ) → AllFramed (source lengths columns text starts offsets) (rects_of n rects)

-- and what was measured
pub record Prepared (s : Source) (rs : List Rect) (counts : List ℕ) (size : TextSize) : Type 0 where
  pub ready : SourceReady s
  pub lines : size.lines ≡ length (all_lines s rs)
  pub bytes : size.bytes ≡ length (join_text (all_lines s rs))
  pub counted : CountedBy (λ r. length (kept_lines s r)) rs counts
  pub few_bytes : size.bytes ≤ most_text
