-- What writing the arrays of a layout needs.
use Rattle.std.specs.Prelude.{ℕ, ◌+◌, ◌*◌, ◌-◌, ◌≤◌, ◌<◌, ◌≡◌, length, get_or}
use mathlib.Core.List.{List, Memᴰ}
use Rattle.grid.specs.Values.{Rect}
use Rattle.grid.specs.LayoutCall.{LayoutArrays, slot_space}
use Rattle.representation.specs.Arrays.{code_at, rect_in}
use Rattle.representation.specs.LayoutEntries.{numbering_of, all_ranges, Numbered}
use Rattle.representation.specs.declared.Bounds.{Bounds}
use Rattle.representation.specs.declared.Numbering.{Numbering}
use Rattle.representation.specs.declared.rects.Rects.{Rects}

-- n rectangles with the lines at their edges, the slots they lie on, and room in the four arrays
pub record LayoutWritable (rs : List Rect) (n : ℕ) (offsets : List ℕ) (tops : Numbering) (lefts : Bounds) (out : LayoutArrays) : Type 0 where
  pub offset_room : slot_space ≤ length offsets
  pub few_tops : tops.count ≤ 128
  pub numbered : (r : Rect) → Memᴰ r rs → Numbered tops (numbering_of lefts) r
  pub small_bytes : (r : Rect) → Memᴰ r rs → (y : ℕ) → r.top < y → y < r.bottom → code_at offsets y r.left < 512
  pub columns_fit : 2 * (lefts.count - 1) ≤ length out.columns
  pub rows_fit : 3 * (tops.count - 1) ≤ length out.rows
  pub cells_fit : 5 * n ≤ length out.cells
  pub ranges_fit : length (all_ranges offsets rs) ≤ length out.ranges

-- an array has room for a number more of each of n rectangles, entry `step * k + from`
pub record MoreRoom (n : ℕ) (array : List ℕ) (step from : ℕ) : Type 0 where
  pub inside : (k : ℕ) → k < n → step * k + from < length array
  pub small : (k : ℕ) → k < n → step * k + from < 4096

-- and has these
abbrev pub MoreIn : (Rect → ℕ) → Rects → List ℕ → ℕ → ℕ → Type 0
MoreIn more rects array step from = (k : ℕ) → k < rects.count → get_or array (step * k + from) 0 ≡ more (rect_in rects.array.now k)
