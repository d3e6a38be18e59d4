-- The answer and the arrays of the layout call's last part.
use Prim.Native.Nat.{ℕ, ◌-◌, ◌≤◌}
use mathlib.Core.Path.{◌≡◌, ◌∙◌}
use mathlib.Core.Bool.{Bool, true, false}
use mathlib.Core.List.{List}
use lib.ListN.{length}
use Rattle.seq.specs.Lists.{or_default}
use Rattle.grid.specs.Answer.{accept, refuse, over}
use Rattle.grid.specs.Values.{Line, Rect}
use Rattle.grid.specs.Slots.{grid_of, trimmed_at}
use Rattle.grid.specs.Layout.{head_end, foot_start, column_lines, row_lines, inner_count, layout_of}
use Rattle.grid.specs.LayoutCall.{LayoutArrays, layout_arrays, layout_short, layout_over}
use Rattle.representation.specs.LayoutParts.{finish_answer, finish_sizes, finish_arrays}
use Rattle.grid.proofs.SizeLaws.{sizes-agree, short-agrees}
use Rattle.representation.specs.LayoutEntries.{column_entries, row_entries, cell_entries, all_ranges}
use Rattle.representation.specs.declared.Parts.{Parts}
use Rattle.representation.proofs.AgreeLaws.{Laid, arrays-agree}
use Rattle.layout.specs.Sized.{sizes_short}
use Rattle.layout.specs.Call.{layout_lent}

-- the tests of 12, of the arrays lent
abbrev pub sizes_short_for : LayoutArrays → ℕ → ℕ → ℕ → ℕ → Bool
sizes_short_for out across down n m = sizes_short (length out.columns) (length out.rows) (length out.cells) (length out.ranges) across down n m

module _ (lines : List Line) (rs : List Rect) (out : LayoutArrays) (across down n m : ℕ) (columns : across ≡ length (column_lines (grid_of lines) rs) - 1)
    (rows : down ≡ length (row_lines (grid_of lines) rs) - 1) (cells : n ≡ length rs) (ranges : m ≡ inner_count rs) where
  short-told : layout_short out (layout_arrays (layout_of lines (grid_of lines) rs)) ≡ sizes_short_for out across down n m
  short-told = short-agrees lines (grid_of lines) rs out ∙ rw (columns, rows, cells, ranges)

  module _ (short : sizes_short_for out across down n m ≡ true) where
    pub finish_sizes-short : refuse 12 0 ≡ finish_sizes lines rs out
    unfolding finish_sizes finish_answer
    finish_sizes-short = rw (short-told, short)

    pub finish_arrays-short : out ≡ finish_arrays lines rs out
    unfolding finish_arrays finish_answer
    finish_arrays-short = rw (short-told, short)

  module _ (enough : sizes_short_for out across down n m ≡ false) where
    pub finish_sizes-accepted : (width : ℕ) → width ≡ length (trimmed_at lines 0)
        → accept (record { width = width; columns = across; rows = down; cells = n; ranges = m }) ≡ finish_sizes lines rs out
    unfolding finish_sizes finish_answer
    finish_sizes-accepted width wide = rw (short-told, enough, sizes-agree lines (grid_of lines) rs, wide, columns, rows, cells, ranges)

    pub finish_arrays-written : (glyphs offsets : List ℕ) → Laid (grid_of lines) rs glyphs offsets → (p : Parts) → p.head ≡ or_default 0 (head_end (grid_of lines))
        → p.foot ≡ or_default 128 (foot_start (grid_of lines)) → (grid_of lines).height ≤ 128
        → layout_lent
        (over (column_entries glyphs offsets (trimmed_at lines p.head) p.head (column_lines (grid_of lines) rs)) out.columns)
        (over (row_entries p (row_lines (grid_of lines) rs)) out.rows)
        (over (cell_entries (row_lines (grid_of lines) rs) (column_lines (grid_of lines) rs) rs) out.cells)
        (over (all_ranges offsets rs) out.ranges)
        ≡ finish_arrays lines rs out
    unfolding finish_arrays finish_answer layout_over
    finish_arrays-written glyphs offsets laid p head foot low =
        rw (short-told, enough, arrays-agree lines (grid_of lines) rs glyphs offsets laid p head foot low, head)
