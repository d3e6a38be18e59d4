-- What the last part of the positions call asks of its callees, and its returns.
use Prim.Native.Nat.{ℕ, ◌*◌, ◌-◌, ◌≤◌, ◌<◌}
use mathlib.Core.Path.{◌≡◌}
use mathlib.Core.Bool.{true, false}
use mathlib.Core.Logic.{◌⊎◌, inl, inr}
use mathlib.Core.List.{List, Memᴰ}
use native.Mathlib.Omega.{arith}
use lib.Dec.{ltb}
use lib.ListN.{length, get_or, take}
use borrow.Author.Tests.{lt-ltb, le-ltb}
use Rattle.seq.proofs.Tests.{or_left, or_right}
use Rattle.seq.proofs.Ranges.{range-mem}
use Rattle.seq.proofs.Searches.{select-mem}
use Rattle.grid.specs.Answer.{accept, refuse, over}
use Rattle.grid.proofs.SlotLaws.{lines-length}
use Rattle.representation.specs.Edges.{Collected, row_lines_below}
use Rattle.representation.specs.LayoutEntries.{lines_held}
use Rattle.representation.specs.declared.Bounds.{Bounds}
use Rattle.representation.proofs.RectsLaws.{length-rects}
use Rattle.seq.specs.Lists.{sum}
use Rattle.grid.specs.Limits.{max_lines}
use Rattle.reading.specs.Call.{SheetArrays, lines_in, rects_in, TracedSheet}
use Rattle.reading.specs.declared.Reading.{Reading}
use Rattle.positions.specs.Needs.{Started}
use Rattle.sourcepos.specs.Positions.{Sourcepos, Placed, whole_lines, table_position}
use Rattle.sourcepos.specs.PositionsCall.{PositionArrays, positions_lent}
use Rattle.positions.specs.Spans.{placed_lines, row_spans, rect_spans}
use Rattle.positions.specs.Parts.{spans_short, spans_found, spans_written}

module _ (a : SheetArrays) (n : ℕ) (numbers table_bytes : List ℕ) where
  abbrev rows : List ℕ
  rows = row_lines_below (length a.lengths) (rects_in a n)

  abbrev drawn : Placed
  drawn = placed_lines numbers table_bytes (lines_in a)

  module _ {tops : Bounds} (c : Collected rows (length a.lengths) tops) where
    pub rows-inside : (y : ℕ) → Memᴰ y (lines_held tops) → y < length a.lengths
    rows-inside y m = let g = range-mem 0 (length a.lengths) y (select-mem _ _ (rw c.listed at m)).0 in omega arith

    module _ (bands : ℕ) (banded : bands ≡ tops.count - 1) (out : PositionArrays) where
      short-told : spans_short (length rows) n out ≡ spans_short tops.count n out
      short-told = rw c.counted

      short-written : spans_short (length rows) (length (rects_in a n)) out ≡ spans_short tops.count n out
      short-written = rw (length-rects n a.rects, c.counted)

      pub spans-refused : (length out.rows < 4 * bands) ⊎ (length out.cells < 4 * n)
          → (refuse 12 0 ≡ spans_found drawn rows n out) × (out ≡ spans_written drawn a.offsets rows (rects_in a n) out)
      spans-refused short = (rw (short-told, e), rw (short-written, e)) where
        e : spans_short tops.count n out ≡ true
        e = elim short [
          | inl h ↦ or_left (ltb (length out.cells) (4 * n)) (lt-ltb (length out.rows) (4 * (tops.count - 1)) (rw banded at h))
          | inr h ↦ or_right (ltb (length out.rows) (4 * (tops.count - 1))) (lt-ltb (length out.cells) (4 * n) h)
        ]

      pub spans-written : 4 * bands ≤ length out.rows → 4 * n ≤ length out.cells
          → (table : Sourcepos) → table ≡ whole_lines drawn 0 (length a.lengths - 1)
          → (rows_out cells_out : List ℕ) → rows_out ≡ over (row_spans drawn (lines_held tops)) out.rows
          → cells_out ≡ over (rect_spans drawn a.offsets (rects_in a n)) out.cells
          → (accept (record { table = table; rows = bands; cells = n }) ≡ spans_found drawn rows n out)
          × (positions_lent rows_out cells_out ≡ spans_written drawn a.offsets rows (rects_in a n) out)
      unfolding table_position
      spans-written row_room cell_room table whole rows_out cells_out wrote_rows wrote_cells =
          let enough : spans_short tops.count n out ≡ false =
          rw (le-ltb (length out.rows) (4 * (tops.count - 1)) (rw banded at row_room), le-ltb (length out.cells) (4 * n) cell_room) in (
            rw (short-told, enough, lines-length a.lengths a.columns a.text, ← whole, banded, c.counted),
            rw (short-written, enough, wrote_rows, wrote_cells, c.listed),
          )

-- ---- where a traced drawing's lines start
pub lines-started : {a : SheetArrays} {o : Reading} (t : TracedSheet a o) (starts₀ : List ℕ) → max_lines ≤ length starts₀
    → (starts : List ℕ) → length starts ≡ length starts₀ → ((y : ℕ) → y < length a.lengths → get_or starts y 0 ≡ sum (take y a.lengths)) → Started a.lengths a.text starts
lines-started t starts₀ room starts same started =
    record {
      bytes_agree = t.sheet.bytes_agree;
      few_bytes = t.few_bytes;
      short_lines = t.sheet.short_lines;
      start_room = omega (arith, t.sheet.few_lines, room, same);
      started = started;
    }
