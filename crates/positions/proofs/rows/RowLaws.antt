-- Laws of the positions of whole lines, and of the loop that writes those of rows.
use Prim.Native.Nat.{ℕ, ◌+◌, ◌*◌, ◌-◌, ◌≤◌, ◌<◌}
use mathlib.Core.Path.{◌≡◌, refl, ap, ◌∙◌}
use mathlib.Core.List.{List, [], ◌++◌, Memᴰ}
use native.Mathlib.Nat.{zero-add}
use native.Mathlib.Omega.{arith}
use lib.ListN.{length, get_or, take, drop, length-take}
use Rattle.seq.proofs.Entries.{Written, none_written, all-written}
use Rattle.text.specs.Trim.{trim_end}
use Rattle.text.proofs.TrimLaws.{trim-shorter}
use Rattle.grid.specs.Answer.{over}
use Rattle.grid.specs.Layout.{Between, between}
use Rattle.grid.specs.Flat.{split_text, lines_from}
use Rattle.representation.specs.declared.Bounds.{Bounds}
use Rattle.representation.specs.LayoutEntries.{lines_held}
use Rattle.representation.proofs.HeldLaws.{no_between, length-held, length-bands, band-at}
use lib.Seq.{get_or-take}
use Rattle.seq.proofs.Positions.{get_or-mem}
use Rattle.reading.proofs.CheckedLaws.{line-end, line-trimmed, trimmed-text}
use Rattle.sourcepos.specs.Positions.{Sourcepos, Placed, whole_lines}
use Rattle.sourcepos.specs.PositionsCall.{four_numbers}
use Rattle.positions.specs.Spans.{placed_lines, lines_between, row_spans}
use Rattle.positions.specs.Needs.{Started}
use Rattle.positions.proofs.span.SpanLaws.{four_numbers-next}

-- ---- a trimmed line
module _ (lengths text starts : List ℕ) (s : Started lengths text starts) (y : ℕ) (h : y < length lengths) where
  pub started_lines-inside : get_or starts y 0 + get_or lengths y 0 ≤ length text
  started_lines-inside = line-end lengths text (get_or starts y 0) y (s.started y h) s.bytes_agree

  module _ (r : List ℕ) (e : r ≡ trim_end (take (get_or starts y 0 + get_or lengths y 0 - get_or starts y 0) (drop (get_or starts y 0) text))) where
    pub trimmed-short : length r ≤ 512
    trimmed-short =
        let part = take (get_or starts y 0 + get_or lengths y 0 - get_or starts y 0) (drop (get_or starts y 0) text) in
        omega (
          arith,
          ap length e,
          trim-shorter part,
          length-take (get_or starts y 0 + get_or lengths y 0 - get_or starts y 0) (drop (get_or starts y 0) text),
          s.short_lines y,
        )

    pub trimmed-told : length r ≡ length (trim_end (get_or (split_text lengths text) y []))
    trimmed-told = ap length (line-trimmed lengths text (get_or starts y 0) y (s.started y h) r h e)

-- ---- whole lines
pub whole_lines-told : (lengths text numbers table_bytes : List ℕ) (first last start end column : ℕ) → start ≡ get_or table_bytes first 0 + 1
    → end ≡ length (trim_end (get_or (split_text lengths text) last [])) → column ≡ get_or table_bytes last 0 + end → (columns : List ℕ)
    → record {
      start_line = get_or numbers first 0;
      start_column = start;
      end_line = get_or numbers last 0;
      end_column = column;
    } ≡ whole_lines (placed_lines numbers table_bytes (lines_from lengths columns text)) first last
unfolding whole_lines
whole_lines-told lengths text numbers table_bytes first last start end column s e f columns = rw (trimmed-text (split_text lengths text) columns last, s, f, e)

-- ---- the rows
-- its lines are in the drawing
pub lines_held-inside : (size : ℕ) (rows : Bounds) (k : ℕ) → ((y : ℕ) → Memᴰ y (lines_held rows) → y < size) → k < rows.count → get_or rows.lines k 0 < size
lines_held-inside size rows k low h =
    rw (get_or-take rows.count rows.lines k 0 h) at (low (get_or (lines_held rows) k 0) (get_or-mem (lines_held rows) k 0 (omega (arith, length-held rows))))

module _ (p : Placed) (rows : Bounds) where
  abbrev span : Between → Sourcepos
  span b = lines_between p b.from b.to

  pub record RowSpansWritten (buffer : List ℕ) (k : ℕ) (out : List ℕ) : Type 0 where
    pub kept : length out ≡ length buffer
    pub entries : Written (λ b. four_numbers (span b)) (between (lines_held rows)) 0 buffer k out

  pub row_spans_written-none : (buffer : List ℕ) → RowSpansWritten buffer 0 buffer
  row_spans_written-none buffer = record { kept = refl; entries = none_written (λ b. four_numbers (span b)) (between (lines_held rows)) 0 buffer }

  module _ (buffer out : List ℕ) (k : ℕ) (w : RowSpansWritten buffer k out) where
    pub row_spans_written-room : k < rows.count - 1 → 4 * (rows.count - 1) ≤ length buffer → 4 * k + 4 ≤ length out
    row_spans_written-room h room = omega (arith, w.kept)

    pub row_spans_written-next : k < rows.count - 1 → 4 * (rows.count - 1) ≤ length buffer → (s : Sourcepos)
        → s ≡ lines_between p (get_or rows.lines k 0) (get_or rows.lines (k + 1) 0)
        → (out' : List ℕ) → out' ≡ take (4 * k) out ++ four_numbers s ++ drop (4 * k + 4) out → RowSpansWritten buffer (k + 1) out'
    row_spans_written-next h room s told out' g =
        let more : k + 1 < rows.count = omega arith in
        let next =
        four_numbers-next span (between (lines_held rows)) buffer out k no_between
        (rw (length-bands rows) h) (rw (length-bands rows) room) w.entries s (told ∙ rw (band-at rows k more)) out' g in
        record { kept = next.kept; entries = next }

    pub row_spans_written-all : rows.count - 1 ≤ k → out ≡ over (row_spans p (lines_held rows)) buffer
    row_spans_written-all h =
        all-written (λ b. four_numbers (span b)) (between (lines_held rows)) 0 buffer out k
        (omega (arith, length-bands rows)) w.entries ∙ rw zero-add
