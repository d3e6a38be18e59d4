-- What the last part of the table call asks of its callees, and its returns.
use Prim.Native.Nat.{ℕ, ◌-◌, ◌≤◌, ◌<◌}
use mathlib.Core.Path.{◌≡◌, ◌∙◌}
use mathlib.Core.Bool.{Bool, true, false}
use mathlib.Core.List.{List, map}
use native.Mathlib.Omega.{arith}
use lib.ListN.{length, get_or}
use borrow.Author.Tests.{ltb-false}
use Rattle.seq.proofs.Tests.{or-neither}
use Rattle.text.specs.Trim.{trim_end}
use Rattle.text.specs.Lines.{no_text}
use Rattle.grid.specs.Limits.{max_lines, max_cells}
use Rattle.grid.specs.Answer.{accept, refuse, over}
use Rattle.grid.specs.Values.{Rect}
use Rattle.grid.specs.Flat.{TableArrays, table_arrays, split_text, join_text}
use Rattle.grid.specs.TableCall.{table_over, table_short}
use Rattle.representation.specs.TableParts.{table_from, table_answer_of, table_sizes_of, table_arrays_of}
use Rattle.representation.proofs.RectsLaws.{length-rects}
use Rattle.representation.specs.Edges.{Collected, row_lines_below, column_lines_below}
use Rattle.representation.specs.LayoutEntries.{lines_held, column_entries}
use Rattle.representation.specs.declared.Bounds.{Bounds}
use Rattle.representation.specs.declared.Parts.{Parts}
use Rattle.cell.specs.Text.{Source, source_in, kept_lines, all_lines, CountedBy, Preparable, most_text, SourceReady}
use Rattle.cell.proofs.FrameLaws.{traced-framed}
use Rattle.representation.specs.TableEntries.{section_entries, table_entries}
use Rattle.table.specs.Room.{table_too_short}
use Rattle.reading.specs.Call.{SheetArrays, lines_in, rects_in, TracedSheet}
use Rattle.reading.specs.declared.Reading.{Reading}
use Rattle.reading.proofs.SheetLaws.{traced-room}
use Rattle.reading.proofs.CheckedLaws.{trimmed-text}
use Rattle.layout.proofs.FoundLaws.{PartsFound, parts-head-line, tops-found, lefts-found, tops-found-count, lefts-found-count}
use Rattle.table.specs.Needs.{Writable}
use Rattle.table.specs.Call.{arrays}
use Rattle.table.proofs.TableLaws.{table_sizes-told, table_short-told, table_arrays-told}

-- the tests of 12
abbrev short : TableArrays → ℕ → ℕ → ℕ → ℕ → ℕ → Bool
short out across down n lines bytes =
    table_too_short (length out.columns) (length out.sections) (length out.cells) (length out.lengths) (length out.text) across down n lines bytes

-- what measuring asks
pub traced-preparable : (a : SheetArrays) (o : Reading) → TracedSheet a o → (starts counts : List ℕ) → (max_lines ≤ length starts) × (max_cells ≤ length counts)
    → Preparable a.lengths a.columns a.text a.offsets a.rects o.cells starts counts
traced-preparable a o t starts counts room =
    record {
      sheet = t.sheet;
      few_bytes = t.few_bytes;
      offset_room = t.roomy.offset_room;
      few = t.through.few;
      rect_room = traced-room a o t;
      start_room = omega (arith, t.sheet.few_lines, room.0);
      count_room = omega (arith, t.through.few, room.1);
      framed = traced-framed a o t;
    }

-- ---- the lines found, and what was measured
module _ {a : SheetArrays} {o : Reading} (t : TracedSheet a o) {tops lefts : Bounds}
    (c : Collected (row_lines_below (length a.lengths) (rects_in a o.cells)) (length a.lengths) tops)
    (d : Collected (column_lines_below o.width.0 (rects_in a o.cells)) o.width.0 lefts) where
  abbrev rs : List Rect
  rs = rects_in a o.cells

  module _ (starts : List ℕ) {across down lines bytes : ℕ} (columns-told : across ≡ lefts.count - 1) (rows-told : down ≡ tops.count - 1)
      (lines-told : lines ≡ length (all_lines (source_in a starts) rs))
      (bytes-told : bytes ≡ length (join_text (all_lines (source_in a starts) rs))) (out : TableArrays) where
    -- whether an array is too short
    abbrev tested : Bool
    tested = short out across down o.cells lines bytes

    tests-told : table_short out (table_arrays (table_from (lines_in a) rs)) ≡ tested
    tests-told =
        table_short-told t starts out
        ∙ rw (columns-told, rows-told, lefts-found-count t c d, tops-found-count t c d, length-rects o.cells a.rects, lines-told, bytes-told)

    pub finish-short : tested ≡ true → (refuse 12 0 ≡ table_sizes_of (lines_in a) rs out) × (out ≡ table_arrays_of (lines_in a) rs out)
    unfolding table_sizes_of table_arrays_of table_answer_of
    finish-short lacking = (rw (tests-told, lacking), rw (tests-told, lacking))

    module _ (fits : tested ≡ false) where
      pub finish-writable : {counts : List ℕ} → SourceReady (source_in a starts) → CountedBy (λ r. length (kept_lines (source_in a starts) r)) rs counts → bytes ≤ most_text
          → Writable a o starts counts tops lefts out
      finish-writable ready counted few_bytes =
          let f0 = or-neither _ _ fits in
          let f1 = or-neither _ _ f0.0 in
          let f2 = or-neither _ _ f1.0 in
          let f3 = or-neither _ _ f2.0 in
          record {
            ready = ready;
            counted = counted;
            rows_found = c;
            columns_found = d;
            column_room = rw (← columns-told) (ltb-false _ _ f3.0);
            section_room = rw (← rows-told) (ltb-false _ _ f3.1);
            cell_room = ltb-false _ _ f2.1;
            length_room = rw (← lines-told) (ltb-false _ _ f1.1);
            text_room = rw (← bytes-told) (ltb-false _ _ f0.1);
            few_bytes = rw (← bytes-told) few_bytes;
          }

      pub finish-written : (after : TableArrays) → after ≡ table_over (table_arrays (table_from (lines_in a) rs)) out
          → (accept (record { columns = across; rows = down; cells = o.cells; lines = lines; bytes = bytes }) ≡ table_sizes_of (lines_in a) rs out)
          × (after ≡ table_arrays_of (lines_in a) rs out)
      unfolding table_sizes_of table_arrays_of table_answer_of
      finish-written after told = (
        rw (
          tests-told,
          fits,
          table_sizes-told t starts,
          columns-told,
          rows-told,
          lefts-found-count t c d,
          tops-found-count t c d,
          length-rects o.cells a.rects,
          lines-told,
          bytes-told,
        ),
        told ∙ rw (tests-told, fits),
      )

-- ---- writing the five arrays
module _ {a : SheetArrays} {o : Reading} (t : TracedSheet a o) {starts counts : List ℕ} {tops lefts : Bounds} {out : TableArrays} (w : Writable a o starts counts tops lefts out) where
  abbrev held : List Rect
  held = rects_in a o.cells

  abbrev drawn : Source
  drawn = source_in a starts

  pub writable-count-room : o.cells ≤ length counts
  writable-count-room = omega (arith, w.counted.0, length-rects o.cells a.rects)

  module _ (p : Parts) (parts : PartsFound a o p) where
    pub writable-head-line : p.head < length a.lengths
    writable-head-line = parts-head-line t p parts

    pub writable-head-low : p.head < 128
    writable-head-low = omega (arith, writable-head-line, t.sheet.few_lines)

    pub writable-written : {cols sections cells out_lengths out_text line : List ℕ} → line ≡ trim_end (get_or (split_text a.lengths a.text) p.head no_text)
        → cols ≡ over (column_entries a.glyphs a.offsets line p.head (lines_held lefts)) out.columns
        → sections ≡ over (section_entries p (lines_held tops)) out.sections
        → ((f : Rect → ℕ) → CountedBy f held counts → cells ≡ over (table_entries f (lines_held tops) (lines_held lefts) held) out.cells)
        → out_lengths ≡ over (map length (all_lines drawn held)) out.lengths → out_text ≡ over (join_text (all_lines drawn held)) out.text
        → arrays cols sections cells out_lengths out_text ≡ table_over (table_arrays (table_from (lines_in a) held)) out
    unfolding table_over
    writable-written trimmed cols sections cells lengths text =
        rw (
          table_arrays-told t starts p parts,
          cols,
          sections,
          cells (λ r. length (kept_lines drawn r)) w.counted,
          lengths,
          text,
          trimmed,
          trimmed-text (split_text a.lengths a.text) a.columns p.head,
          tops-found t w.rows_found w.columns_found,
          lefts-found t w.rows_found w.columns_found,
        )
