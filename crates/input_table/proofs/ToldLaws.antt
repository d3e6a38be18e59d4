-- From the table call's answer and arrays to what they tell: `table-told`.
use Prim.Native.Nat.{ℕ, ◌*◌, ◌-◌, ◌≤◌}
use mathlib.Core.Path.{◌≡◌, ap, ap₂, sym, ◌∙◌}
use mathlib.Core.Bool.{false}
use mathlib.Core.List.{List}
use native.Mathlib.Omega.{arith}
use lib.ListN.{length, length-map}
use borrow.Author.Tests.{le-ltb}
use Rattle.seq.specs.Lists.{sum}
use Rattle.seq.proofs.FlatMaps.{length-flat_map-sum}
use Rattle.grid.specs.Answer.{accept, refuse}
use Rattle.grid.specs.Read.{read_table}
use Rattle.grid.specs.Flat as flat
use Rattle.grid.specs.Flat.{FlatDrawing, TableArrays, split_text, lines_of, table_lines, table_contradicts, table_sizes, table_arrays}
use Rattle.grid.specs.TableCall.{TableSpace, starts_short, table_space_short, table_accepts, table_answer, table_afterwards, table_spaces}
use Rattle.grid.proofs.ReadLaws.{and_then-accepting}
use Rattle.grid.proofs.FlatTableLaws.{table_fits}
use Rattle.drawing.specs.RoundTripCall.{table_taken, TableRoom}
use Rattle.drawing.proofs.LimitLaws.{table_too_large-parts, shape-limits, lines-limits}
use Rattle.drawing.proofs.ReadLimits.{read-not-too-large}
use Rattle.drawing.proofs.CallLaws.{table-with-room, TableRead, table-accepted, taken-apart}
use Rattle.input_lines.specs.Sheet.{lines_at0}
use Rattle.input_lines.proofs.SheetLaws.{zeroes, length-zeroes, sheet_of, sheet-agrees, sheet-lines, fresh_space, fresh-enough}
use Rattle.std.specs.Prelude.{Result, Ok, Err}
use Rattle.refusals.specs.declared.Refusal.{Refusal}
use Rattle.table.specs.declared.TableSizes.{TableSizes}
use Rattle.table.specs.Call.{answer_of, sizes_of}
use Rattle.input_table.specs.Told.{parts_of, TableHeld, SizesTold}

abbrev fresh_table : TableSpace
fresh_table = table_spaces (zeroes 128) (zeroes 1024)

fresh-wide : table_space_short fresh_table ≡ false
unfolding table_space_short starts_short
fresh-wide =
    rw (
      le-ltb (length (zeroes 128)) 128 (omega (arith, length-zeroes 128)),
      le-ltb (length (zeroes 1024)) 1024 (omega (arith, length-zeroes 1024)),
    )

-- a part from 0 is the first entries
parts-taken : (s : flat.TableSizes) (a : TableArrays) → parts_of s a ≡ table_taken s a
unfolding table_taken
parts-taken s a =
    let columns : 2 * s.columns - 0 ≡ 2 * s.columns = omega arith in
    let rows : s.rows - 0 ≡ s.rows = omega arith in
    let cells : 5 * s.cells - 0 ≡ 5 * s.cells = omega arith in
    let lines : s.lines - 0 ≡ s.lines = omega arith in
    let bytes : s.bytes - 0 ≡ s.bytes = omega arith in
    rw (columns, rows, cells, lines, bytes)

module _ (lengths text : List ℕ) (few : length lengths ≤ 128) (whole : sum lengths ≡ length text) (lent : TableArrays) (room : TableRoom lent) where
  abbrev d : FlatDrawing
  d = sheet_of lengths text

  accepts-all : table_accepts fresh_space fresh_table d lent ≡ read_table (lines_of d)
  accepts-all = table-with-room fresh_space fresh_table d lent room ∙ rw (sheet-agrees lengths text few whole, fresh-enough, fresh-wide)

  refused-told : (n p : ℕ) → table_answer fresh_space fresh_table d lent ≡ refuse n p → read_table (lines_at0 (split_text lengths text)) ≡ refuse n p
  unfolding table_answer
  refused-told n p e =
      ap read_table (sym (sheet-lines lengths text)) ∙ sym accepts-all ∙ and_then-accepting (table_accepts fresh_space fresh_table d lent) (λ t. table_sizes t) n p e

  held_of : (m : flat.TableSizes) → TableRead fresh_space fresh_table d lent m → TableHeld lengths text m (table_taken m (table_afterwards fresh_space fresh_table d lent))
  unfolding table_sizes table_arrays
  held_of m r =
      let u = r.table in
      let (_, shape, lines) = table_too_large-parts 0 u (read-not-too-large (lines_of d) u r.read 0 (omega arith)) in
      let s = shape-limits u shape in
      let l = lines-limits u lines in
      let as_bytes = length-flat_map-sum (λ (line : List ℕ). line) (table_lines u) in
      record {
        columns = omega (arith, s.columns, ap (λ (m : flat.TableSizes). m.columns) r.sizes);
        rows = omega (arith, s.rows, ap (λ (m : flat.TableSizes). m.rows) r.sizes);
        cells = omega (arith, s.cells, ap (λ (m : flat.TableSizes). m.cells) r.sizes);
        lines = omega (arith, l.lines, ap (λ (m : flat.TableSizes). m.lines) r.sizes);
        bytes = omega (arith, l.bytes, as_bytes, ap (λ (m : flat.TableSizes). m.bytes) r.sizes);
        agree = ap₂ table_contradicts (sym r.sizes) r.taken ∙ table_fits u;
        read = ap read_table (sym (sheet-lines lengths text)) ∙ r.read ∙ ap accept (sym (taken-apart fresh_space fresh_table d lent r));
        sizes = ap table_sizes (taken-apart fresh_space fresh_table d lent r) ∙ r.sizes;
        line_count =
            ap (λ (a : TableArrays). length a.lengths) r.taken ∙ length-map (table_lines u) length ∙ ap (λ (m : flat.TableSizes). m.lines) r.sizes;
        byte_count = ap (λ (a : TableArrays). length a.text) r.taken ∙ ap (λ (m : flat.TableSizes). m.bytes) r.sizes;
      }

  table-held : (m : flat.TableSizes) (after : TableArrays) → accept m ≡ table_answer fresh_space fresh_table d lent
      → after ≡ table_afterwards fresh_space fresh_table d lent → TableHeld lengths text m (parts_of m after)
  table-held m after e f = rw (parts-taken m after, f) (held_of m (table-accepted fresh_space fresh_table d lent m (sym e)))

  pub table-told : (r : Result TableSizes Refusal) (after : TableArrays) → answer_of r ≡ table_answer fresh_space fresh_table d lent
      → after ≡ table_afterwards fresh_space fresh_table d lent → SizesTold lengths text after r
  table-told (Err e) after told f = refused-told _ _ (sym told)
  table-told (Ok s) after told f = table-held (sizes_of s) after told f
