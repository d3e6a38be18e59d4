-- What redraw's checks say of a table that passes them: `fine` of 1, 2, 3 and 8. The searches of 10 and 11 find nothing exactly where
-- `misaligned-nowhere` and `misaligned-none`, `split_cell-nowhere` and `split_cell-none` say.
use Prim.Native.Nat.{ℕ, ◌<◌}
use mathlib.Core.Path.{◌≡◌}
use mathlib.Core.Bool.{true, false, not, ◌||◌}
use mathlib.Core.Option.{none}
use mathlib.Core.List.{Memᴰ}
use native.Mathlib.Omega.{arith}
use borrow.Author.Tests.{not-false}
use lib.ListN.{length}
use Rattle.seq.specs.Lists.{up_to, is_empty}
use Rattle.seq.proofs.ListsLaws.{some-length}
use Rattle.seq.proofs.Tests.{or-neither}
use Rattle.seq.proofs.Ranges.{mem-range, range-mem}
use Rattle.seq.proofs.Searches.{first_at-none, first_at-nothing}
use Rattle.seq.proofs.Finds.{find-nothing, find_none}
use Rattle.seq.proofs.FlatMaps.{flat_map-mem}
use Rattle.text.specs.Utf8.{well_formed}
use Rattle.grid.specs.Values.{TableCell, Table}
use Rattle.grid.specs.Slots.{Grid}
use Rattle.grid.specs.Flat.{table_lines}
use Rattle.drawing.specs.GridRules.{keeps_rules}
use Rattle.drawing.specs.Plain.{Box, Canvas, column_alignment}
use Rattle.drawing.specs.Redraw.{table_empty, table_too_large, table_outside_set, colons_misplaced, misaligned, splits, split_cell}
use Rattle.drawing.proofs.LimitLaws.{table_too_large-parts, shape-limits}
use Rattle.drawing.proofs.KeptLaws.{keeps_rules-kept}
use Rattle.drawing.proofs.CanvasLaws.{Fine}

-- ---- a table that passes 1, 2, 3 and 8
pub check_table-fine : (o : ℕ) (t : Table) → table_empty t ≡ false → table_too_large o t ≡ false → table_outside_set t ≡ none → keeps_rules t ≡ true → Fine t
unfolding table_empty table_outside_set
check_table-fine o t not_empty not_too_large in_set rules =
    let columns = is_empty t.columns in
    let rows = is_empty t.sections in
    let cells = is_empty t.cells in
    let some = or-neither columns rows (or-neither (columns || rows) cells not_empty).0 in
    let (_, shape, _) = table_too_large-parts o t not_too_large in
    record {
      rules = keeps_rules-kept t rules;
      some_column = some-length t.columns some.0;
      some_row = some-length t.sections some.1;
      well = λ c m l n. not-false (well_formed l) (first_at-none (λ line. not (well_formed line)) 0 (table_lines t) in_set (flat_map-mem (λ (c : TableCell). c.lines) m n));
      few = (shape-limits t shape).cells;
    }

-- Refusal 10's search finds nothing exactly where no column is misplaced.
module _ (v : Canvas) where
  pub misaligned-nowhere : ((k : ℕ) → k < length v.columns → colons_misplaced v k (column_alignment v k) ≡ false) → misaligned v ≡ none
  unfolding misaligned
  misaligned-nowhere h =
      find-nothing (λ k. colons_misplaced v k (column_alignment v k)) (up_to (length v.columns)) (λ k m. h k (omega (arith, range-mem 0 (length v.columns) k m)))

  pub misaligned-none : misaligned v ≡ none → (k : ℕ) → k < length v.columns → colons_misplaced v k (column_alignment v k) ≡ false
  unfolding misaligned
  misaligned-none e k u =
      find_none (λ k. colons_misplaced v k (column_alignment v k)) (up_to (length v.columns)) e (mem-range 0 (length v.columns) k (omega arith) (omega arith))

-- Refusal 11's search finds nothing exactly where no box splits.
module _ (v : Canvas) (g : Grid) where
  pub split_cell-nowhere : ((b : Box) → Memᴰ b v.boxes → splits g b.frame ≡ false) → split_cell v g ≡ none
  unfolding split_cell
  split_cell-nowhere h = first_at-nothing (λ (b : Box). splits g b.frame) _ v.boxes h

  pub split_cell-none : split_cell v g ≡ none → {b : Box} → Memᴰ b v.boxes → splits g b.frame ≡ false
  unfolding split_cell
  split_cell-none e m = first_at-none (λ (b : Box). splits g b.frame) _ v.boxes e m
