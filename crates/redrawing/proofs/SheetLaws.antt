-- Laws for the call from a drawing to its redrawing: what it answers where the table call or the redraw call decides, and that
-- an accepted table call has filled as many entries of its arrays as it says.
use Prim.Native.Nat.{ℕ, ◌*◌}
use mathlib.Core.Path.{◌≡◌, refl, sym, ap, ◌∙◌}
use mathlib.Core.Bool.{false, ◌||◌}
use native.Mathlib.Omega.{arith}
use lib.ListN.{length, length-map}
use Rattle.seq.proofs.Prefixes.{prefix-long}
use Rattle.seq.proofs.FlatMaps.{length-flat_map}
use Rattle.grid.specs.Answer.{accept, refuse}
use Rattle.grid.specs.Flat.{FlatDrawing, TableSizes, TableArrays, column_numbers, section_code, table_cell_numbers, table_lines, table_sizes, table_arrays}
use Rattle.grid.specs.LayoutCall.{LayoutSpace}
use Rattle.grid.specs.TableCall.{TableSpace, table_answer, table_afterwards}
use Rattle.grid.specs.Values.{Table}
use Rattle.drawing.specs.RedrawCall.{RedrawSpace, redraw_space_short, DrawingArrays, redraw_answer, redraw_afterwards}
use Rattle.drawing.specs.RoundTripCall.{table_taken}
use Rattle.drawing.specs.SheetCall.{SheetAnswer, unread, SheetSpace, sheet_spaces, sheet_space_short, redraw_step, sheet_answer, sheet_afterwards}
use Rattle.drawing.proofs.CallLaws.{table-accepted}
use Rattle.drawing.proofs.SheetCallLaws.{sheet-unread, sheet-redraws}
use Rattle.redrawing.specs.Sheet.{Filled}

-- ---- the arrays between the two calls

taken-filled : (u : Table) (m : TableSizes) (b : TableArrays) → table_sizes u ≡ m → table_taken m b ≡ table_arrays u → Filled m b
unfolding table_taken table_sizes table_arrays
taken-filled u m b sizes e =
    let two = length-flat_map 2 column_numbers u.columns (λ c. refl) in
    let five = length-flat_map 5 table_cell_numbers u.cells (λ c. refl) in
    let columns : length u.columns ≡ m.columns = ap (λ (s : TableSizes). s.columns) sizes in
    let rows : length u.sections ≡ m.rows = ap (λ (s : TableSizes). s.rows) sizes in
    let cells : length u.cells ≡ m.cells = ap (λ (s : TableSizes). s.cells) sizes in
    let lines : length (table_lines u) ≡ m.lines = ap (λ (s : TableSizes). s.lines) sizes in
    record {
      columns = prefix-long (2 * m.columns) b.columns _ (ap (λ (a : TableArrays). a.columns) e) (omega (arith, two, columns));
      rows = prefix-long m.rows b.sections _ (ap (λ (a : TableArrays). a.sections) e) (length-map u.sections section_code ∙ rows);
      cells = prefix-long (5 * m.cells) b.cells _ (ap (λ (a : TableArrays). a.cells) e) (omega (arith, five, cells));
      lines = prefix-long m.lines b.lengths _ (ap (λ (a : TableArrays). a.lengths) e) (length-map (table_lines u) length ∙ lines);
      bytes = prefix-long m.bytes b.text _ (ap (λ (a : TableArrays). a.text) e) (ap (λ (s : TableSizes). s.bytes) sizes);
    }

pub table_filled : (w : LayoutSpace) (s : TableSpace) (d : FlatDrawing) (between : TableArrays) {m : TableSizes} {b : TableArrays}
    → table_answer w s d between ≡ accept m → b ≡ table_afterwards w s d between → Filled m b
table_filled w s d between {m} {b} e left =
    let r = table-accepted w s d between m e in
    taken-filled r.table m b r.sizes (ap (table_taken m) left ∙ r.taken)

-- ---- what the call answers
module _ (w : LayoutSpace) (s : TableSpace) (between : TableArrays) (v : RedrawSpace) (d : FlatDrawing) (o : ℕ) (out : DrawingArrays) where
  abbrev h : SheetSpace
  h = sheet_spaces between.columns between.sections between.cells between.lengths between.text

  abbrev Answers : SheetAnswer → DrawingArrays → Type 0
  Answers answer after = (answer ≡ sheet_answer w s h v d o out) × (after ≡ sheet_afterwards w s h v d o out)

  module _ (enough : sheet_space_short h || redraw_space_short v ≡ false) where
    pub unread-answers : {number place : ℕ} → table_answer w s d between ≡ refuse number place → Answers (unread number place) out
    unread-answers {number} {place} e = let (answer, after) = sheet-unread w s between v d o out enough number place e in (sym answer, sym after)

    pub redrawn-answers : {m : TableSizes} {b : TableArrays} → table_answer w s d between ≡ accept m → b ≡ table_afterwards w s d between
        → {answer : SheetAnswer} {after : DrawingArrays}
        → (answer ≡ redraw_step (redraw_answer v o m (table_taken m b) out)) × (after ≡ redraw_afterwards v o m (table_taken m b) out) → Answers answer after
    redrawn-answers {m} {b} e left (answer, after) =
        let (answers, arrays) = sheet-redraws w s between v d o out enough m b e left in (answer ∙ sym answers, after ∙ sym arrays)
