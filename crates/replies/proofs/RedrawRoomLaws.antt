-- With output arrays of the lengths named no call that draws a table answers 12: `redraw-room`, `sheet-room`.
use Prim.Native.Nat.{ℕ}
use mathlib.Core.Path.{◌≡◌, refl, ◌∙◌}
use mathlib.Core.Bool.{Bool, not, ◌||◌}
use mathlib.Core.List.{List}
use native.Mathlib.Omega.{arith}
use Rattle.grid.specs.Answer.{Answer, accept, refuse, refuse_if, refuse_at, and_then}
use Rattle.grid.specs.Values.{Line, Table}
use Rattle.grid.specs.Slots.{grid_of}
use Rattle.grid.specs.Read.{read_table}
use Rattle.grid.specs.Flat.{FlatDrawing, flat_drawing, lines_of, TableSizes, TableArrays, table_contradicts, table_of_arrays}
use Rattle.grid.specs.LayoutCall.{LayoutSpace}
use Rattle.grid.specs.TableCall.{TableSpace, table_space_short, read_contradicts}
use Rattle.grid.proofs.AnswerLaws.{accept-same}
use Rattle.grid.proofs.ReadLaws.{passed-if, passed_then, refuse_if-later, refuse_at-later, accept-not-refuse, and_then-accepting}
use Rattle.drawing.specs.GridRules.{keeps_rules}
use Rattle.drawing.specs.Plain.{canvas_of, canvas_lines}
use Rattle.drawing.specs.Redraw.{table_empty, table_too_large, table_outside_set, foot_without_head, misaligned, drawn_too_large, split_cell, redraw_canvas}
use Rattle.drawing.specs.Redraw.{check_table, redraw}
use Rattle.drawing.specs.RedrawCall.{RedrawSpace, redraw_space_short, DrawingArrays, drawing_sizes, drawing_short, redraw_into, redraw_accepts, redraw_answer}
use Rattle.drawing.specs.RoundTripCall as enough
use Rattle.drawing.specs.SheetCall.{SheetSpace, unread, undrawn, sheet_space_short, both_steps, sheet_accepts, sheet_answer}
use Rattle.drawing.proofs.CallLaws.{drawing-roomy}
use Rattle.replies.specs.Room.{DrawingLent}
use Rattle.replies.proofs.RoomLaws.{then-no-twelve, fits-no-twelve, table-no-twelve}

-- ---- redraw

-- redraw gives no 12 of its own
redraw-no-twelve : (o : ℕ) (t : Table) (p : ℕ) → redraw o t ≡ refuse 12 p → ⊥
unfolding redraw check_table redraw_canvas
redraw-no-twelve o t p e =
    let v = canvas_of t in
    let lines = canvas_lines o v in
    let eleven = refuse_at (split_cell v (grid_of lines)) 11 (accept lines) in
    let large = refuse_if (drawn_too_large v lines) 2 eleven in
    let ten = refuse_at (misaligned v) 10 large in
    let nine = refuse_if (foot_without_head t) 9 ten in
    let eight = refuse_if (not (keeps_rules t)) 8 nine in
    let three = refuse_at (table_outside_set t) 3 eight in
    let two = refuse_if (table_too_large o t) 2 three in
    let p1 = refuse_if-later (table_empty t) 1 two 12 p (λ h. omega arith) e in
    let p2 = refuse_if-later (table_too_large o t) 2 three 12 p (λ h. omega arith) p1 in
    let p3 = refuse_at-later (table_outside_set t) 3 eight 12 p (λ h. omega arith) p2 in
    let p8 = refuse_if-later (not (keeps_rules t)) 8 nine 12 p (λ h. omega arith) p3 in
    let p9 = refuse_if-later (foot_without_head t) 9 ten 12 p (λ h. omega arith) p8 in
    let p10 = refuse_at-later (misaligned v) 10 large 12 p (λ h. omega arith) p9 in
    let drawn = refuse_if-later (drawn_too_large v lines) 2 eleven 12 p (λ h. omega arith) p10 in
    accept-not-refuse lines 12 p (refuse_at-later (split_cell v (grid_of lines)) 11 (accept lines) 12 p (λ h. omega arith) drawn)

-- the same room, as the round trip names it
drawing_roomy : {out : DrawingArrays} → DrawingLent out → enough.DrawingRoom out
drawing_roomy room = record { lengths = room.lengths; columns = room.columns; text = room.text }

into-no-twelve : (o : ℕ) (t : Table) (out : DrawingArrays) → DrawingLent out → (p : ℕ) → redraw_into out o t ≡ refuse 12 p → ⊥
into-no-twelve o t out room p e =
    let short : List Line → Bool = λ lines. drawing_short out (flat_drawing lines) in
    then-no-twelve (redraw o t) (λ lines. refuse_if (short lines) 12 (accept (flat_drawing lines))) p
    (λ lines is. fits-no-twelve (short lines) (flat_drawing lines) p (drawing-roomy o t lines is out (drawing_roomy room))) (redraw-no-twelve o t p) e

-- With the room named the redraw call gives no 12.
pub redraw-room : (w : RedrawSpace) (o : ℕ) (s : TableSizes) (t : TableArrays) (out : DrawingArrays) → DrawingLent out
    → (p : ℕ) → redraw_answer w o s t out ≡ refuse 12 p → ⊥
unfolding redraw_answer redraw_accepts
redraw-room w o s t out room p e =
    let accepts = and_then-accepting (redraw_accepts w o s t out) drawing_sizes 12 p e in
    into-no-twelve o (table_of_arrays s t) out room p
    (refuse_if-later (table_contradicts s t || redraw_space_short w) 13 (redraw_into out o (table_of_arrays s t)) 12 p (λ h. omega arith) accepts)

-- ---- from a drawing to its redrawing
module _ (w : LayoutSpace) (s : TableSpace) (h : SheetSpace) (v : RedrawSpace) (d : FlatDrawing) (o : ℕ) (out : DrawingArrays)
    (room : DrawingLent out) (p : ℕ) where
  abbrev step : Table → Answer (Answer FlatDrawing)
  step t = accept (redraw_into out o t)

  unread-no-twelve : (a : Answer (Answer FlatDrawing)) → sheet_accepts w s h v d o out ≡ a → both_steps a ≡ unread 12 p → ⊥
  unfolding sheet_accepts
  unread-no-twelve (accept (accept f)) is e = let z : ◌≡◌ {A = ℕ} 0 1 = cc e in omega arith
  unread-no-twelve (accept (refuse number place)) is e = let z : ◌≡◌ {A = ℕ} 0 1 = cc e in omega arith
  unread-no-twelve (refuse number place) is e =
      let n : number ≡ 12 = cc e in
      let q : place ≡ p = cc e in
      let refused = is ∙ (λ i. refuse (n i) (q i)) in
      let short = read_contradicts w (table_space_short s) d || sheet_space_short h || redraw_space_short v in
      table-no-twelve (lines_of d) p
      (and_then-accepting (read_table (lines_of d)) (λ t. redraw_into out o t) 12 p
      (refuse_if-later short 13 (and_then (read_table (lines_of d)) step) 12 p (λ h. omega arith) refused))

  undrawn-no-twelve : (a : Answer (Answer FlatDrawing)) → sheet_accepts w s h v d o out ≡ a → both_steps a ≡ undrawn 12 p → ⊥
  unfolding sheet_accepts
  undrawn-no-twelve (accept (accept f)) is e = let z : ◌≡◌ {A = ℕ} 0 1 = cc e in omega arith
  undrawn-no-twelve (accept (refuse number place)) is e =
      let n : number ≡ 12 = cc e in
      let q : place ≡ p = cc e in
      let short = read_contradicts w (table_space_short s) d || sheet_space_short h || redraw_space_short v in
      let reads = (passed-if short 13 (and_then (read_table (lines_of d)) step) (refuse number place) is).1 in
      let (t, _, made) = passed_then (read_table (lines_of d)) step (refuse number place) reads in
      into-no-twelve o t out room p (accept-same made ∙ (λ i. refuse (n i) (q i)))
  undrawn-no-twelve (refuse number place) is e = let z : ◌≡◌ {A = ℕ} 0 1 = cc e in omega arith

  -- With the room named neither step gives a 12.
  pub sheet-room : (sheet_answer w s h v d o out ≡ unread 12 p → ⊥) × (sheet_answer w s h v d o out ≡ undrawn 12 p → ⊥)
  unfolding sheet_answer
  sheet-room = (unread-no-twelve (sheet_accepts w s h v d o out) refl, undrawn-no-twelve (sheet_accepts w s h v d o out) refl)
