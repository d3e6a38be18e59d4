-- The call from a sheet to its redrawing is the two calls one after the other: `sheet-short`, `sheet-unread`, `sheet-redraws`. Main theorem
-- `sheet-accepted`: what it gives reads back as the same table as the sheet.
use Prim.Native.Nat.{ℕ, ◌*◌}
use mathlib.Core.Path.{◌≡◌, refl, sym, ap, subst, ◌∙◌}
use mathlib.Core.Bool.{Bool, true, false, ◌||◌}
use native.Mathlib.Omega.{arith}
use lib.Dec.{ltb}
use lib.ListN.{length}
use borrow.Author.Tests.{ltb-false}
use Rattle.seq.proofs.Tests.{or-neither}
use Rattle.grid.specs.Limits.{max_bytes, max_columns, max_rows, max_cells, max_table_lines}
use Rattle.grid.specs.Answer.{Answer, accept, refuse, refuse_if, and_then, afterwards}
use Rattle.grid.specs.Values.{Table}
use Rattle.grid.specs.Read.{read_table}
use Rattle.grid.specs.Flat.{FlatDrawing, lines_of, flat_drawing, TableSizes, TableArrays, table_sizes, table_arrays}
use Rattle.grid.specs.LayoutCall.{LayoutSpace}
use Rattle.grid.specs.TableCall.{TableSpace, table_space_short, read_contradicts, table_accepts, table_answer, table_afterwards}
use Rattle.grid.proofs.AnswerLaws.{accept-same}
use Rattle.grid.proofs.ReadLaws.{passed-if, passed_then, afterwards-accepted, and_then-accepting}
use Rattle.grid.proofs.FlatTableLaws.{table-again}
use Rattle.drawing.specs.Plain.{drawn}
use Rattle.drawing.specs.RedrawCall.{RedrawSpace, redraw_space_short, DrawingSizes, DrawingArrays, drawing_sizes, drawing_over, redraw_into, redraw_accepts, redraw_answer, redraw_afterwards}
use Rattle.drawing.specs.RoundTripCall.{drawing_taken, table_taken, CallReads, TableRoom, ReadRoom}
use Rattle.drawing.specs.SheetCall.{SheetSpace, sheet_spaces, sheet_space_short, redrawn, unread, redraw_step, both_steps, sheet_accepts, sheet_answer, sheet_afterwards}
use Rattle.drawing.proofs.ReadLimits.{arrays-redraw}
use Rattle.drawing.proofs.CallLaws.{table-with-room, table-accepted, read-redraw}
use Rattle.drawing.proofs.CallRoundTrip.{call-accepted}

-- the lengths of the arrays that hold the table between the two steps
abbrev lengths_of : TableArrays → SheetSpace
lengths_of t = sheet_spaces t.columns t.sections t.cells t.lengths t.text

-- such arrays have room for every table that is read
sheet-room : (t : TableArrays) → sheet_space_short (lengths_of t) ≡ false → TableRoom t
unfolding sheet_space_short
sheet-room t e =
    let c = ltb (length t.columns) (2 * max_columns) in
    let r = ltb (length t.sections) max_rows in
    let k = ltb (length t.cells) (5 * max_cells) in
    let l = ltb (length t.lengths) max_table_lines in
    let b = ltb (length t.text) max_bytes in
    let p = or-neither (c || r || k || l) b e in
    let q = or-neither (c || r || k) l p.0 in
    let z = or-neither (c || r) k q.0 in
    let y = or-neither c r z.0 in
    record {
      columns = ltb-false (length t.columns) (2 * max_columns) y.0;
      sections = ltb-false (length t.sections) max_rows y.1;
      cells = ltb-false (length t.cells) (5 * max_cells) z.1;
      lengths = ltb-false (length t.lengths) max_table_lines q.1;
      text = ltb-false (length t.text) max_bytes p.1;
    }

-- Where the arrays between the steps, or redraw's working space, are too short, the call answers 13 and writes nothing.
pub sheet-short : (w : LayoutSpace) (s : TableSpace) (h : SheetSpace) (v : RedrawSpace) (d : FlatDrawing) (o : ℕ) (out : DrawingArrays)
    → sheet_space_short h || redraw_space_short v ≡ true → (unread 13 0 ≡ sheet_answer w s h v d o out) × (out ≡ sheet_afterwards w s h v d o out)
unfolding sheet_answer sheet_afterwards sheet_accepts
sheet-short w s h v d o out e = rw (either (read_contradicts w (table_space_short s) d) (sheet_space_short h) (redraw_space_short v) e) (refl, refl) where
  either : (r t u : Bool) → t || u ≡ true → r || t || u ≡ true
  either true t u f = refl
  either false t u f = f

-- ---- the two calls one after the other, the table's arrays `between` them
module _ (w : LayoutSpace) (s : TableSpace) (between : TableArrays) (v : RedrawSpace) (d : FlatDrawing) (o : ℕ) (out : DrawingArrays) where
  abbrev h : SheetSpace
  h = lengths_of between

  abbrev step : Table → Answer (Answer FlatDrawing)
  step t = accept (redraw_into out o t)

  abbrev leaves : Answer (Answer FlatDrawing) → DrawingArrays
  leaves a = afterwards a (λ drawing. afterwards drawing (λ d. drawing_over d out) out) out

  module _ (room : sheet_space_short h || redraw_space_short v ≡ false) where
    abbrev rooms : (sheet_space_short h ≡ false) × (redraw_space_short v ≡ false)
    rooms = or-neither (sheet_space_short h) (redraw_space_short v) room

    -- its first step is the table call, which then gives no 12
    steps : sheet_accepts w s h v d o out ≡ and_then (table_accepts w s d between) step
    unfolding sheet_accepts
    steps =
        rw (rooms.0, rooms.1) (contradicts (read_contradicts w (table_space_short s) d) (read_table (lines_of d)))
        ∙ ap (λ (a : Answer Table). and_then a step) (sym (table-with-room w s d between (sheet-room between rooms.0))) where
          contradicts : (r : Bool) (read : Answer Table) → refuse_if (r || false || false) 13 (and_then read step) ≡ and_then (refuse_if r 13 read) step
          contradicts true read = refl
          contradicts false read = refl

    -- Where the table call refuses, the call refuses with its number and place, and writes nothing.
    pub sheet-unread : (n p : ℕ) → table_answer w s d between ≡ refuse n p → (sheet_answer w s h v d o out ≡ unread n p) × (sheet_afterwards w s h v d o out ≡ out)
    unfolding sheet_answer sheet_afterwards table_answer
    sheet-unread n p e =
        let refused : sheet_accepts w s h v d o out ≡ refuse n p =
        steps ∙ ap (λ (a : Answer Table). and_then a step) (and_then-accepting (table_accepts w s d between) (λ t. table_sizes t) n p e) in
        (ap both_steps refused, ap leaves refused)

    -- Where it accepts sizes m and leaves arrays b, the call answers and writes what the redraw call does on what is taken from b.
    pub sheet-redraws : (m : TableSizes) (b : TableArrays) → table_answer w s d between ≡ accept m → b ≡ table_afterwards w s d between
        → (sheet_answer w s h v d o out ≡ redraw_step (redraw_answer v o m (table_taken m b) out))
        × (sheet_afterwards w s h v d o out ≡ redraw_afterwards v o m (table_taken m b) out)
    unfolding sheet_answer sheet_afterwards redraw_answer redraw_afterwards
    sheet-redraws m b e left =
        let r = table-accepted w s d between m e in
        let redraws : redraw_accepts v o m (table_taken m b) out ≡ redraw_into out o r.table =
        ap (λ (b : TableArrays). redraw_accepts v o m (table_taken m b) out) left ∙ read-redraw w s d between r v o out ∙ rw rooms.1 in
        let both : sheet_accepts w s h v d o out ≡ accept (redraw_accepts v o m (table_taken m b) out) =
        steps ∙ ap (λ (a : Answer Table). and_then a step) r.accepts ∙ ap accept (sym redraws) in
        (ap both_steps both, ap leaves both)

-- ---- an accepted call

-- both steps accepted
both-accepted : (a : Answer (Answer FlatDrawing)) (n : DrawingSizes) → both_steps a ≡ redrawn n
    → (f : FlatDrawing) × (a ≡ accept (accept f)) × (drawing_sizes f ≡ n)
both-accepted (accept (accept f)) n e = (f, refl, cc)
both-accepted (accept (refuse number place)) n e = absurd (let z : ◌≡◌ {A = ℕ} 0 1 = cc in omega arith)
both-accepted (refuse number place) n e = absurd (let z : ◌≡◌ {A = ℕ} 0 1 = cc in omega arith)

-- A sheet is read as some table. What an accepted call writes is the plain drawing of that table at the origin given, and the table call,
-- on it and with the room that it names, gives a table the same as that of the sheet.
pub sheet-accepted : (w : LayoutSpace) (s : TableSpace) (room : SheetSpace) (v : RedrawSpace) (d : FlatDrawing) (o : ℕ) (out : DrawingArrays) (n : DrawingSizes)
    → sheet_answer w s room v d o out ≡ redrawn n → (w' : LayoutSpace) (s' : TableSpace) (arrays : TableArrays) → ReadRoom w' s' → TableRoom arrays
    → (t : Table) × (read_table (lines_of d) ≡ accept t) × (drawing_taken n (sheet_afterwards w s room v d o out) ≡ flat_drawing (drawn o t))
    × CallReads w' s' arrays (drawing_taken n (sheet_afterwards w s room v d o out)) t
unfolding sheet_answer sheet_afterwards sheet_accepts redraw_answer redraw_afterwards
sheet-accepted w s room v d o out n e w' s' arrays reading roomy =
    let (f, both, sizes) = both-accepted (sheet_accepts w s room v d o out) n e in
    let step : Table → Answer (Answer FlatDrawing) = λ t. accept (redraw_into out o t) in
    let short = read_contradicts w (table_space_short s) d || sheet_space_short room in
    let (enough, reads) = passed-if (short || redraw_space_short v) 13 (and_then (read_table (lines_of d)) step) (accept f) both in
    let (t, read, made) = passed_then (read_table (lines_of d)) step (accept f) reads in
    let redraws : redraw_accepts v o (table_sizes t) (table_arrays t) out ≡ accept f =
    arrays-redraw v o t out ∙ ap (λ (b : Bool). refuse_if b 13 (redraw_into out o t)) (or-neither short (redraw_space_short v) enough).1 ∙ accept-same made in
    let answer = ap (λ (a : Answer FlatDrawing). and_then a (λ d. accept (drawing_sizes d))) redraws ∙ ap accept sizes in
    let after : sheet_afterwards w s room v d o out ≡ redraw_afterwards v o (table_sizes t) (table_arrays t) out =
    afterwards-accepted (sheet_accepts w s room v d o out) (λ drawing. afterwards drawing (λ d. drawing_over d out) out) out (accept f) both
    ∙ sym (afterwards-accepted (redraw_accepts v o (table_sizes t) (table_arrays t) out) (λ d. drawing_over d out) out f redraws) in
    let drawing = ap (drawing_taken n) after in
    let (taken, back) = call-accepted v o (table_sizes t) (table_arrays t) out n answer w' s' arrays reading roomy in
    let again : CallReads w' s' arrays (drawing_taken n (redraw_afterwards v o (table_sizes t) (table_arrays t) out)) t =
    subst (CallReads w' s' arrays (drawing_taken n (redraw_afterwards v o (table_sizes t) (table_arrays t) out))) (table-again t) back in (
      t,
      read,
      drawing ∙ taken ∙ ap (λ (t : Table). flat_drawing (drawn o t)) (table-again t),
      subst (λ (d : FlatDrawing). CallReads w' s' arrays d t) (sym drawing) again,
    )
