-- Demand 3, of the calls: what redraw writes, read by the table call at the same origin with space enough, gives arrays that are taken
-- apart to a table the same as the one given; and redraw refuses exactly where its plain drawing does not.
use Prim.Native.Nat.{ℕ}
use mathlib.Core.Path.{◌≡◌, refl, sym, ap, subst, ◌∙◌}
use mathlib.Core.Bool.{false}
use mathlib.Core.Logic.{◌↔◌}
use mathlib.Core.List.{List}
use Rattle.grid.specs.Answer.{Answer, accept, refuse, and_then}
use Rattle.grid.specs.Values.{Line, Table}
use Rattle.grid.specs.Read.{read_table}
use Rattle.grid.specs.Same.{normal, Same}
use Rattle.grid.specs.Flat.{FlatDrawing, lines_of, flat_drawing, TableSizes, TableArrays, table_contradicts, table_of_arrays, table_sizes}
use Rattle.grid.specs.LayoutCall.{LayoutSpace}
use Rattle.grid.specs.TableCall.{TableSpace}
use Rattle.grid.proofs.AnswerLaws.{accept-same}
use Rattle.grid.proofs.ReadLaws.{accept-not-refuse}
use Rattle.grid.proofs.FlatDrawingLaws.{drawing-again, drawing-fits}
use Rattle.drawing.specs.Plain.{drawn}
use Rattle.drawing.specs.Redraw.{redraw}
use Rattle.drawing.specs.RedrawCall.{RedrawSpace, DrawingSizes, DrawingArrays, drawing_sizes, redraw_answer, redraw_afterwards}
use Rattle.drawing.specs.RoundTrip.{Keeps, Refuses}
use Rattle.drawing.specs.RoundTripCall.{drawing_taken, CallReads, DrawingRoom, TableRoom, ReadRoom, RedrawRoom}
use Rattle.drawing.proofs.RoundTrip.{accepted, distinct}
use Rattle.drawing.proofs.Exact.{exact}
use Rattle.drawing.proofs.CallLaws.{table-accepts, table-accepted, taken-apart, redraw-accepted, redrawn-taken, redraw-answers}

-- ---- the table call, on the flat form of a drawing
module _ (w : LayoutSpace) (x : TableSpace) (arrays : TableArrays) (ls : List Line) (t : Table) where
  abbrev ReadsAs : Type 0
  ReadsAs = (u : Table) × (read_table ls ≡ accept u) × Same u t

  -- it gives a table the same as t exactly where reading does
  reads-call : ReadRoom w x → TableRoom arrays → ReadsAs → CallReads w x arrays (flat_drawing ls) t
  reads-call reading roomy (u, e, same) =
      let read : read_table (lines_of (flat_drawing ls)) ≡ accept u = ap read_table (drawing-again ls) ∙ e in
      let answered = table-accepts w x (flat_drawing ls) arrays reading roomy (drawing-fits ls) u read in
      let r = table-accepted w x (flat_drawing ls) arrays (table_sizes u) answered in
      let table_is : r.table ≡ u = accept-same (sym r.read ∙ read) in
      (table_sizes u, answered, ap normal (taken-apart w x (flat_drawing ls) arrays r ∙ table_is) ∙ same)

  call-reads : CallReads w x arrays (flat_drawing ls) t → ReadsAs
  call-reads (m, e, same) =
      let r = table-accepted w x (flat_drawing ls) arrays m e in
      (r.table, ap read_table (sym (drawing-again ls)) ∙ r.read, ap normal (sym (taken-apart w x (flat_drawing ls) arrays r)) ∙ same)

-- ---- demand 3, of the calls

-- What redraw writes is the flat form of the plain drawing. The table call, on it and with the room that it names, answers sizes and
-- writes arrays that are taken apart to a table the same as the one given.
pub call-accepted : (v : RedrawSpace) (o : ℕ) (s : TableSizes) (t : TableArrays) (out : DrawingArrays) (n : DrawingSizes) → redraw_answer v o s t out ≡ accept n
    → (w : LayoutSpace) (x : TableSpace) (arrays : TableArrays) → ReadRoom w x → TableRoom arrays
    → (drawing_taken n (redraw_afterwards v o s t out) ≡ flat_drawing (drawn o (table_of_arrays s t)))
    × CallReads w x arrays (drawing_taken n (redraw_afterwards v o s t out)) (table_of_arrays s t)
call-accepted v o s t out n e w x arrays reading roomy =
    let r = redraw-accepted v o s t out n e in
    let T = table_of_arrays s t in
    let (plain, back) = accepted o T r.lines r.drawing in
    let taken = redrawn-taken v o s t out r in
    (taken ∙ ap flat_drawing plain, subst (λ (d : FlatDrawing). CallReads w x arrays d T) (sym taken) (reads-call w x arrays r.lines T reading roomy back))

-- Two tables that are accepted with one drawing, in the flat form, are the same.
pub call-distinct : (o : ℕ) (v : RedrawSpace) (s : TableSizes) (t : TableArrays) (out : DrawingArrays)
    → (v' : RedrawSpace) (s' : TableSizes) (t' : TableArrays) (out' : DrawingArrays) (n : DrawingSizes)
    → redraw_answer v o s t out ≡ accept n → redraw_answer v' o s' t' out' ≡ accept n
    → drawing_taken n (redraw_afterwards v o s t out) ≡ drawing_taken n (redraw_afterwards v' o s' t' out') → Same (table_of_arrays s t) (table_of_arrays s' t')
call-distinct o v s t out v' s' t' out' n a b e =
    let r = redraw-accepted v o s t out n a in
    let z = redraw-accepted v' o s' t' out' n b in
    let flat : flat_drawing r.lines ≡ flat_drawing z.lines = sym (redrawn-taken v o s t out r) ∙ e ∙ redrawn-taken v' o s' t' out' z in
    let lines_same : r.lines ≡ z.lines = sym (drawing-again r.lines) ∙ ap lines_of flat ∙ drawing-again z.lines in
    distinct o (table_of_arrays s t) (table_of_arrays s' t') z.lines (r.drawing ∙ ap accept lines_same) z.drawing

-- With arrays that do not contradict the sizes, a table that keeps the rules and space enough everywhere, the redraw call refuses
-- exactly where the table call does not give the table back from the plain drawing.
pub call-exact : (v : RedrawSpace) (o : ℕ) (s : TableSizes) (t : TableArrays) (out : DrawingArrays)
    → table_contradicts s t ≡ false → RedrawRoom v → DrawingRoom out
    → Keeps o (table_of_arrays s t) → (w : LayoutSpace) (x : TableSpace) (arrays : TableArrays) → ReadRoom w x → TableRoom arrays
    → ((number : ℕ) × (place : ℕ) × (redraw_answer v o s t out ≡ refuse number place))
    ↔ (CallReads w x arrays (flat_drawing (drawn o (table_of_arrays s t))) (table_of_arrays s t) → ⊥)
call-exact v o s t out fits enough room k w x arrays reading roomy = (there, back) where
  T : Table
  T = table_of_arrays s t

  sizes : List Line → Answer DrawingSizes
  sizes lines = accept (drawing_sizes (flat_drawing lines))

  answer : redraw_answer v o s t out ≡ and_then (redraw o T) sizes
  answer = redraw-answers v o s t out fits enough room

  refused : (a : Answer (List Line)) → redraw o T ≡ a → (number place : ℕ) → and_then a sizes ≡ refuse number place → Refuses o T
  refused (accept lines) e number place f = absurd (accept-not-refuse _ _ _ f)
  refused (refuse n p) e number place f = (n, p, e)

  there : (number : ℕ) × (place : ℕ) × (redraw_answer v o s t out ≡ refuse number place) → CallReads w x arrays (flat_drawing (drawn o T)) T → ⊥
  there (number, place, e) b = (exact o T k).0 (refused (redraw o T) refl number place (sym answer ∙ e)) (call-reads w x arrays (drawn o T) T b)

  back : (CallReads w x arrays (flat_drawing (drawn o T)) T → ⊥) → (number : ℕ) × (place : ℕ) × (redraw_answer v o s t out ≡ refuse number place)
  back lost =
      let (n, p, e) = (exact o T k).1 (λ b. lost (reads-call w x arrays (drawn o T) T reading roomy b)) in
      (n, p, answer ∙ ap (λ (a : Answer (List Line)). and_then a sizes) e)
