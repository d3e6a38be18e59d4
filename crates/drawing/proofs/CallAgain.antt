-- `call-again`: redraw, the table call on what it wrote, and redraw again leave the same arrays.
use Prim.Native.Nat.{ℕ}
use mathlib.Core.Path.{◌≡◌, sym, ap, ap₂, ◌∙◌}
use mathlib.Core.Bool.{false}
use mathlib.Core.List.{List, ◌++◌}
use native.Mathlib.Omega.{arith}
use borrow.Author.Tests.{le-ltb}
use lib.ListN.{length, drop, length-append}
use lib.Seq.{drop-append_seam}
use Rattle.seq.proofs.Tests.{or-none}
use Rattle.grid.specs.Answer.{Answer, accept, and_then, over}
use Rattle.grid.specs.Values.{Line}
use Rattle.grid.specs.Read.{read_table}
use Rattle.grid.specs.Flat.{FlatDrawing, lines_of, flat_drawing, TableSizes, TableArrays, table_of_arrays, shorter}
use Rattle.grid.specs.LayoutCall.{LayoutSpace}
use Rattle.grid.specs.TableCall.{TableSpace, table_answer, table_afterwards}
use Rattle.grid.proofs.ReadLaws.{afterwards-accepted}
use Rattle.grid.proofs.FlatDrawingLaws.{drawing-again}
use Rattle.drawing.specs.Redraw.{redraw}
use Rattle.drawing.specs.RedrawCall.{RedrawSpace, DrawingSizes, DrawingArrays, drawing_sizes, drawing_short, drawing_over, redraw_accepts, redraw_answer, redraw_afterwards}
use Rattle.drawing.specs.RoundTripCall.{drawing_taken, table_taken, TableRoom, ReadRoom, RedrawRoom, RedrawsAgain}
use Rattle.drawing.proofs.RedrawAgain.{redraw-again}
use Rattle.drawing.proofs.CallLaws.{drawing-roomy, redraw-space-enough, drawing-taken, table-accepted, read-redraw, redraw-accepted, redrawn-taken}
use Rattle.drawing.proofs.CallRoundTrip.{call-accepted}

-- ---- a result over itself
over-holds : (result buffer : List ℕ) → shorter (over result buffer) result ≡ false
over-holds result buffer =
    let rest = drop (length result) buffer in
    le-ltb (length (over result buffer)) (length result) (omega (arith, length-append result rest))

over-again : (result buffer : List ℕ) → over result (over result buffer) ≡ over result buffer
over-again result buffer = ap (λ (rest : List ℕ). result ++ rest) (drop-append_seam result (drop (length result) buffer))

drawing-holds : (d : FlatDrawing) (out : DrawingArrays) → drawing_short (drawing_over d out) d ≡ false
unfolding drawing_short
drawing-holds d out = or-none (or-none (over-holds d.lengths out.lengths) (over-holds d.columns out.columns)) (over-holds d.text out.text)

drawing-over-again : (d : FlatDrawing) (out : DrawingArrays) → drawing_over d (drawing_over d out) ≡ drawing_over d out
drawing-over-again d out =
    let lengths = over-again d.lengths out.lengths in
    let columns = over-again d.columns out.columns in
    let text = over-again d.text out.text in
    λ i. record { lengths = lengths i; columns = columns i; text = text i }

-- ---- the calls
module _ (v : RedrawSpace) (o : ℕ) (s : TableSizes) (t : TableArrays) (out : DrawingArrays) (n : DrawingSizes) (e : redraw_answer v o s t out ≡ accept n) where
  abbrev held : DrawingArrays
  held = redraw_afterwards v o s t out

  abbrev written : FlatDrawing
  written = drawing_taken n held

  module _ (w : LayoutSpace) (x : TableSpace) (arrays : TableArrays) (m : TableSizes) (f : table_answer w x written arrays ≡ accept m)
      (v' : RedrawSpace) (enough : RedrawRoom v') where
    abbrev b : TableArrays
    b = table_taken m (table_afterwards w x written arrays)

    abbrev ls : List Line
    ls = (redraw-accepted v o s t out n e).lines

    -- what is read is drawn as the same lines
    redraws : redraw o (table-accepted w x written arrays m f).table ≡ accept ls
    redraws =
        let r = redraw-accepted v o s t out n e in
        let q = table-accepted w x written arrays m f in
        let lines_are : lines_of written ≡ ls = ap lines_of (redrawn-taken v o s t out r) ∙ drawing-again ls in
        redraw-again o (table_of_arrays s t) q.table ls r.drawing (ap read_table (sym lines_are) ∙ q.read)

    accepts : (a : DrawingArrays) → drawing_short a (flat_drawing ls) ≡ false → redraw_accepts v' o m b a ≡ accept (flat_drawing ls)
    accepts a room =
        read-redraw w x written arrays (table-accepted w x written arrays m f) v' o a ∙ rw (redraw-space-enough v' enough, redraws, room)

    answers : (a : DrawingArrays) → drawing_short a (flat_drawing ls) ≡ false → redraw_answer v' o m b a ≡ accept n
    unfolding redraw_answer
    answers a room =
        ap (λ (a : Answer FlatDrawing). and_then a (λ d. accept (drawing_sizes d))) (accepts a room) ∙ ap accept (redraw-accepted v o s t out n e).sizes

    writes : (a : DrawingArrays) → drawing_short a (flat_drawing ls) ≡ false → redraw_afterwards v' o m b a ≡ drawing_over (flat_drawing ls) a
    unfolding redraw_afterwards
    writes a room = afterwards-accepted (redraw_accepts v' o m b a) (λ d. drawing_over d a) a (flat_drawing ls) (accepts a room)

    again : RedrawsAgain v' o m b n held
    again =
        let r = redraw-accepted v o s t out n e in
        let T = table_of_arrays s t in
        let d = flat_drawing ls in
        let holds : drawing_short held d ≡ false = ap (λ (a : DrawingArrays). drawing_short a d) r.written ∙ drawing-holds d out in
        record {
          answer = answers held holds;
          unchanged = writes held holds ∙ ap (drawing_over d) r.written ∙ drawing-over-again d out ∙ sym r.written;
          elsewhere = λ a room. answers a (drawing-roomy o T ls r.drawing a room);
          same = λ a room.
              ap₂ drawing_taken (sym r.sizes) (writes a (drawing-roomy o T ls r.drawing a room)) ∙ drawing-taken ls a
              ∙ sym (redrawn-taken v o s t out r);
        }

  -- Redraw, then the table call on what it wrote, then redraw of what that wrote, at the same origin and with the room that each names: the
  -- table call accepts, and the last redraw answers what the first did. It changes nothing in the first one's arrays, and any others with
  -- room hold the same drawing afterwards.
  pub call-again : (w : LayoutSpace) (x : TableSpace) (arrays : TableArrays) → ReadRoom w x → TableRoom arrays
      → (m : TableSizes) × (table_answer w x written arrays ≡ accept m)
      × ((v' : RedrawSpace) → RedrawRoom v' → RedrawsAgain v' o m (table_taken m (table_afterwards w x written arrays)) n held)
  call-again w x arrays reading roomy =
      let (m, f, _) = (call-accepted v o s t out n e w x arrays reading roomy).1 in
      (m, f, λ v' enough. again w x arrays m f v' enough)
