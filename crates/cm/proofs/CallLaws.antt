-- The redraw call: 13 of its working space, the checks up to 8, and the drawing.
use Prim.Native.Nat.{ℕ, ◌≤◌}
use mathlib.Core.Path.{◌≡◌, refl, sym, ap, ◌∙◌}
use mathlib.Core.Bool.{Bool, true, false, ◌||◌}
use mathlib.Core.Option.{Option, none, some}
use mathlib.Core.List.{List}
use lib.Dec.{ltb}
use borrow.Author.Tests.{ltb-false}
use Rattle.seq.proofs.Tests.{or_right, or-neither}
use Rattle.grid.specs.Answer.{Answer, accept, refuse, refuse_if, refuse_at, and_then}
use Rattle.grid.specs.LayoutCall.{slot_space, rect_space}
use Rattle.grid.specs.Values.{Line, Table}
use Rattle.grid.specs.Slots.{grid_of}
use Rattle.grid.specs.Flat.{FlatDrawing, flat_drawing, TableSizes, TableArrays, table_contradicts, table_of_arrays}
use Rattle.drawing.specs.Plain.{canvas_of, canvas_lines}
use Rattle.drawing.specs.Redraw.{check_table, redraw, redraw_canvas, foot_without_head, misaligned, drawn_too_large, split_cell}
use Rattle.drawing.specs.RedrawCall.{RedrawSpace, redraw_space_short, DrawingSizes, DrawingArrays, drawing_short, redraw_accepts, redraw_answer, redraw_afterwards}
use Rattle.representation.specs.TableIn.{table_in}
use Rattle.table_checks.specs.Checks.{after_checks}
use Rattle.refusals.specs.Refusal.{number_of, place_of}
use Rattle.refusals.specs.declared.Refusal.{Refusal}
use Rattle.std.specs.Prelude.{Result, Ok, Err, ⊤}
use Rattle.cm.specs.Late.{late_answer, canvas_answer, canvas_sizes, canvas_arrays}

-- a call's own refusal comes after those of the drawing
refusals-then : {A B : Type 0} (foot : Bool) (column : Option ℕ) (large : Bool) (cell : Option ℕ) (a : A) (f : A → Answer B)
    → and_then (refuse_if foot 9 (refuse_at column 10 (refuse_if large 2 (refuse_at cell 11 (accept a))))) f
    ≡ refuse_if foot 9 (refuse_at column 10 (refuse_if large 2 (refuse_at cell 11 (f a))))
refusals-then true column large cell a f = refl
refusals-then false (some k) large cell a f = refl
refusals-then false none true cell a f = refl
refusals-then false none false (some k) a f = refl
refusals-then false none false none a f = refl

-- and after the first, 13, where the working space is enough
contradicts-first : {A B : Type 0} (c : Bool) (a : Answer A) (f : A → Answer B) → refuse_if (c || false) 13 (and_then a f) ≡ and_then (refuse_if c 13 a) f
contradicts-first true a f = refl
contradicts-first false a f = refl

-- 12
abbrev finished : DrawingArrays → List Line → Answer FlatDrawing
finished out lines = refuse_if (drawing_short out (flat_drawing lines)) 12 (accept (flat_drawing lines))

-- the checks after 8, without 12
abbrev drawn : ℕ → Table → Answer (List Line)
drawn origin t = redraw_canvas t (canvas_of t) (canvas_lines origin (canvas_of t))

canvas-then : (t : Table) (origin : ℕ) (out : DrawingArrays) → and_then (drawn origin t) (finished out) ≡ canvas_answer t origin out
unfolding redraw_canvas canvas_answer late_answer
canvas-then t origin out =
    let v = canvas_of t in
    let lines = canvas_lines origin v in
    refusals-then (foot_without_head t) (misaligned v) (drawn_too_large v lines) (split_cell v (grid_of lines)) lines (finished out)

-- the table as lent
abbrev lent_table : TableSizes → TableArrays → Table
lent_table s t = table_in s.columns s.cells t.columns t.sections t.cells t.lengths t.text

-- what the test of the working space says
module _ (w : RedrawSpace) {short : Bool} (test : short ≡ redraw_space_short w) where
  module _ (origin : ℕ) (s : TableSizes) (t : TableArrays) (out : DrawingArrays) where
    pub space-refused : short ≡ true → (refuse 13 0 ≡ redraw_answer w origin s t out) × (out ≡ redraw_afterwards w origin s t out)
    unfolding redraw_answer redraw_afterwards redraw_accepts
    space-refused e = rw (or_right (table_contradicts s t) (sym test ∙ e)) (refl, refl)

  module _ (enough : short ≡ false) where
    space-enough : redraw_space_short w ≡ false
    space-enough = sym test ∙ enough

    pub space-room : ((16384 ≤ w.starts) × (16384 ≤ w.ends) × (1024 ≤ w.firsts) × (1024 ≤ w.heights))
        × ((1024 ≤ w.wides) × (rect_space ≤ w.rects) × (slot_space ≤ w.canvas))
    unfolding redraw_space_short
    space-room =
        let s = ltb w.starts 16384 in
        let e = ltb w.ends 16384 in
        let f = ltb w.firsts 1024 in
        let h = ltb w.heights 1024 in
        let v = ltb w.wides 1024 in
        let r = ltb w.rects rect_space in
        let six = or-neither (s || e || f || h || v || r) (ltb w.canvas slot_space) space-enough in
        let five = or-neither (s || e || f || h || v) r six.0 in
        let four = or-neither (s || e || f || h) v five.0 in
        let three = or-neither (s || e || f) h four.0 in
        let two = or-neither (s || e) f three.0 in
        let one = or-neither s e two.0 in (
          (
            ltb-false w.starts 16384 one.0,
            ltb-false w.ends 16384 one.1,
            ltb-false w.firsts 1024 two.1,
            ltb-false w.heights 1024 three.1,
          ),
          (ltb-false w.wides 1024 four.1, ltb-false w.rects rect_space five.1, ltb-false w.canvas slot_space six.1),
        )

    module _ (origin : ℕ) (s : TableSizes) (t : TableArrays) (out : DrawingArrays) (r : Result ⊤ Refusal)
        (checks : (next : Answer (List Line)) → after_checks r next ≡ refuse_if (table_contradicts s t) 13 (check_table origin (table_of_arrays s t) next)) where
      checked : redraw_accepts w origin s t out ≡ and_then (after_checks r (drawn origin (lent_table s t))) (finished out)
      unfolding redraw_accepts redraw table_of_arrays
      checked =
          rw space-enough
          (contradicts-first (table_contradicts s t) (redraw origin (lent_table s t)) (finished out)
          ∙ ap (λ a. and_then a (finished out)) (sym (checks (drawn origin (lent_table s t)))))

      pub check-refused : {e : Refusal} → r ≡ Err e
          → (refuse (number_of e) (place_of e) ≡ redraw_answer w origin s t out) × (out ≡ redraw_afterwards w origin s t out)
      unfolding redraw_answer redraw_afterwards
      check-refused is = rw (checked, is) (refl, refl)

      pub table-drawn : r ≡ Ok tt → {answer : Answer DrawingSizes} {after : DrawingArrays}
          → (answer ≡ canvas_sizes (lent_table s t) origin out) × (after ≡ canvas_arrays (lent_table s t) origin out)
          → (answer ≡ redraw_answer w origin s t out) × (after ≡ redraw_afterwards w origin s t out)
      unfolding redraw_answer redraw_afterwards canvas_sizes canvas_arrays
      table-drawn is both = rw (checked, is, canvas-then (lent_table s t) origin out) both
