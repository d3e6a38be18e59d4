-- The redraw call once 10 has passed: drawn size (2), 11, 12, and the drawing.
use Rattle.std.specs.Prelude.{ℕ, Result}
use Rattle.grid.specs.Answer.{Answer, accept, refuse_if, refuse_at, and_then, afterwards}
use Rattle.grid.specs.Slots.{grid_of}
use Rattle.grid.specs.Flat.{FlatDrawing, flat_drawing}
use Rattle.grid.specs.Values.{Table}
use Rattle.drawing.specs.Plain.{Canvas, canvas_of, canvas_lines}
use Rattle.drawing.specs.Redraw.{foot_without_head, misaligned, drawn_too_large, split_cell}
use Rattle.drawing.specs.RedrawCall.{DrawingSizes, DrawingArrays, drawing_sizes, drawing_short, drawing_over}
use Rattle.refusals.specs.Refusal.{answer_from}
use Rattle.refusals.specs.declared.Refusal.{Refusal}
use Rattle.cm.specs.declared.draw.DrawingSizes.{DrawingSizes as Written}

abbrev pub written_sizes : Written → DrawingSizes
written_sizes s = record { lines = s.lines; bytes = s.bytes }

-- document 01's number, place and values for each case of the answer
abbrev pub answer_of : Result Written Refusal → Answer DrawingSizes
answer_of r = answer_from written_sizes r

unfoldable pub late_answer : Canvas → ℕ → DrawingArrays → Answer FlatDrawing
late_answer v origin out =
    refuse_if (drawn_too_large v (canvas_lines origin v)) 2
    (refuse_at (split_cell v (grid_of (canvas_lines origin v))) 11
    (refuse_if (drawing_short out (flat_drawing (canvas_lines origin v))) 12 (accept (flat_drawing (canvas_lines origin v)))))

unfoldable pub late_sizes : Canvas → ℕ → DrawingArrays → Answer DrawingSizes
late_sizes v origin out = and_then (late_answer v origin out) (λ d. accept (drawing_sizes d))

unfoldable pub late_arrays : Canvas → ℕ → DrawingArrays → DrawingArrays
late_arrays v origin out = afterwards (late_answer v origin out) (λ d. drawing_over d out) out

-- the checks after 8: 9, 10, and those above
unfoldable pub canvas_answer : Table → ℕ → DrawingArrays → Answer FlatDrawing
canvas_answer t origin out = refuse_if (foot_without_head t) 9 (refuse_at (misaligned (canvas_of t)) 10 (late_answer (canvas_of t) origin out))

unfoldable pub canvas_sizes : Table → ℕ → DrawingArrays → Answer DrawingSizes
canvas_sizes t origin out = and_then (canvas_answer t origin out) (λ d. accept (drawing_sizes d))

unfoldable pub canvas_arrays : Table → ℕ → DrawingArrays → DrawingArrays
canvas_arrays t origin out = afterwards (canvas_answer t origin out) (λ d. drawing_over d out) out
