-- `redraw-read`: what redraw answers of a table that is read.
use Prim.Native.Nat.{ℕ, ◌≤◌}
use mathlib.Core.Path.{◌≡◌, refl}
use mathlib.Core.Bool.{Bool, true, false}
use mathlib.Core.Option.{Option, none, some}
use mathlib.Core.List.{List}
use Rattle.grid.specs.Limits.{max_origin}
use Rattle.grid.specs.Answer.{accept, refuse_if, refuse_at}
use Rattle.grid.specs.Values.{Line, Table}
use Rattle.grid.specs.Slots.{grid_of}
use Rattle.grid.specs.Read.{read_table}
use Rattle.drawing.specs.Plain.{canvas_of, canvas_lines, drawn}
use Rattle.drawing.specs.Redraw.{misaligned, drawn_too_large, split_cell, redraw}
use Rattle.drawing.specs.RoundTrip.{Keeps}
use Rattle.drawing.specs.Places.{LateAnswer, accepts, misplaced, too_large, splitting}
use Rattle.drawing.proofs.ReadRules.{read_keeps}
use Rattle.drawing.proofs.ReadLimits.{read-not-empty, read-not-too-large, read-in-set, read-redraws}

-- A table that is read keeps the rules, the characters and the limits, at every origin within its limit.
pub read_kept : (lines : List Line) (t : Table) → read_table lines ≡ accept t → (origin : ℕ) → origin ≤ max_origin → Keeps origin t
read_kept lines t e origin h =
    record { not_empty = read-not-empty lines t e; not_too_large = read-not-too-large lines t e origin h; in_set = read-in-set lines t e; rules = read_keeps lines t e }

-- the last three checks, whatever they find
late : (o : ℕ) (t : Table) (m s : Option ℕ) (b : Bool) → drawn_too_large (canvas_of t) (drawn o t) ≡ b → LateAnswer o t (refuse_at m 10 (refuse_if b 2 (refuse_at s 11 (accept (drawn o t)))))
late o t (some k) s b e = misplaced k
late o t none s true e = too_large e
late o t none none false e = accepts
late o t none (some k) false e = splitting k

-- Redraw of a table that is read gives the plain drawing, or 10, 2 for the drawn size, or 11; nothing up to 8 stops it.
pub redraw-read : (lines : List Line) (t : Table) → read_table lines ≡ accept t → (origin : ℕ) → origin ≤ max_origin → Keeps origin t × LateAnswer origin t (redraw origin t)
unfolding drawn
redraw-read lines t e origin h =
    let drawing = canvas_lines origin (canvas_of t) in (
      read_kept lines t e origin h,
      rw (read-redraws lines t e origin h)
          (late origin t (misaligned (canvas_of t)) (split_cell (canvas_of t) (grid_of drawing)) (drawn_too_large (canvas_of t) drawing) refl),
    )
