-- Demand 3, first half: whatever redraw accepts is the plain drawing and is read back as the same table (`accepted`, `distinct`). Others
-- cite `keeps-fine`, `keeps-passes`, `accepted-passes` and `passes-reads`.
use Prim.Native.Nat.{ℕ}
use mathlib.Core.Path.{◌≡◌, sym, ap, subst, ◌∙◌}
use mathlib.Core.Bool.{false, not}
use mathlib.Core.Option.{none}
use mathlib.Core.List.{List}
use borrow.Author.Tests.{not-false}
use Rattle.grid.specs.Answer.{Answer, accept}
use Rattle.grid.specs.Values.{Line, Table}
use Rattle.grid.specs.Slots.{grid_of}
use Rattle.grid.specs.Read.{read_table}
use Rattle.grid.specs.Same.{normal, Same}
use Rattle.grid.proofs.AnswerLaws.{accept-same}
use Rattle.grid.proofs.ReadLaws.{passed-if, passed-at}
use Rattle.drawing.specs.GridRules.{keeps_rules}
use Rattle.drawing.specs.Plain.{canvas_of, canvas_lines, drawn}
use Rattle.drawing.specs.Redraw.{table_empty, table_too_large, table_outside_set, foot_without_head, misaligned, drawn_too_large, split_cell, redraw_canvas, check_table, redraw}
use Rattle.drawing.specs.RoundTrip.{Keeps, ReadsBack}
use Rattle.drawing.proofs.CanvasLaws.{Fine}
use Rattle.drawing.proofs.CheckLaws.{check_table-fine}
use Rattle.drawing.proofs.GlyphRows.{drawn-lines}
use Rattle.drawing.proofs.ReadsBack.{passes-read_back}

pub keeps-fine : {o : ℕ} {t : Table} → Keeps o t → Fine t
keeps-fine {o} {t} k = check_table-fine o t k.not_empty k.not_too_large k.in_set k.rules

-- `Keeps` is exactly: the checks up to 8 let the table pass
pub keeps-passes : {A : Type 0} (o : ℕ) (t : Table) (next : Answer A) → Keeps o t → check_table o t next ≡ next
unfolding check_table
keeps-passes o t next k = rw (k.not_empty, k.not_too_large, k.in_set, k.rules)

pub passes-keeps : {A : Type 0} (o : ℕ) (t : Table) (next : Answer A) (a : A) → check_table o t next ≡ accept a → Keeps o t
unfolding check_table
passes-keeps o t next a e =
    let a₁ = passed-if (table_empty t) 1 _ a e in
    let a₂ = passed-if (table_too_large o t) 2 _ a a₁.1 in
    let a₃ = passed-at (table_outside_set t) 3 _ a a₂.1 in
    let a₈ = passed-if (not (keeps_rules t)) 8 _ a a₃.1 in
    record { not_empty = a₁.0; not_too_large = a₂.0; in_set = a₃.0; rules = not-false (keeps_rules t) a₈.0 }

-- what redraw accepts has passed every check
pub record Passes (o : ℕ) (t : Table) : Type 0 where
  pub keeps : Keeps o t
  pub headed : foot_without_head t ≡ false
  pub aligned : misaligned (canvas_of t) ≡ none
  pub not_too_large : drawn_too_large (canvas_of t) (canvas_lines o (canvas_of t)) ≡ false
  pub unsplit : split_cell (canvas_of t) (grid_of (canvas_lines o (canvas_of t))) ≡ none

pub accepted-passes : (o : ℕ) (t : Table) (d : List Line) → redraw o t ≡ accept d → Passes o t × (d ≡ drawn o t)
unfolding redraw redraw_canvas
accepted-passes o t d e =
    let lines = canvas_lines o (canvas_of t) in
    let k = passes-keeps o t (redraw_canvas t (canvas_of t) lines) d e in
    let a₉ = passed-if (foot_without_head t) 9 _ d (sym (keeps-passes o t (redraw_canvas t (canvas_of t) lines) k) ∙ e) in
    let a₁₀ = passed-at (misaligned (canvas_of t)) 10 _ d a₉.1 in
    let s = passed-if (drawn_too_large (canvas_of t) lines) 2 _ d a₁₀.1 in
    let a₁₁ = passed-at (split_cell (canvas_of t) (grid_of lines)) 11 _ d s.1 in
    (record { keeps = k; headed = a₉.0; aligned = a₁₀.0; not_too_large = s.0; unsplit = a₁₁.0 }, accept-same (sym a₁₁.1) ∙ sym (drawn-lines o t))

pub passes-reads : (o : ℕ) (t : Table) → Passes o t → ReadsBack o t
passes-reads o t p =
    let (u, e, s) = passes-read_back (keeps-fine p.keeps) o p.headed p.aligned p.not_too_large p.unsplit in
    (u, ap read_table (drawn-lines o t) ∙ e, s)

-- ---- demand 3

-- What redraw accepts is the plain drawing, and reading that drawing gives back the same table.
pub accepted : (o : ℕ) (t : Table) (d : List Line) → redraw o t ≡ accept d → (d ≡ drawn o t) × ((u : Table) × (read_table d ≡ accept u) × Same u t)
accepted o t d e =
    let (p, q) = accepted-passes o t d e in
    (q, subst (λ (l : List Line). (u : Table) × (read_table l ≡ accept u) × Same u t) (sym q) (passes-reads o t p))

-- Two tables that are accepted with one drawing are the same.
pub distinct : (o : ℕ) (t u : Table) (d : List Line) → redraw o t ≡ accept d → redraw o u ≡ accept d → Same t u
distinct o t u d a b =
    let (x, p, s) = (accepted o t d a).1 in
    let (y, q, r) = (accepted o u d b).1 in
    let e : x ≡ y = accept-same (sym p ∙ q) in
    sym s ∙ ap normal e ∙ r
