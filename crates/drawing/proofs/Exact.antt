-- Demand 3, second half: among tables that keep the rules, redraw refuses exactly where the plain drawing reads back as another table or
-- as none (`exact`, `accepted-exactly`).
use Prim.Native.Nat.{ℕ}
use mathlib.Core.Path.{◌≡◌, refl, sym, ap, ◌∙◌}
use mathlib.Core.Logic.{◌↔◌}
use mathlib.Core.List.{List}
use Rattle.grid.specs.Answer.{Answer, accept, refuse}
use Rattle.grid.specs.Values.{Line, Table}
use Rattle.grid.specs.Layout.{layout_of}
use Rattle.grid.specs.Cut.{table_of}
use Rattle.grid.specs.Read.{read_table}
use Rattle.grid.specs.Same.{normal, Same}
use Rattle.grid.proofs.ReadLaws.{accept-not-refuse, read_rects-passed, table-read}
use Rattle.drawing.specs.Plain.{canvas_of, canvas_lines, drawn}
use Rattle.drawing.specs.Redraw.{redraw_canvas, redraw}
use Rattle.drawing.specs.RoundTrip.{Keeps, ReadsBack, Refuses}
use Rattle.drawing.proofs.ReadLimits.{read-headed}
use Rattle.drawing.proofs.GlyphRows.{drawn-lines}
use Rattle.drawing.proofs.CellsBack.{lines, g}
use Rattle.drawing.proofs.SectionsBack.{foot_without_head-headed}
use Rattle.drawing.proofs.SameBack.{same-aligned, same-small, same-unsplit, same-headed}
use Rattle.drawing.proofs.RoundTrip.{keeps-fine, keeps-passes, Passes, accepted-passes, passes-reads}

-- a table whose drawing reads back as the same table passes every check
back_passes : (o : ℕ) (t : Table) → Keeps o t → ReadsBack o t → Passes o t
back_passes o t k (u, e, s) =
    let F = keeps-fine k in
    let read : read_table (lines F o) ≡ accept u = ap read_table (sym (drawn-lines o t)) ∙ e in
    let (rs, found, made) = table-read (lines F o) u read in
    let checks = read_rects-passed (lines F o) rs found in
    let same : Same (table_of (lines F o) (layout_of (lines F o) (g F o) rs)) t = ap normal (sym made) ∙ s in
    let no-foot = same-headed u t s (read-headed (lines F o) u read) in
    record {
      keeps = k;
      headed = no-foot;
      aligned = same-aligned F o rs checks same (foot_without_head-headed F o no-foot);
      not_too_large = same-small F o rs checks same;
      unsplit = same-unsplit F o rs checks same;
    }

passes-accepts : (o : ℕ) (t : Table) → Passes o t → redraw o t ≡ accept (drawn o t)
unfolding redraw redraw_canvas
passes-accepts o t p =
    keeps-passes o t (redraw_canvas t (canvas_of t) (canvas_lines o (canvas_of t))) p.keeps
    ∙ rw (p.headed, p.aligned, p.not_too_large, p.unsplit) (ap accept (sym (drawn-lines o t)))

-- ---- demand 3

-- A table that keeps the rules, the characters and the limits is accepted exactly where its plain drawing reads back as the same table.
pub accepted-exactly : (o : ℕ) (t : Table) → Keeps o t → (redraw o t ≡ accept (drawn o t)) ↔ ReadsBack o t
accepted-exactly o t k = (λ e. passes-reads o t (accepted-passes o t (drawn o t) e).0, λ b. passes-accepts o t (back_passes o t k b))

-- It is refused exactly where its plain drawing reads back as another table or as none.
pub exact : (o : ℕ) (t : Table) → Keeps o t → Refuses o t ↔ (ReadsBack o t → ⊥)
exact o t k = (there, λ lost. answer (redraw o t) refl lost) where
  there : Refuses o t → ReadsBack o t → ⊥
  there (n, p, r) b = accept-not-refuse (drawn o t) n p (sym (passes-accepts o t (back_passes o t k b)) ∙ r)

  answer : (a : Answer (List Line)) → redraw o t ≡ a → (ReadsBack o t → ⊥) → Refuses o t
  answer (accept d) e lost = absurd (lost (passes-reads o t (accepted-passes o t d e).0))
  answer (refuse n p) e lost = (n, p, e)
