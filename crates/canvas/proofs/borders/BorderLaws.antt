-- The borders of all cells, and the byte of a line.
use Prim.Native.Nat.{ℕ, ◌+◌}
use mathlib.Core.Path.{refl, sym, ap, ◌∙◌}
use mathlib.Core.List.{List}
use Rattle.representation.specs.Arrays.{code_at, rect_in}
use Rattle.canvas.specs.declared.Rules.{Rules}
use Rattle.canvas.specs.Painting.{Drawn, ended, sided, painted, bordered}
use Rattle.canvas.proofs.SlotLaws.{painted-more}

-- ---- all cells
pub borders-start : (rules : Rules) (rects canvas : List ℕ) → Drawn (bordered rules rects 0) canvas canvas
unfolding bordered painted
borders-start rules rects canvas = record { slot = λ j i hj hi. refl }

pub borders-next : (rules : Rules) (rects : List ℕ) (k : ℕ) (canvas₀ canvas one two : List ℕ) → Drawn (bordered rules rects k) canvas₀ canvas
    → Drawn (sided (256 + k) (rect_in rects k)) canvas one → Drawn (ended rules (rect_in rects k)) one two → Drawn (bordered rules rects (k + 1)) canvas₀ two
unfolding bordered
borders-next rules rects k canvas₀ canvas one two d s e =
    record {
      slot = λ j i hj hi.
          e.slot j i hj hi ∙ ap (ended rules (rect_in rects k) j i) (s.slot j i hj hi ∙ ap (sided (256 + k) (rect_in rects k) j i) (d.slot j i hj hi))
          ∙ sym (painted-more (λ (k o : ℕ). ended rules (rect_in rects k) j i (sided (256 + k) (rect_in rects k) j i o)) k (code_at canvas₀ j i));
    }
