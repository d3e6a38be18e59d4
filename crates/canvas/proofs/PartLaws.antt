-- What one cell puts at a slot (`part_of`), and what many put there where they agree (`painted-is`).
use Prim.Native.Nat.{ℕ, zero, suc, ◌+◌, ◌<◌}
use mathlib.Core.Path.{◌≡◌, refl, ◌∙◌}
use mathlib.Core.Bool.{Bool, true, false, ◌&&◌}
use mathlib.Core.Logic.{◌⊎◌, ⊎_elim}
use native.Mathlib.Omega.{arith}
use native.Mathlib.Nat.{eq-or-lt_of_le}
use lib.Dec.{eqb}
use borrow.Author.Tests.{eqb-true}
use Rattle.seq.proofs.Tests.{and_left, and_right}
use Rattle.grid.specs.Values.{Rect}
use Rattle.grid.specs.Slots.{pipe}
use Rattle.drawing.specs.Plain.{is_edge, is_inside}
use Rattle.drawing.proofs.BoxLaws.{End, is_edge-end, is_inside-between}
use Rattle.canvas.specs.declared.Rules.{Rules}
use Rattle.canvas.specs.Painting.{rule_byte, ended, sided, painted}

-- steps of which each puts w or nothing, and one puts w
pub painted-is : (put : ℕ → ℕ → ℕ) (w n old : ℕ) → ((j o : ℕ) → j < n → (put j o ≡ w) ⊎ (put j o ≡ o))
    → (k : ℕ) → k < n → ((o : ℕ) → put k o ≡ w) → painted put n old ≡ w
unfolding painted
painted-is put w zero old each k h here = absurd (omega arith)
painted-is put w (suc n) old each k h here =
    ⊎_elim (λ (e : k ≡ n). rw (← e) (here (painted put k old)))
    (λ (l : k < n).
    let before = painted-is put w n old (λ j o u. each j o (omega arith)) k l here in
    ⊎_elim (λ e. e) (λ e. e ∙ before) (each n (painted put n old) (omega arith))) (eq-or-lt_of_le (omega arith))

-- a slot on the borders along the lines of a cell, on its sides, and the first of an inner line
abbrev pub OnEnd : Rect → ℕ → ℕ → Type 0
OnEnd r y x = End r.top r.bottom y × (r.left < x) × (x < r.right)

abbrev pub OnSide : Rect → ℕ → ℕ → Type 0
OnSide r y x = End r.left r.right x × (r.top < y) × (y < r.bottom)

abbrev pub AtFirst : Rect → ℕ → ℕ → Type 0
AtFirst r y x = (x ≡ r.left + 1) × (r.top < y) × (y < r.bottom)

-- what cell k makes of a slot
abbrev pub boxed : Rules → ℕ → Rect → ℕ → ℕ → ℕ → ℕ
boxed rules k r y x old = ended rules r y x (sided (256 + k) r y x old)

pub data Part (rules : Rules) (k : ℕ) (r : Rect) (y x : ℕ) : Type 0 where
  on_end : OnEnd r y x → ((old : ℕ) → boxed rules k r y x old ≡ rule_byte rules y) → Part rules k r y x
  on_side : OnSide r y x → ((old : ℕ) → boxed rules k r y x old ≡ pipe) → Part rules k r y x
  at_first : AtFirst r y x → ((old : ℕ) → boxed rules k r y x old ≡ 256 + k) → Part rules k r y x
  away : ((old : ℕ) → boxed rules k r y x old ≡ old) → Part rules k r y x

-- the tests of a cell's borders
abbrev pub end_test : Rect → ℕ → ℕ → Bool
end_test r y x = is_edge r.top r.bottom y && is_inside r.left r.right x

abbrev pub side_test : Rect → ℕ → ℕ → Bool
side_test r y x = is_edge r.left r.right x && is_inside r.top r.bottom y

module _ (r : Rect) (y x : ℕ) where
  pub end-passed : end_test r y x ≡ true → OnEnd r y x
  end-passed e =
      let line = is_edge r.top r.bottom y in
      let inside = is_inside r.left r.right x in
      let (l, near) = is_inside-between r.left r.right x (and_right line inside e) in
      (is_edge-end r.top r.bottom y (and_left line inside e), l, near)

  pub side-passed : side_test r y x ≡ true → OnSide r y x
  side-passed e =
      let column = is_edge r.left r.right x in
      let inside = is_inside r.top r.bottom y in
      let (l, low) = is_inside-between r.top r.bottom y (and_right column inside e) in
      (is_edge-end r.left r.right x (and_left column inside e), l, low)

module _ (rules : Rules) (k : ℕ) (r : Rect) (y x : ℕ) where
  abbrev in_lines : Bool
  in_lines = is_inside r.top r.bottom y

  abbrev on_column : Bool
  on_column = is_edge r.left r.right x

  pub part_of : Part rules k r y x
  unfolding ended sided
  part_of = go (end_test r y x) in_lines on_column (eqb x (r.left + 1)) refl refl refl refl where
    go : (e i s f : Bool) → end_test r y x ≡ e → in_lines ≡ i → on_column ≡ s → eqb x (r.left + 1) ≡ f → Part rules k r y x
    go true i s f p q t u = on_end (end-passed r y x p) (λ old. rw p)
    go false true true f p q t u =
        let (l, low) = is_inside-between r.top r.bottom y q in
        on_side (is_edge-end r.left r.right x t, l, low) (λ old. rw (p, q, t))
    go false true false true p q t u =
        let (l, low) = is_inside-between r.top r.bottom y q in
        at_first (eqb-true x (r.left + 1) u, l, low) (λ old. rw (p, q, t, u))
    go false true false false p q t u = away (λ old. rw (p, q, t, u))
    go false false s f p q t u = away (λ old. rw (p, q))
