-- Sections change only at separators, and further down they only go on from Head over Body to Foot.
use Prim.Native.Nat.{ℕ, ◌-◌, ◌≤◌, ◌<◌}
use mathlib.Core.Path.{◌≡◌, refl, sym, ◌∙◌}
use mathlib.Core.Bool.{Bool, true, false, cond}
use mathlib.Core.Logic.{⊎_elim}
use mathlib.Core.Option.{Option, none, some}
use mathlib.Core.List.{List, [], ◌∷◌, Memᴰ}
use native.Mathlib.Omega.{arith}
use lib.Dec.{eqb}
use borrow.Author.Tests.{ltb-true, leb-true, lt-ltb, le-ltb, le-leb, lt-leb}
use Rattle.seq.proofs.Tests.{true-not-false, le-or-lt}
use Rattle.seq.proofs.Searches.{some_if-some}
use Rattle.grid.specs.Slots.{Grid}
use Rattle.grid.specs.declared.GridTableSection.TheVariants.{Head, Body, Foot}
use Rattle.grid.specs.Layout.{first_of, head_end, last_but_one, foot_start, is_above, is_from, section_at}

first_of-mem : (l : List ℕ) {s : ℕ} → first_of l ≡ some s → Memᴰ s l
first_of-mem [] e = absurd (let z : ◌≡◌ {A = ℕ} 0 1 = cc in omega arith)
first_of-mem (a ∷ l) {s} e = let same : s ≡ a = cc in Memᴰ.head same

last_but_one-mem : (end : ℕ) (l : List ℕ) {s : ℕ} → last_but_one end l ≡ some s → Memᴰ s l
unfolding last_but_one
last_but_one-mem end [] e = absurd (let z : ◌≡◌ {A = ℕ} 0 1 = cc in omega arith)
last_but_one-mem end (a ∷ []) e = absurd (let z : ◌≡◌ {A = ℕ} 0 1 = cc in omega arith)
last_but_one-mem end (a ∷ b ∷ []) {s} e = Memᴰ.head (sym (some_if-some (eqb b end) a s e).1)
last_but_one-mem end (a ∷ b ∷ c ∷ l) e = Memᴰ.tail (last_but_one-mem end (b ∷ c ∷ l) e)

-- ---- further down

pub above_before : {a b : ℕ} → a ≤ b → (o : Option ℕ) → is_above b o ≡ true → is_above a o ≡ true
above_before h none e = e
above_before {a} {b} h (some s) e = lt-ltb a s (omega (arith, ltb-true b s e))

pub from-after : {a b : ℕ} → a ≤ b → (o : Option ℕ) → is_from a o ≡ true → is_from b o ≡ true
from-after h none e = e
from-after {a} {b} h (some s) e = le-leb s b (omega (arith, leb-true s a e))

-- ---- Foot and Head

is_from-some : (y end : ℕ) (l : List ℕ) → is_from y (last_but_one end l) ≡ true → (s : ℕ) × (first_of l ≡ some s)
unfolding last_but_one
is_from-some y end [] e = absurd (true-not-false (sym e))
is_from-some y end (a ∷ []) e = absurd (true-not-false (sym e))
is_from-some y end (a ∷ b ∷ l) e = (a, refl)

-- Where a line is in the Foot, line 0 is in the Head.
pub foot-head : (g : Grid) → ((s : ℕ) → Memᴰ s g.separators → 0 < s) → (y : ℕ) → section_at g y ≡ Foot → section_at g 0 ≡ Head
unfolding section_at
foot-head g later y e =
    let (s, first) = is_from-some y (g.height - 1) g.separators (from (is_above y (head_end g)) (is_from y (foot_start g)) e) in
    rw (first, lt-ltb 0 s (later s (first_of-mem g.separators first))) where
      from : (t u : Bool) → cond t Head (cond u Foot Body) ≡ Foot → u ≡ true
      from true u e = absurd (let z : ◌≡◌ {A = ℕ} 0 1 = cc in omega arith)
      from false true e = refl
      from false false e = absurd (let z : ◌≡◌ {A = ℕ} 0 1 = cc in omega arith)

-- ---- between separators

-- no separator comes after line a and up to line b
abbrev pub NoneBetween : Grid → ℕ → ℕ → Type 0
NoneBetween g a b = (s : ℕ) → Memᴰ s g.separators → a < s → s ≤ b → ⊥

module _ (g : Grid) {a b : ℕ} (down : a ≤ b) (apart : NoneBetween g a b) where
  same_above : (o : Option ℕ) → ((s : ℕ) → o ≡ some s → Memᴰ s g.separators) → is_above a o ≡ is_above b o
  same_above none m = refl
  same_above (some s) m =
      ⊎_elim (λ (h : s ≤ b). ⊎_elim (λ (k : s ≤ a). le-ltb a s k ∙ sym (le-ltb b s h)) (λ (k : a < s). absurd (apart s (m s refl) k h)) (le-or-lt s a))
      (λ (h : b < s). lt-ltb a s (omega arith) ∙ sym (lt-ltb b s h)) (le-or-lt s b)

  same_from : (o : Option ℕ) → ((s : ℕ) → o ≡ some s → Memᴰ s g.separators) → is_from a o ≡ is_from b o
  same_from none m = refl
  same_from (some s) m =
      ⊎_elim (λ (h : s ≤ b). ⊎_elim (λ (k : s ≤ a). le-leb s a k ∙ sym (le-leb s b h)) (λ (k : a < s). absurd (apart s (m s refl) k h)) (le-or-lt s a))
      (λ (h : b < s). lt-leb s a (omega arith) ∙ sym (lt-leb s b h)) (le-or-lt s b)

  -- Lines with no separator between them are in the same section.
  pub same-section : section_at g a ≡ section_at g b
  unfolding section_at
  same-section =
      rw (same_above (head_end g) (λ s e. first_of-mem g.separators e), same_from (foot_start g) (λ s e. last_but_one-mem (g.height - 1) g.separators e))
