-- Laws of specs/Characters.antt.
use Rattle.std.specs.Prelude.{Option, None, Some, is_some, unwrap_or}
use Prim.Native.Nat.{ℕ, ◌≤◌, ◌<◌}
use mathlib.Core.Path.{◌≡◌, refl, sym, ◌∙◌}
use mathlib.Core.Bool.{Bool, true, false, ◌&&◌, ◌||◌, cond}
use native.Mathlib.Omega.{arith}
use lib.Dec.{eqb, leb, ltb}
use borrow.Author.Tests.{ltb-true, ltb-false, ne_eqb, le-leb, lt-leb}
use Rattle.seq.proofs.Tests.{true-not-false}
use Rattle.seq.proofs.ListsLaws.{within_in, within-above, within-below}
use Rattle.seq.specs.Lists.{within}
use Rattle.text.specs.Characters.{tab, takes_one, takes_none, takes_two, width_of, tab_columns, in_set, span}

-- ---- the table's rows
module _ (c : ℕ) where
  pub width_one : takes_one c ≡ true → width_of c ≡ Some 1
  unfolding width_of
  width_one one = rw one

  pub width-none : takes_one c ≡ false → takes_none c ≡ true → width_of c ≡ Some 0
  unfolding width_of
  width-none one none = rw (one, none)

  pub width_two : takes_one c ≡ false → takes_none c ≡ false → takes_two c ≡ true → width_of c ≡ Some 2
  unfolding width_of
  width_two one none two = rw (one, none, two)

  pub width-outside : takes_one c ≡ false → takes_none c ≡ false → takes_two c ≡ false → width_of c ≡ None
  unfolding width_of
  width-outside one none two = rw (one, none, two)

-- ---- widths
pub one-or-two-columns-at-most : (c : ℕ) → unwrap_or (width_of c) 0 ≤ 2
unfolding width_of
one-or-two-columns-at-most c = go (takes_one c) (takes_none c) (takes_two c) where
  go : (one none two : Bool) → unwrap_or {T = ℕ} (cond one (Some 1) (cond none (Some 0) (cond two (Some 2) None))) 0 ≤ 2
  go true none two = omega arith
  go false true two = omega arith
  go false false true = omega arith
  go false false false = omega arith

pub ascii-one-column : (c : ℕ) → 0x20 ≤ c → c ≤ 0x7e → width_of c ≡ Some 1
ascii-one-column c low high = width_one c (rw (within_in 0x20 0x7e c low high))

pub mark-no-column : (c : ℕ) → 0x300 ≤ c → c ≤ 0x36f → width_of c ≡ Some 0
mark-no-column c low high =
    width-none c
    (rw (within-above 0x20 0x7e c (omega arith), within-above 0xa1 0xac c (omega arith), within-above 0xae 0x17f c (omega arith)))
    (within_in 0x300 0x36f c low high)

-- ---- tabs
pub tab-some-column : (column : ℕ) → 1 ≤ tab_columns column
unfolding tab_columns
tab-some-column column = omega arith

pub tab-four-columns-at-most : (column : ℕ) → tab_columns column ≤ 4
unfolding tab_columns
tab-four-columns-at-most column = omega arith

-- ---- spans
pub span-tab : (column : ℕ) → span column tab ≡ tab_columns column
unfolding span
span-tab column = refl

pub span-other : (column c : ℕ) → (c ≡ tab → ⊥) → span column c ≡ unwrap_or (width_of c) 0
unfolding span
span-other column c h = rw (ne_eqb c tab h)

pub span-four-columns-at-most : (column c : ℕ) → span column c ≤ 4
unfolding span
span-four-columns-at-most column c = go (eqb c tab) where
  go : (t : Bool) → cond t (tab_columns column) (unwrap_or (width_of c) 0) ≤ 4
  go true = tab-four-columns-at-most column
  go false = omega (arith, one-or-two-columns-at-most c)

-- ---- the set
pub ascii-in-set : (c : ℕ) → 0x20 ≤ c → c ≤ 0x7e → in_set c ≡ true
unfolding in_set
ascii-in-set c low high = rw (ne_eqb c tab (λ e. omega arith), ascii-one-column c low high)

-- ---- the ranges stand in order, so a character's size says which to look at
one-above : (c : ℕ) → 0x180 ≤ c → takes_one c ≡ false
one-above c h = rw (within-above 0x20 0x7e c (omega arith), within-above 0xa1 0xac c (omega arith), within-above 0xae 0x17f c (omega arith))

two-below : (c : ℕ) → c < 0x3041 → takes_two c ≡ false
two-below c h =
    rw (
      within-below 0x3041 0x3096 c (omega arith),
      within-below 0x30a1 0x30fa c (omega arith),
      within-below 0x4e00 0x9fff c (omega arith),
      within-below 0xac00 0xd7a3 c (omega arith),
      within-below 0xff01 0xff60 c (omega arith),
    )

in-set-other : (c : ℕ) → (c ≡ tab → ⊥) → in_set c ≡ is_some (width_of c)
unfolding in_set
in-set-other c h = rw (ne_eqb c tab h)

set-up-to-marks : (c : ℕ) → 0x80 ≤ c → c < 0x3041 → (within 0x300 0x36f c || (within 0xa1 0xac c || within 0xae 0x17f c)) ≡ in_set c
unfolding width_of
set-up-to-marks c low high =
    go (within 0x300 0x36f c) (within 0xa1 0xac c || within 0xae 0x17f c)
    ∙ sym (in-set-other c (λ e. omega arith) ∙ rw (within-above 0x20 0x7e c (omega arith), two-below c high)) where
      go : (n o : Bool) → n || o ≡ is_some {T = ℕ} (cond o (Some 1) (cond n (Some 0) None))
      go true true = refl
      go true false = refl
      go false true = refl
      go false false = refl

set-past-marks : (c : ℕ) → 0x370 ≤ c → takes_two c ≡ in_set c
unfolding width_of
set-past-marks c low =
    go (takes_two c) ∙ sym (in-set-other c (λ e. omega arith) ∙ rw (one-above c (omega arith), within-above 0x300 0x36f c (omega arith))) where
      go : (t : Bool) → t ≡ is_some {T = ℕ} (cond t (Some 2) None)
      go true = refl
      go false = refl

-- past the marks the set begins with characters of two columns
pub set-wide : (c : ℕ) → 0x370 ≤ c → in_set c ≡ true → 0x3041 ≤ c
set-wide c low in-set = go (ltb c 0x3041) refl where
  go : (t : Bool) → ltb c 0x3041 ≡ t → 0x3041 ≤ c
  go true e = absurd (true-not-false (sym in-set ∙ sym (set-past-marks c low) ∙ two-below c (ltb-true c 0x3041 e)))
  go false e = ltb-false c 0x3041 e

pub set-of-two : (c : ℕ) (n a b : Bool) → c < 0x3041 → n ≡ within 0x300 0x36f c → a ≡ within 0xa1 0xac c → b ≡ within 0xae 0x17f c → (n || (a || b)) ≡ (leb 0x80 c && in_set c)
set-of-two c n a b high e f g = rw (e, f, g) (go (ltb c 0x80) refl) where
  go : (t : Bool) → ltb c 0x80 ≡ t → (within 0x300 0x36f c || (within 0xa1 0xac c || within 0xae 0x17f c)) ≡ (leb 0x80 c && in_set c)
  go true e =
      let h : c < 0x80 = ltb-true c 0x80 e in
      rw (lt-leb 0x80 c h, within-below 0x300 0x36f c (omega arith), within-below 0xa1 0xac c (omega arith), within-below 0xae 0x17f c (omega arith))
  go false e = let h : 0x80 ≤ c = ltb-false c 0x80 e in rw (le-leb 0x80 c h) (set-up-to-marks c h high)

pub set-of-three : (c : ℕ) (t : Bool) → t ≡ takes_two c → t ≡ (leb 0x800 c && in_set c)
set-of-three c t e = e ∙ go (ltb c 0x800) refl where
  go : (t : Bool) → ltb c 0x800 ≡ t → takes_two c ≡ (leb 0x800 c && in_set c)
  go true e = let h : c < 0x800 = ltb-true c 0x800 e in rw (lt-leb 0x800 c h) (two-below c (omega arith))
  go false e = let h : 0x800 ≤ c = ltb-false c 0x800 e in rw (le-leb 0x800 c h) (set-past-marks c (omega arith))

-- the columns of a character of the set, by its ranges
module _ (column c : ℕ) (in-set : in_set c ≡ true) where
  has-columns : (c ≡ tab → ⊥) → is_some (width_of c) ≡ true
  has-columns no-tab = sym (in-set-other c no-tab) ∙ in-set

  pub spans-one : (c ≡ 9 → ⊥) → c < 0x300 → 1 ≡ span column c
  unfolding width_of
  spans-one no-tab h =
      sym (span-other column c no-tab ∙ rw (within-below 0x300 0x36f c h, two-below c (omega arith))
      (go (takes_one c) (rw (within-below 0x300 0x36f c h, two-below c (omega arith)) at (has-columns no-tab)))) where
        go : (t : Bool) → is_some {T = ℕ} (cond t (Some 1) None) ≡ true → unwrap_or {T = ℕ} (cond t (Some 1) None) 0 ≡ 1
        go true e = refl
        go false e = absurd (true-not-false (sym e))

  pub spans-none : 0x300 ≤ c → c < 0x3041 → 0 ≡ span column c
  unfolding width_of
  spans-none low high =
      sym (span-other column c (λ e. omega arith) ∙ rw (one-above c (omega arith), two-below c high)
      (go (within 0x300 0x36f c))) where
        go : (t : Bool) → unwrap_or {T = ℕ} (cond t (Some 0) None) 0 ≡ 0
        go true = refl
        go false = refl

  pub spans-two : 0x3041 ≤ c → 2 ≡ span column c
  unfolding width_of
  spans-two low =
      sym (span-other column c (λ e. omega arith) ∙ rw (one-above c (omega arith), within-above 0x300 0x36f c (omega arith))
      (go (takes_two c) (rw (one-above c (omega arith), within-above 0x300 0x36f c (omega arith)) at (has-columns (λ e. omega arith))))) where
        go : (t : Bool) → is_some {T = ℕ} (cond t (Some 2) None) ≡ true → unwrap_or {T = ℕ} (cond t (Some 2) None) 0 ≡ 2
        go true e = refl
        go false e = absurd (true-not-false (sym e))

-- what the code's tests of a span say
pub tab-spans : (column c r : ℕ) → c ≡ 9 → r ≡ tab_columns column → r ≡ span column c
tab-spans column c r at-tab e = rw (at-tab, span-tab column) e

pub other-spans : (column c : ℕ) (w : Option ℕ) (r : ℕ) → (c ≡ 9 → ⊥) → w ≡ width_of c → r ≡ unwrap_or w 0 → r ≡ span column c
other-spans column c w r no-tab is e = rw (span-other column c no-tab, ← is) e
