-- Laws of the order of line ends, and of the last of a list of them.
use Prim.Native.Nat.{ℕ, ◌≤◌, ◌<◌}
use mathlib.Core.Path.{◌≡◌, refl, sym, ◌∙◌}
use mathlib.Core.Bool.{Bool, true, false, ◌&&◌, cond}
use mathlib.Core.Logic.{◌⊎◌, inl, inr, ⊎_elim}
use mathlib.Core.List.{List, [], ◌∷◌, Memᴰ}
use mathlib.Core.Option.{Option, none, some}
use native.Mathlib.Omega.{arith}
use lib.Dec.{eqb, leb, ltb}
use borrow.Author.Tests.{ltb-true, leb-true, eqb-true, lt-ltb, le-leb, eq-eqb}
use Rattle.seq.proofs.Tests.{true-not-false, and_left, and_right, and_intro, or_cases, or_left, or_right, le-or-lt}
use Rattle.sourcepos.specs.declared.CellLineEnd.{CellLineEnd}
use Rattle.sourcepos.specs.LineEnds.{is_later, later, last_end}

-- ---- the order by start, then eol
abbrev Later : CellLineEnd → CellLineEnd → Type 0
Later a b = (b.start < a.start) ⊎ ((b.start ≡ a.start) × (b.eol ≤ a.eol))

is_later-told : (a b : CellLineEnd) → is_later a b ≡ true → Later a b
is_later-told a b e =
    ⊎_elim (λ (h : ltb b.start a.start ≡ true). inl (ltb-true b.start a.start h))
    (λ (h : eqb b.start a.start && leb b.eol a.eol ≡ true).
    inr (
      eqb-true b.start a.start (and_left (eqb b.start a.start) (leb b.eol a.eol) h),
      leb-true b.eol a.eol (and_right (eqb b.start a.start) (leb b.eol a.eol) h),
    ))
    (or_cases (ltb b.start a.start) (eqb b.start a.start && leb b.eol a.eol) e)

told-is_later : (a b : CellLineEnd) → Later a b → is_later a b ≡ true
told-is_later a b (inl h) = or_left (eqb b.start a.start && leb b.eol a.eol) (lt-ltb b.start a.start h)
told-is_later a b (inr h) = or_right (ltb b.start a.start) (and_intro (eq-eqb b.start a.start h.0) (le-leb b.eol a.eol h.1))

is_later-itself : (a : CellLineEnd) → is_later a a ≡ true
is_later-itself a = told-is_later a a (inr (refl, omega arith))

is_later-trans : (a b c : CellLineEnd) → is_later a b ≡ true → is_later b c ≡ true → is_later a c ≡ true
is_later-trans a b c e f = told-is_later a c (go (is_later-told a b e) (is_later-told b c f)) where
  go : Later a b → Later b c → Later a c
  go (inl h) (inl k) = inl (omega arith)
  go (inl h) (inr k) = inl (omega arith)
  go (inr h) (inl k) = inl (omega arith)
  go (inr h) (inr k) = inr (omega arith, omega arith)

is_later-other : (a b : CellLineEnd) → is_later a b ≡ false → is_later b a ≡ true
is_later-other a b e = told-is_later b a (go (le-or-lt b.start a.start) (le-or-lt a.start b.start) (le-or-lt b.eol a.eol)) where
  other : Later a b → ⊥
  other h = true-not-false (sym (told-is_later a b h) ∙ e)

  go : (b.start ≤ a.start) ⊎ (a.start < b.start) → (a.start ≤ b.start) ⊎ (b.start < a.start) → (b.eol ≤ a.eol) ⊎ (a.eol < b.eol) → Later b a
  go (inr h) k l = inl h
  go (inl h) (inr k) l = absurd (other (inl k))
  go (inl h) (inl k) (inl l) = absurd (other (inr (omega arith, l)))
  go (inl h) (inl k) (inr l) = inr (omega arith, omega arith)

-- ---- the last of a list
pub last_end-none : (es : List CellLineEnd) → last_end es ≡ none → es ≡ []
unfolding last_end
last_end-none [] e = refl
last_end-none (x ∷ es) e = absurd (let z : ◌≡◌ {A = ℕ} 0 1 = cc in omega arith)

-- one of them, and none of them is later
abbrev pub Last : CellLineEnd → List CellLineEnd → Type 0
Last e es = Memᴰ e es × ((f : CellLineEnd) → Memᴰ f es → is_later e f ≡ true)

pub last_end-some : (es : List CellLineEnd) (e : CellLineEnd) → last_end es ≡ some e → Last e es
unfolding last_end
last_end-some [] e h = absurd (let z : ◌≡◌ {A = ℕ} 0 1 = cc in omega arith)
last_end-some (x ∷ es) e h = go (last_end es) (last_end-some es) (last_end-none es) h where
  behind : (y : CellLineEnd) → Last y es → (t : Bool) → is_later x y ≡ t → Last (cond t x y) (x ∷ es)
  behind y last true t = (Memᴰ.head refl, λ f m. first f m) where
    first : (f : CellLineEnd) → Memᴰ f (x ∷ es) → is_later x f ≡ true
    first f (Memᴰ.head q) = rw q (is_later-itself x)
    first f (Memᴰ.tail m) = is_later-trans x y f t (last.1 f m)
  behind y last false t = (Memᴰ.tail last.0, λ f m. kept f m) where
    kept : (f : CellLineEnd) → Memᴰ f (x ∷ es) → is_later y f ≡ true
    kept f (Memᴰ.head q) = rw q (is_later-other x y t)
    kept f (Memᴰ.tail m) = last.1 f m

  alone : es ≡ [] → Last x (x ∷ es)
  alone n = (Memᴰ.head refl, λ f m. only f m) where
    only : (f : CellLineEnd) → Memᴰ f (x ∷ es) → is_later x f ≡ true
    only f (Memᴰ.head q) = rw q (is_later-itself x)
    only f (Memᴰ.tail m) = elim (rw n at m) [ ]

  go : (l : Option CellLineEnd) → ((d : CellLineEnd) → l ≡ some d → Last d es) → (l ≡ none → es ≡ []) → some (later x l) ≡ some e → Last e (x ∷ es)
  go none found empty q = let same : x ≡ e = cc in rw (← same) (alone (empty refl))
  go (some y) found empty q = let same : cond (is_later x y) x y ≡ e = cc in rw (← same) (behind y (found y refl) (is_later x y) refl)
