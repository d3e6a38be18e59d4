-- Laws of specs/Lists.antt, and of lists where the toolchain's library has none.
use Prim.Native.Nat.{ℕ, zero, suc, ◌+◌, ◌-◌, ◌≤◌, ◌<◌}
use mathlib.Core.Path.{◌≡◌, refl, sym, ◌∙◌}
use mathlib.Core.Bool.{Bool, true, false, ◌&&◌}
use mathlib.Core.List.{List, [], ◌∷◌, ◌++◌}
use native.Mathlib.Omega.{arith}
use native.Mathlib.Numerals.{add-one}
use lib.Dec.{leb, ltb}
use lib.ListN.{length, take, drop, get_or, length-drop, get_or-eq_default}
use lib.Seq.{drop-cons, take-suc, take_all, take-length}
use borrow.Author.Tests.{leb-true, leb-false, ltb-true, ltb-false, lt-ltb, le-ltb}
use Rattle.seq.specs.Lists.{within, is_empty}
use Rattle.seq.proofs.Tests.{true-not-false}

-- ---- within
module _ (a b x : ℕ) where
  pub within_in : a ≤ x → x ≤ b → within a b x ≡ true
  within_in low high = rw (lt-ltb x (b + 1) (omega arith), le-ltb x a low)

  pub within-below : x < a → within a b x ≡ false
  within-below low = go (ltb x (b + 1)) refl where
    go : (t : Bool) → ltb x (b + 1) ≡ t → within a b x ≡ false
    go true e = rw (e, lt-ltb x a low)
    go false e = rw e

  pub within-above : b < x → within a b x ≡ false
  within-above high = rw (le-ltb x (b + 1) (omega arith))

  pub within_low : within a b x ≡ true → a ≤ x
  within_low e = go (ltb x a) refl where
    go : (t : Bool) → ltb x a ≡ t → a ≤ x
    go true f = let z : true ≡ false = sym e ∙ within-below (ltb-true x a f) in absurd (true-not-false z)
    go false f = ltb-false x a f

  pub within-high : within a b x ≡ true → x ≤ b
  within-high e = go (ltb x (b + 1)) refl where
    go : (t : Bool) → ltb x (b + 1) ≡ t → x ≤ b
    go true f = let h : x < b + 1 = ltb-true x (b + 1) f in omega arith
    go false f = let h : b + 1 ≤ x = ltb-false x (b + 1) f in let z : true ≡ false = sym e ∙ within-above (omega arith) in absurd (true-not-false z)

-- the test as the code makes it
pub within-tests : (a b x : ℕ) → leb a x && leb x b ≡ within a b x
within-tests a b x = go (leb a x) refl (leb x b) refl where
  go : (s : Bool) → leb a x ≡ s → (t : Bool) → leb x b ≡ t → leb a x && leb x b ≡ within a b x
  go true e true f = rw (e, f) (sym (within_in a b x (leb-true a x e) (leb-true x b f)))
  go true e false f = rw (e, f) (sym (within-above a b x (leb-false x b f)))
  go false e t f = rw e (sym (within-below a b x (leb-false a x e)))

-- ---- a list at the code's numbers
pub read_past : (s : List ℕ) (i : ℕ) → length s ≤ i → 0 ≡ get_or s i 0
read_past s i h = sym (get_or-eq_default s 0 h)

pub read_some : (s : List ℕ) (i : ℕ) → (get_or s i 0 ≡ 0 → ⊥) → i < length s
read_some s i h = go (ltb i (length s)) refl where
  go : (t : Bool) → ltb i (length s) ≡ t → i < length s
  go true e = ltb-true i (length s) e
  go false e = absurd (h (sym (read_past s i (ltb-false i (length s) e))))

pub drop-step : (s : List ℕ) (i : ℕ) → i < length s → drop i s ≡ get_or s i 0 ∷ drop (i + 1) s
drop-step s i h = rw (add-one, drop-cons s i 0)

pub take_last : (s : List ℕ) (n : ℕ) → 0 < n → n ≤ length s → take n s ≡ take (n - 1) s ++ get_or s (n - 1) 0 ∷ []
take_last s zero pos h = absurd (omega arith)
take_last s (suc n) pos h = let e : suc n - 1 ≡ n = omega arith in let below : n < length s = omega arith in rw e (take-suc s n 0 below)

-- `&s[a..]` as the code has it
pub part_to_end : (s : List ℕ) (a : ℕ) → take (length s - a) (drop a s) ≡ drop a s
part_to_end s a = take_all (length s - a) (drop a s) (rw length-drop (omega arith))

pub last_apart : (s : List ℕ) → (length s ≡ 0 → ⊥) → s ≡ take (length s - 1) s ++ get_or s (length s - 1) 0 ∷ []
last_apart s some = sym (take-length s) ∙ take_last s (length s) (omega arith) (omega arith)

-- ---- lists that are not empty
pub some-length : {A : Type 0} (l : List A) → is_empty l ≡ false → 0 < length l
some-length [] e = absurd (true-not-false e)
some-length (a ∷ l) e = omega arith

pub length_some : {A : Type 0} (l : List A) → 0 < length l → is_empty l ≡ false
length_some [] h = absurd (omega arith)
length_some (a ∷ l) h = refl
