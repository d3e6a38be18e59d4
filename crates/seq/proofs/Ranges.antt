-- Laws of ranges of numbers.
use Prim.Native.Nat.{ℕ, zero, suc, ◌+◌, ◌-◌, ◌≤◌, ◌<◌}
use mathlib.Core.Path.{◌≡◌, refl, sym, ap, ◌∙◌}
use mathlib.Core.Logic.{⊎_elim}
use mathlib.Core.List.{List, ◌∷◌, ◌++◌, map, map-append, Memᴰ}
use native.Mathlib.Omega.{arith}
use native.Mathlib.Nat.{eq-or-lt_of_le}
use lib.ListN.{length, take, drop, length-map}
use lib.Seq.{drop_at}
use Rattle.seq.specs.Lists.{range, last_or}

pub mem-range : (from count x : ℕ) → from ≤ x → x < from + count → Memᴰ x (range from count)
unfolding range
mem-range from zero x low high = absurd (omega arith)
mem-range from (suc count) x low high =
    ⊎_elim (λ (e : from ≡ x). Memᴰ.head (sym e))
    (λ (h : from < x). Memᴰ.tail (mem-range (from + 1) count x (omega arith) (omega arith))) (eq-or-lt_of_le low)

pub range-mem : (from count x : ℕ) → Memᴰ x (range from count) → (from ≤ x) × (x < from + count)
unfolding range
range-mem from zero x m = elim m [ ]
range-mem from (suc count) x (Memᴰ.head e) = omega arith
range-mem from (suc count) x (Memᴰ.tail m) = let below = range-mem (from + 1) count x m in omega arith

pub length-range : (from count : ℕ) → length (range from count) ≡ count
unfolding range
length-range from zero = refl
length-range from (suc count) = ap suc (length-range (from + 1) count)

-- the first of what a function gives on a range
pub first-of-range : {A : Type 0} (f : ℕ → A) (from count k : ℕ) → k ≤ count → take k (map f (range from count)) ≡ map f (range from k)
unfolding range
first-of-range f from count zero h = refl
first-of-range f from zero (suc k) h = absurd (omega arith)
first-of-range {A} f from (suc count) (suc k) h = ap (λ (t : List A). f from ∷ t) (first-of-range f (from + 1) count k (omega arith))

-- a range in two parts
pub range_split : (a n m : ℕ) → range a (n + m) ≡ range a n ++ range (a + n) m
unfolding range
range_split a zero m =
    let e : 0 + m ≡ m = omega arith in
    let f : a + 0 ≡ a = omega arith in
    rw (e, f)
range_split a (suc n) m =
    let e : suc n + m ≡ suc (n + m) = omega arith in
    let f : a + 1 + n ≡ a + suc n = omega arith in
    rw e (ap (λ (l : List ℕ). a ∷ l) (range_split (a + 1) n m ∙ ap (λ (k : ℕ). range (a + 1) n ++ range k m) f))

-- the rest of what a function gives on a range, and the last of it
pub rest-of-range : {A : Type 0} (f : ℕ → A) (x n : ℕ) → x ≤ n → drop x (map f (range 0 n)) ≡ map f (range x (n - x))
rest-of-range {A} f x n h =
    let e : n ≡ x + (n - x) = omega arith in
    let z : 0 + x ≡ x = omega arith in
    ap (λ (k : ℕ). drop x (map f (range 0 k))) e
    ∙ ap (λ (l : List ℕ). drop x (map f l)) (range_split 0 x (n - x))
    ∙ ap (drop x) (map-append f (range 0 x) (range (0 + x) (n - x)))
    ∙ drop_at (map f (range 0 x)) (map f (range (0 + x) (n - x))) x (length-map (range 0 x) f ∙ length-range 0 x)
    ∙ ap (λ (k : ℕ). map f (range k (n - x))) z

pub last-of-range : {A : Type 0} (f : ℕ → A) (k a : ℕ) (d : A) → last_or (map f (range a (suc k))) d ≡ f (a + k)
unfolding last_or range
last-of-range f zero a d = ap f (omega arith)
last-of-range f (suc k) a d = last-of-range f k (a + 1) (f a) ∙ ap f (omega arith)
