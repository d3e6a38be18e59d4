-- Laws of the element at a position.
use Prim.Native.Nat.{ℕ, zero, suc, ◌+◌, ◌-◌, ◌≤◌, ◌<◌}
use mathlib.Core.Path.{◌≡◌, refl, sym, ap, ◌∙◌}
use mathlib.Core.List.{List, [], ◌∷◌, ◌++◌, map, map-append, Memᴰ}
use native.Mathlib.Omega.{arith}
use lib.ListN.{length, get_or, replicate, length-map}
use lib.Seq.{get_or-append-add, get_or_at}
use Rattle.seq.specs.Lists.{range, up_to}
use Rattle.seq.proofs.Ranges.{length-range}

pub get_or-mem : {A : Type 0} (l : List A) (i : ℕ) (d : A) → i < length l → Memᴰ (get_or l i d) l
get_or-mem [] i d h = absurd (omega arith)
get_or-mem (a ∷ l) zero d h = Memᴰ.head refl
get_or-mem (a ∷ l) (suc i) d h = Memᴰ.tail (get_or-mem l i d (omega arith))

-- the position of an element
pub mem-last : {A : Type 0} (l : List A) (a : A) → Memᴰ a (l ++ a ∷ [])
mem-last [] a = Memᴰ.head refl
mem-last (b ∷ l) a = Memᴰ.tail (mem-last l a)

pub mem-get_or : {A : Type 0} {a : A} {l : List A} (d : A) → Memᴰ a l → (i : ℕ) × (i < length l) × (get_or l i d ≡ a)
mem-get_or d (Memᴰ.head {x} {xs} q) = (0, omega arith, sym q)
mem-get_or d (Memᴰ.tail {x} {xs} m) = let (i, u, e) = mem-get_or d m in (suc i, omega arith, e)

pub get_d_past : {A : Type 0} (xs ys : List A) (i : ℕ) (d : A) → length xs ≤ i → get_or (xs ++ ys) i d ≡ get_or ys (i - length xs) d
get_d_past xs ys i d h =
    let e : i ≡ length xs + (i - length xs) = omega arith in
    ap (λ (k : ℕ). get_or (xs ++ ys) k d) e ∙ get_or-append-add xs ys (i - length xs) d

pub get_d_map : {A B : Type 0} (f : A → B) (l : List A) (i : ℕ) (d : B) (e : A) → i < length l → get_or (map f l) i d ≡ f (get_or l i e)
get_d_map f [] i d e h = absurd (omega arith)
get_d_map f (a ∷ l) zero d e h = refl
get_d_map f (a ∷ l) (suc i) d e h = get_d_map f l i d e (omega arith)

-- what a function makes of the element behind a list's first part
pub get_or-map-at : {A B : Type 0} (f : A → B) (xs : List A) (x : A) (ys : List A) (n : ℕ) (d : B) → length xs ≡ n → get_or (map f (xs ++ x ∷ ys)) n d ≡ f x
get_or-map-at {A} {B} f xs x ys n d e = ap (λ (l : List B). get_or l n d) (map-append f xs (x ∷ ys)) ∙ get_or_at (map f xs) (f x) (map f ys) d n (length-map xs f ∙ e)

pub get_or-range : (from count i d : ℕ) → i < count → get_or (range from count) i d ≡ from + i
unfolding range
get_or-range from zero i d h = absurd (omega arith)
get_or-range from (suc count) zero d h = omega arith
get_or-range from (suc count) (suc i) d h = get_or-range (from + 1) count i d (omega arith) ∙ omega arith

-- position i of what a function makes of 0, 1, 2, ..
pub get_or-made : {A : Type 0} (f : ℕ → A) (n i : ℕ) (d : A) → i < n → get_or (map f (up_to n)) i d ≡ f i
get_or-made f n i d h = get_d_map f (up_to n) i d 0 (rw length-range h) ∙ ap f (get_or-range 0 n i 0 h ∙ omega arith)

pub mem-replicate : {A : Type 0} (n : ℕ) {a b : A} → Memᴰ b (replicate n a) → b ≡ a
mem-replicate zero m = elim m [ ]
mem-replicate (suc n) (Memᴰ.head e) = e
mem-replicate (suc n) (Memᴰ.tail m) = mem-replicate n m
