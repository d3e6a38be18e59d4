-- Laws of sums over lists.
use Prim.Native.Nat.{ℕ, zero, suc, ◌+◌, ◌-◌, ◌*◌, ◌≤◌, ◌<◌}
use mathlib.Core.Path.{◌≡◌, refl, sym, ap, ◌∙◌}
use mathlib.Core.Bool.{Bool, true, false, ◌&&◌, cond}
use mathlib.Core.List.{List, [], ◌∷◌, ◌++◌, map, map-append, flat_map, Memᴰ}
use native.Mathlib.Omega.{arith}
use native.Mathlib.Numerals.{add-one}
use native.Mathlib.Nat.{zero-add, zero-mul, suc-mul, one-mul, add-mul, le_of_suc-le-suc}
use lib.Dec.{leb, ltb}
use lib.ListN.{length, get_or, take, drop, set, length-take, length-drop}
use lib.Seq.{take-set-lt, drop-set-add, get_or-take, get_or-drop}
use borrow.Author.Tests.{le-leb, lt-leb, lt-ltb, le-ltb}
use Rattle.seq.specs.Lists.{range, up_to, sum, select, count}
use Rattle.seq.proofs.Tests.{bit}
use Rattle.seq.proofs.Ranges.{range-mem}
use Rattle.seq.proofs.Searches.{count-cons}
use Rattle.seq.proofs.Gathered.{sum_step, sum-within, range-more}

pub sum-append : (k l : List ℕ) → sum (k ++ l) ≡ sum k + sum l
unfolding sum
sum-append [] l = omega arith
sum-append (n ∷ k) l = omega (arith, sum-append k l)

module _ {A : Type 0} where
  -- two functions that agree on the list's members, and one that is no larger there
  pub sum_same : (f g : A → ℕ) (l : List A) → ((a : A) → Memᴰ a l → f a ≡ g a) → sum (map f l) ≡ sum (map g l)
  unfolding sum
  sum_same f g [] h = refl
  sum_same f g (a ∷ l) h = omega (arith, h a (Memᴰ.head refl), sum_same f g l (λ b m. h b (Memᴰ.tail m)))

  pub sum-le : (f g : A → ℕ) (l : List A) → ((a : A) → Memᴰ a l → f a ≤ g a) → sum (map f l) ≤ sum (map g l)
  unfolding sum
  sum-le f g [] h = omega arith
  sum-le f g (a ∷ l) h = omega (arith, h a (Memᴰ.head refl), sum-le f g l (λ b m. h b (Memᴰ.tail m)))

  pub sum-nothing : (f : A → ℕ) (l : List A) → ((a : A) → Memᴰ a l → f a ≡ 0) → sum (map f l) ≡ 0
  unfolding sum
  sum-nothing f [] h = refl
  sum-nothing f (a ∷ l) h = omega (arith, h a (Memᴰ.head refl), sum-nothing f l (λ b m. h b (Memᴰ.tail m)))

  pub sum-each : (n : ℕ) (l : List A) → sum (map (λ a. n) l) ≡ length l * n
  unfolding sum
  sum-each n [] = sym (zero-mul n)
  sum-each n (a ∷ l) = omega (arith, sum-each n l, suc-mul (length l) n)

  sum_both : (f g : A → ℕ) (l : List A) → sum (map (λ a. f a + g a) l) ≡ sum (map f l) + sum (map g l)
  unfolding sum
  sum_both f g [] = omega arith
  sum_both f g (a ∷ l) = omega (arith, sum_both f g l)

  -- the same number for each that passes a test
  pub sum-picked : (test : A → Bool) (n : ℕ) (l : List A) → sum (map (λ a. cond (test a) n 0) l) ≡ count test l * n
  unfolding sum select
  sum-picked test n [] = sym (zero-mul n)
  sum-picked test n (a ∷ l) = rw (count-cons test a l, add-mul (bit (test a)) (count test l) n, sum-picked test n l) (ap (λ (k : ℕ). k + count test l * n) (go (test a))) where
    go : (t : Bool) → cond t n 0 ≡ bit t * n
    go true = sym (one-mul n)
    go false = sym (zero-mul n)

  pub sum-flat_map : {B : Type 0} (f : B → ℕ) (g : A → List B) (l : List A) → sum (map f (flat_map g l)) ≡ sum (map (λ a. sum (map f (g a))) l)
  unfolding sum flat_map
  sum-flat_map f g [] = refl
  sum-flat_map f g (a ∷ l) = ap sum (map-append f (g a) (flat_map g l)) ∙ sum-append (map f (g a)) (map f (flat_map g l)) ∙ rw (sum-flat_map f g l)

-- two sums in either order
pub sum-exchange : {A B : Type 0} (f : A → B → ℕ) (l : List A) (m : List B) → sum (map (λ a. sum (map (f a) m)) l) ≡ sum (map (λ b. sum (map (λ a. f a b) l)) m)
unfolding sum
sum-exchange f [] m = sym (sum-nothing (λ b. 0) m (λ b _. refl))
sum-exchange f (a ∷ l) m = rw (sum-exchange f l m) (sym (sum_both (f a) (λ b. sum (map (λ a. f a b) l)) m))

-- ---- along a range
sum-split : (f : ℕ → ℕ) (from m n : ℕ) → sum (map f (range from (m + n))) ≡ sum (map f (range from m)) + sum (map f (range (from + m) n))
unfolding sum range
sum-split f from zero n =
    let (all, here) : (0 + n ≡ n) × (from + 0 ≡ from) = omega arith in
    rw (all, here) (omega arith)
sum-split f from (suc m) n =
    let all : suc m + n ≡ suc (m + n) = omega arith in
    let next : sum (map f (range (from + 1 + m) n)) ≡ sum (map f (range (from + suc m) n)) = ap (λ (k : ℕ). sum (map f (range k n))) (omega arith) in
    rw all (omega (arith, sum-split f (from + 1) m n))

-- those of the first n numbers that lie from a up to b
pub sum-window : (f : ℕ → ℕ) (a b n : ℕ) → a ≤ b → b ≤ n → sum (map (λ x. cond (leb a x && ltb x b) (f x) 0) (up_to n)) ≡ sum (map f (range a (b - a)))
sum-window f a b n h k =
    let parts : sum (map chosen (range 0 n)) ≡ sum (map chosen (range 0 (a + ((b - a) + (n - b))))) = ap (λ (k : ℕ). sum (map chosen (range 0 k))) (omega arith) in
    let start : sum (map chosen (range (0 + a) ((b - a) + (n - b)))) ≡ sum (map chosen (range a ((b - a) + (n - b)))) = ap (λ (k : ℕ). sum (map chosen (range k ((b - a) + (n - b))))) (omega arith) in
    omega (
      arith,
      sum-split chosen 0 a ((b - a) + (n - b)),
      sum-split chosen a (b - a) (n - b),
      sum-nothing chosen (range 0 a) (λ x m. before x (omega (arith, range-mem 0 a x m))),
      sum_same chosen f (range a (b - a)) (λ x m. let low = range-mem a (b - a) x m in among x low.0 (omega arith)),
      sum-nothing chosen (range (a + (b - a)) (n - b)) (λ x m. after x (omega (arith, range-mem (a + (b - a)) (n - b) x m))),
    ) where
      chosen : ℕ → ℕ
      chosen x = cond (leb a x && ltb x b) (f x) 0

      before : (x : ℕ) → x < a → chosen x ≡ 0
      before x low = rw (lt-leb a x low)

      among : (x : ℕ) → a ≤ x → x < b → chosen x ≡ f x
      among x low high = rw (le-leb a x low, lt-ltb x b high)

      after : (x : ℕ) → b ≤ x → chosen x ≡ 0
      after x high = rw (le-leb a x (omega arith), le-ltb x b high)

-- distances between neighbouring lines add up to the distance between the outer two
pub sum-distances : (across line : ℕ → ℕ) (from count : ℕ) → ((j : ℕ) → from ≤ j → j < from + count → across j + line j ≡ line (j + 1))
    → sum (map across (range from count)) + line from ≡ line (from + count)
unfolding sum range
sum-distances across line from zero step = let end : line from ≡ line (from + 0) = ap line (omega arith) in omega arith
sum-distances across line from (suc count) step =
    let later = sum-distances across line (from + 1) count (λ j low high. step j (omega arith) (omega arith)) in
    let end : line (from + 1 + count) ≡ line (from + suc count) = ap line (omega arith) in
    omega (arith, step from (omega arith) (omega arith))

-- the first n of a list, by their positions
sum-positions : (l : List ℕ) (n : ℕ) → n ≤ length l → sum (map (λ i. get_or l i 0) (up_to n)) ≡ sum (take n l)
unfolding sum range
sum-positions l zero h = refl
sum-positions l (suc n) h =
    let at : ℕ → ℕ = λ i. get_or l i 0 in
    ap (λ (r : List ℕ). sum (map at r)) (range-more 0 n) ∙ ap sum (map-append at (up_to n) ((0 + n) ∷ []))
    ∙ sum-append (map at (up_to n)) (at (0 + n) ∷ [])
    ∙ omega (arith, sum-positions l n (omega arith), sum_step l n (omega arith), ap at (zero-add n), ap (λ (k : ℕ). sum (take k l)) (add-one n))

pub sum_first : (l : List ℕ) (n : ℕ) → n ≤ length l → sum (map (λ i. get_or l i 0) (up_to n)) ≤ sum l
sum_first l n h = omega (arith, sum-positions l n h, sum-within l n)

-- ---- where one of the list grows by d
sum-set : (l : List ℕ) (j d : ℕ) → j < length l → sum (set l j (get_or l j 0 + d)) ≡ sum l + d
unfolding sum
sum-set [] j d h = absurd (omega arith)
sum-set (x ∷ xs) zero d h = omega arith
sum-set (x ∷ xs) (suc j) d h = omega (arith, sum-set xs j d (le_of_suc-le-suc h))

-- k of the list from lo on, the one at lo + j among them
pub sum-part-set : (l : List ℕ) (lo k j d : ℕ) → j < k → lo + k ≤ length l
    → sum (take k (drop lo (set l (lo + j) (get_or l (lo + j) 0 + d)))) ≡ sum (take k (drop lo l)) + d
sum-part-set l lo k j d h b =
    let inside : j < length (take k (drop lo l)) = rw (length-take, length-drop) (omega arith) in
    let v : get_or l (lo + j) 0 ≡ get_or (take k (drop lo l)) j 0 = sym (get_or-take k (drop lo l) j 0 h ∙ get_or-drop lo l j 0) in
    ap (λ (l : List ℕ). sum (take k l)) (drop-set-add lo l j (get_or l (lo + j) 0 + d))
    ∙ ap sum (take-set-lt k (drop lo l) j (get_or l (lo + j) 0 + d) h)
    ∙ ap (λ (a : ℕ). sum (set (take k (drop lo l)) j (a + d))) v
    ∙ sum-set (take k (drop lo l)) j d inside
