-- Laws of lists in which each element comes before the next by a strict order.
use mathlib.Core.Path.{◌≡◌, refl, sym, ap, ap₂, subst, ◌∙◌}
use mathlib.Core.Bool.{Bool, true, false}
use mathlib.Core.List.Memᴰ
use mathlib.Core.List.{List, [], ◌∷◌, ◌++◌, Memᴰ}
use Rattle.seq.specs.Lists.{select, neighbours}
use Rattle.seq.proofs.Tests.{true-not-false, and_left, and_right, and_intro, bool-refused}

-- a strict order given by a test
pub record Strict {A : Type 0} (before : A → A → Bool) : Type 0 where
  pub irreflexive : (a : A) → before a a ≡ false
  pub transitive : (a b c : A) → before a b ≡ true → before b c ≡ true → before a c ≡ true

module _ {A : Type 0} (before : A → A → Bool) where
  pub sorted_tail : (a : A) (l : List A) → neighbours before (a ∷ l) ≡ true → neighbours before l ≡ true
  unfolding neighbours
  sorted_tail a [] e = refl
  sorted_tail a (b ∷ l) e = and_right (before a b) (neighbours before (b ∷ l)) e

  -- the last part of a sorted list, and its first part
  pub sorted-behind : (xs ys : List A) → neighbours before (xs ++ ys) ≡ true → neighbours before ys ≡ true
  sorted-behind [] ys e = e
  sorted-behind (x ∷ xs) ys e = sorted-behind xs ys (sorted_tail x (xs ++ ys) e)

  pub sorted_front : (xs ys : List A) → neighbours before (xs ++ ys) ≡ true → neighbours before xs ≡ true
  unfolding neighbours
  sorted_front [] ys e = refl
  sorted_front (x ∷ []) ys e = refl
  sorted_front (x ∷ z ∷ xs) ys e =
      and_intro (and_left (before x z) (neighbours before ((z ∷ xs) ++ ys)) e) (sorted_front (z ∷ xs) ys (and_right (before x z) (neighbours before ((z ∷ xs) ++ ys)) e))

  module _ (strict : Strict before) where
    -- the first comes before all the others
    pub sorted_head : (a : A) (l : List A) → neighbours before (a ∷ l) ≡ true → {x : A} → Memᴰ x l → before a x ≡ true
    unfolding neighbours
    sorted_head a [] e {x = x} x4 = elim x4 [ ]
    sorted_head a (b ∷ l) e (Memᴰ.head q) = rw q (and_left (before a b) (neighbours before (b ∷ l)) e)
    sorted_head a (b ∷ l) e {x} (Memᴰ.tail m) =
        strict.transitive a b x (and_left (before a b) (neighbours before (b ∷ l)) e)
        (sorted_head b l (and_right (before a b) (neighbours before (b ∷ l)) e) m)

    apart : {a b : A} → before a b ≡ true → a ≡ b → ⊥
    apart {a} {b} h e = true-not-false (sym (rw (← e) at h) ∙ strict.irreflexive a)

    same_head : (a b : A) (k l : List A) → neighbours before (a ∷ k) ≡ true → neighbours before (b ∷ l) ≡ true
        → Memᴰ a (b ∷ l) → Memᴰ b (a ∷ k) → a ≡ b
    same_head a b k l sk sl (Memᴰ.head e) n = e
    same_head a b k l sk sl (Memᴰ.tail m) (Memᴰ.head f) = sym f
    same_head a b k l sk sl (Memᴰ.tail m) (Memᴰ.tail n) =
        absurd (apart (strict.transitive a b a (sorted_head a k sk n) (sorted_head b l sl m)) refl)

    -- two sorted lists with the same elements are the same
    pub sorted-same : (k l : List A) → neighbours before k ≡ true → neighbours before l ≡ true
        → ((x : A) → Memᴰ x k → Memᴰ x l) → ((x : A) → Memᴰ x l → Memᴰ x k) → k ≡ l
    sorted-same [] [] sk sl there back = refl
    sorted-same [] (b ∷ l) sk sl there back = absurd (Memᴰ.not-nil (back b (Memᴰ.head refl)))
    sorted-same (a ∷ k) [] sk sl there back = absurd (Memᴰ.not-nil (there a (Memᴰ.head refl)))
    sorted-same (a ∷ k) (b ∷ l) sk sl there back =
        let e : a ≡ b = same_head a b k l sk sl (there a (Memᴰ.head refl)) (back b (Memᴰ.head refl)) in
        ap₂ ◌∷◌ e
        (sorted-same k l (sorted_tail a k sk) (sorted_tail b l sl) (λ x m. later e (sorted_head a k sk m) (there x (Memᴰ.tail m)))
        (λ x m. later (sym e) (sorted_head b l sl m) (back x (Memᴰ.tail m)))) where
          later : {c d x : A} {t : List A} → c ≡ d → before c x ≡ true → Memᴰ x (d ∷ t) → Memᴰ x t
          later e h (Memᴰ.head q) = absurd (apart h (e ∙ sym q))
          later e h (Memᴰ.tail m) = m

    -- what stands before an element comes before it
    pub sorted-across : (xs ys : List A) (q : A) → neighbours before (xs ++ q ∷ ys) ≡ true → {a : A} → Memᴰ a xs → before a q ≡ true
    sorted-across [] ys q e {a = a} x'' = elim x'' [ ]
    sorted-across (x ∷ xs) ys q e (Memᴰ.head r) = rw r (sorted_head x (xs ++ q ∷ ys) e (Memᴰ.append_right xs (Memᴰ.head refl)))
    sorted-across (x ∷ xs) ys q e (Memᴰ.tail m) = sorted-across xs ys q (sorted_tail x (xs ++ q ∷ ys) e) m

    none_before : (p : A) (l : List A) → ((a : A) → Memᴰ a l → before p a ≡ true) → select (λ a. before a p) l ≡ []
    unfolding select
    none_before p [] h = refl
    none_before p (a ∷ l) h =
        rw (bool-refused (before a p) (λ e. apart (strict.transitive p a p (h a (Memᴰ.head refl)) e) refl)) (none_before p l (λ b m. h b (Memᴰ.tail m)))

    -- a sorted list: those that come before one of its elements, that element, and more
    pub sorted-split : (l : List A) → neighbours before l ≡ true → {p : A} → Memᴰ p l → (more : List A) × (l ≡ select (λ a. before a p) l ++ p ∷ more)
    unfolding select
    sorted-split [] e {p = p} x'' = elim x'' [ ]
    sorted-split (a ∷ l) e {p} (Memᴰ.head q) =
        let not-self : before a p ≡ false = bool-refused (before a p) (λ h. apart h (sym q)) in
        (l, rw (not-self, none_before p l (λ b m. subst (λ (z : A). before z b ≡ true) (sym q) (sorted_head a l e m))) (ap (λ (z : A). z ∷ l) (sym q)))
    sorted-split (a ∷ l) e {p} (Memᴰ.tail m) =
        let (more, rest) = sorted-split l (sorted_tail a l e) m in
        let first : before a p ≡ true = sorted_head a l e m in
        (more, rw first (ap (λ (z : List A). a ∷ z) rest))
