-- Laws of flat_map: lists end to end.
use Prim.Native.Nat.{ℕ, ◌*◌}
use mathlib.Core.Path.{◌≡◌, refl, subst, ◌∙◌}
use mathlib.Core.List.Memᴰ
use mathlib.Core.List.{List, [], ◌∷◌, ◌++◌, map, flat_map, append_assoc, Memᴰ}
use mathlib.Core.Logic.{◌⊎◌, inl, inr}
use native.Mathlib.Nat.{mul-suc}
use native.Mathlib.Omega.{arith}
use lib.ListN.{length, length-append}
use Rattle.seq.specs.Lists.{sum}

module _ {A B : Type 0} where
  -- two functions that agree on the list's members
  pub map_same : (f g : A → B) (l : List A) → ((a : A) → Memᴰ a l → f a ≡ g a) → map f l ≡ map g l
  map_same f g [] e = refl
  map_same f g (a ∷ l) e = rw (e a (Memᴰ.head refl), map_same f g l (λ b m. e b (Memᴰ.tail m)))

  pub flat_map-same : (f g : A → List B) (l : List A) → ((a : A) → Memᴰ a l → f a ≡ g a) → flat_map f l ≡ flat_map g l
  unfolding flat_map
  flat_map-same f g [] h = refl
  flat_map-same f g (a ∷ l) h = rw (h a (Memᴰ.head refl), flat_map-same f g l (λ b m. h b (Memᴰ.tail m)))

  -- where each gives k, the whole has k for each
  pub length-flat_map : (k : ℕ) (f : A → List B) (l : List A) → ((a : A) → length (f a) ≡ k) → length (flat_map f l) ≡ k * length l
  unfolding flat_map
  length-flat_map k f [] h = omega arith
  length-flat_map k f (a ∷ l) h = omega (arith, mul-suc k (length l), length-append (f a) (flat_map f l), h a, length-flat_map k f l h)

  -- the lengths add up
  pub length-flat_map-sum : (f : A → List B) (l : List A) → length (flat_map f l) ≡ sum (map (λ a. length (f a)) l)
  unfolding flat_map sum
  length-flat_map-sum f [] = refl
  length-flat_map-sum f (a ∷ l) = rw (length-append, length-flat_map-sum f l)

  -- what stands in one of the lists
  pub mem-flat_map : (f : A → List B) (l : List A) {b : B} → Memᴰ b (flat_map f l) → (a : A) × Memᴰ a l × Memᴰ b (f a)
  unfolding flat_map
  mem-flat_map f [] m = elim m [ ]
  mem-flat_map f (a ∷ l) {b} m = go (Memᴰ.append_cases (f a) m) (mem-flat_map f l) where
    go : Memᴰ b (f a) ⊎ Memᴰ b (flat_map f l) → (Memᴰ b (flat_map f l) → (c : A) × Memᴰ c l × Memᴰ b (f c))
        → (c : A) × Memᴰ c (a ∷ l) × Memᴰ b (f c)
    go (inl here) later = (a, Memᴰ.head refl, here)
    go (inr n) later = let found = later n in (found.0, Memᴰ.tail found.1, found.2)

  pub flat_map-mem : (f : A → List B) {a : A} {l : List A} {b : B} → Memᴰ a l → Memᴰ b (f a) → Memᴰ b (flat_map f l)
  unfolding flat_map
  flat_map-mem f {b = b} (Memᴰ.head {x} {xs} q) n = Memᴰ.append_left (flat_map f xs) (subst (λ z. Memᴰ b (f z)) q n)
  flat_map-mem f (Memᴰ.tail {x} {xs} m) n = Memᴰ.append_right (f x) (flat_map-mem f m n)

  pub flat_map-append : (f : A → List B) (k l : List A) → flat_map f (k ++ l) ≡ flat_map f k ++ flat_map f l
  unfolding flat_map
  flat_map-append f [] l = refl
  flat_map-append f (a ∷ k) l = rw (flat_map-append f k l, append_assoc)

  -- lists of one each
  pub flat_map-ones : (f : A → B) (l : List A) → flat_map (λ a. f a ∷ []) l ≡ map f l
  unfolding flat_map
  flat_map-ones f [] = refl
  flat_map-ones f (a ∷ l) = rw (flat_map-ones f l)

module _ {A B C : Type 0} where
  pub flat_map-map : (f : B → List C) (g : A → B) (l : List A) → flat_map f (map g l) ≡ flat_map (λ a. f (g a)) l
  unfolding flat_map
  flat_map-map f g [] = refl
  flat_map-map f g (a ∷ l) = rw (flat_map-map f g l)

  pub flat_map-flat_map : (f : B → List C) (g : A → List B) (l : List A) → flat_map f (flat_map g l) ≡ flat_map (λ a. flat_map f (g a)) l
  unfolding flat_map
  flat_map-flat_map f g [] = refl
  flat_map-flat_map f g (a ∷ l) = flat_map-append f (g a) (flat_map g l) ∙ rw (flat_map-flat_map f g l)
