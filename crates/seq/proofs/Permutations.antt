-- Lists that are the same up to order: one element taken out, lengths, tests and membership.
use Prim.Native.Nat.{suc}
use mathlib.Core.Path.{◌≡◌, refl, ap, ◌∙◌}
use mathlib.Core.Bool.{Bool}
use mathlib.Core.List.Permᴰ
use mathlib.Core.List.{List, ◌∷◌, Memᴰ, Permᴰ}
use native.Mathlib.Omega.{arith}
use lib.ListN.{length}
use Rattle.seq.specs.Lists.{count}
use Rattle.seq.proofs.Searches.{count-cons}

module _ {A : Type 0} where
  -- the list without the element at that place
  unfoldable pub without : {a : A} {l : List A} → Memᴰ a l → List A
  without (Memᴰ.head {xs} e) = xs
  without (Memᴰ.tail {x} m) = x ∷ without m

  pub perm-without : {a : A} {l : List A} (m : Memᴰ a l) → Permᴰ (a ∷ without m) l
  unfolding without
  perm-without (Memᴰ.head {xs} e) = Permᴰ.cons e (Permᴰ.refl xs)
  perm-without (Memᴰ.tail m) = Permᴰ.trans (Permᴰ.swap refl refl) (Permᴰ.cons refl (perm-without m))

  pub perm-length : {k l : List A} → Permᴰ k l → length k ≡ length l
  perm-length Permᴰ.nil = refl
  perm-length (Permᴰ.cons e p) = ap suc (perm-length p)
  perm-length (Permᴰ.swap e f) = refl
  perm-length (Permᴰ.trans p q) = perm-length p ∙ perm-length q

  pub perm-count : (test : A → Bool) {k l : List A} → Permᴰ k l → count test k ≡ count test l
  perm-count test Permᴰ.nil = refl
  perm-count test (Permᴰ.cons {a} {b} {l₁} {l₂} e p) = rw (e, count-cons test b l₁, count-cons test b l₂, perm-count test p)
  perm-count test (Permᴰ.swap {a} {b} {a'} {b'} {l} e f) =
      rw (e, f) (omega (arith, count-cons test b' (a' ∷ l), count-cons test a' l, count-cons test a' (b' ∷ l), count-cons test b' l))
  perm-count test (Permᴰ.trans p q) = perm-count test p ∙ perm-count test q

  pub perm-mem : {a : A} {k l : List A} → Permᴰ k l → Memᴰ a k → Memᴰ a l
  perm-mem Permᴰ.nil m = m
  perm-mem (Permᴰ.cons e p) (Memᴰ.head q) = Memᴰ.head (q ∙ e)
  perm-mem (Permᴰ.cons e p) (Memᴰ.tail m) = Memᴰ.tail (perm-mem p m)
  perm-mem (Permᴰ.swap e f) (Memᴰ.head q) = Memᴰ.tail (Memᴰ.head (q ∙ e))
  perm-mem (Permᴰ.swap e f) (Memᴰ.tail (Memᴰ.head q)) = Memᴰ.head (q ∙ f)
  perm-mem (Permᴰ.swap e f) (Memᴰ.tail (Memᴰ.tail m)) = Memᴰ.tail (Memᴰ.tail m)
  perm-mem (Permᴰ.trans p q) m = perm-mem q (perm-mem p m)
