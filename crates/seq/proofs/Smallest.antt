-- Laws of the smallest of a list.
use Prim.Native.Nat.{ℕ, ◌≤◌, ◌<◌}
use mathlib.Core.Path.{refl}
use mathlib.Core.Logic.{⊎_elim}
use mathlib.Core.List.Memᴰ
use mathlib.Core.List.{List, [], ◌∷◌, Memᴰ}
use native.Mathlib.Omega.{arith}
use lib.ListN.{length}
use Rattle.seq.specs.Lists.{smallest}
use Rattle.seq.proofs.Tests.{le-or-lt}

pub smallest-le : (l : List ℕ) {n : ℕ} → Memᴰ n l → smallest l ≤ n
unfolding smallest
smallest-le [] {n = n} x' = elim x' [ ]
smallest-le (a ∷ []) (Memᴰ.head e) = omega arith
smallest-le (a ∷ []) (Memᴰ.tail m) = elim m [ ]
smallest-le (a ∷ b ∷ l) (Memᴰ.head e) = omega arith
smallest-le (a ∷ b ∷ l) (Memᴰ.tail m) = omega (arith, smallest-le (b ∷ l) m)

pub smallest-mem : (l : List ℕ) → 0 < length l → Memᴰ (smallest l) l
unfolding smallest
smallest-mem [] h = absurd (omega arith)
smallest-mem (a ∷ []) h = Memᴰ.head refl
smallest-mem (a ∷ b ∷ l) h =
    ⊎_elim (λ (k : a ≤ smallest (b ∷ l)). Memᴰ.head (omega arith)) (λ (k : smallest (b ∷ l) < a). Memᴰ.tail (Memᴰ.cast (omega arith) (smallest-mem (b ∷ l) (omega arith))))
    (le-or-lt a (smallest (b ∷ l)))
