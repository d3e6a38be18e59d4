-- What holds of each entry before place i, and of what is set there, holds of each entry before i + 1 (`each_set`); the same of two lists
-- (`each-set-both`).
use Prim.Native.Nat.{ℕ, ◌+◌, ◌<◌}
use mathlib.Core.Path.{◌≡◌}
use mathlib.Core.Logic.{⊎_elim}
use mathlib.Core.List.{List}
use native.Mathlib.Nat.{eq-or-lt_of_le}
use native.Mathlib.Omega.{arith}
use lib.ListN.{length, get_or, set}
use lib.Seq.{get_or-set_same, get_or-set_other}

pub each_set : (P : ℕ → ℕ → Type 0) (l : List ℕ) (i v : ℕ) → i < length l → P i v → ((j : ℕ) → j < i → P j (get_or l j 0))
    → (j : ℕ) → j < i + 1 → P j (get_or (set l i v) j 0)
each_set P l i v room new old j low =
    ⊎_elim (λ (is : j ≡ i). rw (is, get_or-set_same l i v 0 room) new)
    (λ (before : j < i). rw (get_or-set_other l i j v 0 (λ e. omega arith)) (old j before)) (eq-or-lt_of_le (omega arith))

pub each-set-both : (P : ℕ → ℕ → ℕ → Type 0) (k l : List ℕ) (i u v : ℕ) → i < length k → i < length l → P i u v
    → ((j : ℕ) → j < i → P j (get_or k j 0) (get_or l j 0)) → (j : ℕ) → j < i + 1 → P j (get_or (set k i u) j 0) (get_or (set l i v) j 0)
each-set-both P k l i u v room room' new old j low =
    ⊎_elim (λ (is : j ≡ i). rw (is, get_or-set_same k i u 0 room, get_or-set_same l i v 0 room') new)
    (λ (before : j < i). rw (get_or-set_other k i j u 0 (λ e. omega arith), get_or-set_other l i j v 0 (λ e. omega arith)) (old j before))
    (eq-or-lt_of_le (omega arith))
