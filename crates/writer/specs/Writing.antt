-- What a writer leaves: what fits of the bytes that it puts down, and the place after all of them.
use Rattle.std.specs.Prelude.{ℕ, zero, suc, ◌+◌, ◌≡◌, List, [], ◌∷◌, length}

-- a buffer with `part` put down from `at` on, as far as the buffer reaches
unfoldable pub put_down : List ℕ → ℕ → List ℕ → List ℕ
put_down [] at part = []
put_down (b ∷ bs) (suc at) part = b ∷ put_down bs at part
put_down (b ∷ bs) zero [] = b ∷ bs
put_down (b ∷ bs) zero (p ∷ ps) = p ∷ put_down bs zero ps

pub record Wrote (before : List ℕ) (at : ℕ) (part : List ℕ) (after : List ℕ) (r : ℕ) : Type 0 where
  pub bytes : after ≡ put_down before at part
  pub next : r ≡ at + length part
