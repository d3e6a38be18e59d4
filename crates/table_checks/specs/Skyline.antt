-- The skyline of the cells placed so far: for each column the row up to which it is covered.
use Rattle.std.specs.Prelude.{ℕ, ◌-◌, ◌<◌, ◌≡◌, Bool, ◌&&◌, cond, List, eqb, leb, ltb, length, get_or}
use Rattle.seq.specs.Lists.{range, all}

-- those from `from` up to `to` are all at this level
unfoldable pub all_at : List ℕ → (from to level : ℕ) → Bool
all_at levels from to level = all (λ x. eqb (get_or levels x 0) level) (range from (to - from))

-- columns left up to right stand at this bottom, the others as before
pub record Raised (old : List ℕ) (left right bottom : ℕ) (new : List ℕ) : Type 0 where
  pub room : length new ≡ 128
  pub level : (x : ℕ) → x < 128 → get_or new x 0 ≡ cond (leb left x && ltb x right) bottom (get_or old x 0)
