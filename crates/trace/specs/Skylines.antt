-- The skyline in its array.
use Rattle.std.specs.Prelude.{ℕ, ◌≤◌, ◌<◌, ◌≡◌, List, length, get_or, take}
use Rattle.trace.specs.declared.skyline.Skyline.{Skyline}

-- the bottoms in use
abbrev pub sky_of : Skyline → List ℕ
sky_of s = take s.used s.bottoms

-- the first column of these from `from` on that stands at this level, or their number
pub record FirstFrom (sky : List ℕ) (from level at : ℕ) : Type 0 where
  pub low : from ≤ at
  pub high : at ≤ length sky
  pub found : at < length sky → get_or sky at 0 ≡ level
  pub before : (x : ℕ) → from ≤ x → x < at → get_or sky x 0 ≡ level → ⊥
