-- A character that is met without being decoded.
use Rattle.std.specs.Prelude.{ℕ, ◌≡◌, List, drop, Some}
use Rattle.text.specs.Utf8.{character_of, character}

-- `size` bytes at a place are a character of the set
abbrev pub Sized : List ℕ → ℕ → ℕ → Type 0
Sized s at size = (v : ℕ) × (character (drop at s) ≡ Some (character_of v size))
