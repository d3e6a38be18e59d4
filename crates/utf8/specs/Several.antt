-- Whether a character of several bytes stands at a place.
use Rattle.std.specs.Prelude.{ℕ, ◌≤◌, ◌<◌, ◌≡◌, Bool, true, false, List, drop, get_or, None, Some}
use Rattle.text.specs.Utf8.{character_of, character}

-- `size` bytes at a place are a character of the set, or none stands there
pub record Whole (s : List ℕ) (at size : ℕ) (r : Bool) : Type 0 where
  pub whole : r ≡ true → (v : ℕ) × (character (drop at s) ≡ Some (character_of v size))
  pub none : r ≡ false → character (drop at s) ≡ None

-- a mark stands at a place: by its first byte it takes no column
pub record MarkAt (s : List ℕ) (at : ℕ) : Type 0 where
  pub mark : Whole s at 2 true
  pub low : 0xcc ≤ get_or s at 0
  pub high : get_or s at 0 < 0xe0
