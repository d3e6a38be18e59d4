-- Arrays with entries replaced.
use Rattle.std.specs.Prelude.{ℕ, ◌+◌, Bool, List, ◌++◌, map, length, take, drop}
use Rattle.grid.specs.Slots.{glyph_of}
use Rattle.representation.specs.Arrays.{glyph_code}

-- an array with n entries from `at` on replaced
abbrev pub replaced : List ℕ → ℕ → List ℕ → List ℕ
replaced array at entries = take at array ++ entries ++ drop (at + length entries) array

-- the glyphs of a line whose bytes are its characters
abbrev pub byte_codes : Bool → List ℕ → List ℕ
byte_codes rule line = map (λ (b : ℕ). glyph_code (glyph_of rule b)) line
