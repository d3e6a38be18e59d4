-- Document 01, refusal 3: "not UTF-8, or a character outside the set".
use Rattle.std.specs.Prelude.{ℕ, zero, suc, ◌+◌, ◌-◌, ◌*◌, Bool, true, false, ◌&&◌, cond, List, [], ◌∷◌, leb, ltb, get_or, Option, None, Some}
use Rattle.std.specs.Bool.{then_some}
use Rattle.seq.specs.Lists.{within, all}
use Rattle.text.specs.Characters.{in_set}
use Rattle.text.specs.declared.Character.{Character}

-- a byte 80 to BF, which goes on with a character
abbrev pub continues : ℕ → Bool
continues b = within 0x80 0xbf b

-- two and three bytes as a number
abbrev pub two_bytes : ℕ → ℕ → ℕ
two_bytes a b = (a - 0xc0) * 64 + (b - 0x80)

abbrev pub three_bytes : ℕ → ℕ → ℕ → ℕ
three_bytes a b c = ((a - 0xe0) * 64 + (b - 0x80)) * 64 + (c - 0x80)

-- a character by its number and its size in bytes
abbrev pub character_of : ℕ → ℕ → Character
character_of value size = record { value = value; size = size }

-- two and three bytes that go on, with a number that fewer bytes could not hold: else it is not UTF-8
unfoldable pub from_two : ℕ → ℕ → Option Character
from_two a b = then_some (continues b && (leb 0x80 (two_bytes a b) && in_set (two_bytes a b))) (character_of (two_bytes a b) 2)

unfoldable pub from_three : ℕ → ℕ → ℕ → Option Character
from_three a b c =
    then_some (continues b && (continues c && (leb 0x800 (three_bytes a b c) && in_set (three_bytes a b c)))) (character_of (three_bytes a b c) 3)

-- The character at the start of the bytes, by its first three. Four bytes are refused unread, since no character of the set takes four.
-- At the end of a line 0 stands for a missing byte: it goes on with nothing and is outside the set
unfoldable pub decoded : ℕ → ℕ → ℕ → Option Character
decoded a b c =
    cond (ltb a 0x80) (then_some (in_set a) (character_of a 1))
    (cond (within 0xc0 0xdf a) (from_two a b) (cond (within 0xe0 0xef a) (from_three a b c) None))

unfoldable pub character : List ℕ → Option Character
character s = decoded (get_or s 0 0) (get_or s 1 0) (get_or s 2 0)

-- a character's number and the byte at which it starts, as Rust's char_indices gives them
pub record CharIndex : Type 0 where
  pub byte : ℕ
  pub value : ℕ

-- The characters from byte `at` on; `skip` bytes still belong to the character before. The list ends where a character is refused
abbrev pub chars_step : ℕ → Option Character → (ℕ → List CharIndex) → List CharIndex
chars_step at (Some found) next = record { byte = at; value = found.value } ∷ next (found.size - 1)
chars_step at None next = []

unfoldable pub chars_from : ℕ → ℕ → List ℕ → List CharIndex
chars_from at skip [] = []
chars_from at zero (b ∷ bs) = chars_step at (character (b ∷ bs)) (λ k. chars_from (at + 1) k bs)
chars_from at (suc skip) (b ∷ bs) = chars_from (at + 1) skip bs

abbrev pub char_indices : List ℕ → List CharIndex
char_indices line = chars_from 0 0 line

abbrev pub well_step : Option Character → (ℕ → Bool) → Bool
well_step (Some found) next = next (found.size - 1)
well_step None next = false

-- is a line UTF-8 throughout, with each of its characters in the set
unfoldable pub well_from : ℕ → List ℕ → Bool
well_from skip [] = true
well_from zero (b ∷ bs) = well_step (character (b ∷ bs)) (λ k. well_from k bs)
well_from (suc skip) (b ∷ bs) = well_from skip bs

abbrev pub well_formed : List ℕ → Bool
well_formed line = well_from 0 line

-- a line of characters 20 to 7E alone: a byte and a column each
unfoldable pub plain : List ℕ → Bool
plain line = all (λ b. within 0x20 0x7e b) line
