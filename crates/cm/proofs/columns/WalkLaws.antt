-- Laws of the columns of a text, character by character, and of one without a tab.
use Rattle.std.specs.Prelude.{Some}
use Rattle.text.specs.declared.Character.{Character}
use Prim.Native.Nat.{ℕ, ◌+◌, ◌*◌, ◌-◌, ◌^◌, ◌≤◌, ◌<◌}
use mathlib.Core.Path.{◌≡◌, sym, ◌∙◌}
use mathlib.Core.Bool.{Bool, true, false}
use mathlib.Core.List.{List, []}
use native.Mathlib.Omega.{arith}
use native.Mathlib.Nat.{add-zero, add_assoc}
use lib.ListN.{length, drop, drop_of_length-le}
use Rattle.text.specs.Characters.{span}
use Rattle.seq.specs.Lists.{any}
use Rattle.text.specs.Columns.{columns_from, is_tab, added_columns}
use Rattle.text.specs.Utf8.{character, chars_from, char_indices, well_formed}
use Rattle.text.proofs.Utf8Laws.{chars-next, well-next, size_fits}
use Rattle.text.proofs.CharactersLaws.{span-four-columns-at-most}
use Rattle.text.proofs.ByteColumnsLaws.{added_columns-from}

-- the characters before `byte` take n columns
pub record Walked (line : List ℕ) (first byte n : ℕ) : Type 0 where
  pub in_line : byte ≤ length line
  pub well : well_formed (drop byte line) ≡ true
  pub few : n ≤ 4 * byte
  pub left : n + columns_from (first + n) (chars_from byte 0 (drop byte line)) ≡ columns_from first (char_indices line)

pub walked_none : (line : List ℕ) (first : ℕ) → well_formed line ≡ true → Walked line first 0 0
walked_none line first well = record { in_line = omega arith; well = well; few = omega arith; left = rw (add-zero first) (omega arith) }

module _ (line : List ℕ) (first byte n : ℕ) (so_far : Walked line first byte n) where
  pub walked_all : length line ≤ byte → n ≡ columns_from first (char_indices line)
  unfolding chars_from columns_from
  walked_all h = let none : drop byte line ≡ [] = drop_of_length-le line h in omega (arith, rw none at so_far.left)

  pub columns-room : first ≤ 1024 → length line ≤ 512 → first + n < 2 ^ 64
  columns-room u w = omega (arith, so_far.in_line, so_far.few)

  module _ (c : Character) (count : ℕ) (is : character (drop byte line) ≡ Some c) (spans : count ≡ span (first + n) c.value) where
    pub walked_next : Walked line first (byte + c.size) (n + count)
    unfolding columns_from
    walked_next =
        let fits = size_fits line byte c is in
        let four = span-four-columns-at-most (first + n) c.value in
        let ahead : n + (span (first + n) c.value + columns_from (first + n + span (first + n) c.value) (chars_from (byte + c.size) 0 (drop (byte + c.size) line))) ≡ columns_from first (char_indices line) =
        rw (chars-next line byte c is) at so_far.left in
        record {
          in_line = fits.1;
          well = sym (well-next line byte c is) ∙ so_far.well;
          few = omega (arith, so_far.few, fits.0);
          left = rw (spans, ← add_assoc first n (span (first + n) c.value)) (omega (arith, ahead));
        }

    pub columns-sum : length line ≤ 512 → n + count < 2 ^ 64
    columns-sum w = omega (arith, so_far.in_line, so_far.few, span-four-columns-at-most (first + n) c.value)

  module _ (c : Character) (is : character (drop byte line) ≡ Some c) where
    pub bytes-room : length line ≤ 512 → byte + c.size < 2 ^ 64
    bytes-room h = omega (arith, (size_fits line byte c is).1)

    pub bytes_left : length line - (byte + c.size) < length line - byte
    bytes_left = let (some, fits) = size_fits line byte c is in omega arith

-- where there is no tab, what the bytes add
pub added-columns : (line : List ℕ) (first n : ℕ) (t : Bool) → well_formed line ≡ true → t ≡ any is_tab line → t ≡ false → n ≡ added_columns line → n ≡ columns_from first (char_indices line)
added-columns line first n t well is none e = e ∙ added_columns-from line well first (sym is ∙ none)
