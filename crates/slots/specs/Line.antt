-- What filling the slots of one line leaves.
use Rattle.std.specs.Prelude.{ℕ, ◌≡◌, Bool, true, false, ◌||◌, List, length, eqb}
use Rattle.text.specs.Utf8.{char_indices}
use Rattle.grid.specs.Slots.{Slot, slots_from}
use Rattle.representation.specs.Arrays.{glyph_codes, slot_bytes}
use Rattle.slots.specs.Replaced.{replaced}
use Rattle.slots.specs.Scan.{LineCounted}

-- one line's slots
pub record LineFilled (slots : List Slot) (at width : ℕ) (glyphs offsets glyphs' offsets' : List ℕ) (full : Bool) : Type 0 where
  pub glyphs_kept : length glyphs' ≡ length glyphs
  pub offsets_kept : length offsets' ≡ length offsets
  pub answer : full ≡ eqb (length slots) width
  pub glyphs_hold : full ≡ true → glyphs' ≡ replaced glyphs at (glyph_codes slots)
  pub offsets_hold : full ≡ true → offsets' ≡ replaced offsets at (slot_bytes slots)

-- of whatever column the line has with which it was scanned, unless it is plain
abbrev pub FilledLine : (line : List ℕ) → Bool → ℕ → ℕ → ℕ → (glyphs offsets glyphs' offsets' : List ℕ) → Bool → Type 0
FilledLine line rule count at width glyphs offsets glyphs' offsets' full =
    (column : ℕ) → (rule || eqb count 255 ≡ false → LineCounted line column at glyphs offsets count)
    → LineFilled (slots_from rule column (char_indices line)) at width glyphs offsets glyphs' offsets' full
