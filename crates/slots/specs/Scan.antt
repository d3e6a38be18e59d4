-- What scanning leaves: while a line's characters are checked, its slots and their number are written down.
use Rattle.std.specs.Prelude.{ℕ, ◌+◌, ◌*◌, ◌≤◌, ◌<◌, ◌≡◌, Bool, true, false, cond, List, ltb, length, get_or, take, drop, replicate, Option, Some, None}
use Rattle.text.specs.declared.Column.{Column}
use Rattle.text.specs.Utf8.{chars_from, char_indices, well_from, well_formed, plain}
use Rattle.text.specs.Trim.{trim_end}
use Rattle.grid.specs.Values.{Line, no_line}
use Rattle.grid.specs.Slots.{Slot, glyph_of, slots_from}
use Rattle.grid.specs.LayoutCall.{slot_space}
use Rattle.representation.specs.Arrays.{glyph_code, glyph_codes, slot_bytes}
use Rattle.slots.specs.Replaced.{replaced}

-- the slots of a trimmed line that is no rule
abbrev pub scanned_slots : List ℕ → ℕ → List Slot
scanned_slots line column = slots_from false column (char_indices line)

-- slots of one character put down in an array of slots, where they fit
pub record PutWithin (at n count value byte : ℕ) (glyphs offsets glyphs' offsets' : List ℕ) : Type 0 where
  pub glyphs_kept : length glyphs' ≡ length glyphs
  pub offsets_kept : length offsets' ≡ length offsets
  pub glyphs_before : take at glyphs' ≡ take at glyphs
  pub offsets_before : take at offsets' ≡ take at offsets
  pub glyphs_put : n + count ≤ 128 → glyphs' ≡ replaced glyphs (at + n) (replicate count (glyph_code (glyph_of false value)))
  pub offsets_put : n + count ≤ 128 → offsets' ≡ replaced offsets (at + n) (replicate count byte)

-- the characters between two bytes of a line are in the set and take no slot
pub record MarksPassed (line : List ℕ) (from to : ℕ) : Type 0 where
  pub forward : from ≤ to
  pub in_line : to ≤ length line
  pub well : well_from 0 (drop from line) ≡ well_from 0 (drop to line)
  pub slotless : (column : ℕ) → slots_from false column (chars_from from 0 (drop from line)) ≡ slots_from false column (chars_from to 0 (drop to line))

-- a line's slots in the arrays, unless there are more than 128
pub record LineLeft (slots : List Slot) (at : ℕ) (glyphs offsets : List ℕ) : Type 0 where
  pub glyphs_left : length slots ≤ 128 → take (length slots) (drop at glyphs) ≡ glyph_codes slots
  pub offsets_left : length slots ≤ 128 → take (length slots) (drop at offsets) ≡ slot_bytes slots

-- a trimmed line that is UTF-8 of the set takes its columns, and leaves its slots
pub record LineScanned (line : List ℕ) (column at : ℕ) (glyphs offsets glyphs' offsets' : List ℕ) (r : Option Column) : Type 0 where
  pub glyphs_kept : length glyphs' ≡ length glyphs
  pub offsets_kept : length offsets' ≡ length offsets
  pub glyphs_before : take at glyphs' ≡ take at glyphs
  pub offsets_before : take at offsets' ≡ take at offsets
  pub well : (n : Column) → r ≡ Some n → well_formed line ≡ true
  pub counted : (n : Column) → r ≡ Some n → n.0 ≡ length (scanned_slots line column)
  pub left : (n : Column) → r ≡ Some n → LineLeft (scanned_slots line column) at glyphs' offsets'
  pub outside : r ≡ None → well_formed line ≡ false

-- how many slots, more than 128 as 129; 255 of a plain line, whose slots are its bytes
abbrev pub clipped : ℕ → ℕ
clipped n = cond (ltb 128 n) 129 n

-- a trimmed line's slots counted and left
pub record LineCounted (line : List ℕ) (column at : ℕ) (glyphs offsets : List ℕ) (count : ℕ) : Type 0 where
  pub counted : count ≡ clipped (length (scanned_slots line column))
  pub left : LineLeft (scanned_slots line column) at glyphs offsets

pub record LineKnown (text : List ℕ) (column at : ℕ) (glyphs offsets : List ℕ) (count : ℕ) : Type 0 where
  pub plain_line : count ≡ 255 → plain text ≡ true
  pub other : (count ≡ 255 → ⊥) → LineCounted (trim_end text) column at glyphs offsets count

-- of each line of a drawing
abbrev pub SheetScanned : (lines : List Line) → (glyphs offsets counts : List ℕ) → Type 0
SheetScanned lines glyphs offsets counts =
    (y : ℕ) → y < length lines → LineKnown (get_or lines y no_line).text (get_or lines y no_line).column (y * 128) glyphs offsets (get_or counts y 0)

-- a line within the limits, and room for what is known of it
pub record ScanRoom (text : List ℕ) (column y : ℕ) (glyphs offsets counts : List ℕ) : Type 0 where
  pub short_line : length text ≤ 512
  pub near_column : column ≤ 255
  pub few_lines : y < 128
  pub glyph_room : slot_space ≤ length glyphs
  pub offset_room : slot_space ≤ length offsets
  pub count_room : 128 ≤ length counts

-- line y scanned: whether it is UTF-8 of the set, and what is known of it
pub record NextScanned (text : List ℕ) (column y : ℕ) (glyphs offsets counts glyphs' offsets' counts' : List ℕ) (r : Bool) : Type 0 where
  pub glyphs_kept : length glyphs' ≡ length glyphs
  pub offsets_kept : length offsets' ≡ length offsets
  pub counts_kept : length counts' ≡ length counts
  pub glyphs_before : take (y * 128) glyphs' ≡ take (y * 128) glyphs
  pub offsets_before : take (y * 128) offsets' ≡ take (y * 128) offsets
  pub counts_before : (k : ℕ) → k < y → get_or counts' k 0 ≡ get_or counts k 0
  pub told : r ≡ well_formed text
  pub known : r ≡ true → LineKnown text column (y * 128) glyphs' offsets' (get_or counts' y 0)
