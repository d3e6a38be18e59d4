-- Document 01, "Slots".
use Rattle.std.specs.Prelude.{ℕ, ◌+◌, Bool, true, false, ◌&&◌, ◌||◌, cond, List, [], ◌∷◌, ◌++◌, map, length, get_or, replicate, eqb, ltb}
use Rattle.seq.specs.Lists.{up_to, select}
use Rattle.text.specs.Characters.{plus, span}
use Rattle.text.specs.Utf8.{CharIndex, char_indices}
use Rattle.text.specs.Trim.{trim_end}
use Rattle.text.specs.Rule.{is_rule}
use Rattle.grid.specs.Values.{Line, no_line}

abbrev pub dash : ℕ
dash = 0x2d

abbrev pub equals : ℕ
equals = 0x3d

abbrev pub pipe : ℕ
pipe = 0x7c

pub data Glyph : Type 0 where
  Plus Dash Pipe Other : Glyph

abbrev pub is_plus : Glyph → Bool
is_plus Plus = true
is_plus Dash = false
is_plus Pipe = false
is_plus Other = false

-- "`-` is horizontal, `|` vertical, `+` both"
abbrev pub horizontal : Glyph → Bool
horizontal Plus = true
horizontal Dash = true
horizontal Pipe = false
horizontal Other = false

abbrev pub vertical : Glyph → Bool
vertical Plus = true
vertical Dash = false
vertical Pipe = true
vertical Other = false

-- on a rule line "everything but `+` counts as horizontal"
unfoldable pub glyph_of : Bool → ℕ → Glyph
glyph_of rule c = cond (eqb c plus) Plus (cond (rule || eqb c dash) Dash (cond (eqb c pipe) Pipe Other))

-- a slot: its glyph, and the byte at which the character in it starts
pub record Slot : Type 0 where
  pub glyph : Glyph
  pub byte : ℕ

-- "A zero-width character takes no slot, a wide one or a tab several of the same glyph."
unfoldable pub slots_from : Bool → ℕ → List CharIndex → List Slot
slots_from rule column [] = []
slots_from rule column (c ∷ cs) =
    replicate (span column c.value) (record { glyph = glyph_of rule c.value; byte = c.byte })
    ++ slots_from rule (column + span column c.value) cs

unfoldable pub line_slots : Bool → Line → List Slot
line_slots rule line = slots_from rule line.column (char_indices (trim_end line.text))

-- line r of a drawing, trimmed
abbrev pub trimmed_at : List Line → ℕ → List ℕ
trimmed_at lines r = trim_end (get_or lines r no_line).text

-- "each later line that is an `=` rule (a part separator)"
unfoldable pub is_separator : List Line → ℕ → Bool
is_separator lines r = ltb 0 r && is_rule equals (trimmed_at lines r)

abbrev pub separators : List Line → List ℕ
separators lines = select (is_separator lines) (up_to (length lines))

-- the slots of each line; `Line 0, and each later line that is an = rule, is a rule line`
abbrev pub slot_rows : List Line → List (List Slot)
slot_rows lines =
    map (λ r. line_slots (eqb r 0 || is_separator lines r) (get_or lines r no_line)) (up_to (length lines))

-- a drawing as a grid of slots; "Width is the trimmed length of line 0"
pub record Grid : Type 0 where
  pub width : ℕ
  pub height : ℕ
  pub rows : List (List Slot)
  pub separators : List ℕ

unfoldable pub grid_of : List Line → Grid
grid_of lines =
    record { width = length (trimmed_at lines 0); height = length lines; rows = slot_rows lines; separators = separators lines }

-- line y, column x: past the drawing there is no border
unfoldable pub slot_at : Grid → ℕ → ℕ → Slot
slot_at g y x = get_or (get_or g.rows y []) x (record { glyph = Other; byte = 0 })

abbrev pub glyph_at : Grid → ℕ → ℕ → Glyph
glyph_at g y x = (slot_at g y x).glyph

abbrev pub byte_at : Grid → ℕ → ℕ → ℕ
byte_at g y x = (slot_at g y x).byte
