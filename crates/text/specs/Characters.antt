-- Document 01, "Characters": the set, and the columns that each of its characters takes.
use Rattle.std.specs.Prelude.{ℕ, ◌-◌, ◌%◌, Bool, ◌||◌, cond, eqb, Option, None, Some, is_some, unwrap_or}
use Rattle.seq.specs.Lists.{within}

abbrev pub space : ℕ
space = 0x20

abbrev pub tab : ℕ
tab = 0x09

abbrev pub plus : ℕ
plus = 0x2b

abbrev pub colon : ℕ
colon = 0x3a

-- "One column: 20-7E, A1-AC, AE-17F."
abbrev pub takes_one : ℕ → Bool
takes_one c = within 0x20 0x7e c || (within 0xa1 0xac c || within 0xae 0x17f c)

-- "None: 300-36F."
abbrev pub takes_none : ℕ → Bool
takes_none c = within 0x300 0x36f c

-- "Two: 3041-3096, 30A1-30FA, 4E00-9FFF, AC00-D7A3, FF01-FF60."
abbrev pub takes_two : ℕ → Bool
takes_two c = within 0x3041 0x3096 c || (within 0x30a1 0x30fa c || (within 0x4e00 0x9fff c || (within 0xac00 0xd7a3 c || within 0xff01 0xff60 c)))

-- the stand-in for `width` of the unicode-width crate, none outside the set. A tab is not in it: its columns depend on where it stands
unfoldable pub width_of : ℕ → Option ℕ
width_of c = cond (takes_one c) (Some 1) (cond (takes_none c) (Some 0) (cond (takes_two c) (Some 2) None))

-- "A tab takes 4 minus (column mod 4) columns."
unfoldable pub tab_columns : ℕ → ℕ
tab_columns column = 4 - column % 4

-- "Nothing else is in the set": a tab, or a character that the stand-in knows
unfoldable pub in_set : ℕ → Bool
in_set c = eqb c tab || is_some (width_of c)

-- the columns that a character takes where it stands, 0 outside the set
unfoldable pub span : ℕ → ℕ → ℕ
span column c = cond (eqb c tab) (tab_columns column) (unwrap_or (width_of c) 0)
