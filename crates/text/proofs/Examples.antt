-- Computed examples of the definitions, at their edges. Each is settled by computing both sides.
use Rattle.std.specs.Prelude.{Option, None, Some}
use Rattle.text.specs.declared.Character.{Character}
use Prim.Native.Nat.{ℕ}
use Prim.Native.String.{String}
use mathlib.Core.Path.{◌≡◌, refl}
use mathlib.Core.Bool.{Bool, true, false}
use mathlib.Core.List.{List, [], ◌∷◌, map}
use Rattle.seq.specs.Lists.{all}
use Rattle.seq.specs.Ascii.{ascii}
use Rattle.text.specs.Characters.{width_of, tab_columns, in_set, span}
use Rattle.text.specs.Utf8.{character_of, continues, from_two, from_three, decoded, character, chars_from, char_indices, well_from, well_formed}
use Rattle.text.specs.Trim.{trim_end}
use Rattle.text.specs.Rule.{to_plus, parts_at_plus, drop_trailing_colon, fills, is_segment, closed_segments, is_rule}

-- ---- widths: below, at and above each end of the ranges
-- the widths of characters
unfoldable widths : List ℕ → List (Option ℕ)
unfolding width_of
widths = map width_of

one-column-ascii : widths (0x1f ∷ 0x20 ∷ 0x7e ∷ 0x7f ∷ []) ≡ None ∷ Some 1 ∷ Some 1 ∷ None ∷ []
unfolding widths
one-column-ascii = refl

one-column-latin : widths (0xa0 ∷ 0xa1 ∷ 0xac ∷ 0xad ∷ 0xae ∷ 0x17f ∷ 0x180 ∷ []) ≡ None ∷ Some 1 ∷ Some 1 ∷ None ∷ Some 1 ∷ Some 1 ∷ None ∷ []
unfolding widths
one-column-latin = refl

marks-take-none : widths (0x2ff ∷ 0x300 ∷ 0x36f ∷ 0x370 ∷ []) ≡ None ∷ Some 0 ∷ Some 0 ∷ None ∷ []
unfolding widths
marks-take-none = refl

two-columns-kana : widths (0x3040 ∷ 0x3041 ∷ 0x3096 ∷ 0x3097 ∷ 0x30a0 ∷ 0x30a1 ∷ 0x30fa ∷ 0x30fb ∷ []) ≡ None ∷ Some 2 ∷ Some 2 ∷ None ∷ None ∷ Some 2 ∷ Some 2 ∷ None ∷ []
unfolding widths
two-columns-kana = refl

two-columns-han-and-hangul : widths (0x4dff ∷ 0x4e00 ∷ 0x9fff ∷ 0xa000 ∷ 0xabff ∷ 0xac00 ∷ 0xd7a3 ∷ 0xd7a4 ∷ []) ≡ None ∷ Some 2 ∷ Some 2 ∷ None ∷ None ∷ Some 2 ∷ Some 2 ∷ None ∷ []
unfolding widths
two-columns-han-and-hangul = refl

two-columns-full-width : widths (0xff00 ∷ 0xff01 ∷ 0xff60 ∷ 0xff61 ∷ []) ≡ None ∷ Some 2 ∷ Some 2 ∷ None ∷ []
unfolding widths
two-columns-full-width = refl

a-tab-has-no-width : width_of 9 ≡ None
unfolding widths
a-tab-has-no-width = refl

-- ---- tabs, the set and spans
tab-at-each-column : map tab_columns (0 ∷ 1 ∷ 2 ∷ 3 ∷ 4 ∷ []) ≡ 4 ∷ 3 ∷ 2 ∷ 1 ∷ 4 ∷ []
unfolding tab_columns
tab-at-each-column = refl

in-and-out-of-the-set : map in_set (0 ∷ 9 ∷ 0xa ∷ 0x61 ∷ 0x7f ∷ 0xad ∷ 0x300 ∷ 0x6f22 ∷ []) ≡ false ∷ true ∷ false ∷ true ∷ false ∷ false ∷ true ∷ true ∷ []
unfolding in_set widths
in-and-out-of-the-set = refl

-- a tab, a letter, a mark, a wide character, one outside the set
spans-at-column-one : map (span 1) (9 ∷ 0x61 ∷ 0x300 ∷ 0x6f22 ∷ 0x7f ∷ []) ≡ 3 ∷ 1 ∷ 0 ∷ 2 ∷ 0 ∷ []
unfolding span tab_columns widths
spans-at-column-one = refl

-- ---- UTF-8
-- the character at the start of the bytes
unfoldable read : List ℕ → Option Character
unfolding character decoded from_two from_three in_set width_of
read s = character s

one_byte : read (0x61 ∷ []) ≡ Some (character_of 0x61 1)
unfolding read
one_byte = refl

a-tab : read (9 ∷ []) ≡ Some (character_of 9 1)
unfolding read
a-tab = refl

two_bytes : read (0xc3 ∷ 0xa9 ∷ []) ≡ Some (character_of 0xe9 2)
unfolding read
two_bytes = refl

three-bytes : read (0xe6 ∷ 0xbc ∷ 0xa2 ∷ []) ≡ Some (character_of 0x6f22 3)
unfolding read
three-bytes = refl

first-of-two-bytes : read (0xc2 ∷ 0xa1 ∷ []) ≡ Some (character_of 0xa1 2)
unfolding read
first-of-two-bytes = refl

last-of-three-bytes : read (0xef ∷ 0xbd ∷ 0xa0 ∷ []) ≡ Some (character_of 0xff60 3)
unfolding read
last-of-three-bytes = refl

-- 61 in two bytes
overlong-two : read (0xc1 ∷ 0xa1 ∷ []) ≡ None
unfolding read
overlong-two = refl

-- E9 in three bytes
overlong-three : read (0xe0 ∷ 0x83 ∷ 0xa9 ∷ []) ≡ None
unfolding read
overlong-three = refl

truncated-two : read (0xc3 ∷ []) ≡ None
unfolding read
truncated-two = refl

truncated-three : read (0xe6 ∷ 0xbc ∷ []) ≡ None
unfolding read
truncated-three = refl

broken-two : read (0xc3 ∷ 0x28 ∷ []) ≡ None
unfolding read
broken-two = refl

broken-three : read (0xe6 ∷ 0xbc ∷ 0x28 ∷ []) ≡ None
unfolding read
broken-three = refl

surrogate : read (0xed ∷ 0xa0 ∷ 0x80 ∷ []) ≡ None
unfolding read
surrogate = refl

four_bytes : read (0xf0 ∷ 0x9f ∷ 0x98 ∷ 0x80 ∷ []) ≡ None
unfolding read
four_bytes = refl

starts-inside : read (0x80 ∷ 0x61 ∷ []) ≡ None
unfolding read
starts-inside = refl

outside-the-set : read (0x7f ∷ []) ≡ None
unfolding read
outside-the-set = refl

no_byte : read [] ≡ None
unfolding read
no_byte = refl

bytes-that-go-on : map continues (0x7f ∷ 0x80 ∷ 0xbf ∷ 0xc0 ∷ []) ≡ false ∷ true ∷ true ∷ false ∷ []
bytes-that-go-on = refl

where-characters-start : char_indices (0x61 ∷ 0xc3 ∷ 0xa9 ∷ 0x7c ∷ []) ≡ record { byte = 0; value = 0x61 } ∷ record { byte = 1; value = 0xe9 } ∷ record { byte = 3; value = 0x7c } ∷ []
unfolding chars_from read
where-characters-start = refl

characters-end-where-refused : char_indices (0x61 ∷ 0xff ∷ 0x61 ∷ []) ≡ record { byte = 0; value = 0x61 } ∷ []
unfolding chars_from read
characters-end-where-refused = refl

a-well-formed-line : well_formed (0x61 ∷ 0xe6 ∷ 0xbc ∷ 0xa2 ∷ 0x7c ∷ []) ≡ true
unfolding well_from read
a-well-formed-line = refl

not-well-formed : well_formed (0x61 ∷ 0xe6 ∷ 0xbc ∷ []) ≡ false
unfolding well_from read
not-well-formed = refl

-- ---- trimming
-- a line in quotes, trimmed
unfoldable trimmed : String → List ℕ
unfolding trim_end ascii
trimmed line = trim_end (ascii line)

spaces-go : trimmed "ab  " ≡ ascii "ab"
unfolding trimmed
spaces-go = refl

inner-blanks-stay : trimmed "  a b" ≡ ascii "  a b"
unfolding trimmed
inner-blanks-stay = refl

blanks-alone : trimmed "   " ≡ []
unfolding trimmed
blanks-alone = refl

nothing-to-trim : trimmed "" ≡ []
unfolding trimmed
nothing-to-trim = refl

tabs-go : trim_end (0x61 ∷ 9 ∷ 0x62 ∷ 0x20 ∷ 9 ∷ []) ≡ 0x61 ∷ 9 ∷ 0x62 ∷ []
unfolding trim_end
tabs-go = refl

line-feeds-stay : trim_end (0x61 ∷ 0xa ∷ []) ≡ 0x61 ∷ 0xa ∷ []
unfolding trim_end
line-feeds-stay = refl

-- ---- rule lines
-- is a line in quotes a rule of the fill byte
unfoldable ruled : ℕ → String → Bool
unfolding is_rule closed_segments parts_at_plus is_segment fills drop_trailing_colon all ascii
ruled fill line = is_rule fill (ascii line)

-- document 01, case 6
colons-alone : ruled 0x2d "+::+" ≡ false
unfolding ruled
colons-alone = refl

colons-round-a-dash : ruled 0x2d "+:-:+" ≡ true
unfolding ruled
colons-round-a-dash = refl

plus-alone : ruled 0x2d "+" ≡ true
unfolding ruled
plus-alone = refl

unclosed : ruled 0x2d "+-" ≡ false
unfolding ruled
unclosed = refl

unclosed-after-a-segment : ruled 0x2d "+-+-" ≡ false
unfolding ruled
unclosed-after-a-segment = refl

one-dash : ruled 0x2d "+-+" ≡ true
unfolding ruled
one-dash = refl

two-segments : ruled 0x2d "+--+:-+" ≡ true
unfolding ruled
two-segments = refl

no-dash : ruled 0x2d "++" ≡ false
unfolding ruled
no-dash = refl

one-colon : ruled 0x2d "+:+" ≡ false
unfolding ruled
one-colon = refl

two-colons-at-an-end : ruled 0x2d "+::-+" ≡ false
unfolding ruled
two-colons-at-an-end = refl

other-bytes : ruled 0x2d "+-=+" ≡ false
unfolding ruled
other-bytes = refl

equals : ruled 0x3d "+==+=:+" ≡ true
unfolding ruled
equals = refl

no-plus-first : ruled 0x2d "-+" ≡ false
unfolding ruled
no-plus-first = refl

blank-at-the-end : ruled 0x2d "+-+ " ≡ false
unfolding ruled
blank-at-the-end = refl

no_line : ruled 0x2d "" ≡ false
unfolding ruled
no_line = refl

to-the-first-plus : to_plus (ascii "-:+-+") ≡ ascii "-:"
unfolding to_plus ascii
to-the-first-plus = refl

no-plus-at-all : to_plus (ascii "ab") ≡ ascii "ab"
unfolding to_plus ascii
no-plus-at-all = refl

parts : parts_at_plus (ascii "-+:-+") ≡ ascii "-" ∷ ascii ":-" ∷ [] ∷ []
unfolding parts_at_plus ascii
parts = refl
