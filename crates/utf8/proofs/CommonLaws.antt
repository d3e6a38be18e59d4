-- Characters that their first byte alone puts into the set: 20 to 7E, C0 to 17F, 300 to 33F, 5000 to 9FFF. The code meets them without
-- decoding.
use Rattle.std.specs.Prelude.{Some}
use Prim.Native.Nat.{ℕ, ◌+◌, ◌-◌, ◌^◌, ◌≤◌, ◌<◌}
use mathlib.Core.Path.{◌≡◌, refl, sym, ◌∙◌}
use mathlib.Core.Bool.{Bool, true, false, ◌&&◌, ◌||◌}
use mathlib.Core.List.{List}
use native.Mathlib.Omega.{arith}
use lib.Dec.{leb}
use lib.ListN.{length, drop, get_or}
use Rattle.seq.specs.Lists.{within}
use Rattle.seq.proofs.ListsLaws.{within_in, within-above}
use Rattle.text.specs.Characters.{takes_two, in_set}
use Rattle.text.specs.Utf8.{character_of, continues, two_bytes, three_bytes, well_from, well_formed}
use Rattle.text.proofs.CharactersLaws.{ascii-in-set, set-of-two, set-of-three}
use Rattle.text.proofs.Utf8Laws.{from-two-is, from-three-is, character-one, character-two, character-three, size_fits, well-next}
use Rattle.text.proofs.KnownLaws.{between}
use Rattle.utf8.specs.Common.{Sized}

or-last : (t u : Bool) → (t || (u || true)) ≡ true
or-last true u = refl
or-last false true = refl
or-last false false = refl

-- ---- by the first byte
module _ (s : List ℕ) (at a : ℕ) (here : a ≡ get_or s at 0) where
  pub common-ascii : (w : Bool) → w ≡ within 0x20 0x7e a → w ≡ true → Sized s at 1
  common-ascii w is taken =
      let (low, high) = between 0x20 0x7e a (sym is ∙ taken) in
      (a, sym (character-one s at a true (Some (character_of a 1)) here (omega arith) (sym (ascii-in-set a low high)) refl))

  module _ (t : Bool) (more : t ≡ continues (get_or s (at + 1) 0)) (goes_on : t ≡ true) where
    abbrev b : ℕ
    b = get_or s (at + 1) 0

    second : (0x80 ≤ b) × (b ≤ 0xbf)
    second = between 0x80 0xbf b (sym more ∙ goes_on)

    of_two : (n m l : Bool) → 0xc0 ≤ a → a ≤ 0xdf → n ≡ within 0x300 0x36f (two_bytes a b) → m ≡ within 0xa1 0xac (two_bytes a b) → l ≡ within 0xae 0x17f (two_bytes a b)
        → (n || (m || l)) ≡ true → Sized s at 2
    of_two n m l low high e f g one =
        let in-set : true ≡ (leb 0x80 (two_bytes a b) && in_set (two_bytes a b)) = sym one ∙ set-of-two (two_bytes a b) n m l (omega (arith, second, high)) e f g in (
          two_bytes a b,
          sym (character-two s at a b true here refl (omega arith) (sym (within_in 0xc0 0xdf a low high)) (Some (character_of (two_bytes a b) 2)) refl
              (from-two-is a b t more true (Some (character_of (two_bytes a b) 2)) goes_on in-set refl)),
        )

    pub common-narrow : (w : Bool) → w ≡ within 0xc3 0xc5 a → w ≡ true → Sized s at 2
    common-narrow w is taken =
        let (low, high) = between 0xc3 0xc5 a (sym is ∙ taken) in
        of_two (within 0x300 0x36f (two_bytes a b)) (within 0xa1 0xac (two_bytes a b)) true (omega arith) (omega arith) refl refl
        (sym (within_in 0xae 0x17f (two_bytes a b) (omega (arith, second, low, high)) (omega (arith, second, low, high))))
        (or-last (within 0x300 0x36f (two_bytes a b)) (within 0xa1 0xac (two_bytes a b)))

    pub mark-of-two : 0xcc ≤ a → a ≤ 0xdf → two_bytes a b ≤ 0x36f → Sized s at 2
    mark-of-two low high few =
        of_two true (within 0xa1 0xac (two_bytes a b)) (within 0xae 0x17f (two_bytes a b)) (omega arith) high
        (sym (within_in 0x300 0x36f (two_bytes a b) (omega (arith, second, low)) few)) refl refl refl

    pub common-mark : a ≡ 0xcc → Sized s at 2
    common-mark e = mark-of-two (omega arith) (omega arith) (omega (arith, second, e))

    module _ (u : Bool) (last : u ≡ continues (get_or s (at + 2) 0)) (ends : u ≡ true) where
      abbrev c : ℕ
      c = get_or s (at + 2) 0

      third : (0x80 ≤ c) × (c ≤ 0xbf)
      third = between 0x80 0xbf c (sym last ∙ ends)

      abbrev value : ℕ
      value = three_bytes a b c

      both-go-on : t && u ≡ true
      both-go-on = rw (goes_on, ends)

      of_three : 0xe0 ≤ a → a ≤ 0xef → takes_two value ≡ true → Sized s at 3
      of_three low high wide = (
        value,
        sym (character-three s at a b false here refl (omega arith) (sym (within-above 0xc0 0xdf a (omega arith))) true refl (sym (within_in 0xe0 0xef a low high))
            c (Some (character_of value 3)) refl refl (from-three-is a b c t u more last true (Some (character_of value 3)) both-go-on (set-of-three value true (sym wide)) refl)),
      )

      pub common-han : (w : Bool) → w ≡ within 0xe5 0xe9 a → w ≡ true → Sized s at 3
      common-han w is taken =
          let (low, high) = between 0xe5 0xe9 a (sym is ∙ taken) in
          of_three (omega arith) (omega arith)
          (rw (within_in 0x4e00 0x9fff value (omega (arith, second, third, low, high)) (omega (arith, second, third, low, high)))
          (or-last (within 0x3041 0x3096 value) (within 0x30a1 0x30fa value)))

-- ---- what the code's loop says of such a character
module _ (s : List ℕ) (at size : ℕ) (sized : Sized s at size) where
  fits : (1 ≤ size) × (at + size ≤ length s)
  fits = let (v, is) = sized in size_fits s at (character_of v size) is

  pub sized_on : well_formed s ≡ well_from 0 (drop at s) → well_formed s ≡ well_from 0 (drop (at + size) s)
  sized_on so_far = let (v, is) = sized in so_far ∙ well-next s at (character_of v size) is

  pub sized_inside : at + size ≤ length s
  sized_inside = fits.1

  pub sized-fits : length s < 2 ^ 64 → at + size < 2 ^ 64
  sized-fits short = omega (arith, fits)

  pub sized-left : length s - (at + size) < length s - at
  sized-left = omega (arith, fits)
