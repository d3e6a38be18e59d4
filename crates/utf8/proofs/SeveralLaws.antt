-- Whether a character of several bytes stands at a place: by its first byte, or by the decoded value.
use Rattle.std.specs.Prelude.{Option, None, is_some}
use Rattle.std.specs.Bool.{then_some}
use Rattle.text.specs.declared.Character.{Character}
use Prim.Native.Nat.{ℕ, ◌+◌, ◌*◌, ◌≤◌, ◌<◌}
use mathlib.Core.Path.{◌≡◌, refl, sym, ap, ◌∙◌}
use mathlib.Core.Bool.{Bool, true, false, ◌&&◌}
use mathlib.Core.List.{List}
use native.Mathlib.Omega.{arith}
use lib.Dec.{leb}
use lib.ListN.{drop, get_or}
use Rattle.seq.specs.Lists.{within}
use Rattle.seq.proofs.Tests.{true-not-false, both_true}
use Rattle.seq.proofs.ListsLaws.{within_in, within-below, within-above}
use Rattle.text.specs.Characters.{in_set}
use Rattle.text.specs.Utf8.{character_of, continues, two_bytes, three_bytes, from_two, from_three, character}
use Rattle.text.proofs.Utf8Laws.{character-two, character-three, character-none}
use Rattle.text.proofs.KnownLaws.{between}
use Rattle.utf8.specs.Common.{Sized}
use Rattle.utf8.specs.Several.{Whole, MarkAt}
use Rattle.utf8.proofs.CommonLaws.{common-narrow, mark-of-two, common-mark, common-han}

-- ---- what is decoded has so many bytes, or is refused
decoded-whole : (s : List ℕ) (at size value : ℕ) (t : Bool) (d : Option Character) → d ≡ then_some t (character_of value size) → d ≡ character (drop at s) → (r : Bool) → r ≡ is_some d → Whole s at size r
decoded-whole s at size value true d e is r told =
    record { whole = λ h. (value, sym is ∙ e); none = λ h. absurd (true-not-false (sym (told ∙ ap is_some e) ∙ h)) }
decoded-whole s at size value false d e is r told =
    record { whole = λ h. absurd (true-not-false (sym h ∙ told ∙ ap is_some e)); none = λ h. sym is ∙ e }

sized-whole : (s : List ℕ) (at size : ℕ) → Sized s at size → Whole s at size true
sized-whole s at size sized = record { whole = λ h. sized; none = λ h. absurd (true-not-false h) }

refused-whole : (s : List ℕ) (at size : ℕ) → None ≡ character (drop at s) → Whole s at size false
refused-whole s at size is = record { whole = λ h. absurd (true-not-false (sym h)); none = λ h. sym is }

module _ (s : List ℕ) (at a : ℕ) (here : a ≡ get_or s at 0) where
  pub two_none : 0x80 ≤ get_or s at 0 → a < 0xc0 → Whole s at 2 false
  two_none high low =
      refused-whole s at 2
      (character-none s at a _ false here refl (rw here high) (sym (within-below 0xc0 0xdf a low)) false refl (sym (within-below 0xe0 0xef a (omega arith))) refl)

  pub three-none : 0xf0 ≤ a → Whole s at 3 false
  three-none high =
      refused-whole s at 3
      (character-none s at a _ false here refl (omega arith) (sym (within-above 0xc0 0xdf a (omega arith))) false refl (sym (within-above 0xe0 0xef a high)) refl)

  module _ (b : ℕ) (then : b ≡ get_or s (at + 1) 0) where
    pub two-decoded : 0xc0 ≤ a → get_or s at 0 < 0xe0 → (d : Option Character) (r : Bool) → d ≡ from_two a b → r ≡ is_some d → Whole s at 2 r
    unfolding from_two
    two-decoded low high d r is told =
        let range : true ≡ within 0xc0 0xdf a = sym (within_in 0xc0 0xdf a low (omega arith)) in
        decoded-whole s at 2 (two_bytes a b) (continues b && (leb 0x80 (two_bytes a b) && in_set (two_bytes a b))) d is
        (character-two s at a b true here then (omega arith) range d refl is) r told

    pub mark-at : (t u : Bool) → t ≡ continues b → u ≡ within 0x3380 0x33ef (a * 64 + b) → t && u ≡ true → MarkAt s at
    mark-at t u more is both =
        let (goes_on, inside) = both_true t u both in
        let second = between 0x80 0xbf b (sym more ∙ goes_on) in
        let sum = between 0x3380 0x33ef (a * 64 + b) (sym is ∙ inside) in
        let sized = mark-of-two s at a here t (rw then at more) goes_on (omega arith) (omega arith) (omega (arith, then)) in
        record { mark = sized-whole s at 2 sized; low = omega (arith, here); high = omega (arith, here) }

    module _ (t : Bool) (more : t ≡ continues b) (goes_on : t ≡ true) where
      pub two-narrow : (w : Bool) → w ≡ within 0xc3 0xc5 a → w ≡ true → Whole s at 2 true
      two-narrow w is taken = sized-whole s at 2 (common-narrow s at a here t (rw then at more) goes_on w is taken)

      pub two-mark : a ≡ 0xcc → Whole s at 2 true
      two-mark e = sized-whole s at 2 (common-mark s at a here t (rw then at more) goes_on e)

    module _ (c : ℕ) (last : c ≡ get_or s (at + 2) 0) where
      abbrev value : ℕ
      value = three_bytes a b c

      at-three : (d : Option Character) → 0xe0 ≤ a → a ≤ 0xef → d ≡ from_three a b c → d ≡ character (drop at s)
      at-three d low high is =
          character-three s at a b false here then (omega arith) (sym (within-above 0xc0 0xdf a (omega arith))) true refl (sym (within_in 0xe0 0xef a low high)) c d last refl is

      pub three-decoded : 0xe0 ≤ get_or s at 0 → a < 0xf0 → (d : Option Character) (r : Bool) → d ≡ from_three a b c → r ≡ is_some d → Whole s at 3 r
      unfolding from_three
      three-decoded low high d r is told =
          decoded-whole s at 3 value (continues b && (continues c && (leb 0x800 value && in_set value))) d is (at-three d (rw here low) (omega arith) is) r told

      pub three-han : (t u w : Bool) → t ≡ continues b → u ≡ continues c → t && u ≡ true → w ≡ within 0xe5 0xe9 a → w ≡ true → Whole s at 3 true
      three-han t u w more ends both is taken =
          let (goes_on, closes) = both_true t u both in
          sized-whole s at 3 (common-han s at a here t (rw then at more) goes_on u (rw last at ends) closes w is taken)
