-- The character at a place of a line that is UTF-8 of the set from there on: the first byte's range says its size.
use Rattle.std.specs.Prelude.{Option, None, Some}
use Rattle.text.specs.declared.Character.{Character}
use Prim.Native.Nat.{ℕ, ◌+◌, ◌-◌, ◌*◌, ◌^◌, ◌≤◌, ◌<◌}
use mathlib.Core.Path.{◌≡◌, refl, sym, ap₂, ◌∙◌}
use mathlib.Core.Logic.{◌⊎◌, inl, inr, ⊎_elim}
use mathlib.Core.Bool.{true}
use mathlib.Core.List.{List}
use native.Mathlib.Nat.{add-zero}
use native.Mathlib.Omega.{arith}
use lib.ListN.{length, drop, get_or}
use lib.Seq.{get_or-drop}
use Rattle.seq.specs.Lists.{within}
use Rattle.seq.proofs.Tests.{true-not-false}
use Rattle.seq.proofs.ListsLaws.{within_low, within-high, read_some}
use Rattle.text.specs.Utf8.{character_of, two_bytes, three_bytes, character, well_formed}
use Rattle.text.proofs.Utf8Laws.{Made, of-bytes, well-not}

pub between : (low high b : ℕ) → within low high b ≡ true → (low ≤ b) × (b ≤ high)
between low high b e = (within_low low high b e, within-high low high b e)

module _ (s : List ℕ) (at : ℕ) (inside : at < length s) (well : well_formed (drop at s) ≡ true) where
  abbrev first : ℕ
  first = get_or s at 0

  abbrev second : ℕ
  second = get_or s (at + 1) 0

  abbrev third : ℕ
  third = get_or s (at + 2) 0

  -- there is a character, and it is made of them
  here : (v : ℕ) × (k : ℕ) × (character (drop at s) ≡ Some (character_of v k)) × Made first second third v k
  here = go (character (drop at s)) refl where
    go : (d : Option Character) → character (drop at s) ≡ d → (v : ℕ) × (k : ℕ) × (character (drop at s) ≡ Some (character_of v k)) × Made first second third v k
    go (Some found) e = (found.value, found.size, e, simp (get_or-drop, add-zero) at (of-bytes (drop at s) found e))
    go None e = absurd (true-not-false (sym well ∙ well-not s at e inside))

  is : {v k : ℕ} → here.0 ≡ v → here.1 ≡ k → character (drop at s) ≡ Some (character_of v k)
  is same size = here.2 ∙ ap₂ (λ (v k : ℕ). Some (character_of v k)) same size

  -- of one, two or three bytes, each in its range
  abbrev One : Type 0
  One = (first < 0x80) × (character (drop at s) ≡ Some (character_of first 1))

  abbrev Two : Type 0
  Two = ((0xc0 ≤ first) × (first ≤ 0xdf)) × ((0x80 ≤ second) × (second ≤ 0xbf)) × (character (drop at s) ≡ Some (character_of (two_bytes first second) 2))

  abbrev Three : Type 0
  Three = ((0xe0 ≤ first) × (first ≤ 0xef)) × ((0x80 ≤ second) × (second ≤ 0xbf)) × ((0x80 ≤ third) × (third ≤ 0xbf))
      × (character (drop at s) ≡ Some (character_of (three_bytes first second third) 3))

  ranges : One ⊎ (Two ⊎ Three)
  ranges =
      ⊎_elim (λ h. inl (h.2, is (sym h.1) h.0))
      (⊎_elim (λ h. inr (inl (between 0xc0 0xdf first h.2, between 0x80 0xbf second h.3, is (sym h.1) h.0)))
      (λ h. inr (inr (between 0xe0 0xef first h.2, between 0x80 0xbf second h.3, between 0x80 0xbf third h.4, is (sym h.1) h.0))))
      here.3.bytes

  pub known-one : first < 0x80 → character (drop at s) ≡ Some (character_of first 1)
  known-one low = ⊎_elim (λ h. h.1) (⊎_elim (λ h. absurd (omega arith)) (λ h. absurd (omega arith))) ranges

  module _ (high : 0x80 ≤ first) where
    pub first-high : 0xc0 ≤ first
    first-high = ⊎_elim (λ h. absurd (omega arith)) (⊎_elim (λ h. omega arith) (λ h. omega arith)) ranges

    pub second-high : 0x80 ≤ second
    second-high = ⊎_elim (λ h. absurd (omega arith)) (⊎_elim (λ h. omega arith) (λ h. omega arith)) ranges

    pub second-inside : at + 1 < length s
    second-inside = read_some s (at + 1) (λ z. omega (arith, second-high))

    pub two_fits : two_bytes first second < 2 ^ 32
    two_fits = ⊎_elim (λ h. absurd (omega arith)) (⊎_elim (λ h. omega arith) (λ h. omega arith)) ranges

    pub known_two : first < 0xe0 → character (drop at s) ≡ Some (character_of (two_bytes first second) 2)
    known_two low = ⊎_elim (λ h. absurd (omega arith)) (⊎_elim (λ h. h.2) (λ h. absurd (omega arith))) ranges

  module _ (high : 0xe0 ≤ first) where
    three : Three
    three = ⊎_elim (λ h. absurd (omega arith)) (⊎_elim (λ h. absurd (omega arith)) (λ h. h)) ranges

    pub third-high : 0x80 ≤ third
    third-high = three.2.0

    pub third-inside : at + 2 < length s
    third-inside = read_some s (at + 2) (λ z. omega (arith, third-high))

    pub known-three : character (drop at s) ≡ Some (character_of (three_bytes first second third) 3)
    known-three = three.3

    -- no number on the way to its value is large
    pub lead-fits : (first - 0xe0) * 64 < 2 ^ 32
    lead-fits = let h = three in omega arith

    pub lead-two-fits : (first - 0xe0) * 64 + (second - 0x80) < 2 ^ 32
    lead-two-fits = let h = three in omega arith

    pub lead-more-fits : ((first - 0xe0) * 64 + (second - 0x80)) * 64 < 2 ^ 32
    lead-more-fits = let h = three in omega arith

    pub three-fits : three_bytes first second third < 2 ^ 32
    three-fits = let h = three in omega arith
