-- Laws of the first byte, as the code tests it.
use Prim.Native.Nat.{ℕ, ◌+◌, ◌-◌}
use mathlib.Core.Path.{◌≡◌, ◌∙◌}
use mathlib.Core.List.{List, [], ◌∷◌}
use native.Mathlib.Omega.{arith}
use native.Mathlib.Nat.{add_assoc}
use lib.ListN.{length, get_or}
use Rattle.text.specs.Characters.{space, tab, tab_columns}
use Rattle.text.specs.declared.Column.{Column}
use Rattle.grid.specs.Cut.{after_first}
use Rattle.grid.proofs.CutLaws.{first-none, first-space, first-narrow-tab, first-wide-tab, first-other}
use Rattle.fragments.specs.declared.part.Place.{Place}
use Rattle.fragments.specs.Part.{Begins}

module _ (place : Place) where
  -- the next byte and column
  abbrev next : Place
  next = record { byte = record { 0 = place.byte.0 + 1 }; column = record { 0 = place.column.0 + 1 } }

  -- all bytes stay
  kept : (text : List ℕ) (to : Column)
      → ((line at : ℕ) → after_first text line at place.column.0 ≡ record { text = text; line = line; byte = at; column = to.0 })
      → Begins text place (record { byte = place.byte; column = to })
  kept text to told =
      let none : place.byte.0 - place.byte.0 ≡ 0 = omega arith in
      record { inside = omega arith; begun = λ line table_byte. rw none (told line (table_byte + place.byte.0)) }

  -- the first byte goes
  dropped : (b : ℕ) (bs : List ℕ)
      → ((line at : ℕ) → after_first (b ∷ bs) line at place.column.0 ≡ record { text = bs; line = line; byte = at + 1; column = place.column.0 + 1 })
      → Begins (b ∷ bs) place next
  dropped b bs told =
      let one : place.byte.0 + 1 - place.byte.0 ≡ 1 = omega arith in
      record { inside = omega arith; begun = λ line table_byte. told line (table_byte + place.byte.0) ∙ rw (one, add_assoc table_byte place.byte.0 1) }

  pub none-begins : (text : List ℕ) → length text ≡ 0 → Begins text place place
  none-begins [] e = kept [] place.column (λ line at. first-none line at place.column.0)
  none-begins (b ∷ bs) e = absurd (omega arith)

  pub space-begins : (text : List ℕ) → get_or text 0 0 ≡ space → Begins text place next
  space-begins [] e = absurd (omega arith)
  space-begins (b ∷ bs) e = rw e (dropped space bs (λ line at. first-space line at place.column.0 bs))

  pub other-begins : (text : List ℕ) → (get_or text 0 0 ≡ space → ⊥) → (get_or text 0 0 ≡ tab → ⊥) → Begins text place place
  other-begins [] no-space no-tab = kept [] place.column (λ line at. first-none line at place.column.0)
  other-begins (b ∷ bs) no-space no-tab = kept (b ∷ bs) place.column (λ line at. first-other line at place.column.0 b bs no-space no-tab)

  module _ (text : List ℕ) (first : get_or text 0 0 ≡ tab) (n : ℕ) (told : n ≡ tab_columns place.column.0) where
    pub narrow-tab-begins : n ≡ 1 → Begins text place next
    narrow-tab-begins one = go text first where
      go : (text : List ℕ) → get_or text 0 0 ≡ tab → Begins text place next
      go [] e = absurd (omega arith)
      go (b ∷ bs) e = rw e (dropped tab bs (λ line at. first-narrow-tab line at place.column.0 bs (omega arith)))

    pub wide-tab-begins : (n ≡ 1 → ⊥) → Begins text place (record { byte = place.byte; column = record { 0 = place.column.0 + 1 } })
    wide-tab-begins more = go text first where
      go : (text : List ℕ) → get_or text 0 0 ≡ tab → Begins text place (record { byte = place.byte; column = record { 0 = place.column.0 + 1 } })
      go [] e = absurd (omega arith)
      go (b ∷ bs) e = rw e (kept (tab ∷ bs) (record { 0 = place.column.0 + 1 }) (λ line at. first-wide-tab line at place.column.0 bs (λ q. more (omega arith))))
