-- Parts of a well-formed line: cut where no byte goes on with a character, they are well formed.
use Rattle.std.specs.Prelude.{Option, None, Some}
use Rattle.std.specs.Bool.{then_some}
use Rattle.text.specs.declared.Character.{Character}
use Prim.Native.Nat.{ℕ, zero, suc, ◌+◌, ◌-◌, ◌≤◌, ◌<◌}
use mathlib.Core.Path.{◌≡◌, refl, sym, ap, ◌∙◌}
use mathlib.Core.Logic.{⊎_elim}
use mathlib.Core.Bool.{Bool, true, false, cond}
use mathlib.Core.List.{List, [], ◌∷◌, Memᴰ}
use native.Mathlib.Omega.{arith}
use lib.ListN.{length, get_or, take, drop}
use lib.Seq.{take-nil, drop-nil, get_or-take}
use lib.Dec.{eqb}
use borrow.Author.Tests.{lt-ltb, eqb-true}
use Rattle.seq.proofs.Tests.{true-not-false, or_cases, le-or-lt}
use Rattle.text.specs.Characters.{space, tab, in_set}
use Rattle.text.specs.Utf8.{character_of, continues, decoded, character, CharIndex, chars_step, chars_from, well_step, well_from, well_formed}
use Rattle.text.specs.Trim.{blank, before_trimmed, trim_end}
use Rattle.text.proofs.Utf8Laws.{character-goes-on, character-kept, character-one-byte}
use Rattle.text.proofs.TrimLaws.{trim-prefix}

-- the first bytes that still belong to the character before
abbrev Goes : ℕ → List ℕ → Type 0
Goes skip s = (i : ℕ) → i < skip → continues (get_or s i 0) ≡ true

drop-well : (skip n : ℕ) (s : List ℕ) → well_from skip s ≡ true → Goes skip s → continues (get_or s n 0) ≡ false → well_from 0 (drop n s) ≡ true
unfolding well_from
drop-well skip n [] w goes end = rw (drop-nil n)
drop-well zero zero (b ∷ bs) w goes end = w
drop-well (suc skip) zero (b ∷ bs) w goes end = absurd (true-not-false (sym (goes 0 (omega arith)) ∙ end))
drop-well (suc skip) (suc n) (b ∷ bs) w goes end = drop-well skip n bs w (λ i h. goes (suc i) (omega arith)) end
drop-well zero (suc n) (b ∷ bs) w goes end = go (character (b ∷ bs)) refl w (λ k w g. drop-well k n bs w g end) where
  go : (d : Option Character) → character (b ∷ bs) ≡ d → well_step d (λ k. well_from k bs) ≡ true → ((k : ℕ) → well_from k bs ≡ true → Goes k bs → well_from 0 (drop n bs) ≡ true)
      → well_from 0 (drop n bs) ≡ true
  go (Some found) e w later = later (found.size - 1) w (λ i h. character-goes-on (b ∷ bs) found e (suc i) (omega arith) (omega arith))
  go None e w later = absurd (true-not-false (sym w))

take-well : (skip n : ℕ) (s : List ℕ) → well_from skip s ≡ true → Goes skip s → continues (get_or s n 0) ≡ false → well_from skip (take n s) ≡ true
unfolding well_from
take-well skip n [] w goes end = rw (take-nil n)
take-well skip zero (b ∷ bs) w goes end = refl
take-well (suc skip) (suc n) (b ∷ bs) w goes end = take-well skip n bs w (λ i h. goes (suc i) (omega arith)) end
take-well zero (suc n) (b ∷ bs) w goes end = go (character (b ∷ bs)) refl w (λ k w g. take-well k n bs w g end) where
  go : (d : Option Character) → character (b ∷ bs) ≡ d → well_step d (λ k. well_from k bs) ≡ true → ((k : ℕ) → well_from k bs ≡ true → Goes k bs → well_from k (take n bs) ≡ true)
      → well_step (character (b ∷ take n bs)) (λ k. well_from k (take n bs)) ≡ true
  go (Some found) e w later =
      ⊎_elim
      (λ (fits : found.size ≤ suc n).
      rw (character-kept (b ∷ bs) found e (b ∷ take n bs) (λ i h. get_or-take (suc n) (b ∷ bs) i 0 (omega arith)))
      (later (found.size - 1) w (λ i h. character-goes-on (b ∷ bs) found e (suc i) (omega arith) (omega arith))))
      (λ (cut : suc n < found.size). absurd (true-not-false (sym (character-goes-on (b ∷ bs) found e (suc n) (omega arith) cut) ∙ end))) (le-or-lt found.size (suc n))
  go None e w later = absurd (true-not-false (sym w))

module _ (s : List ℕ) (w : well_formed s ≡ true) where
  pub well-drop : (n : ℕ) → continues (get_or s n 0) ≡ false → well_formed (drop n s) ≡ true
  well-drop n end = drop-well 0 n s w (λ i h. absurd (omega arith)) end

  pub well-take : (n : ℕ) → continues (get_or s n 0) ≡ false → well_formed (take n s) ≡ true
  well-take n end = take-well 0 n s w (λ i h. absurd (omega arith)) end

pub well-rest : (b : ℕ) (bs : List ℕ) → b < 0x80 → well_formed (b ∷ bs) ≡ true → well_formed bs ≡ true
unfolding well_from character decoded
well-rest b bs low w = go (in_set b) (rw (lt-ltb b 0x80 low) at w) where
  go : (t : Bool) → well_step (then_some t (character_of b 1)) (λ k. well_from k bs) ≡ true → well_formed bs ≡ true
  go true w = w
  go false w = absurd (true-not-false (sym w))

-- ---- trimming
blank-ends : (b : ℕ) → blank b ≡ true → continues b ≡ false
blank-ends b e = ⊎_elim (λ (h : eqb b space ≡ true). rw (eqb-true b space h)) (λ (h : eqb b tab ≡ true). rw (eqb-true b tab h)) (or_cases (eqb b space) (eqb b tab) e)

-- after a trimmed line comes a blank, or nothing
trimmed-ends : (s : List ℕ) → continues (get_or s (length (trim_end s)) 0) ≡ false
unfolding trim_end
trimmed-ends [] = refl
trimmed-ends (b ∷ bs) = go (trim_end bs) (trimmed-ends bs) where
  go : (t : List ℕ) → continues (get_or bs (length t) 0) ≡ false → continues (get_or (b ∷ bs) (length (before_trimmed b t)) 0) ≡ false
  go [] later = ends (blank b) refl where
    ends : (t : Bool) → blank b ≡ t → continues (get_or (b ∷ bs) (length (cond t [] (b ∷ []))) 0) ≡ false
    ends true e = blank-ends b e
    ends false e = later
  go (c ∷ cs) later = later

pub well-trimmed : (s : List ℕ) → well_formed s ≡ true → well_formed (trim_end s) ≡ true
well-trimmed s w = rw (trim-prefix s) (well-take s w (length (trim_end s)) (trimmed-ends s))

-- ---- a character below 80 is the byte at which it starts
pub low-character : (at skip : ℕ) (s : List ℕ) {c : CharIndex} → Memᴰ c (chars_from at skip s) → c.value < 0x80
    → (at ≤ c.byte) × (get_or s (c.byte - at) 0 ≡ c.value)
unfolding chars_from
low-character at skip [] m low = elim m [ ]
low-character at (suc skip) (b ∷ bs) {c} m low =
    let (inside, same) = low-character (at + 1) skip bs m low in
    let next : c.byte - at ≡ suc (c.byte - (at + 1)) = omega arith in
    (omega arith, rw next same)
low-character at zero (b ∷ bs) {c} m low = go (character (b ∷ bs)) refl m (λ k n. low-character (at + 1) k bs n low) where
  go : (d : Option Character) → character (b ∷ bs) ≡ d → Memᴰ c (chars_step at d (λ k. chars_from (at + 1) k bs))
      → ((k : ℕ) → Memᴰ c (chars_from (at + 1) k bs) → (at + 1 ≤ c.byte) × (get_or bs (c.byte - (at + 1)) 0 ≡ c.value))
      → (at ≤ c.byte) × (get_or (b ∷ bs) (c.byte - at) 0 ≡ c.value)
  go (Some found) e (Memᴰ.head q) later =
      let (here, value) : (c.byte ≡ at) × (c.value ≡ found.value) = (ap (λ (c : CharIndex). c.byte) q, ap (λ (c : CharIndex). c.value) q) in
      let first : c.byte - at ≡ 0 = omega arith in
      (omega arith, rw first (character-one-byte (b ∷ bs) found e (omega arith) ∙ sym value))
  go (Some found) e (Memᴰ.tail n) later =
      let (inside, same) = later (found.size - 1) n in
      let next : c.byte - at ≡ suc (c.byte - (at + 1)) = omega arith in
      (omega arith, rw next same)
  go None e m later = elim m [ ]
