-- Laws of `byte_columns`: added up over the bytes of a line that is UTF-8 of the set it gives the line's columns, a tab counted as 4; where
-- no byte is a tab, the columns from any column on.
use Rattle.std.specs.Prelude.{Option, None, Some}
use Rattle.text.specs.declared.Character.{Character}
use Prim.Native.Nat.{ℕ, zero, suc, ◌+◌, ◌-◌, ◌*◌, ◌^◌, ◌≤◌, ◌<◌}
use mathlib.Core.Path.{◌≡◌, refl, sym, ap, ap₂, ◌∙◌}
use mathlib.Core.Logic.{⊎_elim}
use mathlib.Core.Bool.{Bool, true, false, ◌||◌, cond}
use mathlib.Core.List.{List, [], ◌∷◌, map}
use native.Mathlib.Nat.{zero-add}
use native.Mathlib.Numerals.{add-one}
use native.Mathlib.Omega.{arith}
use lib.Dec.{eqb, ltb}
use lib.ListN.{length, take, drop, get_or}
use lib.Seq.{take_all}
use borrow.Author.Tests.{ltb-true, ltb-false, lt-ltb, le-ltb, ne_eqb, eqb-true, eqb-false}
use Rattle.seq.specs.Lists.{sum, any}
use Rattle.seq.proofs.Tests.{true-not-false, or-neither}
use Rattle.seq.proofs.Walks.{sum_more, any_step, any-end, or-false, or_assoc}
use Rattle.text.specs.Characters.{tab, tab_columns, in_set, span}
use Rattle.text.specs.Utf8.{continues, character, chars_step, chars_from, char_indices, well_step, well_from, well_formed}
use Rattle.text.specs.Columns.{columns_from, is_tab, byte_columns, added_columns}
use Rattle.text.proofs.CharactersLaws.{spans-one, spans-none, spans-two, set-wide}
use Rattle.text.proofs.KnownLaws.{between}
use Rattle.text.proofs.Utf8Laws.{OfOne, OfTwo, OfThree, of-bytes, character-in-set, character-one-byte, character-goes-on}

-- ---- by the byte's range
module _ (b : ℕ) where
  pub adds-ascii : b < 0x80 → (b ≡ tab → ⊥) → byte_columns b ≡ 1
  unfolding byte_columns
  adds-ascii low no-tab = rw (lt-ltb b 0x80 low, ne_eqb b tab no-tab)

  pub adds-tab : b ≡ tab → byte_columns b ≡ 4
  unfolding byte_columns
  adds-tab e = rw e

  pub adds-after : 0x80 ≤ b → b < 0xc0 → byte_columns b ≡ 0
  unfolding byte_columns
  adds-after low high = rw (le-ltb b 0x80 low, lt-ltb b 0xc0 high)

  adds_none : continues b ≡ true → byte_columns b ≡ 0
  adds_none e = let (low, high) = between 0x80 0xbf b e in adds-after low (omega arith)

  pub adds_one : 0xc0 ≤ b → b < 0xcc → byte_columns b ≡ 1
  unfolding byte_columns
  adds_one low high = rw (le-ltb b 0x80 (omega arith), le-ltb b 0xc0 low, lt-ltb b 0xcc high)

  pub adds-mark : 0xcc ≤ b → b < 0xe0 → byte_columns b ≡ 0
  unfolding byte_columns
  adds-mark low high = rw (le-ltb b 0x80 (omega arith), le-ltb b 0xc0 (omega arith), le-ltb b 0xcc low, lt-ltb b 0xe0 high)

  pub adds-two : 0xe0 ≤ b → byte_columns b ≡ 2
  unfolding byte_columns
  adds-two low = rw (le-ltb b 0x80 (omega arith), le-ltb b 0xc0 (omega arith), le-ltb b 0xcc (omega arith), le-ltb b 0xe0 low)

  pub byte_columns-few : byte_columns b ≤ 4
  unfolding byte_columns
  byte_columns-few = go (ltb b 0x80) (eqb b tab) (ltb b 0xc0) (ltb b 0xcc) (ltb b 0xe0) where
    go : (one t more two mark : Bool) → cond one (cond t 4 1) (cond more 0 (cond two 1 (cond mark 0 2))) ≤ 4
    go true true more two mark = omega arith
    go true false more two mark = omega arith
    go false t true two mark = omega arith
    go false t false true mark = omega arith
    go false t false false true = omega arith
    go false t false false false = omega arith

-- ---- a character's columns are added at its first byte
module _ (s : List ℕ) (c : Character) (is : character s ≡ Some c) where
  abbrev first : ℕ
  first = get_or s 0 0

  abbrev second : ℕ
  second = get_or s 1 0

  in-set : in_set c.value ≡ true
  in-set = character-in-set s c is

  pub byte_columns-span : (column : ℕ) → (c.value ≡ tab → ⊥) → byte_columns first ≡ span column c.value
  byte_columns-span column no-tab = ⊎_elim one (⊎_elim two three) (of-bytes s c is).bytes where
    low : c.value < 0x300 → 1 ≡ span column c.value
    low = spans-one column c.value in-set no-tab

    one : OfOne first c.value c.size → byte_columns first ≡ span column c.value
    one h = adds-ascii first h.2 (λ e. no-tab (sym h.1 ∙ e)) ∙ low (omega arith)

    two : OfTwo first second c.value c.size → byte_columns first ≡ span column c.value
    two h = go (ltb first 0xcc) refl (between 0xc0 0xdf first h.2) (between 0x80 0xbf second h.3) where
      go : (t : Bool) → ltb first 0xcc ≡ t → (0xc0 ≤ first) × (first ≤ 0xdf) → (0x80 ≤ second) × (second ≤ 0xbf) → byte_columns first ≡ span column c.value
      go true e lead more = let less = ltb-true first 0xcc e in adds_one first lead.0 less ∙ low (omega arith)
      go false e lead more = let high = ltb-false first 0xcc e in adds-mark first high (omega arith) ∙ spans-none column c.value in-set (omega arith) (omega arith)

    three : OfThree first second (get_or s 2 0) c.value c.size → byte_columns first ≡ span column c.value
    three h = adds-two first (between 0xe0 0xef first h.2).0 ∙ spans-two column c.value in-set (set-wide c.value (omega arith) in-set)

  -- the tab's columns at column 0 are 4
  adds-first : byte_columns first ≡ span 0 c.value
  unfolding span tab_columns
  adds-first = go (eqb c.value tab) refl where
    go : (t : Bool) → eqb c.value tab ≡ t → byte_columns first ≡ span 0 c.value
    go true e = let tabbed = eqb-true c.value tab e in rw (tabbed) (adds-tab first (character-one-byte s c is (omega arith) ∙ tabbed))
    go false e = byte_columns-span 0 (eqb-false c.value tab e)

goes_on : (b : ℕ) (bs : List ℕ) (c : Character) → character (b ∷ bs) ≡ Some c → (i : ℕ) → i < c.size - 1 → continues (get_or bs i 0) ≡ true
goes_on b bs c is i h = rw (add-one i) at (character-goes-on (b ∷ bs) c is (i + 1) (omega arith) (omega arith))

-- ---- all bytes of a line: `skip` of them still belong to the character before
abbrev GoesOn : ℕ → List ℕ → Type 0
GoesOn skip s = (i : ℕ) → i < skip → continues (get_or s i 0) ≡ true

goes-next : (skip b : ℕ) (bs : List ℕ) → GoesOn (suc skip) (b ∷ bs) → GoesOn skip bs
goes-next skip b bs on i h = on (suc i) (omega arith)

added-from : (at skip : ℕ) (s : List ℕ) → GoesOn skip s → well_from skip s ≡ true → added_columns s ≡ sum (map (λ c. span 0 c.value) (chars_from at skip s))
unfolding added_columns chars_from well_from sum
added-from at skip [] on well = refl
added-from at (suc skip) (b ∷ bs) on well = rw (adds_none b (on 0 (omega arith)), zero-add) (added-from (at + 1) skip bs (goes-next skip b bs on) well)
added-from at zero (b ∷ bs) on well = go (character (b ∷ bs)) refl well (λ k. added-from (at + 1) k bs) where
  go : (d : Option Character) → character (b ∷ bs) ≡ d → well_step d (λ k. well_from k bs) ≡ true
      → ((k : ℕ) → GoesOn k bs → well_from k bs ≡ true → added_columns bs ≡ sum (map (λ c. span 0 c.value) (chars_from (at + 1) k bs)))
      → byte_columns b + added_columns bs ≡ sum (map (λ c. span 0 c.value) (chars_step at d (λ k. chars_from (at + 1) k bs)))
  go (Some found) e well later = ap₂ (λ (m n : ℕ). m + n) (adds-first (b ∷ bs) found e) (later (found.size - 1) (goes_on b bs found e) well)
  go None e well later = absurd (true-not-false (sym well))

columns-from : (column at skip : ℕ) (s : List ℕ) → GoesOn skip s → well_from skip s ≡ true → any is_tab s ≡ false → added_columns s ≡ columns_from column (chars_from at skip s)
unfolding added_columns columns_from chars_from well_from sum any
columns-from column at skip [] on well none = refl
columns-from column at (suc skip) (b ∷ bs) on well none =
    rw (adds_none b (on 0 (omega arith)), zero-add) (columns-from column (at + 1) skip bs (goes-next skip b bs on) well (or-neither (is_tab b) (any is_tab bs) none).1)
columns-from column at zero (b ∷ bs) on well none = go (character (b ∷ bs)) refl well (λ c k. columns-from c (at + 1) k bs) where
  first-none : is_tab b ≡ false
  first-none = (or-neither (is_tab b) (any is_tab bs) none).0

  later-none : any is_tab bs ≡ false
  later-none = (or-neither (is_tab b) (any is_tab bs) none).1

  go : (d : Option Character) → character (b ∷ bs) ≡ d → well_step d (λ k. well_from k bs) ≡ true
      → ((c k : ℕ) → GoesOn k bs → well_from k bs ≡ true → any is_tab bs ≡ false → added_columns bs ≡ columns_from c (chars_from (at + 1) k bs))
      → byte_columns b + added_columns bs ≡ columns_from column (chars_step at d (λ k. chars_from (at + 1) k bs))
  go (Some found) e well later =
      let no-tab : found.value ≡ tab → ⊥ = λ h. eqb-false b tab first-none (character-one-byte (b ∷ bs) found e (omega arith) ∙ h) in
      ap₂ (λ (m n : ℕ). m + n) (byte_columns-span (b ∷ bs) found e column no-tab) (later (column + span column found.value) (found.size - 1) (goes_on b bs found e) well later-none)
  go None e well later = absurd (true-not-false (sym well))

module _ (line : List ℕ) (well : well_formed line ≡ true) where
  pub added_columns-spans : added_columns line ≡ sum (map (λ c. span 0 c.value) (char_indices line))
  added_columns-spans = added-from 0 0 line (λ i h. absurd (omega arith)) well

  pub added_columns-from : (column : ℕ) → any is_tab line ≡ false → added_columns line ≡ columns_from column (char_indices line)
  added_columns-from column none = columns-from column 0 0 line (λ i h. absurd (omega arith)) well none

-- ---- what the code's loop says: so many columns up to byte i
pub record Added (line : List ℕ) (i n : ℕ) : Type 0 where
  pub inside : i ≤ length line
  pub so_far : n ≡ added_columns (take i line)
  pub few : n ≤ 4 * i

pub added_none : (line : List ℕ) → Added line 0 0
unfolding added_columns sum
added_none line = record { inside = omega arith; so_far = refl; few = omega arith }

module _ {line : List ℕ} {i n : ℕ} (w : Added line i n) where
  module _ {m : ℕ} (is : m ≡ byte_columns (get_or line i 0)) where
    pub added_next : i < length line → Added line (i + 1) (n + m)
    unfolding added_columns
    added_next h =
        record {
          inside = omega arith;
          so_far = rw (w.so_far, is) (sym (sum_more byte_columns line i 0 h));
          few = omega (arith, w.few, is, byte_columns-few (get_or line i 0));
        }

    pub added-fits : length line ≤ 512 → n + m < 2 ^ 16
    added-fits h = omega (arith, w.few, w.inside, is, byte_columns-few (get_or line i 0))

  pub added-all : length line ≤ i → n ≡ added_columns line
  added-all h = w.so_far ∙ ap added_columns (take_all i line h)

  pub added-few : n ≤ 4 * length line
  added-few = omega (arith, w.few, w.inside)

-- is there a tab: so far, or later
module _ (s : List ℕ) (i : ℕ) (t : Bool) (so_far : any is_tab s ≡ (t || any is_tab (drop i s))) where
  pub tab-next : i < length s → any is_tab s ≡ ((t || is_tab (get_or s i 0)) || any is_tab (drop (i + 1) s))
  tab-next inside = so_far ∙ rw (any_step is_tab s i inside) (sym (or_assoc t (is_tab (get_or s i 0)) (any is_tab (drop (i + 1) s))))

  pub tab-ends : length s ≤ i → t ≡ any is_tab s
  tab-ends past = sym (so_far ∙ rw (any-end is_tab s i past) (or-false t))
