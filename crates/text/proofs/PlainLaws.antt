-- Laws of plain lines: all characters 20 to 7E.
use Rattle.std.specs.Prelude.{Option, Some, unwrap_or}
use Prim.Native.Nat.{ℕ, zero, suc, ◌+◌, ◌≤◌, ◌<◌}
use mathlib.Core.Path.{◌≡◌, refl, sym, ap, ◌∙◌}
use mathlib.Core.Bool.{Bool, true, ◌&&◌}
use mathlib.Core.List.{List, [], ◌∷◌}
use native.Mathlib.Omega.{arith}
use lib.ListN.{length, take, drop, get_or}
use lib.Seq.{take-add, take-take}
use Rattle.seq.proofs.Tests.{both_true, and_intro}
use Rattle.seq.specs.Lists.{within, all}
use Rattle.seq.proofs.ListsLaws.{within_low, within-high}
use Rattle.seq.proofs.Walks.{all_append, all-next, all-ends}
use Rattle.text.specs.Utf8.{character_of, character, well_from, well_formed, plain}
use Rattle.text.specs.Characters.{span}
use Rattle.text.proofs.CharactersLaws.{ascii-one-column, span-other}
use Rattle.text.proofs.Utf8Laws.{character-ascii}

-- ---- what the code's loop over a line says: so far all are
pub plain-next : (s : List ℕ) (i : ℕ) (t u : Bool) → i < length s → u ≡ within 0x20 0x7e (get_or s i 0) → plain s ≡ (t && plain (drop i s)) → plain s ≡ ((t && u) && plain (drop (i + 1) s))
unfolding plain
plain-next s i t u inside is so_far = all-next (λ b. within 0x20 0x7e b) s i t so_far u inside is

pub plain-ends : (s : List ℕ) (i : ℕ) (t : Bool) → length s ≤ i → plain s ≡ (t && plain (drop i s)) → t ≡ plain s
unfolding plain
plain-ends s i t past so_far = all-ends (λ b. within 0x20 0x7e b) s i t so_far past

-- ---- such a line is in the set, a byte a character
first_plain : (b : ℕ) (bs : List ℕ) → within 0x20 0x7e b && plain bs ≡ true → character (b ∷ bs) ≡ Some (character_of b 1)
first_plain b bs e =
    let low-high = (both_true (within 0x20 0x7e b) (plain bs) e).0 in
    character-ascii b bs (within_low 0x20 0x7e b low-high) (within-high 0x20 0x7e b low-high)

pub plain-first : (b : ℕ) (bs : List ℕ) → plain (b ∷ bs) ≡ true → character (b ∷ bs) ≡ Some (character_of b 1)
unfolding plain all
plain-first b bs e = first_plain b bs e

pub plain-rest : (b : ℕ) (bs : List ℕ) → plain (b ∷ bs) ≡ true → plain bs ≡ true
unfolding plain all
plain-rest b bs e = (both_true (within 0x20 0x7e b) (plain bs) e).1

pub plain-span : (column b : ℕ) (bs : List ℕ) → plain (b ∷ bs) ≡ true → span column b ≡ 1
unfolding plain all
plain-span column b bs e =
    let inside = (both_true (within 0x20 0x7e b) (plain bs) e).0 in
    let low = within_low 0x20 0x7e b inside in
    span-other column b (λ h. omega arith) ∙ ap (λ (w : Option ℕ). unwrap_or w 0) (ascii-one-column b low (within-high 0x20 0x7e b inside))

-- ---- parts of such a line
pub plain-take : (n : ℕ) (s : List ℕ) → plain s ≡ true → plain (take n s) ≡ true
unfolding plain all
plain-take zero s e = refl
plain-take (suc n) [] e = refl
plain-take (suc n) (b ∷ bs) e =
    let both = both_true (within 0x20 0x7e b) (plain bs) e in and_intro both.0 (plain-take n bs both.1)

pub plain-drop : (n : ℕ) (s : List ℕ) → plain s ≡ true → plain (drop n s) ≡ true
plain-drop zero s e = e
plain-drop (suc n) [] e = e
plain-drop (suc n) (b ∷ bs) e = plain-drop n bs (plain-rest b bs e)

plain-split : (s : List ℕ) (n k : ℕ) → plain (take (n + k) s) ≡ (plain (take n s) && plain (take k (drop n s)))
unfolding plain
plain-split s n k = ap (all (λ b. within 0x20 0x7e b)) (take-add n k s) ∙ all_append (λ b. within 0x20 0x7e b) (take n s) (take k (drop n s))

module _ (s : List ℕ) (n : ℕ) (front : plain (take n s) ≡ true) where
  pub plain_more : (k : ℕ) (t : Bool) → t ≡ plain (take k (drop n s)) → t ≡ true → plain (take (n + k) s) ≡ true
  plain_more k t is taken = plain-split s n k ∙ and_intro front (sym is ∙ taken)

  pub plain-part : (at k : ℕ) → at + k ≤ n → plain (take k (drop at s)) ≡ true
  plain-part at k inside =
      (both_true (plain (take at s)) (plain (take k (drop at s))) (sym (plain-split s at k) ∙ ap plain (sym (take-take (at + k) n s inside)) ∙ plain-take (at + k) (take n s) front)).1

-- ---- it is well formed
plain-from : (s : List ℕ) → plain s ≡ true → well_from 0 s ≡ true
unfolding well_from
plain-from [] e = refl
plain-from (b ∷ bs) e = rw (plain-first b bs e) (plain-from bs (plain-rest b bs e))

pub plain-well : (s : List ℕ) (t : Bool) → t ≡ plain s → t ≡ true → true ≡ well_formed s
plain-well s t is taken = sym (plain-from s (sym is ∙ taken))
