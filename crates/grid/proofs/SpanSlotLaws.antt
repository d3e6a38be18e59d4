-- The slots of bytes that take so many columns: as many slots (`slots-count`), one text's after the other's (`slots_at`), and the
-- slot of a byte of one column (`slot-head`). `glyph_of-plus`: a slot shows a `+` where its byte is one.
use Prim.Native.Nat.{ℕ, ◌+◌, ◌<◌}
use mathlib.Core.Path.{◌≡◌, refl, sym, ap, ◌∙◌}
use mathlib.Core.Bool.{Bool, true, false, ◌||◌, cond}
use mathlib.Core.List.{List, [], ◌∷◌, ◌++◌, append_assoc}
use native.Mathlib.Omega.{arith}
use lib.Dec.{eqb}
use lib.ListN.{length, get_or, replicate, length-append, length-replicate}
use lib.Seq.{get_or_at}
use Rattle.seq.proofs.Positions.{get_or-mem}
use Rattle.text.specs.Characters.{plus, span}
use Rattle.text.specs.Utf8.{CharIndex, chars_from, char_indices}
use Rattle.text.specs.Columns.{columns_from}
use Rattle.text.proofs.Utf8Laws.{character-ascii}
use Rattle.text.proofs.SpanLaws.{chars-append, Spans, Single, single-span}
use Rattle.grid.specs.Slots.{Slot, Plus, Dash, Pipe, Other, is_plus, glyph_of, dash, pipe, slots_from}
use Rattle.grid.proofs.ByteLaws.{char-byte, slot-character}

pub slots-append : (rule : Bool) (c : ℕ) (a b : List CharIndex) → slots_from rule c (a ++ b) ≡ slots_from rule c a ++ slots_from rule (c + columns_from c a) b
unfolding slots_from columns_from
slots-append rule c [] b = ap (λ (k : ℕ). slots_from rule k b) (omega arith)
slots-append rule c (x ∷ a) b =
    let s = span c x.value in
    let slot : Slot = record { glyph = glyph_of rule x.value; byte = x.byte } in
    ap (λ (l : List Slot). replicate s slot ++ l)
    (slots-append rule (c + s) a b ∙ ap (λ (k : ℕ). slots_from rule (c + s) a ++ slots_from rule k b) (omega arith))
    ∙ sym (append_assoc (replicate s slot) (slots_from rule (c + s) a) (slots_from rule (c + (s + columns_from (c + s) a)) b))

pub slots_length : (rule : Bool) (c : ℕ) (a : List CharIndex) → length (slots_from rule c a) ≡ columns_from c a
unfolding slots_from columns_from
slots_length rule c [] = refl
slots_length rule c (x ∷ a) = simp (length-append, length-replicate) (omega (arith, slots_length rule (c + span c x.value) a))

-- a line whose first part takes n columns has n slots before the rest's, which begin at the first part's length
pub slots_at : (rule : Bool) {c n : ℕ} {a : List ℕ} (b : List ℕ) → Spans c a n
    → slots_from rule c (char_indices (a ++ b)) ≡ slots_from rule c (char_indices a) ++ slots_from rule (c + n) (chars_from (length a) 0 b)
slots_at rule {c} {n} {a} b p =
    let e : 0 + length a ≡ length a = omega arith in
    ap (slots_from rule c) (chars-append 0 0 a b (omega arith) p.well) ∙ slots-append rule c (char_indices a) (chars_from (0 + length a) 0 b) ∙ rw (p.takes, e)

pub slots-count : (rule : Bool) {c n : ℕ} {a : List ℕ} → Spans c a n → length (slots_from rule c (char_indices a)) ≡ n
slots-count rule {c} {n} {a} p = slots_length rule c (char_indices a) ∙ p.takes

-- the slot of a byte of one column
pub slot-head : (rule : Bool) {c n : ℕ} {a : List ℕ} {z : ℕ} (b : List ℕ) (d : Slot) → Spans c a n → Single z
    → get_or (slots_from rule c (char_indices (a ++ z ∷ b))) n d ≡ record { glyph = glyph_of rule z; byte = length a }
unfolding slots_from chars_from
slot-head rule {c} {n} {a} {z} b d p s =
    let here : chars_from (length a) 0 (z ∷ b) ≡ record { byte = length a; value = z } ∷ chars_from (length a + 1) 0 b = rw (character-ascii z b s.low s.high) in
    rw (slots_at rule (z ∷ b) p, here, single-span (c + n) s) (get_or_at (slots_from rule c (char_indices a)) _ _ d n (slots-count rule p))

-- a slot's byte lies in the text that the slots are of
pub slot-inside : (rule : Bool) (c at : ℕ) (s : List ℕ) (i : ℕ) (d : Slot) → i < length (slots_from rule c (chars_from at 0 s))
    → (get_or (slots_from rule c (chars_from at 0 s)) i d).byte < at + length s
slot-inside rule c at s i d h =
    let (x, m, e) = slot-character rule c (chars_from at 0 s) (get_or-mem (slots_from rule c (chars_from at 0 s)) i d h) in
    omega (arith, ap (λ (z : Slot). z.byte) e, char-byte at 0 s m)

pub glyph_of-plus : (r : Bool) (b : ℕ) → is_plus (glyph_of r b) ≡ eqb b plus
unfolding glyph_of
glyph_of-plus r b = go (eqb b plus) r (eqb b dash) (eqb b pipe) where
  go : (t u w z : Bool) → is_plus (cond t Plus (cond (u || w) Dash (cond z Pipe Other))) ≡ t
  go true u w z = refl
  go false true w z = refl
  go false false true z = refl
  go false false false true = refl
  go false false false false = refl
