-- Laws of the slots of a line: of a plain one a slot for each byte (`plain-filled`), of another those that scanning left (`scanned-filled`).
use Prim.Native.Nat.{ℕ, ◌+◌, ◌≤◌}
use mathlib.Core.Path.{◌≡◌, refl, sym, ap, ◌∙◌}
use mathlib.Core.Bool.{Bool, true, false, ◌||◌, cond}
use mathlib.Core.List.{List, [], ◌∷◌}
use native.Mathlib.Omega.{arith}
use lib.ListN.{length, length-map}
use lib.Dec.{eqb, ltb}
use borrow.Author.Tests.{eq-eqb, ne_eqb, eqb-true, ltb-true}
use Rattle.seq.specs.Lists.{range, up_to}
use Rattle.seq.proofs.Ranges.{length-range}
use Rattle.seq.proofs.Tests.{or-neither, or_right}
use Rattle.text.specs.declared.Column.{Column}
use Rattle.text.specs.Utf8.{chars_from, char_indices, plain}
use Rattle.text.proofs.PlainLaws.{plain-first, plain-rest, plain-span}
use Rattle.grid.specs.Slots.{Slot, glyph_of, slots_from}
use Rattle.representation.specs.Arrays.{glyph_code, glyph_codes, slot_bytes}
use Rattle.slots.specs.Replaced.{replaced, byte_codes}
use Rattle.slots.proofs.glyphs.ReplaceLaws.{length-replaced, replaced-same}
use Rattle.slots.specs.Line.{FilledLine}
use Rattle.slots.specs.Scan.{scanned_slots, clipped}

-- ---- the slots of a plain line
plain-slots : (rule : Bool) (first at : ℕ) (s : List ℕ) → plain s ≡ true
    → (glyph_codes (slots_from rule first (chars_from at 0 s)) ≡ byte_codes rule s) × (slot_bytes (slots_from rule first (chars_from at 0 s)) ≡ range at (length s))
unfolding slots_from chars_from range
plain-slots rule first at [] e = (refl, refl)
plain-slots rule first at (b ∷ bs) e =
    let rest = plain-slots rule (first + 1) (at + 1) bs (plain-rest b bs e) in
    rw (plain-first b bs e, plain-span first b bs e)
    (ap (λ (l : List ℕ). glyph_code (glyph_of rule b) ∷ l) rest.0, ap (λ (l : List ℕ). at ∷ l) rest.1)

pub plain-count : (line : List ℕ) → plain line ≡ true → (rule : Bool) (column : ℕ) → length line ≡ length (slots_from rule column (char_indices line))
plain-count line is rule column =
    let slots = slots_from rule column (char_indices line) in
    sym (sym (length-map slots (λ (s : Slot). glyph_code s.glyph)) ∙ ap length (plain-slots rule column 0 line is).0 ∙ length-map line (λ (b : ℕ). glyph_code (glyph_of rule b)))

-- is a line known to be plain?
module _ (rule : Bool) (count : ℕ) where
  pub by-rule : rule ≡ true → rule || eqb count 255 ≡ true
  by-rule e = rw e

  pub by-count : count ≡ 255 → rule || eqb count 255 ≡ true
  by-count e = or_right rule (eq-eqb count 255 e)

  pub not-known : rule ≡ false → (count ≡ 255 → ⊥) → rule || eqb count 255 ≡ false
  not-known e h = rw (e, ne_eqb count 255 h)

-- ---- a line that is plain
module _ (line : List ℕ) (rule : Bool) (count at : ℕ) (width columns : Column) (glyphs offsets : List ℕ)
    (is : rule || eqb count 255 ≡ true → plain line ≡ true) (taken : rule || eqb count 255 ≡ true)
    (told : columns.0 ≡ length line) where
  pub plain-filled : (glyphs' offsets' : List ℕ) → columns.0 ≡ width.0 → at + width.0 ≤ length glyphs → at + width.0 ≤ length offsets
      → glyphs' ≡ replaced glyphs at (byte_codes rule line) → offsets' ≡ replaced offsets at (up_to (length line))
      → FilledLine line rule count at width.0 glyphs offsets glyphs' offsets' true
  plain-filled glyphs' offsets' wide room room' put put' column known =
      let slots = plain-slots rule column 0 line (is taken) in
      let long = plain-count line (is taken) rule column in
      let same = told ∙ long in
      record {
        glyphs_kept =
            ap length put ∙ length-replaced glyphs at (byte_codes rule line) (omega (arith, long, same, length-map line (λ (b : ℕ). glyph_code (glyph_of rule b))));
        offsets_kept = ap length put' ∙ length-replaced offsets at (up_to (length line)) (omega (arith, long, same, length-range 0 (length line)));
        answer = sym (eq-eqb (length (slots_from rule column (char_indices line))) width.0 (sym same ∙ wide));
        glyphs_hold = λ full. put ∙ ap (replaced glyphs at) (sym slots.0);
        offsets_hold = λ full. put' ∙ ap (replaced offsets at) (sym slots.1);
      }

-- ---- a line that scanning left
clipped-same : (n width : ℕ) → width ≤ 128 → eqb (clipped n) width ≡ eqb n width
clipped-same n width narrow = go (ltb 128 n) refl where
  go : (t : Bool) → ltb 128 n ≡ t → eqb (cond t 129 n) width ≡ eqb n width
  go true is = ne_eqb 129 width (λ e. omega arith) ∙ sym (ne_eqb n width (λ e. omega (arith, ltb-true 128 n is)))
  go false is = refl

pub scanned-filled : (line : List ℕ) (rule : Bool) (count at : ℕ) (width : Column) (glyphs offsets : List ℕ) → width.0 ≤ 128 → rule || eqb count 255 ≡ false
    → at + width.0 ≤ length glyphs → at + width.0 ≤ length offsets
    → FilledLine line rule count at width.0 glyphs offsets glyphs offsets (eqb count width.0)
scanned-filled line rule count at width glyphs offsets narrow other room room' column known =
    let no-rule = (or-neither rule (eqb count 255) other).0 in
    let told = known other in
    let slots = scanned_slots line column in
    let answer : eqb count width.0 ≡ eqb (length slots) width.0 = ap (λ (n : ℕ). eqb n width.0) told.counted ∙ clipped-same (length slots) width.0 narrow in
    rw no-rule
    (record {
      glyphs_kept = refl;
      offsets_kept = refl;
      answer = answer;
      glyphs_hold = λ full. let long = eqb-true (length slots) width.0 (sym answer ∙ full) in
          replaced-same glyphs at (glyph_codes slots) (omega (arith, long, length-map slots (λ (s : Slot). glyph_code s.glyph)))
          (rw (length-map slots (λ (s : Slot). glyph_code s.glyph)) (told.left.glyphs_left (omega (arith, long))));
      offsets_hold = λ full. let long = eqb-true (length slots) width.0 (sym answer ∙ full) in
          replaced-same offsets at (slot_bytes slots) (omega (arith, long, length-map slots (λ (s : Slot). s.byte)))
          (rw (length-map slots (λ (s : Slot). s.byte)) (told.left.offsets_left (omega (arith, long))));
    })
