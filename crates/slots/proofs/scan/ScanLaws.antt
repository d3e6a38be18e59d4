-- Laws of scanning a line, character by character: the characters before a byte are written, in n slots (`ScanSoFar`).
use Rattle.std.specs.Prelude.{Option, None, Some, unwrap_or}
use Prim.Native.Nat.{ℕ, zero, suc, ◌+◌, ◌*◌, ◌^◌, ◌≤◌, ◌<◌}
use mathlib.Core.Path.{◌≡◌, refl, sym, ap, ◌∙◌}
use mathlib.Core.Bool.{Bool, true, false, not}
use mathlib.Core.Logic.{⊎_elim}
use mathlib.Core.List.{List, [], ◌∷◌, ◌++◌, map, map-append}
use native.Mathlib.Omega.{arith}
use native.Mathlib.Nat.{add-zero, add_assoc}
use lib.ListN.{length, take, drop, get_or, replicate, length-append, length-drop, length-replicate, length-map, drop_of_length-le}
use lib.Seq.{take_at, drop_at, drop-drop, take-add, take_all, length-take-le, get_or-drop}
use borrow.Author.Tests.{ne_eqb, not-true, not-false}
use Rattle.seq.specs.Lists.{within}
use Rattle.seq.proofs.ListsLaws.{within_low}
use Rattle.text.specs.Characters.{in_set, span}
use Rattle.text.specs.Columns.{byte_columns}
use Rattle.text.specs.Utf8.{character_of, character, chars_from, well_from, well_formed}
use Rattle.text.proofs.CharactersLaws.{ascii-in-set, ascii-one-column, span-other, span-four-columns-at-most}
use Rattle.text.proofs.Utf8Laws.{character-one, character-past-ascii, of-bytes, chars-next, well-next, well-not, size_fits}
use Rattle.text.proofs.KnownLaws.{between}
use Rattle.text.proofs.ByteColumnsLaws.{adds_one, adds-mark, adds-two, byte_columns-span}
use Rattle.utf8.specs.Several.{Whole, MarkAt}
use Rattle.grid.specs.Slots.{Slot, glyph_of, slots_from}
use Rattle.representation.specs.Arrays.{glyph_code, glyph_codes, slot_bytes}
use Rattle.slots.specs.Replaced.{replaced}
use Rattle.slots.specs.Scan.{scanned_slots, PutWithin, MarksPassed, LineScanned}
use Rattle.text.specs.declared.Column.{Column}
use Rattle.slots.proofs.glyphs.ReplaceLaws.{replaced-more, part-replaced}

map-replicate : (f : Slot → ℕ) (n : ℕ) (s : Slot) → map f (replicate n s) ≡ replicate n (f s)
map-replicate f zero s = refl
map-replicate f (suc n) s = ap (λ (l : List ℕ). f s ∷ l) (map-replicate f n s)

-- n slots are done, and `count` times s comes next
module _ (slots rest : List Slot) (s : Slot) (n count : ℕ) (done : n ≤ length slots) (next : drop n slots ≡ replicate count s ++ rest) where
  slots-left : drop (n + count) slots ≡ rest
  slots-left = sym (drop-drop count n slots) ∙ ap (drop count) next ∙ drop_at (replicate count s) rest count (length-replicate count s)

  slots-inside : n + count ≤ length slots
  slots-inside =
      let e : length (drop n slots) ≡ count + length rest = ap length next ∙ simp (length-append, length-replicate) in
      omega (arith, length-drop n slots)

  slots-taken : (f : Slot → ℕ) → map f (take (n + count) slots) ≡ map f (take n slots) ++ replicate count (f s)
  slots-taken f =
      ap (map f) (take-add n count slots ∙ ap (λ (l : List Slot). take n slots ++ l) (ap (take count) next ∙ take_at (replicate count s) rest count (length-replicate count s)))
      ∙ map-append f (take n slots) (replicate count s) ∙ ap (λ (l : List ℕ). map f (take n slots) ++ l) (map-replicate f count s)

  -- an array that holds what f gives of each slot done
  module _ (f : Slot → ℕ) (at : ℕ) (array₀ array array' : List ℕ) (room : at + (n + count) ≤ length array₀)
      (so_far : array ≡ replaced array₀ at (map f (take n slots))) (put : array' ≡ replaced array (at + n) (replicate count (f s))) where
    done-length : length (map f (take n slots)) ≡ n
    done-length = length-map (take n slots) f ∙ length-take-le n slots done

    array-next : array' ≡ replaced array₀ at (map f (take (n + count) slots))
    array-next =
        put ∙ ap (λ (a : List ℕ). replaced a (at + n) (replicate count (f s))) so_far
        ∙ ap (λ (k : ℕ). replaced (replaced array₀ at (map f (take n slots))) (at + k) (replicate count (f s))) (sym done-length)
        ∙ replaced-more array₀ at (map f (take n slots)) (omega (arith, done-length)) (replicate count (f s))
        ∙ ap (replaced array₀ at) (sym (slots-taken f))

abbrev columns_told : Option Column → ℕ
columns_told (Some c) = c.0
columns_told None = 0

-- the characters before `byte` are in the set, and take n slots, which are written unless there are more than 128
pub record ScanSoFar (line : List ℕ) (first at : ℕ) (glyphs₀ offsets₀ glyphs offsets : List ℕ) (byte n : ℕ) : Type 0 where
  pub in_line : byte ≤ length line
  pub well : well_formed line ≡ well_from 0 (drop byte line)
  pub few : n ≤ 4 * byte
  pub inside : n ≤ length (scanned_slots line first)
  pub left : drop n (scanned_slots line first) ≡ slots_from false (first + n) (chars_from byte 0 (drop byte line))
  pub glyphs_kept : length glyphs ≡ length glyphs₀
  pub offsets_kept : length offsets ≡ length offsets₀
  pub glyphs_before : take at glyphs ≡ take at glyphs₀
  pub offsets_before : take at offsets ≡ take at offsets₀
  pub glyphs_hold : n ≤ 128 → glyphs ≡ replaced glyphs₀ at (glyph_codes (take n (scanned_slots line first)))
  pub offsets_hold : n ≤ 128 → offsets ≡ replaced offsets₀ at (slot_bytes (take n (scanned_slots line first)))

-- all characters past ASCII have one glyph
past_ascii : (v w : ℕ) → 0x80 ≤ v → 0x80 ≤ w → glyph_of false v ≡ glyph_of false w
unfolding glyph_of
past_ascii v w high high' =
    rw (
      ne_eqb v 0x2b (λ e. omega arith),
      ne_eqb w 0x2b (λ e. omega arith),
      ne_eqb v 0x2d (λ e. omega arith),
      ne_eqb w 0x2d (λ e. omega arith),
      ne_eqb v 0x7c (λ e. omega arith),
      ne_eqb w 0x7c (λ e. omega arith),
    )

-- the character at a byte has so many bytes and, from this column on, so many columns, and the glyph of its first byte a
record First (line : List ℕ) (byte column a size count : ℕ) : Type 0 where
  pub value : ℕ
  pub is : character (drop byte line) ≡ Some (character_of value size)
  pub spans : count ≡ span column value
  pub glyph : glyph_of false a ≡ glyph_of false value

-- ---- by the first byte
module _ (line : List ℕ) (byte column a : ℕ) (here : a ≡ get_or line byte 0) where
  first_plain : (t : Bool) → t ≡ within 0x20 0x7e a → t ≡ true → First line byte column a 1 1
  first_plain t told is-in =
      let (low, high) = between 0x20 0x7e a (sym told ∙ is-in) in
      record {
        value = a;
        is = sym (character-one line byte a true (Some (character_of a 1)) here (omega arith) (sym (ascii-in-set a low high)) refl);
        spans = sym (span-other column a (λ e. omega arith) ∙ ap (λ (w : Option ℕ). unwrap_or w 0) (ascii-one-column a low high));
        glyph = refl;
      }

  first-ascii : (t : Bool) (count : ℕ) → a < 0x80 → t ≡ in_set a → not t ≡ false → count ≡ span column a → First line byte column a 1 count
  first-ascii t count low told stands spans =
      record { value = a; is = sym (character-one line byte a true (Some (character_of a 1)) here low (sym (not-false t stands) ∙ told) refl); spans = spans; glyph = refl }

  several : (v size : ℕ) → 2 ≤ size → character (drop byte line) ≡ Some (character_of v size) → 0x80 ≤ a → (count : ℕ) → byte_columns a ≡ count → First line byte column a size count
  several v size many is high count adds =
      let start : get_or (drop byte line) 0 0 ≡ a = simp (get_or-drop, add-zero) (sym here) in
      let past = character-past-ascii (drop byte line) (character_of v size) is many in
      record {
        value = v;
        is = is;
        spans = sym adds ∙ ap byte_columns (sym start) ∙ byte_columns-span (drop byte line) (character_of v size) is column (λ e. omega arith);
        glyph = past_ascii a v high past;
      }

  first-high : (v : ℕ) → character (drop byte line) ≡ Some (character_of v 2) → 0xc0 ≤ a
  first-high v is =
      let start : get_or (drop byte line) 0 0 ≡ a = simp (get_or-drop, add-zero) (sym here) in
      ⊎_elim (λ h. absurd (omega arith)) (⊎_elim (λ h. omega (arith, start, within_low 0xc0 0xdf (get_or (drop byte line) 0 0) h.2)) (λ h. absurd (omega arith)))
      (of-bytes (drop byte line) (character_of v 2) is).bytes

  module _ (t : Bool) (stands : not t ≡ false) where
    first-narrow : Whole line byte 2 t → 0x80 ≤ a → a < 0xcc → First line byte column a 2 1
    first-narrow w high low =
        let (v, is) = w.whole (not-false t stands) in
        several v 2 (omega arith) is high 1 (adds_one a (first-high v is) low)

    first-mark : Whole line byte 2 t → 0x80 ≤ a → 0xcc ≤ a → a < 0xe0 → First line byte column a 2 0
    first-mark w high low below = let (v, is) = w.whole (not-false t stands) in several v 2 (omega arith) is high 0 (adds-mark a low below)

    first-wide : Whole line byte 3 t → 0xe0 ≤ a → First line byte column a 3 2
    first-wide w low = let (v, is) = w.whole (not-false t stands) in several v 3 (omega arith) is (omega arith) 2 (adds-two a low)

-- ---- marks
module _ (line : List ℕ) (byte : ℕ) (m : MarkAt line byte) where
  first-of-mark : (column : ℕ) → First line byte column (get_or line byte 0) 2 0
  first-of-mark column = first-mark line byte column (get_or line byte 0) refl true refl m.mark (omega (arith, m.low)) m.low m.high

  mark-passed : MarksPassed line byte (byte + 2)
  unfolding slots_from
  mark-passed =
      let f = first-of-mark 0 in
      record {
        forward = omega arith;
        in_line = (size_fits line byte (character_of f.value 2) f.is).1;
        well = well-next line byte (character_of f.value 2) f.is;
        slotless = λ column. let g = first-of-mark column in rw (chars-next line byte (character_of g.value 2) g.is, ← g.spans, add-zero column);
      }

pub none_passed : (line : List ℕ) (at : ℕ) → at ≤ length line → MarksPassed line at at
none_passed line at inside = record { forward = omega arith; in_line = inside; well = refl; slotless = λ column. refl }

passed_on : (line : List ℕ) (at byte end : ℕ) → MarksPassed line at byte → MarksPassed line byte end → MarksPassed line at end
passed_on line at byte end p q =
    record {
      forward = omega (arith, p.forward, q.forward);
      in_line = q.in_line;
      well = p.well ∙ q.well;
      slotless = λ column. p.slotless column ∙ q.slotless column;
    }

pub passed-next : (line : List ℕ) (at byte : ℕ) → MarksPassed line at byte → (t : Bool) → (t ≡ true → MarkAt line byte) → not t ≡ false → MarksPassed line at (byte + 2)
passed-next line at byte p t mark stands = passed_on line at byte (byte + 2) p (mark-passed line byte (mark (not-false t stands)))

module _ (line : List ℕ) (first at : ℕ) (glyphs₀ offsets₀ glyphs offsets : List ℕ) (byte n : ℕ) (so_far : ScanSoFar line first at glyphs₀ offsets₀ glyphs offsets byte n) where
  -- ---- a character more
  module _ {a size count : ℕ} (f : First line byte (first + n) a size count) where
    next : drop n (scanned_slots line first) ≡ replicate count (record { glyph = glyph_of false f.value; byte = byte }) ++ slots_from false (first + (n + count)) (chars_from (byte + size) 0 (drop (byte + size) line))
    unfolding slots_from
    next = so_far.left ∙ rw (chars-next line byte (character_of f.value size) f.is, ← f.spans, add_assoc)

    scan-next : (glyphs' offsets' : List ℕ) → at + 128 ≤ length glyphs₀ → at + 128 ≤ length offsets₀ → PutWithin at n count a byte glyphs offsets glyphs' offsets'
        → ScanSoFar line first at glyphs₀ offsets₀ glyphs' offsets' (byte + size) (n + count)
    scan-next glyphs' offsets' room room' put =
        let slots = scanned_slots line first in
        let slot : Slot = record { glyph = glyph_of false f.value; byte = byte } in
        let rest = slots_from false (first + (n + count)) (chars_from (byte + size) 0 (drop (byte + size) line)) in
        record {
          in_line = (size_fits line byte (character_of f.value size) f.is).1;
          well = so_far.well ∙ well-next line byte (character_of f.value size) f.is;
          few = omega (arith, so_far.few, f.spans, span-four-columns-at-most (first + n) f.value, size_fits line byte (character_of f.value size) f.is);
          inside = slots-inside slots rest slot n count so_far.inside next;
          left = slots-left slots rest slot n count so_far.inside next;
          glyphs_kept = put.glyphs_kept ∙ so_far.glyphs_kept;
          offsets_kept = put.offsets_kept ∙ so_far.offsets_kept;
          glyphs_before = put.glyphs_before ∙ so_far.glyphs_before;
          offsets_before = put.offsets_before ∙ so_far.offsets_before;
          glyphs_hold = λ fits.
              array-next slots rest slot n count so_far.inside next (λ s. glyph_code s.glyph) at glyphs₀ glyphs glyphs' (omega arith)
              (so_far.glyphs_hold (omega arith)) (rw f.glyph at (put.glyphs_put fits));
          offsets_hold = λ fits.
              array-next slots rest slot n count so_far.inside next (λ s. s.byte) at offsets₀ offsets offsets' (omega arith)
              (so_far.offsets_hold (omega arith)) (put.offsets_put fits);
        }

  module _ (room : at + 128 ≤ length glyphs₀) (room' : at + 128 ≤ length offsets₀) (a : ℕ) (here : a ≡ get_or line byte 0) where
    pub next-plain : (t : Bool) → t ≡ within 0x20 0x7e a → t ≡ true → (glyphs' offsets' : List ℕ) → PutWithin at n 1 a byte glyphs offsets glyphs' offsets'
        → ScanSoFar line first at glyphs₀ offsets₀ glyphs' offsets' (byte + 1) (n + 1)
    next-plain t told is-in glyphs' offsets' put = scan-next (first_plain line byte (first + n) a here t told is-in) glyphs' offsets' room room' put

    pub next-ascii : (t : Bool) (count : ℕ) → a < 0x80 → t ≡ in_set a → not t ≡ false → count ≡ span (first + n) a
        → (glyphs' offsets' : List ℕ) → PutWithin at n count a byte glyphs offsets glyphs' offsets'
        → ScanSoFar line first at glyphs₀ offsets₀ glyphs' offsets' (byte + 1) (n + count)
    next-ascii t count low told stands spans glyphs' offsets' put =
        scan-next (first-ascii line byte (first + n) a here t count low told stands spans) glyphs' offsets' room room' put

    module _ (t : Bool) (stands : not t ≡ false) where
      pub next-narrow : Whole line byte 2 t → 0x80 ≤ a → a < 0xcc → (glyphs' offsets' : List ℕ) → PutWithin at n 1 a byte glyphs offsets glyphs' offsets'
          → ScanSoFar line first at glyphs₀ offsets₀ glyphs' offsets' (byte + 2) (n + 1)
      next-narrow w high low glyphs' offsets' put = scan-next (first-narrow line byte (first + n) a here t stands w high low) glyphs' offsets' room room' put

      pub next-wide : Whole line byte 3 t → 0xe0 ≤ a → (glyphs' offsets' : List ℕ) → PutWithin at n 2 a byte glyphs offsets glyphs' offsets'
          → ScanSoFar line first at glyphs₀ offsets₀ glyphs' offsets' (byte + 3) (n + 2)
      next-wide w low glyphs' offsets' put = scan-next (first-wide line byte (first + n) a here t stands w low) glyphs' offsets' room room' put

  scan-passed : (end : ℕ) → MarksPassed line byte end → ScanSoFar line first at glyphs₀ offsets₀ glyphs offsets end n
  scan-passed end p =
      record {
        in_line = p.in_line;
        well = so_far.well ∙ p.well;
        few = omega (arith, so_far.few, p.forward);
        inside = so_far.inside;
        left = so_far.left ∙ p.slotless (first + n);
        glyphs_kept = so_far.glyphs_kept;
        offsets_kept = so_far.offsets_kept;
        glyphs_before = so_far.glyphs_before;
        offsets_before = so_far.offsets_before;
        glyphs_hold = so_far.glyphs_hold;
        offsets_hold = so_far.offsets_hold;
      }

  pub marks-room : {size : ℕ} (t : Bool) → not t ≡ false → Whole line byte size t → byte + size ≤ length line
  marks-room {size} t stands w = let (v, is) = w.whole (not-false t stands) in (size_fits line byte (character_of v size) is).1

  -- a mark, and those that follow it
  pub next_marks : (a : ℕ) → a ≡ get_or line byte 0 → (t : Bool) → not t ≡ false → Whole line byte 2 t → 0xcc ≤ a → a < 0xe0
      → (end : ℕ) → MarksPassed line (byte + 2) end → ScanSoFar line first at glyphs₀ offsets₀ glyphs offsets end n
  next_marks a here t stands w low high end p =
      let m : MarkAt line byte = record { mark = rw (not-false t stands) at w; low = rw here at low; high = rw here at high } in
      scan-passed end (passed_on line byte (byte + 2) end (mark-passed line byte m) p)

  pub count_fits : (column a count : ℕ) → count ≡ span column a → length line ≤ 512 → n + count < 2 ^ 64
  count_fits column a count spans short = omega (arith, so_far.few, so_far.in_line, spans, span-four-columns-at-most column a)

  -- ---- no character of the set, and the line's end
  outside : character (drop byte line) ≡ None → byte < length line → LineScanned line first at glyphs₀ offsets₀ glyphs offsets None
  outside is inside =
      record {
        glyphs_kept = so_far.glyphs_kept;
        offsets_kept = so_far.offsets_kept;
        glyphs_before = so_far.glyphs_before;
        offsets_before = so_far.offsets_before;
        well = λ m e. absurd (let z : ◌≡◌ {A = ℕ} 0 1 = cc in omega arith);
        counted = λ m e. absurd (let z : ◌≡◌ {A = ℕ} 0 1 = cc in omega arith);
        left = λ m e. absurd (let z : ◌≡◌ {A = ℕ} 0 1 = cc in omega arith);
        outside = λ e. so_far.well ∙ well-not line byte is inside;
      }

  pub scan-outside : {size : ℕ} (t : Bool) → Whole line byte size t → not t ≡ true → byte < length line → LineScanned line first at glyphs₀ offsets₀ glyphs offsets None
  scan-outside t w missing inside = outside (w.none (not-true t missing)) inside

  pub scan-control : (a : ℕ) (t : Bool) → a ≡ get_or line byte 0 → a < 0x80 → t ≡ in_set a → not t ≡ true → byte < length line
      → LineScanned line first at glyphs₀ offsets₀ glyphs offsets None
  scan-control a t here low told missing inside = outside (sym (character-one line byte a false None here low (sym (not-true t missing) ∙ told) refl)) inside

  left-of : (array₀ array : List ℕ) (f : Slot → ℕ) → at + 128 ≤ length array₀ → length (scanned_slots line first) ≤ 128
      → take n (scanned_slots line first) ≡ scanned_slots line first → array ≡ replaced array₀ at (map f (take n (scanned_slots line first)))
      → take (length (scanned_slots line first)) (drop at array) ≡ map f (scanned_slots line first)
  left-of array₀ array f room few whole put =
      let slots = scanned_slots line first in
      ap (λ (l : List ℕ). take (length slots) (drop at l)) (put ∙ ap (λ (l : List Slot). replaced array₀ at (map f l)) whole)
      ∙ part-replaced array₀ at (map f slots) (omega (arith, length-map slots f)) (length slots) (length-map slots f)

  pub scan-ends : length line ≤ byte → at + 128 ≤ length glyphs₀ → at + 128 ≤ length offsets₀ → LineScanned line first at glyphs₀ offsets₀ glyphs offsets (Some (record { 0 = n }))
  unfolding chars_from slots_from well_from
  scan-ends end room room' =
      let slots = scanned_slots line first in
      let none : drop n slots ≡ [] = so_far.left ∙ rw (drop_of_length-le line end) in
      let long : length slots ≡ n = omega (arith, so_far.inside, length-drop n slots, ap length none) in
      let whole : take n slots ≡ slots = take_all n slots (omega arith) in
      record {
        glyphs_kept = so_far.glyphs_kept;
        offsets_kept = so_far.offsets_kept;
        glyphs_before = so_far.glyphs_before;
        offsets_before = so_far.offsets_before;
        well = λ m e. so_far.well ∙ rw (drop_of_length-le line end);
        counted = λ m e. sym (ap columns_told e) ∙ sym long;
        left = λ m e.
            record {
              glyphs_left = λ h. left-of glyphs₀ glyphs (λ s. glyph_code s.glyph) room h whole (so_far.glyphs_hold (omega arith));
              offsets_left = λ h. left-of offsets₀ offsets (λ s. s.byte) room' h whole (so_far.offsets_hold (omega arith));
            };
        outside = λ e. absurd (let z : ◌≡◌ {A = ℕ} 0 1 = cc in omega arith);
      }

-- ---- what the code's tests say
pub span-few : (column a count : ℕ) → count ≡ span column a → count ≤ 4
span-few column a count spans = omega (arith, spans, span-four-columns-at-most column a)
