-- A slot's byte lies in its line, and not before the byte of the slot left of it.
use Rattle.std.specs.Prelude.{Option, None, Some}
use Rattle.text.specs.declared.Character.{Character}
use Prim.Native.Nat.{ℕ, zero, suc, ◌+◌, ◌-◌, ◌≤◌, ◌<◌}
use mathlib.Core.Path.{◌≡◌, refl, sym, ap, ◌∙◌}
use mathlib.Core.Bool.{Bool, true, false, ◌||◌, cond}
use mathlib.Core.Logic.{◌⊎◌, inl, inr, ⊎_elim}
use mathlib.Core.List.{List, [], ◌∷◌, ◌++◌, Memᴰ}
use native.Mathlib.Omega.{arith}
use lib.Dec.{eqb}
use lib.ListN.{length, get_or, replicate}
use lib.Seq.{get_or-take}
use borrow.Author.Tests.{eqb-true}
use Rattle.seq.proofs.Tests.{true-not-false, bool-refused, bit, bit-one, bit-true, bit-false}
use Rattle.seq.proofs.Positions.{get_or-mem, mem-replicate}
use Rattle.text.specs.Characters.{plus, span}
use Rattle.text.specs.Computing.{characters}
use Rattle.text.specs.Utf8.{CharIndex, character, chars_step, chars_from}
use Rattle.text.specs.Trim.{trim_end}
use Rattle.text.proofs.TrimLaws.{trim-prefix, trim-shorter}
use Rattle.text.proofs.PartLaws.{low-character}
use Rattle.grid.specs.Values.{Line, no_line}
use Rattle.grid.specs.Slots.{Slot, Plus, Dash, Pipe, Other, dash, pipe, vertical, glyph_at, glyph_of, slots_from, line_slots, is_separator, grid_of, slot_at, byte_at}
use Rattle.grid.proofs.SlotLaws.{row_at, row-at}

pub char-byte : (at skip : ℕ) (s : List ℕ) {c : CharIndex} → Memᴰ c (chars_from at skip s) → c.byte < at + length s
unfolding chars_from
char-byte at skip [] m = absurd (mathlib.Core.List.Memᴰ.not-nil m)
char-byte at (suc skip) (b ∷ bs) m = let h = char-byte (at + 1) skip bs m in omega arith
char-byte at zero (b ∷ bs) {c} m = go (character (b ∷ bs)) m (λ k n. char-byte (at + 1) k bs n) where
  go : (d : Option Character) → Memᴰ c (chars_step at d (λ k. chars_from (at + 1) k bs)) → ((k : ℕ) → Memᴰ c (chars_from (at + 1) k bs) → c.byte < at + 1 + length bs)
      → c.byte < at + suc (length bs)
  go (Some found) m later =
      ⊎_elim (λ (e : c ≡ record { byte = at; value = found.value }). let h : c.byte ≡ at = ap (λ (c : CharIndex). c.byte) e in omega arith)
      (λ (n : Memᴰ c (chars_from (at + 1) (found.size - 1) bs)). let h = later (found.size - 1) n in omega arith) (mathlib.Core.List.Memᴰ.cases_cons m)
  go None m later = absurd (mathlib.Core.List.Memᴰ.not-nil m)

-- the character that stands in a slot
pub slot-character : (rule : Bool) (column : ℕ) (cs : List CharIndex) {s : Slot} → Memᴰ s (slots_from rule column cs)
    → (c : CharIndex) × Memᴰ c cs × (s ≡ record { glyph = glyph_of rule c.value; byte = c.byte })
unfolding slots_from
slot-character rule column [] m = absurd (mathlib.Core.List.Memᴰ.not-nil m)
slot-character rule column (c ∷ cs) {s} m = go (mathlib.Core.List.Memᴰ.append_cases run m) (slot-character rule (column + span column c.value) cs) where
  run : List Slot
  run = replicate (span column c.value) (record { glyph = glyph_of rule c.value; byte = c.byte })

  go : Memᴰ s run ⊎ Memᴰ s (slots_from rule (column + span column c.value) cs)
      → (Memᴰ s (slots_from rule (column + span column c.value) cs) → (d : CharIndex) × Memᴰ d cs × (s ≡ record { glyph = glyph_of rule d.value; byte = d.byte }))
      → (d : CharIndex) × Memᴰ d (c ∷ cs) × (s ≡ record { glyph = glyph_of rule d.value; byte = d.byte })
  go (inl here) later = (c, mathlib.Core.List.Memᴰ.head refl, mem-replicate (span column c.value) here)
  go (inr n) later = let found = later n in (found.0, mathlib.Core.List.Memᴰ.tail found.1, found.2)

pub line-byte : (rule : Bool) (line : Line) {s : Slot} → Memᴰ s (line_slots rule line) → s.byte < length line.text
unfolding line_slots
line-byte rule line m =
    let (c, n, e) = slot-character rule line.column (chars_from 0 0 (trim_end line.text)) m in
    omega (arith, ap (λ (s : Slot). s.byte) e, char-byte 0 0 (trim_end line.text) n, trim-shorter line.text)

-- ---- borders

border-low : (rule : Bool) (value : ℕ) → vertical (glyph_of rule value) ≡ true → value < 0x80
unfolding glyph_of
border-low rule value = go (eqb value plus) refl (rule || eqb value dash) (eqb value pipe) refl where
  go : (t : Bool) → eqb value plus ≡ t → (u v : Bool) → eqb value pipe ≡ v → vertical (cond t Plus (cond u Dash (cond v Pipe Other))) ≡ true → value < 0x80
  go true e u v f h = let here = eqb-true value plus e in omega arith
  go false e true v f h = absurd (true-not-false (sym h))
  go false e false true f h = let here = eqb-true value pipe f in omega arith
  go false e false false f h = absurd (true-not-false (sym h))

-- and takes one column
border-column : (rule : Bool) (column value : ℕ) → vertical (glyph_of rule value) ≡ true → span column value ≤ 1
unfolding glyph_of characters
border-column rule column value = go (eqb value plus) refl (rule || eqb value dash) (eqb value pipe) refl where
  go : (t : Bool) → eqb value plus ≡ t → (u v : Bool) → eqb value pipe ≡ v → vertical (cond t Plus (cond u Dash (cond v Pipe Other))) ≡ true → span column value ≤ 1
  go true e u v f h = rw (eqb-true value plus e) (omega arith)
  go false e true v f h = absurd (true-not-false (sym h))
  go false e false true f h = rw (eqb-true value pipe f) (omega arith)
  go false e false false f h = absurd (true-not-false (sym h))

-- the byte of a slot that is vertical is a character of its own
line-border : (rule : Bool) (line : Line) {s : Slot} → Memᴰ s (line_slots rule line) → vertical s.glyph ≡ true → get_or line.text s.byte 0 < 0x80
unfolding line_slots
line-border rule line {s} m border =
    let text = trim_end line.text in
    let (c, n, made) = slot-character rule line.column (chars_from 0 0 text) m in
    let byte : s.byte ≡ c.byte - 0 = omega (arith, ap (λ (s : Slot). s.byte) made) in
    let low : c.value < 0x80 = border-low rule c.value (ap (λ (s : Slot). vertical s.glyph) (sym made) ∙ border) in
    let found : get_or text s.byte 0 ≡ c.value = ap (λ (i : ℕ). get_or text i 0) byte ∙ (low-character 0 0 text n low).1 in
    let kept : get_or text s.byte 0 ≡ get_or line.text s.byte 0 =
    ap (λ (l : List ℕ). get_or l s.byte 0) (trim-prefix line.text) ∙ get_or-take (length text) line.text s.byte 0 (omega (arith, char-byte 0 0 text n)) in
    omega arith

module _ (lines : List Line) (y x : ℕ) (low : y < length lines) (wide : x < length (get_or (grid_of lines).rows y [])) where
  abbrev none : Slot
  none = record { glyph = Other; byte = 0 }

  abbrev line : Line
  line = get_or lines y no_line

  in_row : Memᴰ (slot_at (grid_of lines) y x) (row_at lines y)
  unfolding slot_at
  in_row =
      let row = row-at lines y low in
      rw row (get_or-mem (row_at lines y) x none (omega (arith, ap length row)))

  pub slot-in-line : byte_at (grid_of lines) y x < length line.text
  slot-in-line = line-byte (eqb y 0 || is_separator lines y) line in_row

  pub border-byte : vertical (glyph_at (grid_of lines) y x) ≡ true → get_or line.text (byte_at (grid_of lines) y x) 0 < 0x80
  border-byte border = line-border (eqb y 0 || is_separator lines y) line in_row border

-- ---- from left to right

-- the first byte that a slot after this one may have: past a border, since that is one character of one column
abbrev after : Slot → ℕ
after s = s.byte + bit (vertical s.glyph)

-- bytes from `low` on that never fall, and rise past a border
abbrev Climbs : ℕ → List Slot → Type 0
Climbs low [] = Unit {0}
Climbs low (s ∷ l) = (low ≤ s.byte) × Climbs (after s) l

climbs-lower : {low high : ℕ} → low ≤ high → (l : List Slot) → Climbs high l → Climbs low l
climbs-lower h [] c = c
climbs-lower h (s ∷ l) c = (omega arith, c.1)

climbs-run : (n low : ℕ) (s : Slot) (l : List Slot) → (vertical s.glyph ≡ true → n ≤ 1) → low ≤ s.byte → Climbs (s.byte + 1) l → Climbs low (replicate n s ++ l)
climbs-run zero low s l one h c = climbs-lower (omega arith) l c
climbs-run (suc zero) low s l one h c = (h, climbs-lower (omega (arith, bit-one (vertical s.glyph))) l c)
climbs-run (suc (suc n)) low s l one h c =
    let flat : vertical s.glyph ≡ false = bool-refused (vertical s.glyph) (λ e. let few = one e in omega arith) in
    (h, climbs-run (suc n) (after s) s l (λ e. absurd (true-not-false (sym e ∙ flat))) (omega (arith, bit-false flat)) c)

climbs-at : (low : ℕ) (l : List Slot) (d : Slot) → Climbs low l → (x : ℕ) → suc x < length l → after (get_or l x d) ≤ (get_or l (suc x) d).byte
climbs-at low [] d c x h = absurd (omega arith)
climbs-at low (s ∷ []) d c x h = absurd (omega arith)
climbs-at low (s ∷ t ∷ l) d c zero h = c.1.0
climbs-at low (s ∷ t ∷ l) d c (suc x) h = climbs-at (after s) (t ∷ l) d c.1 x (omega arith)

slots-climb : (rule : Bool) (column at skip : ℕ) (s : List ℕ) → Climbs at (slots_from rule column (chars_from at skip s))
unfolding slots_from chars_from
slots-climb rule column at skip [] = tt
slots-climb rule column at (suc skip) (b ∷ bs) = climbs-lower (omega arith) (slots_from rule column (chars_from (at + 1) skip bs)) (slots-climb rule column (at + 1) skip bs)
slots-climb rule column at zero (b ∷ bs) = go (character (b ∷ bs)) (λ column k. slots-climb rule column (at + 1) k bs) where
  go : (d : Option Character) → ((column k : ℕ) → Climbs (at + 1) (slots_from rule column (chars_from (at + 1) k bs)))
      → Climbs at (slots_from rule column (chars_step at d (λ k. chars_from (at + 1) k bs)))
  go (Some found) later =
      let rest = slots_from rule (column + span column found.value) (chars_from (at + 1) (found.size - 1) bs) in
      climbs-run (span column found.value) at (record { glyph = glyph_of rule found.value; byte = at }) rest (border-column rule column found.value) (omega arith)
      (later (column + span column found.value) (found.size - 1))
  go None later = tt

module _ (lines : List Line) (y x : ℕ) (low : y < length lines) (wide : suc x < length (get_or (grid_of lines).rows y [])) where
  climb : after (slot_at (grid_of lines) y x) ≤ byte_at (grid_of lines) y (suc x)
  unfolding slot_at line_slots
  climb =
      let none : Slot = record { glyph = Other; byte = 0 } in
      let line : Line = get_or lines y no_line in
      let row = row-at lines y low in
      let c = slots-climb (eqb y 0 || is_separator lines y) line.column 0 0 (trim_end line.text) in
      let here : after (slot_at (grid_of lines) y x) ≡ after (get_or (row_at lines y) x none) = ap (λ (r : List Slot). after (get_or r x none)) row in
      let next : byte_at (grid_of lines) y (suc x) ≡ (get_or (row_at lines y) (suc x) none).byte = ap (λ (r : List Slot). (get_or r (suc x) none).byte) row in
      omega (arith, here, next, climbs-at 0 (row_at lines y) none c x (omega (arith, ap length row)))

  pub bytes-climb : byte_at (grid_of lines) y x ≤ byte_at (grid_of lines) y (suc x)
  bytes-climb = omega (arith, climb)

  pub border-climbs : vertical (glyph_at (grid_of lines) y x) ≡ true → byte_at (grid_of lines) y x < byte_at (grid_of lines) y (suc x)
  border-climbs border = omega (arith, climb, bit-true border)

-- bytes never fall along a row
pub bytes-rise : (lines : List Line) (y a n : ℕ) → y < length lines → a + n < length (get_or (grid_of lines).rows y []) → byte_at (grid_of lines) y a ≤ byte_at (grid_of lines) y (a + n)
bytes-rise lines y a zero low wide = let same : a + 0 ≡ a = omega arith in rw same (omega arith)
bytes-rise lines y a (suc n) low wide =
    let next : a + suc n ≡ suc (a + n) = omega arith in
    rw next (omega (arith, bytes-rise lines y a n low (omega arith), bytes-climb lines y (a + n) low (omega arith)))
