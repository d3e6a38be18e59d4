-- What a slot inside a box shows is what the box's text shows there (`vertical-text`).
use Rattle.std.specs.Prelude.{Option, None, Some}
use Rattle.text.specs.declared.Character.{Character}
use Prim.Native.Nat.{ℕ, zero, suc, ◌+◌, ◌-◌, ◌≤◌, ◌<◌}
use mathlib.Core.Path.{◌≡◌, refl, sym, ap, ◌∙◌}
use mathlib.Core.Bool.{Bool, false}
use mathlib.Core.Logic.{⊎_elim}
use mathlib.Core.List.{List, [], ◌∷◌, ◌++◌, map, map-append, Memᴰ}
use native.Mathlib.Omega.{arith}
use lib.ListN.{length, get_or, replicate, length-map, get_or-append, get_or-eq_default}
use Rattle.seq.proofs.Tests.{le-or-lt}
use Rattle.seq.proofs.Positions.{get_d_map, get_d_past}
use Rattle.text.specs.Characters.{space, span}
use Rattle.text.specs.Utf8.{character, chars_step, chars_from, char_indices}
use Rattle.text.specs.Lines.{no_text}
use Rattle.text.proofs.Utf8Laws.{character-ascii}
use Rattle.text.proofs.SpanLaws.{single-span, single-space}
use Rattle.grid.specs.Slots.{Grid, Slot, Glyph, Other, vertical, glyph_of, slots_from, grid_of, slot_at, glyph_at}
use Rattle.grid.proofs.SpanSlotLaws.{slots_at, slots-count, slots_length}
use Rattle.drawing.specs.Plain.{Box, Canvas, canvas_width, canvas_height, canvas_lines}
use Rattle.drawing.proofs.RowLaws.{text_columns, flat, flat-left}
use Rattle.drawing.proofs.RuleRows.{Lined}
use Rattle.drawing.proofs.GlyphRows.{rule_at, rows-flat, rule_at-inner}
use Rattle.drawing.proofs.CutBoxes.{to-text, row-text, past-text}

abbrev pub glyphs : List Slot → List Glyph
glyphs slots = map (λ (s : Slot). s.glyph) slots

-- the glyphs of a text's slots, wherever the text stands in its line
slots-glyphs : (rule : Bool) (s : List ℕ) (column at place skip : ℕ) → glyphs (slots_from rule column (chars_from at skip s)) ≡ glyphs (slots_from rule column (chars_from place skip s))
unfolding chars_from slots_from
slots-glyphs rule [] column at place skip = refl
slots-glyphs rule (b ∷ s) column at place (suc skip) = slots-glyphs rule s column (at + 1) (place + 1) skip
slots-glyphs rule (b ∷ s) column at place zero = go (character (b ∷ s)) (λ (c k : ℕ). slots-glyphs rule s c (at + 1) (place + 1) k) where
  same : (k : ℕ) (g : Glyph) (p q : ℕ) → glyphs (replicate k (record { glyph = g; byte = p })) ≡ glyphs (replicate k (record { glyph = g; byte = q }))
  same zero g p q = refl
  same (suc k) g p q = ap (λ (l : List Glyph). g ∷ l) (same k g p q)

  go : (d : Option Character) → ((c k : ℕ) → glyphs (slots_from rule c (chars_from (at + 1) k s)) ≡ glyphs (slots_from rule c (chars_from (place + 1) k s)))
      → glyphs (slots_from rule column (chars_step at d (λ k. chars_from (at + 1) k s))) ≡ glyphs (slots_from rule column (chars_step place d (λ k. chars_from (place + 1) k s)))
  go (Some found) later =
      let k = span column found.value in
      map-append (λ (s : Slot). s.glyph) (replicate k (record { glyph = glyph_of rule found.value; byte = at })) _
      ∙ ap (λ (l : List Glyph). l ++ glyphs (slots_from rule (column + k) (chars_from (at + 1) (found.size - 1) s))) (same k (glyph_of rule found.value) at place)
      ∙ ap (λ (l : List Glyph). glyphs (replicate k (record { glyph = glyph_of rule found.value; byte = place })) ++ l) (later (column + k) (found.size - 1))
      ∙ sym (map-append (λ (s : Slot). s.glyph) (replicate k (record { glyph = glyph_of rule found.value; byte = place })) _)
  go None later = refl

module _ {v : Canvas} (L : Lined v) (o : ℕ) {b : Box} (m : Memᴰ b v.boxes) (y : ℕ) (u : b.frame.top < y) (w : y < b.frame.bottom) where
  abbrev g : Grid
  g = grid_of (canvas_lines o v)

  abbrev left : ℕ
  left = b.frame.left

  low : y < canvas_height v
  low = omega (arith, (L.written.tiled.sized b m).low)

  abbrev none : Slot
  none = record { glyph = Other; byte = 0 }

  -- the box's line and its columns, what stands before it, and what follows it
  abbrev text : List ℕ
  text = get_or b.lines (y - b.frame.top - 1) no_text

  abbrev n : ℕ
  n = text_columns o b y

  abbrev Before : List ℕ
  Before = flat o v y 0 (left + 1)

  abbrev After : List ℕ
  After = replicate (b.frame.right - b.frame.left - 2 - n) space ++ flat o v y b.frame.right (canvas_width v - b.frame.right)

  abbrev rule : Bool
  rule = rule_at o v y

  -- the slots of the line up to the end of the text
  abbrev front : List Slot
  front = slots_from rule o (char_indices (Before ++ space ∷ text))

  abbrev texted : List Slot
  texted = slots_from rule (o + (left + 1) + 1) (chars_from (length Before + 1) 0 text)

  front-is : front ≡ slots_from rule o (char_indices Before) ++ record { glyph = glyph_of rule space; byte = length Before } ∷ texted
  unfolding chars_from slots_from
  front-is =
      slots_at rule (space ∷ text) (flat-left L.written o y low m u w)
      ∙ rw (character-ascii space text (omega arith) (omega arith), single-span (o + (left + 1)) single-space) refl

  module _ (c : ℕ) (i : left + 2 ≤ c) (j : c < left + 1 + (1 + n)) where
    slot-front : slot_at g y c ≡ get_or front c none
    unfolding slot_at
    slot-front =
        ap (λ (l : List Slot). get_or l c none) (rows-flat L o y low ∙ ap (λ (r : List ℕ). slots_from rule o (char_indices r)) (row-text L o m y u w) ∙ slots_at rule After (to-text L o m y u w))
        ∙ get_or-append front _ none c (omega (arith, slots-count rule (to-text L o m y u w)))

    slot-text : slot_at g y c ≡ get_or texted (c - (left + 2)) none
    slot-text =
        let first = slots-count rule (flat-left L.written o y low m u w) in
        let k : c - length (slots_from rule o (char_indices Before)) ≡ suc (c - (left + 2)) = omega (arith, first) in
        slot-front ∙ ap (λ (l : List Slot). get_or l c none) front-is
        ∙ get_d_past (slots_from rule o (char_indices Before)) (record { glyph = glyph_of rule space; byte = length Before } ∷ texted) c none (omega (arith, first))
        ∙ ap (λ (k : ℕ). get_or (record { glyph = glyph_of rule space; byte = length Before } ∷ texted) k none) k

  texted-glyphs : glyphs texted ≡ glyphs (slots_from false (o + left + 2) (char_indices text))
  texted-glyphs =
      let e : o + (left + 1) + 1 ≡ o + left + 2 = omega arith in
      slots-glyphs rule text (o + (left + 1) + 1) (length Before + 1) 0 0
      ∙ ap (λ (c : ℕ). glyphs (slots_from rule c (char_indices text))) e ∙ ap (λ (r : Bool). glyphs (slots_from r (o + left + 2) (char_indices text))) (rule_at-inner L o m y u w)

  texted-length : length texted ≡ n
  texted-length =
      sym (length-map texted (λ (s : Slot). s.glyph)) ∙ ap length texted-glyphs ∙ length-map (slots_from false (o + left + 2) (char_indices text)) (λ (s : Slot). s.glyph)
      ∙ slots_length false (o + left + 2) (char_indices text)

  -- inside the box a slot shows `|` or `+` exactly where the text does
  pub vertical-text : (c : ℕ) → left + 2 ≤ c → c < b.frame.right
      → vertical (glyph_at g y c) ≡ vertical (get_or (glyphs (slots_from false (o + left + 2) (char_indices text))) (c - (left + 2)) Other)
  vertical-text c i j = ⊎_elim past inside (le-or-lt (left + 1 + (1 + n)) c) where
    past : left + 1 + (1 + n) ≤ c → vertical (glyph_at g y c) ≡ vertical (get_or (glyphs (slots_from false (o + left + 2) (char_indices text))) (c - (left + 2)) Other)
    past k =
        past-text L o m y u w c k j
        ∙ sym (ap vertical (get_or-eq_default (glyphs (slots_from false (o + left + 2) (char_indices text))) Other {n = c - (left + 2)}
        (omega (arith, sym (ap length texted-glyphs), length-map texted (λ (s : Slot). s.glyph), texted-length))))

    inside : c < left + 1 + (1 + n) → vertical (glyph_at g y c) ≡ vertical (get_or (glyphs (slots_from false (o + left + 2) (char_indices text))) (c - (left + 2)) Other)
    inside k =
        ap (λ (s : Slot). vertical s.glyph) (slot-text c i k)
        ∙ ap vertical (sym (get_d_map (λ (s : Slot). s.glyph) texted (c - (left + 2)) Other none (omega (arith, texted-length))) ∙ ap (λ (l : List Glyph). get_or l (c - (left + 2)) Other) texted-glyphs)
