-- Cutting a drawing at a box gives the box's lines back (`cut_at-box`). Cut at a column inside that shows a border, a line comes out
-- shorter than it is (`cut_at-shorter`).
use Prim.Native.Nat.{ℕ, suc, ◌+◌, ◌-◌, ◌≤◌, ◌<◌}
use mathlib.Core.Path.{◌≡◌, refl, sym, ap, ◌∙◌}
use mathlib.Core.Bool.{Bool, true, false}
use mathlib.Core.Logic.{⊎_elim}
use mathlib.Core.List.{List, [], ◌∷◌, ◌++◌, append_assoc, Memᴰ}
use native.Mathlib.Omega.{arith}
use native.Mathlib.Nat.{eq-or-lt_of_le}
use lib.ListN.{length, get_or, take, drop, replicate, length-append, get_or-append, replicate-append-replicate}
use lib.Seq.{take-append_seam, drop-append_seam}
use Rattle.seq.proofs.Tests.{true-not-false, le-or-lt}
use Rattle.text.specs.Characters.{space}
use Rattle.text.specs.Utf8.{chars_from, char_indices}
use Rattle.text.specs.Columns.{columns_from}
use Rattle.text.specs.Trim.{trim_end}
use Rattle.text.specs.Lines.{no_text}
use Rattle.text.proofs.SpanLaws.{Spans, spans-cast, spans-append, spans-single, spans-spaces, single-space}
use Rattle.grid.specs.Values.{Line, no_line}
use Rattle.grid.specs.Slots.{Grid, Slot, Other, vertical, glyph_of, slots_from, grid_of, slot_at, glyph_at, byte_at}
use Rattle.grid.specs.Layout.{content_at}
use Rattle.grid.specs.Cut.{part, after_first, cut}
use Rattle.grid.proofs.RectangleLaws.{rect}
use Rattle.grid.proofs.SpanSlotLaws.{slots_at, slots-count, slot-head, slot-inside}
use Rattle.grid.proofs.DrawnLineLaws.{inner_cut, first-shorter}
use Rattle.grid.proofs.CellLaws.{cut_at}
use Rattle.drawing.specs.Plain.{Box, Canvas, canvas_width, canvas_height, inner_line, canvas_lines}
use Rattle.drawing.proofs.BoxLaws.{Sized, Tiled}
use Rattle.drawing.proofs.RowLaws.{text_columns, text-spans, edge_byte, flat, flat-cut, flat-inner, drawn_line-text, border-left, border-right, flat-border, flat-left, flat-around}
use Rattle.drawing.proofs.RuleRows.{Lined}
use Rattle.drawing.proofs.GlyphRows.{rule_at, canvas_lines-at, rows-flat, slot_at-border, rule_at-inner, glyph_at-gap}

module _ {v : Canvas} (L : Lined v) (o : ℕ) {b : Box} (m : Memᴰ b v.boxes) (y : ℕ) (u : b.frame.top < y) (w : y < b.frame.bottom) where
  P : Tiled v
  P = L.written.tiled

  s : Sized v b
  s = P.sized b m

  low : y < canvas_height v
  low = omega (arith, s.low)

  abbrev g : Grid
  g = grid_of (canvas_lines o v)

  -- the line up to the box's first inner column
  abbrev Before : List ℕ
  Before = flat o v y 0 (b.frame.left + 1)

  byte_at-left : byte_at g y b.frame.left + 1 ≡ length Before
  byte_at-left =
      ap (λ (z : Slot). z.byte + 1) (slot_at-border L o y b.frame.left low (omega (arith, s.near, s.broad)) (border-left P o m y u w))
      ∙ sym (ap length (flat-border L.written o y low b.frame.left (border-left P o m y u w)) ∙ length-append (flat o v y 0 b.frame.left) (edge_byte v y b.frame.left ∷ []))

  to-right : flat o v y 0 b.frame.right ≡ Before ++ inner_line o b y
  to-right =
      let c = flat-cut o v y 0 (b.frame.left + 1) b.frame.right (omega arith) (omega (arith, s.broad)) in
      let i : b.frame.left + 1 - 0 ≡ b.frame.left + 1 = omega arith in
      let j : b.frame.right - 0 ≡ b.frame.right = omega arith in
      (rw i at (rw j at c)) ∙ ap (λ (r : List ℕ). Before ++ r) (flat-inner P o m y u w)

  byte_at-right : byte_at g y b.frame.right ≡ length Before + length (inner_line o b y)
  byte_at-right =
      ap (λ (z : Slot). z.byte) (slot_at-border L o y b.frame.right low s.near (border-right P o m y u w))
      ∙ ap length to-right ∙ length-append Before (inner_line o b y)

  -- the text of line y as reading gets it
  canvas_lines-text : (get_or (canvas_lines o v) y no_line).text ≡ flat o v y 0 (canvas_width v)
  canvas_lines-text = ap (λ (l : Line). l.text) (canvas_lines-at o v y no_line low) ∙ drawn_line-text o v y

  -- the part after the left border up to the right border
  part-inner : part (content_at g b.frame y) (flat o v y 0 (canvas_width v)) ≡ inner_line o b y
  part-inner =
      let rest = flat o v y b.frame.right (canvas_width v - b.frame.right) in
      let e : byte_at g y b.frame.right - (byte_at g y b.frame.left + 1) ≡ length (inner_line o b y) = omega (arith, byte_at-left, byte_at-right) in
      rw (e, byte_at-left, flat-around L.written o y low m u w, drop-append_seam Before (inner_line o b y ++ rest)) (take-append_seam (inner_line o b y) rest)

  pub cut_at-box : trim_end (get_or b.lines (y - b.frame.top - 1) no_text) ≡ get_or b.lines (y - b.frame.top - 1) no_text
      → (cut_at (canvas_lines o v) g b.frame y).text ≡ get_or b.lines (y - b.frame.top - 1) no_text
  unfolding cut inner_line
  cut_at-box h =
      let given = get_or (canvas_lines o v) y no_line in
      ap (λ (l : List ℕ). (after_first (trim_end (part (content_at g b.frame y) l)) y (0 + (byte_at g y b.frame.left + 1)) (given.column + b.frame.left + 1)).text) canvas_lines-text
      ∙ ap (λ (l : List ℕ). (after_first (trim_end l) y (0 + (byte_at g y b.frame.left + 1)) (given.column + b.frame.left + 1)).text) part-inner
      ∙ inner_cut (get_or b.lines (y - b.frame.top - 1) no_text) (b.frame.right - b.frame.left - 2 - text_columns o b y) y (0 + (byte_at g y b.frame.left + 1)) (given.column + b.frame.left + 1) h

  -- ---- at a column inside

  -- the box's line, and its columns
  abbrev text : List ℕ
  text = get_or b.lines (y - b.frame.top - 1) no_text

  abbrev n : ℕ
  n = text_columns o b y

  abbrev rest : List ℕ
  rest = flat o v y b.frame.right (canvas_width v - b.frame.right)

  -- up to the end of the text
  abbrev end : ℕ
  end = b.frame.left + 1 + (1 + n)

  pub to-text : Spans o (Before ++ space ∷ text) end
  to-text =
      spans-append {a = Before} {b = space ∷ text} (flat-left L.written o y low m u w)
      (spans-append {a = space ∷ []} {b = text} (spans-single (o + (b.frame.left + 1)) single-space) (text-spans o b y (L.written.texts b m (y - b.frame.top - 1))))

  inner-is : inner_line o b y ≡ (space ∷ text) ++ replicate (b.frame.right - b.frame.left - 2 - n) space
  unfolding inner_line
  inner-is = refl

  pub row-text : flat o v y 0 (canvas_width v) ≡ (Before ++ space ∷ text) ++ (replicate (b.frame.right - b.frame.left - 2 - n) space ++ rest)
  row-text = flat-around L.written o y low m u w ∙ ap (λ (r : List ℕ). Before ++ (r ++ rest)) inner-is ∙ simp append_assoc

  -- a slot behind the text is a space's
  module _ (c : ℕ) (i : end ≤ c) (j : c < b.frame.right) where
    row-pad : flat o v y 0 (canvas_width v) ≡ ((Before ++ space ∷ text) ++ replicate (c - end) space) ++ space ∷ (replicate (b.frame.right - c - 1) space ++ rest)
    row-pad =
        let e : b.frame.right - b.frame.left - 2 - n ≡ (c - end) + suc (b.frame.right - c - 1) = omega arith in
        row-text
        ∙ ap (λ (k : ℕ). (Before ++ space ∷ text) ++ (replicate k space ++ rest)) e
        ∙ ap (λ (r : List ℕ). (Before ++ space ∷ text) ++ (r ++ rest)) (sym (replicate-append-replicate (c - end) (suc (b.frame.right - c - 1)) space)) ∙ simp append_assoc

    to-pad : Spans o ((Before ++ space ∷ text) ++ replicate (c - end) space) c
    to-pad =
        spans-cast {a = (Before ++ space ∷ text) ++ replicate (c - end) space} (omega arith)
        (spans-append {a = Before ++ space ∷ text} {b = replicate (c - end) space} to-text (spans-spaces (o + end) (c - end)))

    pub past-text : vertical (glyph_at g y c) ≡ false
    unfolding slot_at glyph_of
    past-text =
        ap (λ (l : List Slot). vertical (get_or l c (record { glyph = Other; byte = 0 })).glyph) (rows-flat L o y low ∙ ap (λ (r : List ℕ). slots_from (rule_at o v y) o (char_indices r)) row-pad)
        ∙ ap (λ (z : Slot). vertical z.glyph) (slot-head (rule_at o v y) (replicate (b.frame.right - c - 1) space ++ rest) (record { glyph = Other; byte = 0 }) to-pad single-space)
        ∙ ap (λ (r : Bool). vertical (glyph_of r space)) (rule_at-inner L o m y u w)

  -- a slot of the text begins in it
  in-text : (c : ℕ) → c < end → byte_at g y c < length Before + suc (length text)
  unfolding slot_at
  in-text c i =
      let d : Slot = record { glyph = Other; byte = 0 } in
      let rule = rule_at o v y in
      let pad = replicate (b.frame.right - b.frame.left - 2 - n) space ++ rest in
      let front = slots_from rule o (char_indices (Before ++ space ∷ text)) in
      let e = rows-flat L o y low ∙ ap (λ (r : List ℕ). slots_from rule o (char_indices r)) row-text ∙ slots_at rule pad to-text in
      let many = slots-count rule to-text in
      let k = get_or-append front (slots_from rule (o + end) (chars_from (length (Before ++ space ∷ text)) 0 pad)) d c (omega arith) in
      omega (
        arith,
        ap (λ (z : Slot). z.byte) (ap (λ (l : List Slot). get_or l c d) e ∙ k),
        slot-inside rule o 0 (Before ++ space ∷ text) c d (omega arith),
        length-append Before (space ∷ text),
      )

  empty-text : length text ≡ 0 → n ≡ 0
  unfolding columns_from chars_from
  empty-text e = go text e (o + b.frame.left + 2) where
    go : (l : List ℕ) → length l ≡ 0 → (c : ℕ) → columns_from c (char_indices l) ≡ 0
    go [] e c = refl
    go (x ∷ l) e c = absurd (omega arith)

  tail-space : (r : List ℕ) × (inner_line o b y ++ rest ≡ space ∷ r)
  unfolding inner_line
  tail-space = (_, refl)

  -- cut at a column that stands in the text as a border would, the line is shorter than it is
  pub cut_at-shorter : (c : ℕ) → b.frame.left < c → c < b.frame.right → vertical (glyph_at g y c) ≡ true
      → length (cut_at (canvas_lines o v) g (rect b.frame.top b.frame.left b.frame.bottom c) y).text < length text
  unfolding cut
  cut_at-shorter c i j h =
      let early : c < end = ⊎_elim (λ (k : end ≤ c). absurd (true-not-false (sym h ∙ past-text c k j))) (λ k. k) (le-or-lt end c) in
      let q : b.frame.left + 1 ≡ c → ⊥ = λ e. true-not-false (sym h ∙ ap (λ (z : ℕ). vertical (glyph_at g y z)) (sym e) ∙ ap vertical (glyph_at-gap L o m y u w)) in
      let far : b.frame.left + 1 < c = ⊎_elim (λ e. absurd (q e)) (λ k. k) (eq-or-lt_of_le {n = b.frame.left + 1} {m = c} (omega arith)) in
      let some-text : 0 < length text = ⊎_elim (λ (k : length text ≤ 0). absurd (omega (arith, empty-text (omega arith)))) (λ k. k) (le-or-lt (length text) 0) in
      let B = byte_at g y b.frame.left + 1 in
      let D = byte_at g y c in
      let given = get_or (canvas_lines o v) y no_line in
      let start = byte_at-left in
      let r = tail-space in
      let tail : drop B given.text ≡ space ∷ r.0 =
      ap (drop B) (canvas_lines-text ∙ flat-around L.written o y low m u w) ∙ ap (λ (k : ℕ). drop k (Before ++ (inner_line o b y ++ rest))) start ∙ drop-append_seam Before (inner_line o b y ++ rest) ∙ r.1 in
      let made : (cut_at (canvas_lines o v) g (rect b.frame.top b.frame.left b.frame.bottom c) y).text
      ≡ (after_first (trim_end (take (D - B) (space ∷ r.0))) y (0 + B) (given.column + b.frame.left + 1)).text =
      ap (λ (l : List ℕ). (after_first (trim_end (take (D - B) l)) y (0 + B) (given.column + b.frame.left + 1)).text) tail in
      rw made (first-shorter y (0 + B) (given.column + b.frame.left + 1) (D - B) r.0 (length text) (omega (arith, in-text c early)) some-text)
