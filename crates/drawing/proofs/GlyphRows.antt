-- The grid that reading makes of a drawing: its size (`grid-width`, `grid-height`), the slots of each line (`rows-flat`), what a border
-- shows (`slot_at-border`), no border beside a left one inside a box (`glyph_at-gap`). Each box is bordered (`box-bordered`).
use Prim.Native.Nat.{ℕ, zero, suc, ◌+◌, ◌-◌, ◌≤◌, ◌<◌}
use mathlib.Core.Path.{◌≡◌, refl, ap, ◌∙◌}
use mathlib.Core.Bool.{Bool, true, false, ◌&&◌, ◌||◌, cond}
use mathlib.Core.Logic.{inl, inr, ⊎_elim}
use mathlib.Core.List.{List, [], Memᴰ}
use native.Mathlib.Omega.{arith}
use lib.Dec.{eqb, ltb}
use borrow.Author.Tests.{eqb-true, ne_eqb, lt-ltb}
use lib.ListN.{length, get_or, length-map}
use Rattle.seq.specs.Lists.{range, up_to, any}
use Rattle.seq.proofs.Tests.{bool-refused, and_intro, and-false, or_right}
use Rattle.seq.proofs.Ranges.{length-range}
use Rattle.seq.proofs.Positions.{get_or-made}
use Rattle.text.specs.Characters.{space, plus, colon}
use Rattle.text.specs.Utf8.{char_indices}
use Rattle.text.specs.Trim.{trim_end}
use Rattle.text.specs.Rule.{is_rule}
use Rattle.grid.specs.Values.{Line, Table, no_line}
use Rattle.grid.specs.Slots.{Grid, Slot, Plus, Other, dash, equals, pipe, horizontal, vertical, glyph_of, slots_from, line_slots, trimmed_at, is_separator, grid_of, slot_at, glyph_at}
use Rattle.grid.specs.Cover.{Bordered}
use Rattle.grid.proofs.SlotLaws.{row-at}
use Rattle.drawing.specs.Plain.{Box, Canvas, canvas_of, canvas_width, canvas_height, corner_at, horizontal_at, alignment_row, colon_at, border_byte, drawn_line, canvas_lines, drawn}
use Rattle.drawing.proofs.BoxLaws.{Sized, Tiled, border, End, end-or-within, box-corner_at, box-horizontal_at, box-vertical_at, horizontal_at-box, corner_at-border, horizontal_at-border, vertical_at-border, same-box}
use Rattle.drawing.proofs.RowLaws.{edge_byte, flat, drawn_line-text, flat-border-slot, flat-trimmed, flat-gap-slot}
use Rattle.drawing.proofs.RuleRows.{Side, colon_in, Lined, flat-rule, flat-no-rule, flat-clear}

-- the drawing of a table is that of its canvas
pub drawn-lines : (o : ℕ) (t : Table) → drawn o t ≡ canvas_lines o (canvas_of t)
unfolding drawn
drawn-lines o t = refl

-- the drawing of a canvas
module _ (o : ℕ) (v : Canvas) where
  pub canvas_lines-length : length (canvas_lines o v) ≡ canvas_height v
  unfolding canvas_lines
  canvas_lines-length = length-map (up_to (canvas_height v)) (drawn_line o v) ∙ length-range 0 (canvas_height v)

  pub canvas_lines-at : (y : ℕ) (d : Line) → y < canvas_height v → get_or (canvas_lines o v) y d ≡ drawn_line o v y
  unfolding canvas_lines
  canvas_lines-at y d u = get_or-made (drawn_line o v) (canvas_height v) y d u

  drawn_line-column : (y : ℕ) → (drawn_line o v y).column ≡ o
  unfolding drawn_line
  drawn_line-column y = refl

  -- is line y read as a rule
  abbrev pub rule_at : ℕ → Bool
  rule_at y = eqb y 0 || is_separator (canvas_lines o v) y

module _ {v : Canvas} (L : Lined v) (o : ℕ) where
  abbrev W : ℕ
  W = canvas_width v

  abbrev H : ℕ
  H = canvas_height v

  abbrev lines : List Line
  lines = canvas_lines o v

  abbrev g : Grid
  g = grid_of (canvas_lines o v)

  P : Tiled v
  P = L.written.tiled

  pub trimmed_at-flat : (y : ℕ) → y < H → trimmed_at lines y ≡ flat o v y 0 W
  trimmed_at-flat y u =
      ap (λ (l : Line). trim_end l.text) (canvas_lines-at o v y no_line u) ∙ ap trim_end (drawn_line-text o v y) ∙ flat-trimmed L.written o y u

  -- the slots of line y
  pub rows-flat : (y : ℕ) → y < H → get_or g.rows y [] ≡ slots_from (rule_at o v y) o (char_indices (flat o v y 0 W))
  unfolding line_slots
  rows-flat y u =
      row-at lines y (omega (arith, canvas_lines-length o v))
      ∙ ap (λ (l : Line). line_slots (rule_at o v y) l) (canvas_lines-at o v y no_line u)
      ∙ ap (λ (c : ℕ). slots_from (rule_at o v y) c (char_indices (trim_end (drawn_line o v y).text))) (drawn_line-column o v y)
      ∙ ap (λ (l : List ℕ). slots_from (rule_at o v y) o (char_indices (trim_end l))) (drawn_line-text o v y)
      ∙ ap (λ (l : List ℕ). slots_from (rule_at o v y) o (char_indices l)) (flat-trimmed L.written o y u)

  pub grid-height : g.height ≡ H
  unfolding grid_of
  grid-height = canvas_lines-length o v

  pub zero-low : 0 < H
  zero-low = omega (arith, P.two_lines)

  pub grid-width : g.width ≡ W
  unfolding grid_of
  grid-width =
      ap length (trimmed_at-flat 0 zero-low ∙ flat-clear L o 0 zero-low (λ b m p q. omega arith) W 0 (omega arith))
      ∙ length-map (range 0 W) (edge_byte v 0) ∙ length-range 0 W

  -- ---- which lines are read as rules
  pub is_separator-flat : (y : ℕ) → y < H → is_separator lines y ≡ ltb 0 y && is_rule equals (flat o v y 0 W)
  unfolding is_separator
  is_separator-flat y u = ap (λ (l : List ℕ). ltb 0 y && is_rule equals l) (trimmed_at-flat y u)

  in-rule : (y : ℕ) → y < H → any (eqb y) v.rules ≡ true → rule_at o v y ≡ true
  in-rule y u h = rw (is_separator-flat y u, flat-rule L o y u h) (go y) where
    go : (y : ℕ) → eqb y 0 || ltb 0 y && true ≡ true
    go zero = refl
    go (suc y) = or_right (eqb (suc y) 0) (and_intro (lt-ltb 0 (suc y) (omega arith)) refl)

  no-rule : (y : ℕ) → y < H → (y ≡ 0 → ⊥) → any (eqb y) v.rules ≡ false → rule_at o v y ≡ false
  no-rule y u n h = rw (is_separator-flat y u, flat-no-rule L o y u n h, ne_eqb y 0 n) (and-false (ltb 0 y))

  -- ---- borders
  pub slot_at-border : (y x : ℕ) → y < H → x < W → border v y x ≡ true → slot_at g y x ≡ record { glyph = glyph_of (rule_at o v y) (edge_byte v y x); byte = length (flat o v y 0 x) }
  unfolding slot_at
  slot_at-border y x u w e = rw (rows-flat y u) (flat-border-slot L.written o y u (rule_at o v y) x _ w e)

  glyph_at-border : (y x : ℕ) → y < H → x < W → border v y x ≡ true → glyph_at g y x ≡ glyph_of (rule_at o v y) (edge_byte v y x)
  glyph_at-border y x u w e = ap (λ (s : Slot). s.glyph) (slot_at-border y x u w e)

  plus-glyph : (r : Bool) → glyph_of r plus ≡ Plus
  unfolding glyph_of
  plus-glyph r = refl

  glyph_at-corner : (y x : ℕ) → y < H → x < W → corner_at v y x ≡ true → glyph_at g y x ≡ Plus
  unfolding edge_byte
  glyph_at-corner y x u w h = glyph_at-border y x u w (corner_at-border v y x h) ∙ rw h (plus-glyph (rule_at o v y))

  -- a border along a line is horizontal
  glyph_at-horizontal : (y x : ℕ) → y < H → x < W → horizontal_at v y x ≡ true → horizontal (glyph_at g y x) ≡ true
  unfolding edge_byte border_byte colon_at glyph_of
  glyph_at-horizontal y x u w h =
      ap horizontal (glyph_at-border y x u w (horizontal_at-border v y x h))
      ∙ rw h (go (corner_at v y x) (eqb y (alignment_row v)) (colon_in v x) (any (eqb y) v.rules) refl refl) where
        plus-43 : (r : Bool) → horizontal (glyph_of r plus) ≡ true
        plus-43 r = refl

        dash-45 : (r : Bool) → horizontal (glyph_of r dash) ≡ true
        dash-45 true = refl
        dash-45 false = refl

        ruled : eqb y (alignment_row v) ≡ true → rule_at o v y ≡ true
        ruled e = ⊎_elim (λ z. let q : y ≡ 0 = eqb-true _ _ e ∙ z in rw q) (λ z. in-rule y u (let q : y ≡ alignment_row v = eqb-true _ _ e in rw (← q) at z)) L.aligned

        go : (a b c d : Bool) → eqb y (alignment_row v) ≡ b → any (eqb y) v.rules ≡ d
            → horizontal (glyph_of (rule_at o v y) (cond a plus (cond (b && c) colon (cond d equals dash)))) ≡ true
        go true b c d p q = plus-43 (rule_at o v y)
        go false true true d p q = rw (ruled p)
        go false true false true p q = rw (in-rule y u q)
        go false true false false p q = dash-45 (rule_at o v y)
        go false false c true p q = rw (in-rule y u q)
        go false false c false p q = dash-45 (rule_at o v y)

  module _ {b : Box} (m : Memᴰ b v.boxes) where
    s : Sized v b
    s = P.sized b m

    same-square : {c : Box} → Memᴰ c v.boxes → (y x : ℕ) → b.frame.top < y → y < b.frame.bottom → Side b x
        → c.frame.left < x → x < c.frame.right → End c.frame.top c.frame.bottom y → b ≡ c
    same-square {c} n y x u w (inl e) l r (inl d) =
        let z = P.sized c n in
        same-box P m n {y = y} {x = x} (record { below = omega arith; above = w; after = omega arith; before = omega (arith, s.broad) })
        (record { below = omega arith; above = omega (arith, z.tall); after = omega arith; before = r })
    same-square {c} n y x u w (inl e) l r (inr d) =
        let z = P.sized c n in
        same-box P m n {y = y - 1} {x = x} (record { below = omega arith; above = omega arith; after = omega arith; before = omega (arith, s.broad) })
        (record { below = omega (arith, z.tall); above = omega (arith, z.tall); after = omega arith; before = r })
    same-square {c} n y x u w (inr e) l r (inl d) =
        let z = P.sized c n in
        same-box P m n {y = y} {x = x - 1} (record { below = omega arith; above = w; after = omega (arith, s.broad); before = omega (arith, s.broad) })
        (record { below = omega arith; above = omega (arith, z.tall); after = omega arith; before = omega arith })
    same-square {c} n y x u w (inr e) l r (inr d) =
        let z = P.sized c n in
        same-box P m n {y = y - 1} {x = x - 1} (record { below = omega arith; above = omega arith; after = omega (arith, s.broad); before = omega (arith, s.broad) })
        (record { below = omega (arith, z.tall); above = omega (arith, z.tall); after = omega arith; before = omega arith })

    -- on a side of the box no border runs across
    pub no-across : (y x : ℕ) → b.frame.top < y → y < b.frame.bottom → Side b x → horizontal_at v y x ≡ false
    no-across y x u w d = bool-refused (horizontal_at v y x) (λ h. let t = horizontal_at-box v y x h in clash t.0 t.1 t.2 t.3 t.4) where
      clash : (c : Box) → Memᴰ c v.boxes → End c.frame.top c.frame.bottom y → c.frame.left < x → x < c.frame.right → ⊥
      clash c n e l r =
          let q = same-square n y x u w d l r e in
          let ql = ap (λ (z : Box). z.frame.left) q in
          let qr = ap (λ (z : Box). z.frame.right) q in
          ⊎_elim (λ i. omega arith) (λ i. omega arith) d

    -- a line that runs inside the box is no rule
    pub rule_at-inner : (y : ℕ) → b.frame.top < y → y < b.frame.bottom → rule_at o v y ≡ false
    rule_at-inner y u w = no-rule y (omega (arith, s.low)) (λ e. omega arith) (bool-refused (any (eqb y) v.rules) (λ h. L.clear y h b m u w))

    glyph_at-vertical : (y x : ℕ) → b.frame.top < y → y < b.frame.bottom → Side b x → x < W → vertical (glyph_at g y x) ≡ true
    unfolding edge_byte glyph_of
    glyph_at-vertical y x u w d near =
        ap vertical (glyph_at-border y x (omega (arith, s.low)) near (vertical_at-border v y x (box-vertical_at v m y x d u w)))
        ∙ rw (no-across y x u w d, rule_at-inner y u w) (go (corner_at v y x)) where
          go : (t : Bool) → vertical (glyph_of false (cond t plus pipe)) ≡ true
          go true = refl
          go false = refl

    corner-here : (y x : ℕ) → End b.frame.top b.frame.bottom y → Side b x → glyph_at g y x ≡ Plus
    corner-here y x d e =
        glyph_at-corner y x (⊎_elim (λ q. omega (arith, s.tall, s.low)) (λ q. omega (arith, s.low)) d) (⊎_elim (λ q. omega (arith, s.broad, s.near)) (λ q. omega (arith, s.near)) e)
        (box-corner_at v m y x d e)

    level-row : (y : ℕ) → End b.frame.top b.frame.bottom y → (x : ℕ) → b.frame.left ≤ x → x ≤ b.frame.right → horizontal (glyph_at g y x) ≡ true
    level-row y d x u w =
        ⊎_elim (λ e. ap horizontal (corner-here y x d e))
        (λ e. glyph_at-horizontal y x (⊎_elim (λ q. omega (arith, s.tall, s.low)) (λ q. omega (arith, s.low)) d) (omega (arith, s.near)) (box-horizontal_at v m y x d e.0 e.1))
        (end-or-within b.frame.left x b.frame.right u w)

    side-column : (x : ℕ) → Side b x → (y : ℕ) → b.frame.top ≤ y → y ≤ b.frame.bottom → vertical (glyph_at g y x) ≡ true
    side-column x d y u w =
        ⊎_elim (λ e. ap vertical (corner-here y x e d))
        (λ e. glyph_at-vertical y x e.0 e.1 d (⊎_elim (λ q. omega (arith, s.broad, s.near)) (λ q. omega (arith, s.near)) d))
        (end-or-within b.frame.top y b.frame.bottom u w)

    -- the first column inside is no border
    pub glyph_at-gap : (y : ℕ) → b.frame.top < y → y < b.frame.bottom → glyph_at g y (b.frame.left + 1) ≡ Other
    unfolding slot_at glyph_of
    glyph_at-gap y u w =
        ap (λ (l : List Slot). (get_or l (b.frame.left + 1) (record { glyph = Other; byte = 0 })).glyph) (rows-flat y (omega (arith, s.low)))
        ∙ ap (λ (z : Slot). z.glyph) (flat-gap-slot L.written o y (omega (arith, s.low)) m u w (rule_at o v y) (record { glyph = Other; byte = 0 }))
        ∙ ap (λ (r : Bool). glyph_of r space) (rule_at-inner y u w)

    -- a box is bordered
    pub box-bordered : Bordered g b.frame
    box-bordered =
        record {
          top_above_bottom = omega (arith, s.tall);
          bottom_inside = omega (arith, s.low, grid-height);
          left_before_right = omega (arith, s.broad);
          right_inside = omega (arith, s.near, grid-width);
          top_left = corner-here _ _ (inl refl) (inl refl);
          top_right = corner-here _ _ (inl refl) (inr refl);
          bottom_left = corner-here _ _ (inr refl) (inl refl);
          bottom_right = corner-here _ _ (inr refl) (inr refl);
          top_side = level-row b.frame.top (inl refl);
          bottom_side = level-row b.frame.bottom (inr refl);
          left_side = side-column b.frame.left (inl refl);
          right_side = side-column b.frame.right (inr refl);
        }
