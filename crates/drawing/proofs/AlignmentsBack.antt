-- Alignments, read back: a column whose left border is a corner on the alignment line has its alignment, another has none
-- (`alignment-back`, `columns-length`). `colons_misplaced-is`: refusal 10 comes from missing corners alone.
use Prim.Native.Nat.{ℕ, suc, ◌+◌, ◌-◌, ◌<◌}
use mathlib.Core.Path.{◌≡◌, refl, sym, ap, ap₂, subst, ◌∙◌}
use mathlib.Core.Bool.{Bool, true, false, not, ◌&&◌, ◌||◌, cond}
use mathlib.Core.Logic.{⊎_elim}
use mathlib.Core.List.{List, map}
use native.Mathlib.Omega.{arith}
use native.Mathlib.Nat.{eq-or-lt_of_le}
use lib.Dec.{eqb}
use borrow.Author.Tests.{eqb-true, eq-eqb, ne_eqb}
use lib.ListN.{length, get_or, drop, length-map}
use Rattle.seq.specs.Lists.{range, up_to, any, last_or}
use Rattle.seq.proofs.Tests.{true-not-false, bool_same, and-false, le-or-lt}
use Rattle.seq.proofs.Ranges.{length-range, rest-of-range, last-of-range}
use Rattle.seq.proofs.Finds.{FirstIn}
use Rattle.seq.proofs.Positions.{get_d_map}
use Rattle.text.specs.Characters.{plus, colon}
use Rattle.text.specs.Rule.{to_plus}
use Rattle.text.proofs.RuleBytes.{to_plus-of-bytes}
use Rattle.grid.specs.Values.{Rect, GridTableColumn, Table}
use Rattle.grid.specs.Slots.{Slot, is_plus, trimmed_at, byte_at}
use Rattle.grid.specs.Rectangle.{plus_at}
use Rattle.grid.specs.Layout.{Between, between, column_lines, alignment_of, segment_alignment, alignment_at, columns_read}
use Rattle.grid.specs.declared.TableAlignment.{TableAlignment}
use Rattle.grid.specs.declared.TableAlignment.TheVariants.{None, Left, Right, Center}
use Rattle.grid.proofs.LayoutLaws.{length-between, get_d_between}
use Rattle.grid.proofs.SpanSlotLaws.{glyph_of-plus}
use Rattle.drawing.specs.Plain.{Canvas, canvas_at, canvas_of, canvas_width, corner_at, alignment_row, next_corner, has_left_colon, has_right_colon, has_corner, left_colon, right_colon}
use Rattle.drawing.specs.Redraw.{inside_segment, colons_misplaced}
use Rattle.drawing.proofs.BoxLaws.{border, border-or-inside}
use Rattle.drawing.proofs.RowLaws.{edge_byte}
use Rattle.drawing.proofs.RuleRows.{colon_in, Lined, flat-clear, edge_byte-plus, edge_byte-other, fill_of, fill_of-other, edge_byte-corner, corners-apart}
use Rattle.drawing.proofs.CanvasLaws.{Fine, alignment_in, x_at, x_at-same, frames}
use Rattle.drawing.proofs.LinedLaws.{alignment_row-low, alignment_row-clear, x_at-room, corner_after, next_corner-is, next_corner-far, ColonOf, at_left, at_right, colon-wide, colon-from, from-colon, canvas-lined}
use Rattle.drawing.proofs.GlyphRows.{trimmed_at-flat, slot_at-border}
use Rattle.drawing.proofs.CellsBack.{lines, g, Unsplit, column_lines-back, xs-length}
use Rattle.drawing.proofs.SectionsBack.{alignment_line-back}

by-colons : (a : TableAlignment) → alignment_of (has_left_colon a) (has_right_colon a) ≡ a
by-colons None = refl
by-colons Left = refl
by-colons Right = refl
by-colons Center = refl

module _ {t : Table} (F : Fine t) (o : ℕ) where
  abbrev v : Canvas
  v = canvas_of t

  abbrev W : ℕ
  W = canvas_width (canvas_of t)

  abbrev C : ℕ
  C = length t.columns

  abbrev A : ℕ
  A = alignment_row (canvas_of t)

  abbrev β : ℕ → ℕ
  β = edge_byte (canvas_of t) (alignment_row (canvas_of t))

  L : Lined v
  L = canvas-lined F

  byte-colon : (z : ℕ) → z < W → corner_at v A z ≡ false → eqb (β z) colon ≡ colon_in v z
  byte-colon z w h = ap (λ (b : ℕ). eqb b colon) (edge_byte-other L A z (alignment_row-low F) (alignment_row-clear F) w h) ∙ rw (eq-eqb A A refl) (go (colon_in v z)) where
    go : (b : Bool) → eqb (cond b colon (fill_of L A)) colon ≡ b
    go true = refl
    go false = ne_eqb _ _ (fill_of-other L A).1

  -- a corner strictly between a column line and the next corner behind it
  between_none : (d : ℕ) (u : d < C) (w : ℕ) → x_at t d < w → w < (corner_after F d u).at → corner_at v A w ≡ true → ⊥
  between_none d u w i j k = true-not-false (sym k ∙ (corner_after F d u).before w (omega arith) j)

  module _ (c : ℕ) (u : c < C) (p : corner_at v A (x_at t c) ≡ true) where
    abbrev x : ℕ
    x = x_at t c

    abbrev N : FirstIn (corner_at v A) (x_at t c + 1) (canvas_width v - (x_at t c + 1))
    N = corner_after F c u

    two-on : x + 1 < N.at
    two-on =
        ⊎_elim (λ (q : x + 1 ≡ N.at). absurd (true-not-false (sym N.found ∙ subst (λ (z : ℕ). corner_at v A z ≡ false) q (corners-apart L A x p)))) (λ q. q) (eq-or-lt_of_le N.low)

    n-low : N.at < W
    n-low = omega (arith, N.high, x_at-room F c u)

    left_is : eqb (β (x + 1)) colon ≡ has_left_colon (alignment_in t c)
    left_is =
        byte-colon (x + 1) (x_at-room F c u) (corners-apart L A x p)
        ∙ bool_same _ _ (λ k. let f = colon-from F (x + 1) k in go f.column f.inside f.corner f.which) (λ k. from-colon F (x + 1) c u p (at_left k refl)) where
          go : (d : ℕ) → d < C → corner_at v A (x_at t d) ≡ true → ColonOf F (x + 1) d → has_left_colon (alignment_in t c) ≡ true
          go d w q (at_left l e) = let z : c ≡ d = x_at-same F c d (omega arith) (omega arith) (omega arith) in rw z l
          go d w q (at_right r e) =
              let k : ColonOf F (x + 1) d = at_right r e in
              absurd (between_none d w x (omega (arith, next_corner-far F d w (colon-wide F k), next_corner-is F d w)) (omega (arith, next_corner-is F d w)) p)

    right_is : eqb (β (N.at - 1)) colon ≡ has_right_colon (alignment_in t c)
    right_is =
        byte-colon (N.at - 1) (omega (arith, n-low)) (N.before (N.at - 1) (omega (arith, two-on)) (omega (arith, two-on)))
        ∙ bool_same _ _ (λ k. let f = colon-from F (N.at - 1) k in go f.column f.inside f.corner f.which)
        (λ k. from-colon F (N.at - 1) c u p (at_right k (omega (arith, two-on, next_corner-is F c u)))) where
          go : (d : ℕ) → d < C → corner_at v A (x_at t d) ≡ true → ColonOf F (N.at - 1) d → has_right_colon (alignment_in t c) ≡ true
          go d w q (at_left l e) =
              let k : ColonOf F (N.at - 1) d = at_left l e in
              absurd (between_none d w N.at (omega (arith, two-on)) (omega (arith, two-on, next_corner-far F d w (colon-wide F k))) N.found)
          go d w q (at_right r e) =
              let i = next_corner-is F d w in
              let j = (corner_after F d w).low in
              let z : c ≡ d =
              x_at-same F c d (omega arith) (omega arith)
              (⊎_elim (λ k. ⊎_elim (λ (y : x ≡ x_at t d). y) (λ y. absurd (between_none c u (x_at t d) y (omega (arith, two-on)) q)) (eq-or-lt_of_le k))
              (λ k. absurd (between_none d w x k (omega (arith, two-on)) p)) (le-or-lt x (x_at t d))) in
              rw z r

  -- ---- the line as reading sees it
  line-is : trimmed_at (lines F o) A ≡ map β (up_to W)
  line-is = trimmed_at-flat L o A (alignment_row-low F) ∙ flat-clear L o A (alignment_row-low F) (alignment_row-clear F) W 0 (omega arith)

  all-border : (x : ℕ) → x < W → border v A x ≡ true
  all-border x w = ⊎_elim (λ h. h) (λ k. absurd (alignment_row-clear F k.0 k.1 k.2.top k.2.bottom)) (border-or-inside L.written.tiled A x (alignment_row-low F) w)

  slot_is : (x : ℕ) → x < W → byte_at (g F o) A x ≡ x
  slot_is x w =
      ap (λ (s : Slot). s.byte) (slot_at-border L o A x (alignment_row-low F) w (all-border x w))
      ∙ ap length (flat-clear L o A (alignment_row-low F) (alignment_row-clear F) x 0 (omega arith)) ∙ length-map (range 0 x) β ∙ length-range 0 x

  plus-is : (x : ℕ) → x < W → plus_at (g F o) A x ≡ corner_at v A x
  plus-is x w =
      ap (λ (s : Slot). is_plus s.glyph) (slot_at-border L o A x (alignment_row-low F) w (all-border x w)) ∙ glyph_of-plus _ (β x)
      ∙ bool_same (eqb (β x) plus) (corner_at v A x) (λ e. edge_byte-corner L A x (eqb-true _ _ e)) (λ e. eq-eqb _ _ (edge_byte-plus L A x e))

  segment-is : (c : ℕ) (u : c < C) → to_plus (drop (x_at t c + 1) (map β (up_to W))) ≡ map β (range (x_at t c + 1) ((corner_after F c u).at - (x_at t c + 1)))
  segment-is c u =
      let k = corner_after F c u in
      ap to_plus (rest-of-range β (x_at t c + 1) W (omega (arith, x_at-room F c u)))
      ∙ to_plus-of-bytes β (W - (x_at t c + 1)) (x_at t c + 1) k.at k.low k.high (λ i low high e. true-not-false (sym (edge_byte-corner L A i e) ∙ k.before i low high)) (edge_byte-plus L A k.at k.found)

  aligned-back : (c : ℕ) (u : c < C) → corner_at v A (x_at t c) ≡ true → segment_alignment (map β (range (x_at t c + 1) ((corner_after F c u).at - (x_at t c + 1)))) ≡ alignment_in t c
  unfolding range
  aligned-back c u p =
      let k = corner_after F c u in
      let e : k.at - (x_at t c + 1) ≡ suc (k.at - (x_at t c + 2)) = omega (arith, two-on c u p) in
      let last : last_or (map β (range (x_at t c + 1) (suc (k.at - (x_at t c + 2))))) 0 ≡ β (k.at - 1) = last-of-range β (k.at - (x_at t c + 2)) (x_at t c + 1) 0 ∙ ap β (omega (arith, two-on c u p)) in
      ap (λ (m : ℕ). segment_alignment (map β (range (x_at t c + 1) m))) e
      ∙ ap (λ (b : ℕ). alignment_of (eqb (β (x_at t c + 1)) colon) (eqb b colon)) last
      ∙ ap₂ alignment_of (left_is c u p) (right_is c u p) ∙ by-colons (alignment_in t c)

  alignment_at-back : any (eqb 0) v.rules ≡ false → (c : ℕ) → c < C → alignment_at (lines F o) (g F o) (x_at t c) ≡ cond (corner_at v A (x_at t c)) (alignment_in t c) None
  unfolding alignment_at
  alignment_at-back z c u =
      ap (λ (y : ℕ). cond (plus_at (g F o) y (x_at t c)) (segment_alignment (to_plus (drop (byte_at (g F o) y (x_at t c) + 1) (trimmed_at (lines F o) y)))) None) (alignment_line-back F o z)
      ∙ ap (λ (b : Bool). cond b (segment_alignment (to_plus (drop (byte_at (g F o) A (x_at t c) + 1) (trimmed_at (lines F o) A)))) None) (plus-is (x_at t c) (omega (arith, x_at-room F c u)))
      ∙ go (corner_at v A (x_at t c)) refl where
        go : (b : Bool) → corner_at v A (x_at t c) ≡ b
            → cond b (segment_alignment (to_plus (drop (byte_at (g F o) A (x_at t c) + 1) (trimmed_at (lines F o) A)))) None ≡ cond b (alignment_in t c) None
        go true p =
            ap (λ (k : ℕ). segment_alignment (to_plus (drop (k + 1) (trimmed_at (lines F o) A)))) (slot_is (x_at t c) (omega (arith, x_at-room F c u)))
            ∙ ap (λ (l : List ℕ). segment_alignment (to_plus (drop (x_at t c + 1) l))) line-is
            ∙ ap segment_alignment (segment-is c u) ∙ aligned-back c u p
        go false p = refl

  -- no colon stands inside a segment
  left_end : (c : ℕ) → c < C → corner_at v A (x_at t c) ≡ true → corner_at v A (x_at t c + 1 - 1) ≡ true
  left_end c u p = let e : x_at t c + 1 - 1 ≡ x_at t c = omega arith in rw e p

  right_end : (c : ℕ) → c < C → corner_at v A (next_corner v A (x_at t c) - 1 + 1) ≡ true
  right_end c u =
      let k = corner_after F c u in
      let e : next_corner v A (x_at t c) - 1 + 1 ≡ k.at = omega (arith, next_corner-is F c u, k.low) in
      rw e k.found

  left-outside : (c : ℕ) → c < C → corner_at v A (x_at t c) ≡ true → inside_segment v (x_at t c + 1) ≡ false
  left-outside c u p = ap (λ (b : Bool). not b && not (corner_at v A (x_at t c + 1 + 1))) (left_end c u p)

  right-outside : (c : ℕ) → c < C → inside_segment v (next_corner v A (x_at t c) - 1) ≡ false
  right-outside c u =
      ap (λ (b : Bool). not (corner_at v A (next_corner v A (x_at t c) - 1 - 1)) && not b) (right_end c u) ∙ and-false (not (corner_at v A (next_corner v A (x_at t c) - 1 - 1)))

  -- The second half of refusal 10 is empty: a column whose left border is a corner has no colon inside a segment.
  none_inside : (c : ℕ) → c < C → has_corner v c ≡ true → (inside_segment v (left_colon v c) ≡ false) × (inside_segment v (right_colon v c) ≡ false)
  unfolding canvas_of canvas_at
  none_inside c u p = (left-outside c u p, right-outside c u)

  -- so refusal 10 comes from missing corners alone
  pub colons_misplaced-is : (c : ℕ) → c < C → (a : TableAlignment) → colons_misplaced v c a ≡ (has_left_colon a || has_right_colon a) && not (has_corner v c)
  colons_misplaced-is c u a = go (has_corner v c) (inside_segment v (left_colon v c)) (inside_segment v (right_colon v c)) (λ p. (none_inside c u p).0) (λ p. (none_inside c u p).1) refl where
    go : (b l r : Bool) → (has_corner v c ≡ true → l ≡ false) → (has_corner v c ≡ true → r ≡ false) → has_corner v c ≡ b
        → (has_left_colon a || has_right_colon a) && (not b || has_left_colon a && l || has_right_colon a && r) ≡ (has_left_colon a || has_right_colon a) && not b
    go false l r fl fr e = refl
    go true l r fl fr e = rw (fl e, fr e, and-false (has_left_colon a), and-false (has_right_colon a))

  -- ---- the columns read
  module _ (unsplit : Unsplit F o) where
    abbrev fs : List Rect
    fs = frames F

    abbrev read : List GridTableColumn
    read = columns_read (lines F o) (g F o) (frames F)

    pub columns-length : length read ≡ C
    unfolding columns_read
    columns-length =
        length-map (between (column_lines (g F o) fs)) _ ∙ length-between (column_lines (g F o) fs)
        ∙ omega (arith, ap length (column_lines-back F o unsplit), xs-length F o unsplit)

    pub alignment-back : any (eqb 0) v.rules ≡ false → (c : ℕ) → c < C → (d : GridTableColumn) → (get_or read c d).alignment ≡ cond (corner_at v A (x_at t c)) (alignment_in t c) None
    unfolding columns_read
    alignment-back z c u d =
        let nowhere : Between = record { from = 0; to = 0 } in
        let long : length (column_lines (g F o) fs) ≡ suc C = ap length (column_lines-back F o unsplit) ∙ xs-length F o unsplit in
        ap (λ (k : GridTableColumn). k.alignment) (get_d_map _ (between (column_lines (g F o) fs)) c d nowhere (omega (arith, length-between (column_lines (g F o) fs))))
        ∙ ap (alignment_at (lines F o) (g F o)) (get_d_between (column_lines (g F o) fs) c nowhere (omega arith) ∙ ap (λ (l : List ℕ). get_or l c 0) (column_lines-back F o unsplit))
        ∙ alignment_at-back z c u
