-- A cell splits where the canvas has a `+` above and below a column that all of its lines show.
use Prim.Native.Nat.{ℕ, suc, ◌+◌, ◌-◌, ◌≤◌, ◌<◌}
use mathlib.Core.Path.{◌≡◌, refl, sym, ap, ◌∙◌}
use mathlib.Core.Bool.{true, false, ◌&&◌}
use mathlib.Core.Logic.{inl, inr, ⊎_elim}
use mathlib.Core.List.{List, [], Memᴰ}
use native.Mathlib.Omega.{arith}
use native.Mathlib.Nat.{eq-or-lt_of_le}
use lib.Dec.{eqb}
use lib.ListN.{length, get_or, get_or-eq_default}
use borrow.Author.Tests.{ne_eqb}
use Rattle.seq.specs.Lists.{range, up_to, all}
use Rattle.seq.proofs.Tests.{bool_same, bool-refused, true-not-false, and_left, and_right, and_intro}
use Rattle.seq.proofs.Ranges.{range-mem}
use Rattle.seq.proofs.Searches.{any-agree, none_any, any_none, all-range, range_all}
use Rattle.text.specs.Characters.{plus}
use Rattle.text.specs.Utf8.{char_indices, chars_from}
use Rattle.text.specs.Lines.{no_text}
use Rattle.grid.specs.Values.{Rect}
use Rattle.grid.specs.Slots.{Grid, Slot, is_plus, vertical, glyph_at, grid_of, slots_from}
use Rattle.grid.specs.Rectangle.{plus_at}
use Rattle.grid.specs.Layout.{inner_lines}
use Rattle.grid.proofs.SpanSlotLaws.{glyph_of-plus}
use Rattle.representation.specs.Arrays.{code_at}
use Rattle.drawing.specs.Plain.{Box, Canvas, canvas_width, canvas_height, canvas_lines}
use Rattle.drawing.specs.Redraw.{splits_at, splits}
use Rattle.drawing.proofs.MeasureLaws.{columns-measure}
use Rattle.drawing.proofs.BoxLaws.{Tiled, Sized, End, border, box-horizontal_at, horizontal_at-border}
use Rattle.drawing.proofs.RowLaws.{edge_byte}
use Rattle.drawing.proofs.GlyphRows.{slot_at-border, glyph_at-gap, rule_at}
use Rattle.drawing.proofs.TextSlots.{vertical-text}
use Rattle.cm.specs.Board.{Board, no_box, Boxed, CanvasReady}
use Rattle.cm.specs.Hits.{shows_at, Hittable, HitLines, split_column}
use Rattle.cm.proofs.lines.WalkLineLaws.{box-mem, code-border}
use Rattle.cm.proofs.split.ColumnLaws.{split_test}

module _ {v : Canvas} {n width : ℕ} {b : Board} {canvas : List ℕ} (R : CanvasReady v n width b canvas) (origin k : ℕ) (u : k < n) where
  abbrev g : Grid
  g = grid_of (canvas_lines origin v)

  abbrev box : Box
  box = get_or v.boxes k no_box

  abbrev r : Rect
  r = box.frame

  abbrev column : ℕ
  column = origin + r.left + 2

  B : Boxed v n b
  B = R.boxed

  m : Memᴰ box v.boxes
  m = box-mem B k u

  P : Tiled v
  P = B.lined.written.tiled

  s : Sized v box
  s = P.sized box m

  -- ---- a `+` on the border above or below
  plus-code : (y : ℕ) → End r.top r.bottom y → (x : ℕ) → r.left < x → x < r.right → plus_at g y x ≡ eqb (code_at canvas y x) plus
  plus-code y d x i j =
      let low : y < canvas_height v = ⊎_elim (λ (e : y ≡ r.top). omega (arith, s.tall, s.low)) (λ (e : y ≡ r.bottom). omega (arith, s.low)) d in
      let near : x < canvas_width v = omega (arith, s.near) in
      let e : border v y x ≡ true = horizontal_at-border v y x (box-horizontal_at v m y x d i j) in
      ap (λ (z : Slot). is_plus z.glyph) (slot_at-border B.lined origin y x low near e) ∙ glyph_of-plus (rule_at origin v y) (edge_byte v y x)
      ∙ ap (λ (c : ℕ). eqb c plus) (sym (code-border R origin y x low near e))

  -- ---- the lines between
  line_at : (i : ℕ) → r.top + 1 + i - r.top - 1 ≡ i
  line_at i = omega arith

  shown : (i x : ℕ) → r.top + 1 + i < r.bottom → r.left + 2 ≤ x → x < r.right
      → vertical (glyph_at g (r.top + 1 + i) x) ≡ shows_at column (get_or box.lines i no_text) (x - (r.left + 2))
  shown i x w p q =
      vertical-text B.lined origin m (r.top + 1 + i) (omega arith) w x p q
      ∙ ap (λ (j : ℕ). shows_at column (get_or box.lines j no_text) (x - (r.left + 2))) (line_at i)

  all_shown : (x : ℕ) → r.left + 2 ≤ x → x < r.right
      → all (λ y. vertical (glyph_at g y x)) (inner_lines r) ≡ all (λ i. shows_at column (get_or box.lines i no_text) (x - (r.left + 2))) (up_to (r.bottom - r.top - 1))
  all_shown x p q =
      bool_same _ _
      (λ e. range_all (λ i. shows_at column (get_or box.lines i no_text) (x - (r.left + 2))) 0 (r.bottom - r.top - 1) (λ i _ w.
      sym (shown i x (omega arith) p q) ∙ all-range (λ y. vertical (glyph_at g y x)) (r.top + 1) (r.bottom - r.top - 1) e (r.top + 1 + i) (omega arith) (omega arith)))
      (λ e. range_all (λ y. vertical (glyph_at g y x)) (r.top + 1) (r.bottom - r.top - 1) (λ y l w.
      let i : r.top + 1 + (y - (r.top + 1)) ≡ y = omega arith in
      ap (λ (z : ℕ). vertical (glyph_at g z x)) (sym i) ∙ shown (y - (r.top + 1)) x (omega arith) p q
      ∙ all-range (λ i. shows_at column (get_or box.lines i no_text) (x - (r.left + 2))) 0 (r.bottom - r.top - 1) e (y - (r.top + 1)) (omega arith) (omega arith)))

  -- the first inner column is blank
  gap-blank : all (λ y. vertical (glyph_at g y (r.left + 1))) (inner_lines r) ≡ false
  gap-blank =
      bool-refused _ (λ e. true-not-false
      (sym (all-range (λ y. vertical (glyph_at g y (r.left + 1))) (r.top + 1) (r.bottom - r.top - 1) e (r.top + 1) (omega arith) (omega (arith, s.tall)))
      ∙ ap vertical (glyph_at-gap B.lined origin m (r.top + 1) (omega arith) (omega (arith, s.tall)))))

  -- ---- the search with all lines counted
  module _ (hits : List ℕ) (h : HitLines column box.lines (r.left + 2) (r.bottom - r.top - 1) hits) where
    all-hit : (x : ℕ) → r.left < x → x < r.right → all (λ y. vertical (glyph_at g y x)) (inner_lines r) ≡ eqb (get_or hits x 0) (r.bottom - r.top - 1)
    all-hit x i j = ⊎_elim first later (eq-or-lt_of_le i) where
      first : suc r.left ≡ x → all (λ y. vertical (glyph_at g y x)) (inner_lines r) ≡ eqb (get_or hits x 0) (r.bottom - r.top - 1)
      first e =
          let q : x ≡ r.left + 1 = omega arith in
          ap (λ (z : ℕ). all (λ y. vertical (glyph_at g y z)) (inner_lines r)) q ∙ gap-blank
          ∙ sym (ne_eqb (get_or hits x 0) (r.bottom - r.top - 1) (λ f. omega (arith, h.left x (omega arith), s.tall)))

      later : suc r.left < x → all (λ y. vertical (glyph_at g y x)) (inner_lines r) ≡ eqb (get_or hits x 0) (r.bottom - r.top - 1)
      later e = all_shown x (omega arith) j ∙ sym (h.right x (omega arith) (omega (arith, s.near, B.narrow)))

    pub splits-hit : split_column canvas r (r.bottom - r.top - 1) hits ≡ splits g r
    unfolding splits splits_at
    splits-hit =
        sym
        (any-agree _ _ (range (r.left + 1) (r.right - r.left - 1)) (λ x e.
        let (i, j) = range-mem (r.left + 1) (r.right - r.left - 1) x e in
        let p : r.left < x = omega arith in
        let q : x < r.right = omega arith in
        rw (plus-code r.top (inl refl) x p q, plus-code r.bottom (inr refl) x p q, all-hit x p q) refl))

  -- ---- a line without text
  empty-hidden : (x : ℕ) → shows_at column [] x ≡ false
  unfolding chars_from slots_from
  empty-hidden x = refl

  pub splits-short : length box.lines < r.bottom - r.top - 1 → false ≡ splits g r
  unfolding splits splits_at
  splits-short w =
      sym
      (none_any _ (range (r.left + 1) (r.right - r.left - 1)) (λ x e.
      let (i, j) = range-mem (r.left + 1) (r.right - r.left - 1) x e in
      bool-refused _ (λ t. lost x (omega arith) (omega arith) (and_right (plus_at g r.top x && plus_at g r.bottom x) _ t)))) where
        lost : (x : ℕ) → r.left < x → x < r.right → all (λ y. vertical (glyph_at g y x)) (inner_lines r) ≡ true → ⊥
        lost x i j e =
            ⊎_elim
            (λ (q : suc r.left ≡ x).
            let z : x ≡ r.left + 1 = omega arith in
            true-not-false (sym e ∙ ap (λ (z : ℕ). all (λ y. vertical (glyph_at g y z)) (inner_lines r)) z ∙ gap-blank))
            (λ (q : suc r.left < x).
            let c = length box.lines in
            true-not-false
            (sym (all-range (λ i. shows_at column (get_or box.lines i no_text) (x - (r.left + 2))) 0 (r.bottom - r.top - 1) (sym (all_shown x (omega arith) j) ∙ e) c (omega arith) (omega arith))
            ∙ ap (λ (l : List ℕ). shows_at column l (x - (r.left + 2))) (get_or-eq_default box.lines no_text {n = c} (omega arith)) ∙ empty-hidden (x - (r.left + 2))))
            (eq-or-lt_of_le i)

  -- ---- no `+` above that has one below
  pub splits-apart : (zeros : List ℕ) → ((x : ℕ) → get_or zeros x 0 ≡ 0) → split_column canvas r 0 zeros ≡ false → false ≡ splits g r
  unfolding splits splits_at
  splits-apart zeros zero none =
      sym
      (none_any _ (range (r.left + 1) (r.right - r.left - 1)) (λ x e.
      let (i, j) = range-mem (r.left + 1) (r.right - r.left - 1) x e in
      let p : r.left < x = omega arith in
      let q : x < r.right = omega arith in
      bool-refused _ (λ t.
      let both = and_left (plus_at g r.top x && plus_at g r.bottom x) _ t in
      let top = sym (plus-code r.top (inl refl) x p q) ∙ and_left (plus_at g r.top x) (plus_at g r.bottom x) both in
      let bottom = sym (plus-code r.bottom (inr refl) x p q) ∙ and_right (plus_at g r.top x) (plus_at g r.bottom x) both in
      true-not-false (sym (and_intro (and_intro top bottom) (ap (λ (h : ℕ). eqb h 0) (zero x))) ∙ any_none (split_test canvas r.top r.bottom 0 zeros) none e))))

  -- ---- what counting the lines needs
  pub box-hittable : origin ≤ 255 → Hittable column (r.left + 2) box.lines
  box-hittable h =
      record {
        well = λ i. (B.lined.written.texts box m i).well;
        short = B.short box m;
        inside = λ i. omega (arith, (B.lined.written.texts box m i).fits, columns-measure column (char_indices (get_or box.lines i no_text)), s.near, B.narrow);
      }
