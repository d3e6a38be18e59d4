-- The first bordered rectangle at a box's corner: the box where it does not split (`unsplit-first`), else its part up to the first
-- column at which it does (`split-first`).
use Prim.Native.Nat.{ℕ, ◌+◌, ◌-◌, ◌≤◌, ◌<◌}
use mathlib.Core.Path.{◌≡◌, sym, ap, ◌∙◌}
use mathlib.Core.Bool.{true, false, ◌&&◌}
use mathlib.Core.Logic.{inl, inr, ⊎_elim}
use native.Mathlib.Omega.{arith}
use native.Mathlib.Nat.{eq-or-lt_of_le}
use Rattle.seq.specs.Lists.{all}
use Rattle.seq.proofs.Tests.{true-not-false, and_left, and_right, and_intro, le-or-lt}
use Rattle.seq.proofs.Ranges.{mem-range}
use Rattle.seq.proofs.Searches.{any_none, all-range, range_all}
use Rattle.seq.proofs.Finds.{first-in}
use Rattle.grid.specs.Values.{Rect}
use Rattle.grid.specs.Slots.{Grid, Plus, Other, is_plus, horizontal, vertical, glyph_at}
use Rattle.grid.specs.Rectangle.{plus_at}
use Rattle.grid.specs.Layout.{inner_lines}
use Rattle.grid.specs.Cover.{Bordered, First}
use Rattle.grid.proofs.RectangleLaws.{rect, plus-is}
use Rattle.drawing.specs.Redraw.{splits_at, splits}

module _ {g : Grid} {q : Rect} (h : Bordered g q) (gap : (y : ℕ) → q.top < y → y < q.bottom → glyph_at g y (q.left + 1) ≡ Other) where
  -- up to a column at which it splits, a bordered rectangle is bordered
  part-bordered : (c : ℕ) → q.left < c → c < q.right → splits_at g q c ≡ true → Bordered g (rect q.top q.left q.bottom c)
  unfolding splits_at
  part-bordered c u w e =
      let p = plus_at g q.top c in
      let r = plus_at g q.bottom c in
      let inner = all (λ y. vertical (glyph_at g y c)) (inner_lines q) in
      let top : glyph_at g q.top c ≡ Plus = plus-is (glyph_at g q.top c) (and_left p r (and_left (p && r) inner e)) in
      let bottom : glyph_at g q.bottom c ≡ Plus = plus-is (glyph_at g q.bottom c) (and_right p r (and_left (p && r) inner e)) in
      let between = all-range (λ y. vertical (glyph_at g y c)) (q.top + 1) (q.bottom - q.top - 1) (and_right (p && r) inner e) in
      record {
        top_above_bottom = h.top_above_bottom;
        bottom_inside = h.bottom_inside;
        left_before_right = u;
        right_inside = omega (arith, h.right_inside);
        top_left = h.top_left;
        top_right = top;
        bottom_left = h.bottom_left;
        bottom_right = bottom;
        top_side = λ x i j. h.top_side x i (omega arith);
        bottom_side = λ x i j. h.bottom_side x i (omega arith);
        left_side = h.left_side;
        right_side = λ y i j.
            ⊎_elim (λ (d : q.top ≡ y). ap vertical (ap (λ (z : ℕ). glyph_at g z c) (sym d) ∙ top))
            (λ (d : q.top < y).
            ⊎_elim (λ (f : y ≡ q.bottom). ap vertical (ap (λ (z : ℕ). glyph_at g z c) f ∙ bottom)) (λ (f : y < q.bottom). between y (omega arith) (omega arith)) (eq-or-lt_of_le j))
            (eq-or-lt_of_le i);
      }

  -- a bordered rectangle at the corner reaches at least as far down
  as-deep : (r : Rect) → Bordered g r → r.top ≡ q.top → r.left ≡ q.left → q.bottom ≤ r.bottom
  as-deep r k t l =
      ⊎_elim (λ (u : q.bottom ≤ r.bottom). u)
      (λ (u : r.bottom < q.bottom).
      absurd
      (true-not-false
      (sym (k.bottom_side (q.left + 1) (omega arith) (omega (arith, k.left_before_right))) ∙ ap horizontal (gap r.bottom (omega (arith, k.top_above_bottom)) u))))
      (le-or-lt q.bottom r.bottom)

  -- one that ends before the cell does ends at a column at which the cell splits
  nearer-splits : (r : Rect) → Bordered g r → r.top ≡ q.top → r.bottom ≡ q.bottom → splits_at g q r.right ≡ true
  unfolding splits_at
  nearer-splits r k t b =
      let top : glyph_at g q.top r.right ≡ Plus = rw t at k.top_right in
      let bottom : glyph_at g q.bottom r.right ≡ Plus = rw b at k.bottom_right in
      and_intro (and_intro (ap is_plus top) (ap is_plus bottom))
      (range_all (λ y. vertical (glyph_at g y r.right)) (q.top + 1) (q.bottom - q.top - 1) (λ y i j. k.right_side y (omega arith) (omega arith)))

  first-at : (r : ℕ) → Bordered g (rect q.top q.left q.bottom r) → ((x : ℕ) → q.left < x → x < r → splits_at g q x ≡ false) → First g (rect q.top q.left q.bottom r)
  first-at r k none =
      record {
        bordered = k;
        least = λ p i t l.
            ⊎_elim
            (λ (e : q.bottom ≡ p.bottom).
            inr (
              e,
              ⊎_elim (λ (u : r ≤ p.right). u)
                  (λ (u : p.right < r). absurd (true-not-false (sym (nearer-splits p i t (sym e)) ∙ none p.right (omega (arith, i.left_before_right)) u))) (le-or-lt r p.right),
            ))
            inl (eq-or-lt_of_le (as-deep p i t l));
      }

  -- the cell, unless it splits
  pub unsplit-first : splits g q ≡ false → First g q
  unfolding splits
  unsplit-first s =
      first-at q.right h
      (λ x u w. any_none (splits_at g q) s (mem-range (q.left + 1) (q.right - q.left - 1) x (omega arith) (omega arith)))

  pub record Part : Type 0 where
    pub column : ℕ
    pub after : q.left < column
    pub before : column < q.right
    pub split : splits_at g q column ≡ true
    pub first : First g (rect q.top q.left q.bottom column)

  -- and if it splits, the part up to the first such column
  pub split-first : splits g q ≡ true → Part
  unfolding splits
  split-first s =
      let f = first-in (splits_at g q) (q.left + 1) (q.right - q.left - 1) s in
      let u : q.left < f.at = omega (arith, f.low) in
      let w : f.at < q.right = omega (arith, f.high, h.left_before_right) in
      record { column = f.at; after = u; before = w; split = f.found; first = first-at f.at (part-bordered f.at u w f.found) (λ x i j. f.before x (omega arith) j) }
