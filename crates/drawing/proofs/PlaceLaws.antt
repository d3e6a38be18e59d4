-- What the searches of redraw's refusals 10 and 11 find: `misaligned-lowest` and `lowest-misaligned`, `split_cell-first` and
-- `first-split_cell`.
use Prim.Native.Nat.{ℕ, ◌+◌, ◌-◌, ◌<◌}
use mathlib.Core.Path.{◌≡◌, refl, sym, subst, ◌∙◌}
use mathlib.Core.Bool.{Bool, true, false, not, ◌&&◌, ◌||◌}
use mathlib.Core.Option.{none, some}
use mathlib.Core.List.{[]}
use native.Mathlib.Omega.{arith}
use lib.ListN.{length}
use Rattle.seq.specs.Lists.{all}
use Rattle.seq.proofs.Tests.{true-not-false, and_left, and_right, and_intro, bool-refused}
use Rattle.seq.proofs.Searches.{all-range, range_all, first_at-some}
use Rattle.seq.proofs.Gathered.{first-at}
use Rattle.seq.proofs.Finds.{first-in, range-any, find_first, find-in}
use Rattle.grid.specs.Values.{Rect, Table}
use Rattle.grid.specs.Slots.{Grid, vertical, glyph_at}
use Rattle.grid.specs.Rectangle.{plus_at}
use Rattle.grid.specs.Layout.{inner_lines}
use Rattle.grid.specs.declared.TableAlignment.{TableAlignment}
use Rattle.grid.specs.declared.TableAlignment.TheVariants.{None, Left, Right, Center}
use Rattle.drawing.specs.Plain.{Box, Canvas, canvas_of, has_left_colon, has_right_colon, column_alignment, has_corner}
use Rattle.drawing.specs.Redraw.{colons_misplaced, misaligned, splits_at, splits, split_cell}
use Rattle.drawing.specs.Places.{Cornerless, LowestCornerless, Split, frame_at, FirstSplit}
use Rattle.drawing.proofs.CanvasLaws.{Fine, canvas-columns}
use Rattle.drawing.proofs.CheckLaws.{misaligned-nowhere}
use Rattle.drawing.proofs.AlignmentsBack.{colons_misplaced-is}

-- ---- the tests
bare-corner : (a : TableAlignment) (b : Bool) → (has_left_colon a || has_right_colon a) && not b ≡ true → (a ≡ None → ⊥) × (b ≡ false)
bare-corner None b e = absurd (true-not-false (sym e))
bare-corner Left false e = (λ q. let z : ◌≡◌ {A = ℕ} 0 1 = cc in omega arith, refl)
bare-corner Right false e = (λ q. let z : ◌≡◌ {A = ℕ} 0 1 = cc in omega arith, refl)
bare-corner Center false e = (λ q. let z : ◌≡◌ {A = ℕ} 0 1 = cc in omega arith, refl)
bare-corner Left true e = absurd (true-not-false (sym e))
bare-corner Right true e = absurd (true-not-false (sym e))
bare-corner Center true e = absurd (true-not-false (sym e))

corner-bare : (a : TableAlignment) (b : Bool) → (a ≡ None → ⊥) → b ≡ false → (has_left_colon a || has_right_colon a) && not b ≡ true
corner-bare None b h e = absurd (h refl)
corner-bare Left b h e = rw e
corner-bare Right b h e = rw e
corner-bare Center b h e = rw e

module _ {t : Table} (F : Fine t) (o : ℕ) where
  abbrev v : Canvas
  v = canvas_of t

  in-columns : {k : ℕ} → k < length v.columns → k < length t.columns
  in-columns u = rw (← (canvas-columns t)) u

  misplaced-cornerless : (k : ℕ) → k < length v.columns → colons_misplaced v k (column_alignment v k) ≡ true → Cornerless v k
  misplaced-cornerless k u e =
      let (a, b) = bare-corner (column_alignment v k) (has_corner v k) (sym (colons_misplaced-is F o k (in-columns u) (column_alignment v k)) ∙ e) in
      record { column = u; aligned = a; no_corner = b }

  cornerless-misplaced : {k : ℕ} → Cornerless v k → colons_misplaced v k (column_alignment v k) ≡ true
  cornerless-misplaced {k} c =
      colons_misplaced-is F o k (in-columns c.column) (column_alignment v k) ∙ corner-bare (column_alignment v k) (has_corner v k) c.aligned c.no_corner

splits-split : (g : Grid) (r : Rect) → splits g r ≡ true → Split g r
unfolding splits splits_at
splits-split g r e =
    let f = first-in (splits_at g r) (r.left + 1) (r.right - r.left - 1) e in
    let x = f.at in
    let p = plus_at g r.top x in
    let q = plus_at g r.bottom x in
    let w = all (λ y. vertical (glyph_at g y x)) (inner_lines r) in
    let both = and_left (p && q) w f.found in
    record {
      column = x;
      after = omega (arith, f.low);
      before = omega (arith, f.low, f.high);
      top = and_left p q both;
      bottom = and_right p q both;
      between = λ y a b. all-range (λ y. vertical (glyph_at g y x)) (r.top + 1) (r.bottom - r.top - 1) (and_right (p && q) w f.found) y (omega arith) (omega arith);
    }

split-splits : (g : Grid) (r : Rect) → Split g r → splits g r ≡ true
unfolding splits splits_at
split-splits g r s =
    range-any (splits_at g r) (r.left + 1) (r.right - r.left - 1) {x = s.column} (omega (arith, s.after)) (omega (arith, s.after, s.before))
    (and_intro (and_intro s.top s.bottom)
    (range_all (λ y. vertical (glyph_at g y s.column)) (r.top + 1) (r.bottom - r.top - 1) (λ y a b. s.between y (omega arith) (omega arith))))

-- ---- the searches
module _ {t : Table} (F : Fine t) (o : ℕ) where
  abbrev is_misplaced : ℕ → Bool
  is_misplaced k = colons_misplaced (canvas_of t) k (column_alignment (canvas_of t) k)

  abbrev C : ℕ
  C = length (canvas_of t).columns

  not-misplaced : {k : ℕ} → k < C → (Cornerless (canvas_of t) k → ⊥) → is_misplaced k ≡ false
  not-misplaced {k} u h = bool-refused (is_misplaced k) (λ e. h (misplaced-cornerless F o k u e))

  -- Refusal 10's search finds the lowest aligned column without a corner.
  pub misaligned-lowest : (k : ℕ) → misaligned (canvas_of t) ≡ some k → LowestCornerless (canvas_of t) k
  unfolding misaligned
  misaligned-lowest k e =
      let (f, same) = find-in is_misplaced 0 C k e in
      subst (LowestCornerless (canvas_of t)) same
      (record {
        here = misplaced-cornerless F o f.at (omega (arith, f.high)) f.found;
        before = λ j u c. true-not-false (sym (cornerless-misplaced F o c) ∙ f.before j (omega arith) u);
      })

  pub lowest-misaligned : (k : ℕ) → LowestCornerless (canvas_of t) k → misaligned (canvas_of t) ≡ some k
  unfolding misaligned
  lowest-misaligned k l =
      let u = l.here.column in
      find_first is_misplaced 0 C k (omega arith) (omega arith) (λ j a b. not-misplaced (omega arith) (l.before j b)) (cornerless-misplaced F o l.here)

  pub none-misaligned : ((k : ℕ) → Cornerless (canvas_of t) k → ⊥) → misaligned (canvas_of t) ≡ none
  none-misaligned h = misaligned-nowhere (canvas_of t) (λ k u. not-misplaced u (h k))

module _ (v : Canvas) (g : Grid) where
  abbrev no_box : Box
  no_box = record { frame = record { top = 0; left = 0; bottom = 0; right = 0 }; lines = [] }

  abbrev box_splits : Box → Bool
  box_splits b = splits g b.frame

  -- Refusal 11's search finds the first box that splits.
  pub split_cell-first : (k : ℕ) → split_cell v g ≡ some k → FirstSplit v g k
  unfolding split_cell
  split_cell-first k e =
      let f = first_at-some box_splits 0 v.boxes k e in
      let same : f.index ≡ k = omega (arith, f.placed) in
      subst (FirstSplit v g) same
      (record {
        box = f.inside;
        here = splits-split g (frame_at v f.index) (f.found no_box);
        before = λ j u s. true-not-false (sym (split-splits g (frame_at v j) s) ∙ f.before j no_box u);
      })

  pub first-split_cell : (k : ℕ) → FirstSplit v g k → split_cell v g ≡ some k
  unfolding split_cell
  first-split_cell k s =
      first-at box_splits v.boxes no_box k s.box (split-splits g (frame_at v k) s.here)
      (λ j u. bool-refused (splits g (frame_at v j)) (λ e. s.before j u (splits-split g (frame_at v j) e)))
