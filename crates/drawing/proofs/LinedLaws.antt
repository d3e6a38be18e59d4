-- The `=` rules and the colons of a table's canvas (`canvas-lined`): rules stand at row lines (`rules-where`), no cell runs through one,
-- and a colon stands at an end of its segment (`colon-from` and `from-colon`, up to the next corner, `corner_after`).
use Prim.Native.Nat.{ℕ, zero, suc, ◌+◌, ◌-◌, ◌≤◌, ◌<◌}
use mathlib.Core.Path.{◌≡◌, refl, sym, ap, ◌∙◌}
use mathlib.Core.Bool.{Bool, true, false, ◌&&◌, ◌||◌, cond}
use mathlib.Core.Logic.{◌⊎◌, inl, inr, ⊎_elim}
use mathlib.Core.List.{List, [], ◌∷◌, ◌++◌, Memᴰ}
use native.Mathlib.Omega.{arith}
use native.Mathlib.Nat.{le_refl}
use lib.Dec.{eqb}
use borrow.Author.Tests.{eqb-true, eq-eqb}
use lib.ListN.{length, get_or}
use Rattle.seq.specs.Lists.{up_to, any, count, or_default}
use Rattle.seq.proofs.Tests.{true-not-false, and_left, and_right, and_intro, or_cases, or_left, or_right}
use Rattle.seq.proofs.Ranges.{mem-range, range-mem}
use Rattle.seq.proofs.Searches.{any-mem, mem-any}
use Rattle.seq.proofs.Finds.{FirstIn, first-in, range-any, find_first}
use Rattle.seq.proofs.Walks.{or-false}
use Rattle.grid.specs.Values.{TableCell, Table}
use Rattle.grid.specs.Layout.{first_of}
use Rattle.grid.specs.declared.TableAlignment.{TableAlignment}
use Rattle.grid.specs.declared.TableAlignment.TheVariants.{None, Left, Right, Center}
use Rattle.grid.specs.declared.GridTableSection.{GridTableSection}
use Rattle.grid.specs.declared.GridTableSection.TheVariants.{Body}
use Rattle.grid.proofs.SkylineLaws.{Inside}
use Rattle.drawing.specs.GridRules.{is_foot}
use Rattle.drawing.specs.Sizes.{least_width, widths}
use Rattle.drawing.specs.Plain.{Box, Canvas, box_of, rule_lines, canvas_at, canvas_of, canvas_width, canvas_height, corner_at, alignment_row, next_corner, has_left_colon, has_right_colon, draws_colon}
use Rattle.drawing.proofs.OffsetLaws.{offsets-step}
use Rattle.drawing.proofs.KeptLaws.{Kept}
use Rattle.drawing.proofs.SectionOrder.{rank, same_rank, heads, foot_at, Parted, head-ends, foot-starts}
use Rattle.drawing.proofs.BoxLaws.{Tiled, near-square, end-or-within, box-corner_at, corner_at-box, box-at}
use Rattle.drawing.proofs.RuleRows.{colon_in, Colon, Lined}
use Rattle.drawing.proofs.CanvasLaws.{Fine, alignment_in, x_at, y_at, y_at-last, cell_box, widths-length, widths-least, canvas-width, canvas-height, box-cell, x_at-up, x_at-le, y_at-le, x_at-lt, y_at-lt, canvas-tiled, canvas-written, side-x_at, canvas-spaced}

-- ---- the lines that bear `=`
abbrev OnRule : Table → ℕ → Type 0
OnRule t y =
    ((0 < heads t.sections) × (y ≡ y_at t (heads t.sections)))
    ⊎ ((0 < count is_foot t.sections) × ((y ≡ y_at t (foot_at t.sections)) ⊎ (y ≡ y_at t (length t.sections))))

positive : (n : ℕ) → eqb n 0 ≡ false → 0 < n
positive zero e = absurd (true-not-false e)
positive (suc n) e = omega arith

-- under Head; above Foot and on the last line
pub rules-are : (t : Table) → (canvas_of t).rules
    ≡ cond (eqb (heads t.sections) 0) [] (y_at t (heads t.sections) ∷ [])
    ++ cond (eqb (count is_foot t.sections) 0) [] (y_at t (foot_at t.sections) ∷ y_at t (length t.sections) ∷ [])
unfolding canvas_of canvas_at rule_lines
rules-are t = rw (y_at-last t)

pub rules-where : (t : Table) (y : ℕ) → any (eqb y) (canvas_of t).rules ≡ true → OnRule t y
unfolding any
rules-where t y h =
    go (eqb (heads t.sections) 0) (eqb (count is_foot t.sections) 0) refl refl (rw (rules-are t) at h) where
      one : (a : ℕ) → eqb y a || false ≡ true → y ≡ a
      one a e = eqb-true y a (sym (or-false (eqb y a)) ∙ e)

      two : eqb y (y_at t (foot_at t.sections)) || (eqb y (y_at t (length t.sections)) || false) ≡ true → (y ≡ y_at t (foot_at t.sections)) ⊎ (y ≡ y_at t (length t.sections))
      two k =
          ⊎_elim (λ e. inl (eqb-true y _ e)) (λ e. inr (one _ e))
          (or_cases (eqb y (y_at t (foot_at t.sections))) (eqb y (y_at t (length t.sections)) || false) k)

      go : (a b : Bool) → eqb (heads t.sections) 0 ≡ a → eqb (count is_foot t.sections) 0 ≡ b
          → any (eqb y) (cond a [] (y_at t (heads t.sections) ∷ []) ++ cond b [] (y_at t (foot_at t.sections) ∷ y_at t (length t.sections) ∷ [])) ≡ true → OnRule t y
      go true true p q k = absurd (true-not-false (sym k))
      go true false p q k = inr (positive _ q, two k)
      go false true p q k = inl (positive _ p, one _ k)
      go false false p q k =
          ⊎_elim (λ e. inl (positive _ p, eqb-true y _ e)) (λ e. inr (positive _ q, two e))
          (or_cases (eqb y (y_at t (heads t.sections))) (eqb y (y_at t (foot_at t.sections)) || (eqb y (y_at t (length t.sections)) || false)) k)

first-in-rules : (l : List ℕ) → (or_default 0 (first_of l) ≡ 0) ⊎ (any (eqb (or_default 0 (first_of l))) l ≡ true)
unfolding any
first-in-rules [] = inl refl
first-in-rules (y ∷ ys) = inr (or_left (any (eqb y) ys) (eq-eqb y y refl))

module _ {t : Table} (F : Fine t) where
  U : Kept t
  U = F.rules

  abbrev ss : List GridTableSection
  ss = t.sections

  abbrev R : ℕ
  R = length t.sections

  abbrev C : ℕ
  C = length t.columns

  abbrev v : Canvas
  v = canvas_of t

  P : Tiled v
  P = canvas-tiled F

  HE : Parted 1 ss (heads ss)
  HE = head-ends ss U.run

  FS : Parted 2 ss (foot_at ss)
  FS = foot-starts ss U.run

  -- a row line that a cell crosses parts two rows of one section
  crossed : {c : TableCell} → Memᴰ c t.cells → (i : ℕ) → c.row < i → i < c.row + c.rowspan → rank (get_or ss (i - 1) Body) ≡ rank (get_or ss i Body)
  crossed {c} m i u w =
      sym (same_rank (get_or ss c.row Body) (get_or ss (i - 1) Body) (U.whole c m (i - 1) (omega arith) (omega arith)))
      ∙ same_rank (get_or ss c.row Body) (get_or ss i Body) (U.whole c m i (omega arith) w)

  cell-crosses : {c : TableCell} → Memᴰ c t.cells → (i : ℕ) → i ≤ R → (cell_box t c).frame.top < y_at t i → y_at t i < (cell_box t c).frame.bottom → (c.row < i) × (i < c.row + c.rowspan)
  unfolding box_of
  cell-crosses {c} m i h u w = let s = U.lies c m in (y_at-lt F c.row i (omega (arith, s.low)) u, y_at-lt F i (c.row + c.rowspan) h w)

  at_part : {k n : ℕ} → Parted k ss n → {c : TableCell} → Memᴰ c t.cells → (cell_box t c).frame.top < y_at t n → y_at t n < (cell_box t c).frame.bottom → ⊥
  at_part {k} {n} p {c} m u w =
      let z = cell-crosses m n p.within u w in
      omega (arith, crossed m n z.0 z.1, p.above (n - 1) (omega arith), p.under n (le_refl _) (omega (arith, (U.lies c m).low)))

  at-end : {c : TableCell} → Memᴰ c t.cells → (cell_box t c).frame.top < y_at t R → y_at t R < (cell_box t c).frame.bottom → ⊥
  at-end {c} m u w = let k = cell-crosses m R (le_refl _) u w in omega (arith, (U.lies c m).low)

  rules-clear : (y : ℕ) → any (eqb y) v.rules ≡ true → (b : Box) → Memᴰ b v.boxes → b.frame.top < y → y < b.frame.bottom → ⊥
  rules-clear y h b m u w =
      let (c, n, made) = box-cell F m in
      let e = ap (λ (z : Box). z.frame.top) made in
      let d = ap (λ (z : Box). z.frame.bottom) made in
      ⊎_elim (λ p. at_part HE n (omega (arith, p.1)) (omega (arith, p.1)))
      (λ p. ⊎_elim (λ q. at_part FS n (omega arith) (omega arith)) (λ q. at-end n (omega arith) (omega arith)) p.1) (rules-where t y h)

  -- ---- the alignment line
  abbrev al : ℕ
  al = alignment_row (canvas_of t)

  alignment_row-rule : (al ≡ 0) ⊎ (any (eqb al) v.rules ≡ true)
  alignment_row-rule = first-in-rules v.rules

  pub rules-low : (y : ℕ) → any (eqb y) v.rules ≡ true → y < canvas_height v
  rules-low y h =
      ⊎_elim (λ p. low (heads ss) HE.within p.1) (λ p. ⊎_elim (low (foot_at ss) FS.within) (low R (le_refl _)) p.1) (rules-where t y h) where
        low : (i : ℕ) → i ≤ R → y ≡ y_at t i → y < canvas_height v
        low i u e = omega (arith, canvas-height t, y_at-le F i R u (le_refl _))

  pub alignment_row-low : al < canvas_height v
  alignment_row-low = ⊎_elim (λ e. omega (arith, P.two_lines)) (rules-low al) alignment_row-rule

  pub alignment_row-clear : (b : Box) → Memᴰ b v.boxes → b.frame.top < al → al < b.frame.bottom → ⊥
  alignment_row-clear b m u w = ⊎_elim (λ e. omega arith) (λ h. rules-clear al h b m u w) alignment_row-rule

  corner_at-last : corner_at v al (canvas_width v - 1) ≡ true
  corner_at-last =
      let r = near-square 0 al (canvas_height v - 1) (omega arith) (omega (arith, alignment_row-low)) (omega (arith, P.two_lines)) in
      go r.0 r.3 r.4 (box-at P r.0 (canvas_width v - 2) (omega (arith, r)) (omega (arith, P.two_columns))) where
        go : (y : ℕ) → y ≤ al → al ≤ suc y → (b : Box) × Memᴰ b v.boxes × Inside y (canvas_width v - 2) b.frame → corner_at v al (canvas_width v - 1) ≡ true
        go y i j (b, m, q) =
            box-corner_at v m al (canvas_width v - 1)
            (⊎_elim (λ d. d) (λ d. absurd (alignment_row-clear b m d.0 d.1)) (end-or-within b.frame.top al b.frame.bottom (omega (arith, q.below)) (omega (arith, q.above))))
            (inr (omega (arith, q.before, (P.sized b m).near)))

  -- the next corner behind a column line that is not the last
  module _ (c : ℕ) (u : c < C) where
    pub x_at-room : x_at t c + 1 < canvas_width v
    x_at-room = omega (arith, canvas-width t, x_at-up F c C u (le_refl _))

    pub corner_after : FirstIn (corner_at v al) (x_at t c + 1) (canvas_width v - (x_at t c + 1))
    corner_after =
        first-in (corner_at v al) (x_at t c + 1) (canvas_width v - (x_at t c + 1))
        (range-any (corner_at v al) (x_at t c + 1) (canvas_width v - (x_at t c + 1)) {x = canvas_width v - 1} (omega (arith, x_at-room)) (omega (arith, x_at-room)) corner_at-last)

    pub next_corner-is : next_corner v al (x_at t c) ≡ corner_after.at
    unfolding next_corner
    next_corner-is = ap (or_default 0) (find_first (corner_at v al) (x_at t c + 1) (canvas_width v - (x_at t c + 1)) corner_after.at corner_after.low corner_after.high corner_after.before corner_after.found)

    -- the next corner is a column line, so a column that is at least 3 wide lies before it
    pub next_corner-far : least_width (alignment_in t c) ≡ 3 → x_at t c + 4 ≤ corner_after.at
    next_corner-far wide =
        let (b, m, _, side) = corner_at-box v al corner_after.at corner_after.found in
        let (j, hj, e) = side-x_at F m corner_after.at side in
        let l = x_at-lt F c j (omega arith) (omega (arith, corner_after.low)) in
        omega (arith, x_at-le F (suc c) j l hj, offsets-step 0 (widths t) c (omega (arith, widths-length t)), widths-least t c u)

  -- ---- where a colon comes from
  pub data ColonOf (z c : ℕ) : Type 0 where
    at_left : has_left_colon (alignment_in t c) ≡ true → z ≡ x_at t c + 1 → ColonOf z c
    at_right : has_right_colon (alignment_in t c) ≡ true → z + 1 ≡ next_corner v al (x_at t c) → ColonOf z c

  pub record ColonFrom (z : ℕ) : Type 0 where
    pub column : ℕ
    pub inside : column < C
    pub corner : corner_at v al (x_at t column) ≡ true
    pub which : ColonOf z column

  left-wide : (a : TableAlignment) → has_left_colon a ≡ true → least_width a ≡ 3
  left-wide None e = absurd (true-not-false (sym e))
  left-wide Left e = refl
  left-wide Right e = absurd (true-not-false (sym e))
  left-wide Center e = refl

  right-wide : (a : TableAlignment) → has_right_colon a ≡ true → least_width a ≡ 3
  right-wide None e = absurd (true-not-false (sym e))
  right-wide Left e = absurd (true-not-false (sym e))
  right-wide Right e = refl
  right-wide Center e = refl

  pub colon-wide : {z c : ℕ} → ColonOf z c → least_width (alignment_in t c) ≡ 3
  colon-wide {z} {c} (at_left e q) = left-wide (alignment_in t c) e
  colon-wide {z} {c} (at_right e q) = right-wide (alignment_in t c) e

  draws_colon-from : (z c : ℕ) → c < C → draws_colon v z c ≡ true → ColonFrom z
  unfolding draws_colon canvas_of canvas_at
  draws_colon-from z c u e =
      let l = has_left_colon (alignment_in t c) && eqb z (x_at t c + 1) in
      let r = has_right_colon (alignment_in t c) && eqb z (next_corner v al (x_at t c) - 1) in
      let k = corner_at v al (x_at t c) in
      record {
        column = c;
        inside = u;
        corner = and_left k (l || r) e;
        which =
            ⊎_elim (λ (h : l ≡ true). at_left (and_left (has_left_colon (alignment_in t c)) (eqb z (x_at t c + 1)) h) (eqb-true _ _ (and_right (has_left_colon (alignment_in t c)) (eqb z (x_at t c + 1)) h)))
            (λ (h : r ≡ true).
            at_right (and_left (has_right_colon (alignment_in t c)) (eqb z (next_corner v al (x_at t c) - 1)) h)
            (omega (arith, eqb-true z (next_corner v al (x_at t c) - 1) (and_right (has_right_colon (alignment_in t c)) (eqb z (next_corner v al (x_at t c) - 1)) h), next_corner-is c u, (corner_after c u).low)))
            (or_cases l r (and_right k (l || r) e));
      }

  in-columns : (c : ℕ) → Memᴰ c (up_to (length v.columns)) → c < C
  unfolding canvas_of canvas_at
  in-columns c m = omega (arith, range-mem 0 (length t.columns) c m)

  columns-in : (c : ℕ) → c < C → Memᴰ c (up_to (length v.columns))
  unfolding canvas_of canvas_at
  columns-in c u = mem-range 0 (length t.columns) c (omega arith) (omega arith)

  pub colon-from : (z : ℕ) → colon_in v z ≡ true → ColonFrom z
  colon-from z h = let (c, m, e) = any-mem (draws_colon v z) (up_to (length v.columns)) h in draws_colon-from z c (in-columns c m) e

  from-draws_colon : (z c : ℕ) → c < C → corner_at v al (x_at t c) ≡ true → ColonOf z c → draws_colon v z c ≡ true
  unfolding draws_colon canvas_of canvas_at
  from-draws_colon z c u p (at_left e q) =
      and_intro p (or_left (has_right_colon (alignment_in t c) && eqb z (next_corner v al (x_at t c) - 1)) (and_intro e (eq-eqb z (x_at t c + 1) q)))
  from-draws_colon z c u p (at_right e q) =
      and_intro p (or_right (has_left_colon (alignment_in t c) && eqb z (x_at t c + 1)) (and_intro e (eq-eqb z (next_corner v al (x_at t c) - 1) (omega arith))))

  pub from-colon : (z c : ℕ) → c < C → corner_at v al (x_at t c) ≡ true → ColonOf z c → colon_in v z ≡ true
  from-colon z c u p w = mem-any (draws_colon v z) (columns-in c u) (from-draws_colon z c u p w)

  ends : (z c : ℕ) (u : c < C) → ColonOf z c → (z ≡ x_at t c + 1) ⊎ (z + 1 ≡ (corner_after c u).at)
  ends z c u (at_left e q) = inl q
  ends z c u (at_right e q) = inr (q ∙ next_corner-is c u)

  colon-at : (z c : ℕ) → c < C → corner_at v al (x_at t c) ≡ true → ColonOf z c → Colon v z
  colon-at z c u p w =
      let n = corner_after c u in
      record {
        from_corner = x_at t c;
        to_corner = n.at;
        starts = p;
        stops = n.found;
        roomy = next_corner-far c u (colon-wide w);
        between = λ x i j. n.before x (omega arith) j;
        place = ends z c u w;
      }

  colons-placed : (z : ℕ) → colon_in v z ≡ true → Colon v z
  colons-placed z h =
      let f = colon-from z h in
      colon-at z f.column f.inside f.corner f.which

  pub canvas-lined : Lined v
  canvas-lined = record { written = canvas-written F; spaced = canvas-spaced F; clear = rules-clear; colons = colons-placed; aligned = alignment_row-rule }
