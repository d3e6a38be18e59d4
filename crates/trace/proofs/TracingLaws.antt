-- Laws of tracing over arrays.
use Prim.Native.Nat.{ℕ, suc, ◌+◌, ◌-◌, ◌≤◌, ◌<◌}
use mathlib.Core.Path.{◌≡◌, refl, sym, ap, ap₂, ◌∙◌}
use mathlib.Core.Bool.{Bool, true, false, ◌||◌}
use mathlib.Core.Logic.{⊎_elim}
use mathlib.Core.List.{List, [], ◌∷◌, ◌++◌}
use mathlib.Core.Option.{some}
use native.Mathlib.Omega.{arith}
use lib.Dec.{leb}
use lib.ListN.{length, get_or, replicate, length-set, get_or-replicate, length-replicate}
use borrow.Author.Tests.{le-leb, lt-leb}
use Rattle.seq.specs.Lists.{some_if}
use Rattle.seq.proofs.Tests.{or_left, or_right, le-or-lt}
use Rattle.grid.specs.Values.{Rect}
use Rattle.grid.specs.Slots.{Grid}
use Rattle.representation.specs.Arrays.{array_grid, rects_of}
use Rattle.grid.specs.LayoutCall.{rect_space}
use Rattle.grid.specs.Rectangle.{first_rect}
use Rattle.grid.specs.Trace.{Traced, covered, stopped, placed, lowest, leftmost, stands_level, raise, keep_level, next_rect, all_down, trace_from, trace}
use Rattle.grid.specs.Cover.{Bordered}
use Rattle.grid.proofs.RectangleLaws.{rect, found_first}
use Rattle.grid.proofs.SkylineLaws.{Corner as LowestColumn, leftmost-corner, raise-before, raise-inside, raise-after, next-found}
use Rattle.grid.proofs.TraceLaws.{trace-done, trace-stuck, trace-full, trace-next}
use Rattle.trace.specs.Search.{found_rect}
use Rattle.trace.specs.Skylines.{sky_of}
use Rattle.trace.specs.Placing.{with_rect}
use Rattle.trace.proofs.rects.PlacingLaws.{with-rect}
use Rattle.trace.specs.Tracing.{Lowest}
use Rattle.trace.specs.declared.search.FarCorner.{FarCorner}
use Rattle.std.specs.Prelude.{Option, Some, None}
use Rattle.trace.specs.declared.skyline.Skyline.{Skyline}
use Rattle.trace.specs.declared.skyline.Corner.{Corner}
use Rattle.trace.proofs.skyline.SkyLaws.{sky-length}

-- ---- rectangles before what is traced later

abbrev pub prefixed : List Rect → Traced → Traced
prefixed [] t = t
prefixed (r ∷ rs) t = placed r (prefixed rs t)

prefixed-snoc : (rs : List Rect) (r : Rect) (t : Traced) → prefixed (rs ++ r ∷ []) t ≡ prefixed rs (placed r t)
prefixed-snoc [] r t = refl
prefixed-snoc (q ∷ rs) r t = ap (placed q) (prefixed-snoc rs r t)

prefixed-covered : (rs : List Rect) → prefixed rs (covered []) ≡ covered rs
prefixed-covered [] = refl
prefixed-covered (r ∷ rs) = ap (placed r) (prefixed-covered rs)

prefixed-stopped : (rs : List Rect) (number : ℕ) → prefixed rs (stopped number) ≡ stopped number
prefixed-stopped [] number = refl
prefixed-stopped (r ∷ rs) number = ap (placed r) (prefixed-stopped rs number)

-- ---- the rectangle to place next

pub record Bounds (height width top left bottom right : ℕ) : Type 0 where
  pub tall : top < bottom
  pub bottom_inside : bottom < height
  pub wide : left < right
  pub right_inside : right < width

bordered-bounds : {height width : ℕ} (glyphs : List ℕ) {q : Rect} → Bordered (array_grid height width glyphs) q
    → Bounds height width q.top q.left q.bottom q.right
unfolding array_grid
bordered-bounds glyphs h = record { tall = h.top_above_bottom; bottom_inside = h.bottom_inside; wide = h.left_before_right; right_inside = h.right_inside }

first-bounds : {height width : ℕ} (glyphs : List ℕ) {top left : ℕ} {f : Option FarCorner} {far : FarCorner}
    → found_rect top left f ≡ first_rect (array_grid height width glyphs) top left → f ≡ Some far → Bounds height width top left far.bottom far.right
first-bounds {height} {width} glyphs {top} {left} {f} {far} found at =
    bordered-bounds glyphs (found_first (array_grid height width glyphs) top left (rect top left far.bottom far.right) (sym found ∙ ap (found_rect top left) at)).0.bordered

module _ {width : ℕ} {sky : Skyline} {c : Corner} (low : Lowest width sky c) where
  there : LowestColumn (sky_of sky)
  there = leftmost-corner (sky_of sky) (omega (arith, sky-length sky, sky.some))

  pub left-inside : c.left < width
  left-inside = omega (arith, there.inside, low.at_leftmost, low.columns, sky-length sky)

  module _ (height : ℕ) (glyphs : List ℕ) {f : Option FarCorner} (found : found_rect c.top c.left f ≡ first_rect (array_grid height width glyphs) c.top c.left) where
    next_of : {g : Option FarCorner} → f ≡ g → next_rect (array_grid height width glyphs) (sky_of sky) ≡ keep_level (sky_of sky) (found_rect c.top c.left g)
    unfolding next_rect
    next_of {g} e =
        ap₂ (λ t l. keep_level (sky_of sky) (first_rect (array_grid height width glyphs) t l)) (sym low.at_lowest) (sym low.at_leftmost)
        ∙ ap (keep_level (sky_of sky)) (sym found ∙ ap (found_rect c.top c.left) e)

    pub next-none : f ≡ None → found_rect c.top c.left None ≡ next_rect (array_grid height width glyphs) (sky_of sky)
    next-none e = sym (next_of e)

    module _ {far : FarCorner} (at : f ≡ Some far) where
      next-if : (t : Bool) → t ≡ stands_level (sky_of sky) (rect c.top c.left 0 far.right)
          → next_rect (array_grid height width glyphs) (sky_of sky) ≡ some_if t (rect c.top c.left far.bottom far.right)
      unfolding stands_level
      next-if t e = next_of at ∙ ap (λ t. some_if t (rect c.top c.left far.bottom far.right)) (sym e)

      pub level-asked : (c.left ≤ far.right) × (far.right ≤ sky.used)
      level-asked = let bounds = first-bounds glyphs found at in (omega arith, omega (arith, low.columns))

      pub next-uneven : (t : Bool) → t ≡ stands_level (sky_of sky) (rect c.top c.left 0 far.right) → t ≡ false
          → found_rect c.top c.left None ≡ next_rect (array_grid height width glyphs) (sky_of sky)
      next-uneven t e uneven = sym (next-if t e ∙ ap (λ t. some_if t (rect c.top c.left far.bottom far.right)) uneven)

      pub next_level : (t : Bool) → t ≡ stands_level (sky_of sky) (rect c.top c.left 0 far.right) → t ≡ true
          → found_rect c.top c.left (Some far) ≡ next_rect (array_grid height width glyphs) (sky_of sky)
      next_level t e level = sym (next-if t e ∙ ap (λ t. some_if t (rect c.top c.left far.bottom far.right)) level)

-- ---- the turns

-- a grid of one line or one column
pub low-grid : (height width : ℕ) (glyphs : List ℕ) → height ≤ 1 → stopped 6 ≡ trace (array_grid height width glyphs)
unfolding trace array_grid
low-grid height width glyphs low = rw (or_left (leb width 1) (le-leb height 1 low))

pub thin-grid : (height width : ℕ) (glyphs : List ℕ) → width ≤ 1 → stopped 6 ≡ trace (array_grid height width glyphs)
unfolding trace array_grid
thin-grid height width glyphs thin = rw (or_right (leb height 1) (le-leb width 1 thin))

-- n rectangles stand in the array, and tracing goes on from the skyline that they leave
pub record Tracing (height width : ℕ) (glyphs rects : List ℕ) (sky : Skyline) (c : Corner) (n : ℕ) : Type 0 where
  pub height_fits : height ≤ 128
  pub width_fits : width ≤ 128
  pub few : n ≤ 1024
  pub room : rect_space ≤ length rects
  pub low : Lowest width sky c
  pub rest : trace (array_grid height width glyphs) ≡ prefixed (rects_of n rects) (trace_from (array_grid height width glyphs) (1024 - n) (sky_of sky))

-- the leftmost lowest column of the ground
ground-lowest : (count : ℕ) → 0 < count → (0 ≡ lowest (replicate count 0)) × (0 ≡ leftmost (replicate count 0))
ground-lowest count many = (low, ⊎_elim (λ (h : leftmost sky ≤ 0). omega arith) later (le-or-lt (leftmost sky) 0)) where
  sky : List ℕ
  sky = replicate count 0

  long : length sky ≡ count
  long = length-replicate {A = ℕ} count 0

  column : LowestColumn sky
  column = leftmost-corner sky (omega (arith, long))

  low : 0 ≡ lowest sky
  low = omega (arith, column.low, get_or-replicate {A = ℕ} count (leftmost sky) 0 0 (omega (arith, column.inside, long)))

  later : 0 < leftmost sky → 0 ≡ leftmost sky
  later h = absurd (omega (arith, column.first 0 h, get_or-replicate {A = ℕ} count 0 0 0 many))

pub tracing-starts : (height width : ℕ) (glyphs rects : List ℕ) (sky : Skyline) (c : Corner) → height ≤ 128 → width ≤ 128 → rect_space ≤ length rects
    → c.top ≡ 0 → c.left ≡ 0 → 1 < height → 1 < width → sky.used ≡ width - 1 → sky_of sky ≡ replicate (width - 1) 0
    → Tracing height width glyphs rects sky c 0
unfolding trace array_grid rects_of
tracing-starts height width glyphs rects sky c height_fits width_fits room top left tall wide columns ground =
    let large : leb height 1 || leb width 1 ≡ false = rw (lt-leb height 1 tall, lt-leb width 1 wide) in
    let (low, first) = ground-lowest (width - 1) (omega arith) in
    record {
      height_fits = height_fits;
      width_fits = width_fits;
      few = omega arith;
      room = room;
      low = record { columns = columns; at_lowest = top ∙ rw ground low; at_leftmost = left ∙ rw ground first };
      rest = rw (large, ground);
    }

module _ {height width : ℕ} {glyphs rects : List ℕ} {sky : Skyline} {c : Corner} {n : ℕ} (now : Tracing height width glyphs rects sky c n) where
  abbrev grid : Grid
  grid = array_grid height width glyphs

  stops : (number : ℕ) → trace_from grid (1024 - n) (sky_of sky) ≡ stopped number → stopped number ≡ trace grid
  stops number e = sym (now.rest ∙ ap (prefixed (rects_of n rects)) e ∙ prefixed-stopped (rects_of n rects) number)

  pub tracing-ends : height - 1 ≤ c.top → covered (rects_of n rects) ≡ trace grid
  unfolding array_grid
  tracing-ends down =
      let all-down : all_down grid (sky_of sky) ≡ true = le-leb (height - 1) (lowest (sky_of sky)) (omega (arith, now.low.at_lowest)) in
      sym (now.rest ∙ ap (prefixed (rects_of n rects)) (trace-done grid (sky_of sky) (1024 - n) all-down) ∙ prefixed-covered (rects_of n rects))

  not-down : c.top < height - 1 → all_down grid (sky_of sky) ≡ false
  unfolding array_grid
  not-down higher = lt-leb (height - 1) (lowest (sky_of sky)) (omega (arith, now.low.at_lowest))

  module _ (higher : c.top < height - 1) {f : Option FarCorner} (found : found_rect c.top c.left f ≡ next_rect grid (sky_of sky)) where
    pub none-stops : f ≡ None → stopped 6 ≡ trace grid
    none-stops e = stops 6 (trace-stuck grid (sky_of sky) (1024 - n) (not-down higher) (sym found ∙ ap (found_rect c.top c.left) e))

    module _ {far : FarCorner} (at : f ≡ Some far) where
      abbrev next : Rect
      next = rect c.top c.left far.bottom far.right

      next-is : next_rect grid (sky_of sky) ≡ some next
      next-is = sym found ∙ ap (found_rect c.top c.left) at

      next-bounds : Bounds height width c.top c.left far.bottom far.right
      next-bounds = bordered-bounds glyphs (next-found next-is).first.bordered

      pub put-asked : (n ≡ 1024 → ⊥)
          → ((n < 1024) × (rect_space ≤ length rects)) × ((c.top < 256) × (c.left < 256) × (far.bottom < 256) × (far.right < 256))
      put-asked not_full = let bounds = next-bounds in omega arith

      pub raised-asked : (c.left ≤ far.right) × (far.right ≤ sky.used) × (far.bottom < 256)
      raised-asked = let bounds = next-bounds in (omega arith, omega (arith, now.low.columns), omega arith)

      pub full-stops : n ≡ 1024 → stopped 7 ≡ trace grid
      full-stops full = stops 7 (ap (λ (room : ℕ). trace_from grid room (sky_of sky)) (omega arith) ∙ trace-full grid (sky_of sky) next (not-down higher) next-is)

      -- one more rectangle written, and the skyline raised by it
      pub tracing-on : {after : List ℕ} {raised : Skyline} {d : Corner} → (n ≡ 1024 → ⊥) → after ≡ with_rect rects n next
          → (raised.used ≡ sky.used) × (sky_of raised ≡ raise (rect 0 c.left far.bottom far.right) (sky_of sky))
          → (d.top ≡ lowest (sky_of raised)) × (d.left ≡ leftmost (sky_of raised)) × (d.left < raised.used) → Tracing height width glyphs after raised d (n + 1)
      unfolding raise
      tracing-on {after} {raised} not_full written (same, risen) (at_lowest, at_leftmost, _) =
          let less : 1024 - n ≡ suc (1024 - (n + 1)) = omega (arith, now.few) in
          let later = trace_from grid (1024 - (n + 1)) (sky_of raised) in
          let step : trace_from grid (1024 - n) (sky_of sky) ≡ placed next later =
          ap (λ (k : ℕ). trace_from grid k (sky_of sky)) less ∙ trace-next grid (sky_of sky) (1024 - (n + 1)) next (not-down higher) next-is
          ∙ ap (λ s. placed next (trace_from grid (1024 - (n + 1)) s)) (sym risen) in
          record {
            height_fits = now.height_fits;
            width_fits = now.width_fits;
            few = omega (arith, now.few);
            room = rw written (simp length-set now.room);
            low = record { columns = same ∙ now.low.columns; at_lowest = at_lowest; at_leftmost = at_leftmost };
            rest = now.rest ∙ ap (prefixed (rects_of n rects)) step ∙ sym (prefixed-snoc (rects_of n rects) next later)
                ∙ ap (λ rs. prefixed rs later) (sym (ap (rects_of (n + 1)) written ∙ with-rect rects n next (omega (arith, now.few, now.room))));
          }

      -- the columns passed by and those of the rectangle rise above its top, and none was below it
      pub corner-asked : (raised : Skyline) → (raised.used ≡ sky.used) × (sky_of raised ≡ raise (rect 0 c.left far.bottom far.right) (sky_of sky))
          → (far.right ≤ raised.used) × (((x : ℕ) → x < raised.used → c.top ≤ get_or (sky_of raised) x 0)
          × ((x : ℕ) → x < far.right → c.top < get_or (sky_of raised) x 0))
      corner-asked raised (same, risen) = (omega (arith, bounds.right_inside, now.low.columns), (λ x h. ⊎_elim (after x h) (λ (k : x < far.right). omega (arith, above x k)) (le-or-lt far.right x), above)) where
        bounds : Bounds height width c.top c.left far.bottom far.right
        bounds = next-bounds

        reach : far.right ≤ length (sky_of sky)
        reach = omega (arith, bounds.right_inside, now.low.columns, sky-length sky)

        column : LowestColumn (sky_of sky)
        column = there now.low

        above : (x : ℕ) → x < far.right → c.top < get_or (sky_of raised) x 0
        above x h =
            rw risen
            (⊎_elim (λ (k : c.left ≤ x). omega (arith, raise-inside (rect 0 c.left far.bottom far.right) (sky_of sky) bounds.wide reach x k h, bounds.tall))
            (λ (k : x < c.left). omega (
              arith,
              raise-before (rect 0 c.left far.bottom far.right) (sky_of sky) bounds.wide reach x k,
              column.first x (omega (arith, now.low.at_leftmost)),
              now.low.at_lowest,
            )) (le-or-lt c.left x))

        after : (x : ℕ) → x < raised.used → far.right ≤ x → c.top ≤ get_or (sky_of raised) x 0
        after x h k =
            rw risen (omega (
              arith,
              raise-after (rect 0 c.left far.bottom far.right) (sky_of sky) bounds.wide reach x k,
              column.lowest-of x (omega (arith, sky-length sky)),
              now.low.at_lowest,
            ))
