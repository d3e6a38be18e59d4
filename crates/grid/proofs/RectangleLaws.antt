-- The search for the first bordered rectangle finds it, and only it.
use Prim.Native.Nat.{ℕ, ◌+◌, ◌-◌, ◌≤◌, ◌<◌}
use mathlib.Core.Path.{◌≡◌, refl, sym, ap, ◌∙◌}
use mathlib.Core.Bool.{true, ◌&&◌}
use mathlib.Core.Logic.{◌⊎◌, ◌↔◌, inl, inr, ⊎_elim}
use mathlib.Core.Option.{Option, none, some}
use native.Mathlib.Nat.{eq-or-lt_of_le}
use native.Mathlib.Omega.{arith}
use Rattle.seq.specs.Lists.{range, first_some, some_if}
use Rattle.seq.proofs.Tests.{true-not-false, and_left, and_right, and_intro, le-or-lt}
use Rattle.seq.proofs.Searches.{all-range, range_all, FirstSome, first_some-some, first_some-none, some_if-some, some_if-none}
use Rattle.grid.specs.Values.{Rect}
use Rattle.grid.specs.Slots.{Grid, Glyph, Plus, Dash, Pipe, Other, glyph_at, is_plus, horizontal, vertical}
use Rattle.grid.specs.Rectangle.{plus_at, across, down, bordered, first_rect}
use Rattle.grid.specs.Cover.{Bordered, First, FirstByRight}

abbrev pub rect : ℕ → ℕ → ℕ → ℕ → Rect
rect t l b r = record { top = t; left = l; bottom = b; right = r }

pub plus-is : (k : Glyph) → is_plus k ≡ true → k ≡ Plus
plus-is Plus e = refl
plus-is Dash e = absurd (true-not-false (sym e))
plus-is Pipe e = absurd (true-not-false (sym e))
plus-is Other e = absurd (true-not-false (sym e))

is-plus : {k : Glyph} → k ≡ Plus → is_plus k ≡ true
is-plus e = rw e

-- what is horizontal and vertical is a `+`
pub both-plus : (k : Glyph) → horizontal k ≡ true → vertical k ≡ true → k ≡ Plus
both-plus Plus e f = refl
both-plus Dash e f = absurd (true-not-false (sym f))
both-plus Pipe e f = absurd (true-not-false (sym e))
both-plus Other e f = absurd (true-not-false (sym e))

-- ---- the test and what it stands for

module _ (g : Grid) where
  across-side : (y a b : ℕ) → across g y a b ≡ true → (x : ℕ) → a ≤ x → x ≤ b → horizontal (glyph_at g y x) ≡ true
  unfolding across
  across-side y a b e x low high = all-range (λ x. horizontal (glyph_at g y x)) a (b + 1 - a) e x low (omega arith)

  side-across : (y a b : ℕ) → ((x : ℕ) → a ≤ x → x ≤ b → horizontal (glyph_at g y x) ≡ true) → across g y a b ≡ true
  unfolding across
  side-across y a b h = range_all (λ x. horizontal (glyph_at g y x)) a (b + 1 - a) (λ x low high. h x low (omega arith))

  down-side : (x a b : ℕ) → down g x a b ≡ true → (y : ℕ) → a ≤ y → y ≤ b → vertical (glyph_at g y x) ≡ true
  unfolding down
  down-side x a b e y low high = all-range (λ y. vertical (glyph_at g y x)) a (b + 1 - a) e y low (omega arith)

  side-down : (x a b : ℕ) → ((y : ℕ) → a ≤ y → y ≤ b → vertical (glyph_at g y x) ≡ true) → down g x a b ≡ true
  unfolding down
  side-down x a b h = range_all (λ y. vertical (glyph_at g y x)) a (b + 1 - a) (λ y low high. h y low (omega arith))

  test-bordered : (t l b r : ℕ) → t < b → b < g.height → l < r → r < g.width → bordered g (rect t l b r) ≡ true → Bordered g (rect t l b r)
  unfolding bordered
  test-bordered t l b r tb bh lr rw-in e =
      let p1 = plus_at g b l in
      let p2 = p1 && plus_at g t r in
      let p3 = p2 && plus_at g b r in
      let p4 = p3 && plus_at g t l in
      let p5 = p4 && across g t l r in
      let p6 = p5 && across g b l r in
      let p7 = p6 && down g l t b in
      let e7 : p7 ≡ true = and_left p7 (down g r t b) e in
      let e6 : p6 ≡ true = and_left p6 (down g l t b) e7 in
      let e5 : p5 ≡ true = and_left p5 (across g b l r) e6 in
      let e4 : p4 ≡ true = and_left p4 (across g t l r) e5 in
      let e3 : p3 ≡ true = and_left p3 (plus_at g t l) e4 in
      let e2 : p2 ≡ true = and_left p2 (plus_at g b r) e3 in
      record {
        top_above_bottom = tb;
        bottom_inside = bh;
        left_before_right = lr;
        right_inside = rw-in;
        top_left = plus-is (glyph_at g t l) (and_right p3 (plus_at g t l) e4);
        top_right = plus-is (glyph_at g t r) (and_right p1 (plus_at g t r) e2);
        bottom_left = plus-is (glyph_at g b l) (and_left p1 (plus_at g t r) e2);
        bottom_right = plus-is (glyph_at g b r) (and_right p2 (plus_at g b r) e3);
        top_side = across-side t l r (and_right p4 (across g t l r) e5);
        bottom_side = across-side b l r (and_right p5 (across g b l r) e6);
        left_side = down-side l t b (and_right p6 (down g l t b) e7);
        right_side = down-side r t b (and_right p7 (down g r t b) e);
      }

  bordered-test : {r : Rect} → Bordered g r → bordered g r ≡ true
  unfolding bordered
  bordered-test {r} h =
      and_intro (and_intro (and_intro (and_intro (and_intro (and_intro (and_intro (is-plus h.bottom_left) (is-plus h.top_right))
      (is-plus h.bottom_right)) (is-plus h.top_left)) (side-across r.top r.left r.right h.top_side))
      (side-across r.bottom r.left r.right h.bottom_side)) (side-down r.left r.top r.bottom h.left_side))
      (side-down r.right r.top r.bottom h.right_side)

  at-corner : (q : Rect) {t l : ℕ} → q.top ≡ t → q.left ≡ l → q ≡ rect t l q.bottom q.right
  at-corner q e f = λ i. record { top = e i; left = f i; bottom = q.bottom; right = q.right }

-- ---- either order

-- of two bordered rectangles at one corner whose far sides cross, the part that they share is bordered too
crossing : {g : Grid} {q r : Rect} → Bordered g q → Bordered g r → q.left ≡ r.left → r.top < q.bottom → q.bottom ≤ r.bottom → r.right ≤ q.right
    → Bordered g (rect r.top r.left q.bottom r.right)
crossing {g} {q} {r} hq hr same tb bb rr =
    record {
      top_above_bottom = tb;
      bottom_inside = hq.bottom_inside;
      left_before_right = hr.left_before_right;
      right_inside = hr.right_inside;
      top_left = hr.top_left;
      top_right = hr.top_right;
      bottom_left = rw same at hq.bottom_left;
      bottom_right = both-plus (glyph_at g q.bottom r.right) (bottom r.right (omega arith) (omega arith)) (hr.right_side q.bottom (omega arith) bb);
      top_side = hr.top_side;
      bottom_side = bottom;
      left_side = λ y low high. hr.left_side y low (omega arith);
      right_side = λ y low high. hr.right_side y low (omega arith);
    } where
      bottom : (x : ℕ) → r.left ≤ x → x ≤ r.right → horizontal (glyph_at g q.bottom x) ≡ true
      bottom x low high = hq.bottom_side x (omega arith) (omega arith)

-- a first bordered rectangle has both the nearest bottom and the nearest right of all at its corner
pub first-nearest : {g : Grid} {r : Rect} → First g r → (q : Rect) → Bordered g q → q.top ≡ r.top → q.left ≡ r.left
    → (r.bottom ≤ q.bottom) × (r.right ≤ q.right)
first-nearest {g} {r} first q hq e f = ⊎_elim deeper (λ (h : (r.bottom ≡ q.bottom) × (r.right ≤ q.right)). (omega arith, h.1)) (first.least q hq e f) where
  deeper : r.bottom < q.bottom → (r.bottom ≤ q.bottom) × (r.right ≤ q.right)
  deeper below = (omega arith, ⊎_elim (λ (h : r.right ≤ q.right). h) nearer (le-or-lt r.right q.right)) where
    nearer : q.right < r.right → r.right ≤ q.right
    nearer h =
        let t : q.top < r.bottom = omega (arith, first.bordered.top_above_bottom) in
        let shared = crossing first.bordered hq (sym f) t (omega arith) (omega arith) in
        ⊎_elim (λ (k : r.bottom < r.bottom). absurd (omega arith)) (λ (k : (r.bottom ≡ r.bottom) × (r.right ≤ q.right)). k.1)
        (first.least (rect q.top q.left r.bottom q.right) shared e f)

by_right-nearest : {g : Grid} {r : Rect} → FirstByRight g r → (q : Rect) → Bordered g q → q.top ≡ r.top → q.left ≡ r.left
    → (r.bottom ≤ q.bottom) × (r.right ≤ q.right)
by_right-nearest {g} {r} first q hq e f = ⊎_elim wider (λ (h : (r.right ≡ q.right) × (r.bottom ≤ q.bottom)). (h.1, omega arith)) (first.least q hq e f) where
  wider : r.right < q.right → (r.bottom ≤ q.bottom) × (r.right ≤ q.right)
  wider beyond = (⊎_elim (λ (h : r.bottom ≤ q.bottom). h) nearer (le-or-lt r.bottom q.bottom), omega arith) where
    nearer : q.bottom < r.bottom → r.bottom ≤ q.bottom
    nearer h =
        let t : r.top < q.bottom = omega (arith, hq.top_above_bottom) in
        let shared = crossing hq first.bordered f t (omega arith) (omega arith) in
        ⊎_elim (λ (k : r.right < r.right). absurd (omega arith)) (λ (k : (r.right ≡ r.right) × (r.bottom ≤ q.bottom)). k.1)
        (first.least (rect r.top r.left q.bottom r.right) shared refl refl)

or_equal : {a b c d : ℕ} → a ≤ b → c ≤ d → (a < b) ⊎ ((a ≡ b) × (c ≤ d))
or_equal ab cd = ⊎_elim (λ e. inr (e, cd)) inl (eq-or-lt_of_le ab)

-- Of all bordered rectangles at one corner, the nearest right edge first and then the nearest bottom gives the same rectangle as
-- the nearest bottom first: both orders single out the same one.
pub either_order : {g : Grid} {r : Rect} → First g r ↔ FirstByRight g r
either_order {g} {r} = (
  λ first. record {
    bordered = first.bordered;
    least = λ q hq e f. let near = first-nearest first q hq e f in or_equal near.1 near.0;
  },
  λ first. record {
    bordered = first.bordered;
    least = λ q hq e f. let near = by_right-nearest first q hq e f in or_equal near.0 near.1;
  },
)

-- ---- the search

-- two first bordered rectangles at one corner are the same
pub first-unique : {g : Grid} {q r : Rect} → First g q → First g r → q.top ≡ r.top → q.left ≡ r.left → q ≡ r
first-unique {g} {q} {r} hq hr e f =
    let there = first-nearest hq r hr.bordered (sym e) (sym f) in
    let back = first-nearest hr q hq.bordered e f in
    let b : q.bottom ≡ r.bottom = omega arith in
    let s : q.right ≡ r.right = omega arith in
    λ i. record { top = e i; left = f i; bottom = b i; right = s i }

module _ (g : Grid) (t l : ℕ) where
  -- the search along one bottom line
  abbrev along : ℕ → Option Rect
  along b = first_some (λ r. some_if (bordered g (rect t l b r)) (rect t l b r)) (range (l + 1) (g.width - (l + 1)))

  -- a bottom line passed by, or a column passed by on the bottom line found, has no bordered rectangle
  passed : (q : Rect) → Bordered g q → q.top ≡ t → q.left ≡ l
      → some_if (bordered g (rect t l q.bottom q.right)) (rect t l q.bottom q.right) ≡ none → ⊥
  passed q hq e f gone =
      let test : bordered g (rect t l q.bottom q.right) ≡ true = rw (at-corner g q e f) at (bordered-test g hq) in
      true-not-false (sym test ∙ some_if-none (bordered g (rect t l q.bottom q.right)) (rect t l q.bottom q.right) gone)

  along-passed : (q : Rect) → Bordered g q → q.top ≡ t → q.left ≡ l → along q.bottom ≡ none → ⊥
  along-passed q hq e f gone =
      passed q hq e f
      (first_some-none (λ r. some_if (bordered g (rect t l q.bottom r)) (rect t l q.bottom r)) (l + 1) (g.width - (l + 1)) gone q.right
      (omega (arith, hq.left_before_right)) (omega (arith, hq.right_inside)))

  -- Where the search finds nothing, no bordered rectangle has its corner there.
  pub none-bordered : first_rect g t l ≡ none → (q : Rect) → Bordered g q → q.top ≡ t → q.left ≡ l → ⊥
  unfolding first_rect
  none-bordered gone q hq e f =
      along-passed q hq e f
      (first_some-none along (t + 1) (g.height - (t + 1)) gone q.bottom (omega (arith, hq.top_above_bottom)) (omega (arith, hq.bottom_inside)))

  least-found : (b r : ℕ) → ((y : ℕ) → t + 1 ≤ y → y < b → along y ≡ none)
      → ((x : ℕ) → l + 1 ≤ x → x < r → some_if (bordered g (rect t l b x)) (rect t l b x) ≡ none)
      → (q : Rect) → Bordered g q → q.top ≡ t → q.left ≡ l → (b < q.bottom) ⊎ ((b ≡ q.bottom) × (r ≤ q.right))
  least-found b r above before q hq e f = ⊎_elim (λ (h : b ≤ q.bottom). ⊎_elim level inl (eq-or-lt_of_le h)) (λ h. absurd (higher h)) (le-or-lt b q.bottom) where
    higher : q.bottom < b → ⊥
    higher h = along-passed q hq e f (above q.bottom (omega (arith, hq.top_above_bottom)) h)

    level : b ≡ q.bottom → (b < q.bottom) ⊎ ((b ≡ q.bottom) × (r ≤ q.right))
    level same =
        ⊎_elim (λ (h : r ≤ q.right). inr (same, h))
        (λ (h : q.right < r). absurd (passed q hq e f (rw (← same) (before q.right (omega (arith, hq.left_before_right)) h))))
        (le-or-lt r q.right)

  found_at : (q : Rect) (rows : FirstSome along (t + 1) (g.height - (t + 1)) q)
      → FirstSome (λ r. some_if (bordered g (rect t l rows.at r)) (rect t l rows.at r)) (l + 1) (g.width - (l + 1)) q
      → First g q × (q.top ≡ t) × (q.left ≡ l)
  found_at q rows columns =
      let hit = some_if-some (bordered g (rect t l rows.at columns.at)) (rect t l rows.at columns.at) q columns.found in
      let first : First g (rect t l rows.at columns.at) =
      record {
        bordered = test-bordered g t l rows.at columns.at (omega arith) (omega arith) (omega arith) (omega arith) hit.0;
        least = least-found rows.at columns.at rows.before columns.before;
      } in
      rw (← hit.1) (first, refl, refl)

  -- What the search finds is the first bordered rectangle at that corner.
  pub found_first : (q : Rect) → first_rect g t l ≡ some q → First g q × (q.top ≡ t) × (q.left ≡ l)
  unfolding first_rect
  found_first q e =
      let rows = first_some-some along (t + 1) (g.height - (t + 1)) q e in
      found_at q rows (first_some-some (λ r. some_if (bordered g (rect t l rows.at r)) (rect t l rows.at r)) (l + 1) (g.width - (l + 1)) q rows.found)

-- A first bordered rectangle is what the search finds at its corner.
pub first_found : {g : Grid} {r : Rect} → First g r → first_rect g r.top r.left ≡ some r
first_found {g} {r} first = go (first_rect g r.top r.left) refl where
  go : (o : Option Rect) → first_rect g r.top r.left ≡ o → first_rect g r.top r.left ≡ some r
  go none e = absurd (none-bordered g r.top r.left e r first.bordered refl refl)
  go (some q) e = let found = found_first g r.top r.left q e in e ∙ ap some (first-unique found.0 first found.1 found.2)
