-- The squares that a skyline leaves to cover.
use Prim.Native.Nat.{ℕ, suc, ◌+◌, ◌-◌, ◌≤◌, ◌<◌}
use mathlib.Core.Path.{◌≡◌, refl}
use mathlib.Core.Bool.{true, false}
use mathlib.Core.Logic.{⊎_elim}
use mathlib.Core.List.{List, [], ◌∷◌, Memᴰ}
use native.Mathlib.Omega.{arith}
use lib.Dec.{ltb}
use lib.ListN.{length, get_or}
use borrow.Author.Tests.{leb-true, leb-false, lt-ltb, le-ltb}
use Rattle.seq.specs.Lists.{select, count}
use Rattle.seq.proofs.Tests.{le-or-lt, bit, bit-true, bit-false}
use Rattle.seq.proofs.Searches.{count-cons, count-mem, count-pick}
use Rattle.seq.proofs.Permutations.{without, perm-without, perm-count, perm-mem}
use Rattle.grid.specs.Values.{Rect}
use Rattle.grid.specs.Slots.{Grid}
use Rattle.grid.specs.Trace.{lowest, leftmost, raise, all_down}
use Rattle.grid.specs.Cover.{Bordered, First, holds, Next}
use Rattle.grid.proofs.SkylineLaws.{Corner, Inside, holds-inside, inside-holds, raise-under, Fits, fits-corner}

-- is the square under the skyline
abbrev pub under : List ℕ → ℕ → ℕ → ℕ
under sky y x = bit (ltb y (get_or sky x 0))

-- first bordered rectangles that hold each square above the skyline once, and none below it
pub record CoverFrom (g : Grid) (sky : List ℕ) (rs : List Rect) : Type 0 where
  pub first : (r : Rect) → Memᴰ r rs → First g r
  pub once : (y x : ℕ) → suc y < g.height → suc x < g.width → count (holds y x) rs + under sky y x ≡ 1

pub own-corner : {g : Grid} {r : Rect} → Bordered g r → Inside r.top r.left r
own-corner h = record { below = omega arith; above = h.top_above_bottom; after = omega arith; before = h.left_before_right }

module _ {g : Grid} {sky : List ℕ} (fits : Fits g sky) where
  next_under : {r : Rect} → Next g sky r → (y x : ℕ) → under (raise r sky) y x ≡ bit (holds y x r) + under sky y x
  next_under {r} next y x =
      let h = next.first.bordered in
      raise-under r sky h.left_before_right (omega (arith, h.right_inside)) h.top_above_bottom next.level y x

  -- ---- back: what covers the rest, and the rectangle placed

  pub cover-before : {r : Rect} {rs : List Rect} → Next g sky r → CoverFrom g (raise r sky) rs → CoverFrom g sky (r ∷ rs)
  cover-before {r} {rs} next rest =
      record { first = firsts; once = λ y x hy hx. omega (arith, rest.once y x hy hx, next_under next y x, count-cons (holds y x) r rs) } where
        firsts : (q : Rect) → Memᴰ q (r ∷ rs) → First g q
        firsts q (Memᴰ.head e) = rw e next.first
        firsts q (Memᴰ.tail m) = rest.first q m

  pub cover-nothing : all_down g sky ≡ true → CoverFrom g sky []
  unfolding select
  cover-nothing e =
      record {
        first = λ q m. elim m [ ];
        once = λ y x hy hx.
            let deep : y < get_or sky x 0 = omega (arith, leb-true (g.height - 1) (lowest sky) e, (fits-corner fits).lowest-of x (omega arith)) in
            omega (arith, bit-true (lt-ltb y (get_or sky x 0) deep));
      }

  -- ---- forth: a rectangle of the cover is the next to place

  -- a square of a rectangle left to place is not under the skyline
  clear : {rs : List Rect} → CoverFrom g sky rs → {r : Rect} → Memᴰ r rs → {y x : ℕ} → Inside y x r → get_or sky x 0 ≤ y
  clear cover {r} m {y} {x} i = ⊎_elim (λ (h : get_or sky x 0 ≤ y). h) deeper (le-or-lt (get_or sky x 0) y) where
    deeper : y < get_or sky x 0 → get_or sky x 0 ≤ y
    deeper h =
        let inside = (cover.first r m).bordered in
        let one = cover.once y x (omega (arith, i, inside.bottom_inside)) (omega (arith, i, inside.right_inside)) in
        absurd (omega (arith, one, bit-true (lt-ltb y (get_or sky x 0) h), count-mem (holds y x) m (holds-inside i.below i.above i.after i.before)))

  pub nothing_left : (rs : List Rect) → CoverFrom g sky rs → all_down g sky ≡ true → rs ≡ []
  nothing_left [] cover e = refl
  nothing_left (r ∷ rs) cover e =
      let h = (cover.first r (Memᴰ.head refl)).bordered in
      let low = clear cover (Memᴰ.head refl) (own-corner h) in
      absurd (omega (
        arith,
        h.top_above_bottom,
        h.bottom_inside,
        low,
        leb-true (g.height - 1) (lowest sky) e,
        (fits-corner fits).lowest-of r.left (omega (arith, h.left_before_right, h.right_inside)),
      ))

  -- the rectangle that holds the square at the leftmost lowest column has its corner there, and stands level
  held_next : {rs : List Rect} → CoverFrom g sky rs → {r : Rect} → Memᴰ r rs → Inside (lowest sky) (leftmost sky) r → Next g sky r
  held_next cover {r} m i = record { first = cover.first r m; at_lowest = top; at_leftmost = left; level = level } where
    c : Corner sky
    c = fits-corner fits

    reach : r.right ≤ length sky
    reach = omega (arith, (cover.first r m).bordered.right_inside, fits.columns)

    top : r.top ≡ lowest sky
    top = omega (arith, c.low, i, clear cover m {y = r.top} (record { below = omega arith; above = omega (arith, i); after = i.after; before = i.before }))

    low_at : (x : ℕ) → r.left ≤ x → x < r.right → get_or sky x 0 ≡ lowest sky
    low_at x a b = omega (arith, c.lowest-of x (omega (arith, reach)), clear cover m (record { below = i.below; above = i.above; after = a; before = b }))

    left : r.left ≡ leftmost sky
    left =
        ⊎_elim (λ (h : leftmost sky ≤ r.left). omega (arith, i))
        (λ (h : r.left < leftmost sky). absurd (omega (arith, c.first r.left h, low_at r.left (omega arith) (omega (arith, i)))))
        (le-or-lt (leftmost sky) r.left)

    level : (x : ℕ) → r.left ≤ x → x < r.right → get_or sky x 0 ≡ r.top
    level x a b = omega (arith, top, low_at x a b)

  pub cover-next : (rs : List Rect) → CoverFrom g sky rs → all_down g sky ≡ false → (r : Rect) × Memᴰ r rs × Next g sky r
  cover-next rs cover e =
      let c = fits-corner fits in
      let t = lowest sky in
      let l = leftmost sky in
      let one = cover.once t l (omega (arith, leb-false (g.height - 1) t e)) (omega (arith, c.inside, fits.columns)) in
      let some-hold : 0 < count (holds t l) rs = omega (arith, one, bit-false (le-ltb t (get_or sky l 0) (omega (arith, c.low)))) in
      let held = count-pick (holds t l) rs some-hold in
      (held.0, held.1, held_next cover held.1 (inside-holds t l held.0 held.2))

  pub cover-after : {r : Rect} {rs : List Rect} → CoverFrom g sky rs → (m : Memᴰ r rs) → Next g sky r → CoverFrom g (raise r sky) (without m)
  cover-after {r} {rs} cover m next =
      record {
        first = λ q n. cover.first q (perm-mem (perm-without m) (Memᴰ.tail n));
        once = λ y x hy hx.
            omega (arith, cover.once y x hy hx, next_under next y x, count-cons (holds y x) r (without m), perm-count (holds y x) (perm-without m));
      }
