-- Laws of the skyline: its leftmost lowest column, and what a placed rectangle raises.
use Prim.Native.Nat.{ℕ, ◌+◌, ◌-◌, ◌≤◌, ◌<◌}
use mathlib.Core.Path.{◌≡◌, refl, sym, ap, ◌∙◌}
use mathlib.Core.Bool.{Bool, true, false, ◌&&◌}
use mathlib.Core.Logic.{⊎_elim}
use mathlib.Core.Option.{Option, none, some}
use mathlib.Core.List.{List, ◌++◌}
use native.Mathlib.Omega.{arith}
use lib.Dec.{eqb, leb, ltb}
use lib.ListN.{length, get_or, take, drop, replicate, length-append, length-take, length-drop, length-replicate, get_or-replicate, get_or-append}
use lib.Seq.{get_or-take, get_or-drop}
use borrow.Author.Tests.{leb-true, ltb-true, eqb-true, eqb-false, lt-ltb, le-ltb, le-leb, eq-eqb}
use Rattle.seq.specs.Lists.{first_at, or_default}
use Rattle.seq.proofs.Tests.{true-not-false, and_left, and_right, and_intro, bool-refused, le-or-lt, bit, bit-true, bit-false}
use Rattle.seq.proofs.Searches.{all-range, range_all, some_if-some, first_at-some, first_at-none}
use Rattle.seq.proofs.Positions.{get_or-mem, get_d_past}
use Rattle.seq.proofs.Smallest.{smallest-le, smallest-mem}
use Rattle.grid.specs.Values.{Rect}
use Rattle.grid.specs.Slots.{Grid}
use Rattle.grid.specs.Rectangle.{first_rect}
use Rattle.grid.specs.Trace.{lowest, leftmost, stands_level, raise, keep_level, next_rect}
use Rattle.grid.specs.Cover.{Bordered, holds, ground, Next}
use Rattle.grid.proofs.RectangleLaws.{found_first, first_found}

-- ---- the leftmost lowest column

pub record Corner (sky : List ℕ) : Type 0 where
  pub inside : leftmost sky < length sky
  pub low : get_or sky (leftmost sky) 0 ≡ lowest sky
  pub lowest-of : (x : ℕ) → x < length sky → lowest sky ≤ get_or sky x 0
  pub first : (x : ℕ) → x < leftmost sky → lowest sky < get_or sky x 0

pub leftmost-corner : (sky : List ℕ) → 0 < length sky → Corner sky
unfolding leftmost
leftmost-corner sky some-column = go (first_at at_lowest 0 sky) refl where
  at_lowest : ℕ → Bool
  at_lowest bottom = eqb bottom (lowest sky)

  lower : (x : ℕ) → x < length sky → lowest sky ≤ get_or sky x 0
  lower x h = smallest-le sky (get_or-mem sky x 0 h)

  go : (o : Option ℕ) → first_at (λ bottom. eqb bottom (lowest sky)) 0 sky ≡ o → Corner sky
  go none e =
      absurd (true-not-false (sym (eq-eqb (lowest sky) (lowest sky) refl) ∙ first_at-none at_lowest 0 sky e (smallest-mem sky some-column)))
  go (some place) e =
      let found = first_at-some at_lowest 0 sky place e in
      let there : leftmost sky ≡ place = ap (λ o. or_default 0 o) e in
      let here : leftmost sky ≡ found.index = omega (arith, found.placed) in
      record {
        inside = omega (arith, found.inside);
        low = rw here (eqb-true (get_or sky found.index 0) (lowest sky) (found.found 0));
        lowest-of = lower;
        first = λ x h.
            let differs : get_or sky x 0 ≡ lowest sky → ⊥ = eqb-false (get_or sky x 0) (lowest sky) (found.before x 0 (omega arith)) in
            omega (arith, lower x (omega (arith, found.inside)));
      }

-- ---- what a rectangle holds

pub holds-inside : {y x : ℕ} {r : Rect} → r.top ≤ y → y < r.bottom → r.left ≤ x → x < r.right → holds y x r ≡ true
holds-inside {y} {x} {r} a b c d =
    and_intro (and_intro (and_intro (le-leb r.top y a) (lt-ltb y r.bottom b)) (le-leb r.left x c)) (lt-ltb x r.right d)

pub record Inside (y x : ℕ) (r : Rect) : Type 0 where
  pub below : r.top ≤ y
  pub above : y < r.bottom
  pub after : r.left ≤ x
  pub before : x < r.right

pub inside-holds : (y x : ℕ) (r : Rect) → holds y x r ≡ true → Inside y x r
inside-holds y x r e =
    let p2 = leb r.top y && ltb y r.bottom in
    let p3 = p2 && leb r.left x in
    let e3 : p3 ≡ true = and_left p3 (ltb x r.right) e in
    let e2 : p2 ≡ true = and_left p2 (leb r.left x) e3 in
    record {
      below = leb-true r.top y (and_left (leb r.top y) (ltb y r.bottom) e2);
      above = ltb-true y r.bottom (and_right (leb r.top y) (ltb y r.bottom) e2);
      after = leb-true r.left x (and_right p2 (leb r.left x) e3);
      before = ltb-true x r.right (and_right p3 (ltb x r.right) e);
    }

-- ---- raising

module _ (r : Rect) (sky : List ℕ) (wide : r.left < r.right) (fits : r.right ≤ length sky) where
  front_length : length (take r.left sky) ≡ r.left
  front_length = length-take r.left sky ∙ omega arith

  middle-length : length (take r.left sky ++ replicate (r.right - r.left) r.bottom) ≡ r.right
  middle-length = simp (length-append, length-replicate, front_length) (omega arith)

  raise-length : length (raise r sky) ≡ length sky
  unfolding raise
  raise-length =
      length-append (take r.left sky ++ replicate (r.right - r.left) r.bottom) (drop r.right sky)
      ∙ omega (arith, middle-length, length-drop r.right sky)

  pub raise-before : (x : ℕ) → x < r.left → get_or (raise r sky) x 0 ≡ get_or sky x 0
  unfolding raise
  raise-before x h =
      let front = take r.left sky in
      let middle = replicate (r.right - r.left) r.bottom in
      get_or-append (front ++ middle) (drop r.right sky) 0 x (omega (arith, middle-length))
      ∙ get_or-append front middle 0 x (omega (arith, front_length)) ∙ get_or-take r.left sky x 0 h

  pub raise-inside : (x : ℕ) → r.left ≤ x → x < r.right → get_or (raise r sky) x 0 ≡ r.bottom
  unfolding raise
  raise-inside x low high =
      let front = take r.left sky in
      let middle = replicate (r.right - r.left) r.bottom in
      get_or-append (front ++ middle) (drop r.right sky) 0 x (omega (arith, middle-length))
      ∙ get_d_past front middle x 0 (omega (arith, front_length))
      ∙ get_or-replicate (r.right - r.left) (x - length front) r.bottom 0 (omega (arith, front_length))

  pub raise-after : (x : ℕ) → r.right ≤ x → get_or (raise r sky) x 0 ≡ get_or sky x 0
  unfolding raise
  raise-after x h =
      let front = take r.left sky ++ replicate (r.right - r.left) r.bottom in
      get_d_past front (drop r.right sky) x 0 (omega (arith, middle-length)) ∙ get_or-drop r.right sky (x - length front) 0
      ∙ ap (λ (k : ℕ). get_or sky k 0) (omega (arith, middle-length))

  -- placing a rectangle puts under the skyline exactly the squares that it holds
  pub raise-under : r.top < r.bottom → ((x : ℕ) → r.left ≤ x → x < r.right → get_or sky x 0 ≡ r.top) → (y x : ℕ)
      → bit (ltb y (get_or (raise r sky) x 0)) ≡ bit (holds y x r) + bit (ltb y (get_or sky x 0))
  raise-under tall level y x = ⊎_elim from-left (λ (h : x < r.left). outside (raise-before x h) (λ i. omega arith)) (le-or-lt r.left x) where
    outside : get_or (raise r sky) x 0 ≡ get_or sky x 0 → (Inside y x r → ⊥)
        → bit (ltb y (get_or (raise r sky) x 0)) ≡ bit (holds y x r) + bit (ltb y (get_or sky x 0))
    outside same apart = rw same (omega (arith, bit-false (bool-refused (holds y x r) (λ e. apart (inside-holds y x r e)))))

    onto : r.left ≤ x → x < r.right → bit (ltb y r.bottom) ≡ bit (holds y x r) + bit (ltb y r.top)
    onto low high = ⊎_elim lower higher (le-or-lt r.top y) where
      higher : y < r.top → bit (ltb y r.bottom) ≡ bit (holds y x r) + bit (ltb y r.top)
      higher h =
          let out : holds y x r ≡ false = bool-refused (holds y x r) (λ e. omega (arith, inside-holds y x r e)) in
          omega (arith, bit-false out, bit-true (lt-ltb y r.top h), bit-true (lt-ltb y r.bottom (omega arith)))

      lower : r.top ≤ y → bit (ltb y r.bottom) ≡ bit (holds y x r) + bit (ltb y r.top)
      lower h = ⊎_elim past (λ (k : y < r.bottom). within-it k) (le-or-lt r.bottom y) where
        past : r.bottom ≤ y → bit (ltb y r.bottom) ≡ bit (holds y x r) + bit (ltb y r.top)
        past k =
            let out : holds y x r ≡ false = bool-refused (holds y x r) (λ e. omega (arith, inside-holds y x r e)) in
            omega (arith, bit-false out, bit-false (le-ltb y r.top h), bit-false (le-ltb y r.bottom k))

        within-it : y < r.bottom → bit (ltb y r.bottom) ≡ bit (holds y x r) + bit (ltb y r.top)
        within-it k = omega (arith, bit-true (holds-inside {r = r} h k low high), bit-false (le-ltb y r.top h), bit-true (lt-ltb y r.bottom k))

    from-left : r.left ≤ x → bit (ltb y (get_or (raise r sky) x 0)) ≡ bit (holds y x r) + bit (ltb y (get_or sky x 0))
    from-left low =
        ⊎_elim (λ (h : r.right ≤ x). outside (raise-after x h) (λ i. omega arith))
        (λ (h : x < r.right). rw (raise-inside x low h, level x low h) (onto low h)) (le-or-lt r.right x)

-- ---- the rectangle to place next

levelled : (sky : List ℕ) (r : Rect) → stands_level sky r ≡ true → (x : ℕ) → r.left ≤ x → x < r.right → get_or sky x 0 ≡ r.top
unfolding stands_level
levelled sky r e x low high =
    eqb-true (get_or sky x 0) r.top (all-range (λ x. eqb (get_or sky x 0) r.top) r.left (r.right - r.left) e x low (omega arith))

module _ {g : Grid} {sky : List ℕ} where
  pub next-found : {r : Rect} → next_rect g sky ≡ some r → Next g sky r
  unfolding next_rect
  next-found {r} e = go (first_rect g (lowest sky) (leftmost sky)) refl e where
    go : (o : Option Rect) → first_rect g (lowest sky) (leftmost sky) ≡ o → keep_level sky o ≡ some r → Next g sky r
    go none f e = absurd (let z : ◌≡◌ {A = ℕ} 0 1 = cc in omega arith)
    go (some q) f e =
        let kept = some_if-some (stands_level sky q) q r e in
        let found = found_first g (lowest sky) (leftmost sky) r (f ∙ ap some kept.1) in
        record { first = found.0; at_lowest = found.1; at_leftmost = found.2; level = levelled sky r (rw kept.1 at kept.0) }

  pub found-next : {r : Rect} → Next g sky r → next_rect g sky ≡ some r
  unfolding next_rect stands_level
  found-next {r} next =
      let level : stands_level sky r ≡ true =
      range_all (λ x. eqb (get_or sky x 0) r.top) r.left (r.right - r.left)
      (λ x low high. eq-eqb (get_or sky x 0) r.top (next.level x low (omega (arith, next.first.bordered.left_before_right)))) in
      rw (← next.at_lowest, ← next.at_leftmost, first_found next.first, level)

-- ---- a skyline of the grid: one bottom line for each unit column, and there is one

pub record Fits (g : Grid) (sky : List ℕ) : Type 0 where
  pub wide : 1 < g.width
  pub columns : length sky ≡ g.width - 1

pub fits-ground : (g : Grid) → 1 < g.width → Fits g (ground g)
fits-ground g wide = record { wide = wide; columns = length-replicate (g.width - 1) 0 }

module _ {g : Grid} {sky : List ℕ} (fits : Fits g sky) where
  pub fits-corner : Corner sky
  fits-corner = leftmost-corner sky (omega arith)

  pub fits-raise : {r : Rect} → Bordered g r → Fits g (raise r sky)
  fits-raise {r} h = record { wide = fits.wide; columns = raise-length r sky h.left_before_right (omega (arith, h.right_inside)) ∙ fits.columns }
