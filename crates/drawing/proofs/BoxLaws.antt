-- Boxes that hold every unit square once (`Tiled`): each point of the canvas is a border's or strictly inside one box
-- (`border-or-inside`), strictly inside a box no border runs (`inside-no-border`), and one box holds a square (`box-at`, `same-box`).
use Prim.Native.Nat.{ℕ, suc, ◌-◌, ◌≤◌, ◌<◌}
use mathlib.Core.Path.{◌≡◌, sym, ap, ◌∙◌}
use mathlib.Core.Bool.{Bool, true, false, ◌&&◌, ◌||◌}
use mathlib.Core.Logic.{◌⊎◌, inl, inr, ⊎_elim}
use mathlib.Core.List.{Memᴰ}
use native.Mathlib.Omega.{arith}
use native.Mathlib.Nat.{le_refl, eq-or-lt_of_le}
use lib.Dec.{eqb, ltb}
use borrow.Author.Tests.{ltb-true, eqb-true, lt-ltb, eq-eqb, ne_eqb}
use Rattle.seq.specs.Lists.{any, count}
use Rattle.seq.proofs.Tests.{true-not-false, and_left, and_right, and_intro, or_cases, or_left, or_right, or-none, bool-refused}
use Rattle.seq.proofs.Searches.{any-mem, mem-any, none_any, count-pick, count-one}
use Rattle.grid.specs.Cover.{holds}
use Rattle.grid.proofs.SkylineLaws.{Inside, inside-holds, holds-inside}
use Rattle.drawing.specs.Plain.{Box, Canvas, canvas_width, canvas_height, is_edge, is_inside, corner_at, horizontal_at, vertical_at}

-- a box with some room, on the canvas
pub record Sized (v : Canvas) (b : Box) : Type 0 where
  pub tall : suc b.frame.top < b.frame.bottom
  pub low : b.frame.bottom < canvas_height v
  pub broad : suc b.frame.left < b.frame.right
  pub near : b.frame.right < canvas_width v

-- the point (y, x) stands strictly inside the box
pub record Within (b : Box) (y x : ℕ) : Type 0 where
  pub top : b.frame.top < y
  pub bottom : y < b.frame.bottom
  pub left : b.frame.left < x
  pub right : x < b.frame.right

-- the point stands inside the box or on its borders
pub record Touch (b : Box) (y x : ℕ) : Type 0 where
  pub top : b.frame.top ≤ y
  pub bottom : y ≤ b.frame.bottom
  pub left : b.frame.left ≤ x
  pub right : x ≤ b.frame.right

pub record Tiled (v : Canvas) : Type 0 where
  pub sized : (b : Box) → Memᴰ b v.boxes → Sized v b
  pub square : (y x : ℕ) → suc y < canvas_height v → suc x < canvas_width v → count (λ (b : Box). holds y x b.frame) v.boxes ≡ 1
  pub two_lines : 1 < canvas_height v
  pub two_columns : 1 < canvas_width v

-- ---- the tests of one box
abbrev corner_of : ℕ → ℕ → Box → Bool
corner_of y x b = is_edge b.frame.top b.frame.bottom y && is_edge b.frame.left b.frame.right x

abbrev horizontal_of : ℕ → ℕ → Box → Bool
horizontal_of y x b = is_edge b.frame.top b.frame.bottom y && is_inside b.frame.left b.frame.right x

abbrev vertical_of : ℕ → ℕ → Box → Bool
vertical_of y x b = is_edge b.frame.left b.frame.right x && is_inside b.frame.top b.frame.bottom y

-- a border's point
unfoldable pub border : Canvas → ℕ → ℕ → Bool
border v y x = corner_at v y x || horizontal_at v y x || vertical_at v y x

abbrev pub End : ℕ → ℕ → ℕ → Type 0
End a b n = (n ≡ a) ⊎ (n ≡ b)

pub end-is_edge : (a b n : ℕ) → End a b n → is_edge a b n ≡ true
end-is_edge a b n (inl e) = or_left (eqb n b) (eq-eqb n a e)
end-is_edge a b n (inr e) = or_right (eqb n a) (eq-eqb n b e)

pub is_edge-end : (a b n : ℕ) → is_edge a b n ≡ true → End a b n
is_edge-end a b n h = ⊎_elim (λ e. inl (eqb-true n a e)) (λ e. inr (eqb-true n b e)) (or_cases (eqb n a) (eqb n b) h)

pub is_inside-between : (a b n : ℕ) → is_inside a b n ≡ true → (a < n) × (n < b)
is_inside-between a b n h = (ltb-true a n (and_left (ltb a n) (ltb n b) h), ltb-true n b (and_right (ltb a n) (ltb n b) h))

pub between-is_inside : (a b n : ℕ) → a < n → n < b → is_inside a b n ≡ true
between-is_inside a b n u v = and_intro (lt-ltb a n u) (lt-ltb n b v)

-- a unit square of a range that touches a point of it
pub near-square : (t y b : ℕ) → t ≤ y → y ≤ b → t < b → (s : ℕ) × (t ≤ s) × (s < b) × (s ≤ y) × (y ≤ suc s)
near-square t y b u v w =
    ⊎_elim (λ (e : y ≡ b). (y - 1, omega arith, omega arith, omega arith, omega arith)) (λ l. (y, u, l, le_refl y, omega arith)) (eq-or-lt_of_le v)

pub end-or-within : (t y b : ℕ) → t ≤ y → y ≤ b → End t b y ⊎ ((t < y) × (y < b))
end-or-within t y b u v =
    ⊎_elim (λ (e : t ≡ y). inl (inl (sym e))) (λ l. ⊎_elim (λ (e : y ≡ b). inl (inr e)) (λ k. inr (l, k)) (eq-or-lt_of_le v)) (eq-or-lt_of_le u)

module _ {v : Canvas} {b : Box} (s : Sized v b) (y x : ℕ) where
  end-touch : End b.frame.top b.frame.bottom y → (b.frame.top ≤ y) × (y ≤ b.frame.bottom)
  end-touch (inl e) = (omega arith, omega (arith, s.tall))
  end-touch (inr e) = (omega (arith, s.tall), omega arith)

  side-touch : End b.frame.left b.frame.right x → (b.frame.left ≤ x) × (x ≤ b.frame.right)
  side-touch (inl e) = (omega arith, omega (arith, s.broad))
  side-touch (inr e) = (omega (arith, s.broad), omega arith)

  corner-touch : corner_of y x b ≡ true → Touch b y x
  corner-touch h =
      let d = end-touch (is_edge-end _ _ y (and_left (is_edge b.frame.top b.frame.bottom y) (is_edge b.frame.left b.frame.right x) h)) in
      let w = side-touch (is_edge-end _ _ x (and_right (is_edge b.frame.top b.frame.bottom y) (is_edge b.frame.left b.frame.right x) h)) in
      record { top = d.0; bottom = d.1; left = w.0; right = w.1 }

  horizontal-touch : horizontal_of y x b ≡ true → Touch b y x
  horizontal-touch h =
      let d = end-touch (is_edge-end _ _ y (and_left (is_edge b.frame.top b.frame.bottom y) (is_inside b.frame.left b.frame.right x) h)) in
      let w = is_inside-between b.frame.left b.frame.right x (and_right (is_edge b.frame.top b.frame.bottom y) (is_inside b.frame.left b.frame.right x) h) in
      record { top = d.0; bottom = d.1; left = omega (arith, w); right = omega (arith, w) }

  vertical-touch : vertical_of y x b ≡ true → Touch b y x
  vertical-touch h =
      let d = side-touch (is_edge-end _ _ x (and_left (is_edge b.frame.left b.frame.right x) (is_inside b.frame.top b.frame.bottom y) h)) in
      let w = is_inside-between b.frame.top b.frame.bottom y (and_right (is_edge b.frame.left b.frame.right x) (is_inside b.frame.top b.frame.bottom y) h) in
      record { top = omega (arith, w); bottom = omega (arith, w); left = d.0; right = d.1 }

-- strictly inside a box, none of the box's own border tests pass
module _ {b : Box} {y x : ℕ} (w : Within b y x) where
  not_end : is_edge b.frame.top b.frame.bottom y ≡ false
  not_end = or-none (ne_eqb y b.frame.top (λ e. omega (arith, w.top))) (ne_eqb y b.frame.bottom (λ e. omega (arith, w.bottom)))

  not-side : is_edge b.frame.left b.frame.right x ≡ false
  not-side = or-none (ne_eqb x b.frame.left (λ e. omega (arith, w.left))) (ne_eqb x b.frame.right (λ e. omega (arith, w.right)))

  no-corner : corner_of y x b ≡ false
  no-corner = rw not_end

  no-horizontal : horizontal_of y x b ≡ false
  no-horizontal = rw not_end

  no-vertical : vertical_of y x b ≡ false
  no-vertical = rw not-side

-- ---- a box's own border points
module _ (v : Canvas) {b : Box} (m : Memᴰ b v.boxes) (y x : ℕ) where
  pub box-corner_at : End b.frame.top b.frame.bottom y → End b.frame.left b.frame.right x → corner_at v y x ≡ true
  unfolding corner_at
  box-corner_at e d = mem-any (corner_of y x) m (and_intro (end-is_edge _ _ y e) (end-is_edge _ _ x d))

  pub box-horizontal_at : End b.frame.top b.frame.bottom y → b.frame.left < x → x < b.frame.right → horizontal_at v y x ≡ true
  unfolding horizontal_at
  box-horizontal_at e l r = mem-any (horizontal_of y x) m (and_intro (end-is_edge _ _ y e) (between-is_inside _ _ x l r))

  pub box-vertical_at : End b.frame.left b.frame.right x → b.frame.top < y → y < b.frame.bottom → vertical_at v y x ≡ true
  unfolding vertical_at
  box-vertical_at e l r = mem-any (vertical_of y x) m (and_intro (end-is_edge _ _ x e) (between-is_inside _ _ y l r))

-- the box of a border point
module _ (v : Canvas) (y x : ℕ) where
  pub corner_at-box : corner_at v y x ≡ true → (b : Box) × Memᴰ b v.boxes × End b.frame.top b.frame.bottom y × End b.frame.left b.frame.right x
  unfolding corner_at
  corner_at-box h =
      let (b, m, e) = any-mem (corner_of y x) v.boxes h in (
        b,
        m,
        is_edge-end _ _ y (and_left (is_edge b.frame.top b.frame.bottom y) (is_edge b.frame.left b.frame.right x) e),
        is_edge-end _ _ x (and_right (is_edge b.frame.top b.frame.bottom y) (is_edge b.frame.left b.frame.right x) e),
      )

  pub horizontal_at-box : horizontal_at v y x ≡ true → (b : Box) × Memᴰ b v.boxes × End b.frame.top b.frame.bottom y × (b.frame.left < x) × (x < b.frame.right)
  unfolding horizontal_at
  horizontal_at-box h =
      let (b, m, e) = any-mem (horizontal_of y x) v.boxes h in
      let w = is_inside-between b.frame.left b.frame.right x (and_right (is_edge b.frame.top b.frame.bottom y) (is_inside b.frame.left b.frame.right x) e) in
      (b, m, is_edge-end _ _ y (and_left (is_edge b.frame.top b.frame.bottom y) (is_inside b.frame.left b.frame.right x) e), w.0, w.1)

  pub vertical_at-box : vertical_at v y x ≡ true → (b : Box) × Memᴰ b v.boxes × End b.frame.left b.frame.right x × (b.frame.top < y) × (y < b.frame.bottom)
  unfolding vertical_at
  vertical_at-box h =
      let (b, m, e) = any-mem (vertical_of y x) v.boxes h in
      let w = is_inside-between b.frame.top b.frame.bottom y (and_right (is_edge b.frame.left b.frame.right x) (is_inside b.frame.top b.frame.bottom y) e) in
      (b, m, is_edge-end _ _ x (and_left (is_edge b.frame.left b.frame.right x) (is_inside b.frame.top b.frame.bottom y) e), w.0, w.1)

  pub corner_at-border : corner_at v y x ≡ true → border v y x ≡ true
  unfolding border
  corner_at-border h = rw h

  pub horizontal_at-border : horizontal_at v y x ≡ true → border v y x ≡ true
  unfolding border
  horizontal_at-border h = or_left (vertical_at v y x) (or_right (corner_at v y x) h)

  pub vertical_at-border : vertical_at v y x ≡ true → border v y x ≡ true
  unfolding border
  vertical_at-border h = or_right (corner_at v y x || horizontal_at v y x) h

module _ {v : Canvas} (P : Tiled v) where
  -- two boxes that hold one square are the same
  pub same-box : {b c : Box} → Memᴰ b v.boxes → Memᴰ c v.boxes → {y x : ℕ} → Inside y x b.frame → Inside y x c.frame → b ≡ c
  same-box {b} {c} m n {y} {x} p q =
      let s = P.sized b m in
      count-one (λ (b : Box). holds y x b.frame) (P.square y x (omega (arith, p.above, s.low)) (omega (arith, p.before, s.near))) m n
      (holds-inside p.below p.above p.after p.before) (holds-inside q.below q.above q.after q.before)

  -- the box that holds a square
  pub box-at : (y x : ℕ) → suc y < canvas_height v → suc x < canvas_width v → (b : Box) × Memᴰ b v.boxes × Inside y x b.frame
  box-at y x u w =
      let (b, m, e) = count-pick (λ (b : Box). holds y x b.frame) v.boxes (omega (arith, P.square y x u w)) in
      (b, m, inside-holds y x b.frame e)

  pub box-touched : {b c : Box} → Memᴰ b v.boxes → Memᴰ c v.boxes → (y x : ℕ) → Within b y x → Touch c y x → b ≡ c
  box-touched {b} {c} m n y x w t =
      let s = P.sized c n in
      let r = near-square c.frame.top y c.frame.bottom t.top t.bottom (omega (arith, s.tall)) in
      let k = near-square c.frame.left x c.frame.right t.left t.right (omega (arith, s.broad)) in
      same-box m n {y = r.0} {x = k.0}
      (record { below = omega (arith, r, w.top); above = omega (arith, r, w.bottom); after = omega (arith, k, w.left); before = omega (arith, k, w.right) })
      (record { below = r.1; above = r.2; after = k.1; before = k.2 })

  module _ {b : Box} (m : Memᴰ b v.boxes) (y x : ℕ) (w : Within b y x) where
    free : (p : Box → Bool) → p b ≡ false → ((c : Box) → Memᴰ c v.boxes → p c ≡ true → Touch c y x) → any p v.boxes ≡ false
    free p e t = none_any p v.boxes (λ c n. bool-refused (p c) (λ h. true-not-false (sym h ∙ ap p (sym (box-touched m n y x w (t c n h))) ∙ e)))

    pub inside-no-corner : corner_at v y x ≡ false
    unfolding corner_at
    inside-no-corner = free (corner_of y x) (no-corner w) (λ c n h. corner-touch (P.sized c n) y x h)

    pub inside-no-horizontal : horizontal_at v y x ≡ false
    unfolding horizontal_at
    inside-no-horizontal = free (horizontal_of y x) (no-horizontal w) (λ c n h. horizontal-touch (P.sized c n) y x h)

    pub inside-no-vertical : vertical_at v y x ≡ false
    unfolding vertical_at
    inside-no-vertical = free (vertical_of y x) (no-vertical w) (λ c n h. vertical-touch (P.sized c n) y x h)

    pub inside-no-border : border v y x ≡ false
    unfolding border
    inside-no-border = or-none (or-none inside-no-corner inside-no-horizontal) inside-no-vertical

  -- each point is a border's or strictly inside a box
  pub border-or-inside : (y x : ℕ) → y < canvas_height v → x < canvas_width v → (border v y x ≡ true) ⊎ ((b : Box) × Memᴰ b v.boxes × Within b y x)
  border-or-inside y x u w =
      let r = near-square 0 y (canvas_height v - 1) (omega arith) (omega arith) (omega (arith, P.two_lines)) in
      let c = near-square 0 x (canvas_width v - 1) (omega arith) (omega arith) (omega (arith, P.two_columns)) in
      let k = box-at r.0 c.0 (omega (arith, r)) (omega (arith, c)) in
      let b = k.0 in
      let q = k.2 in
      go b k.1 (end-or-within b.frame.top y b.frame.bottom (omega (arith, q.below, r)) (omega (arith, q.above, r)))
      (end-or-within b.frame.left x b.frame.right (omega (arith, q.after, c)) (omega (arith, q.before, c))) where
        go : (b : Box) → Memᴰ b v.boxes → End b.frame.top b.frame.bottom y ⊎ ((b.frame.top < y) × (y < b.frame.bottom))
            → End b.frame.left b.frame.right x ⊎ ((b.frame.left < x) × (x < b.frame.right))
            → (border v y x ≡ true) ⊎ ((b : Box) × Memᴰ b v.boxes × Within b y x)
        go b m (inl e) (inl d) = inl (corner_at-border v y x (box-corner_at v m y x e d))
        go b m (inl e) (inr d) = inl (horizontal_at-border v y x (box-horizontal_at v m y x e d.0 d.1))
        go b m (inr e) (inl d) = inl (vertical_at-border v y x (box-vertical_at v m y x d e.0 e.1))
        go b m (inr e) (inr d) = inr (b, m, record { top = e.0; bottom = e.1; left = d.0; right = d.1 })
