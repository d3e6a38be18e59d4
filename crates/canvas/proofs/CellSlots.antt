-- What the cells of a canvas put at a slot: they never disagree (`bordered-horizontal`, `bordered-vertical`, `bordered-first`).
use Prim.Native.Nat.{ℕ, ◌+◌, ◌<◌}
use mathlib.Core.Path.{◌≡◌, sym, ap, subst, ◌∙◌}
use mathlib.Core.Bool.{Bool, true, false}
use mathlib.Core.Logic.{◌⊎◌, inl, inr}
use mathlib.Core.List.{List, [], map, Memᴰ}
use native.Mathlib.Omega.{arith}
use lib.ListN.{length, get_or, length-map}
use lib.Seq.{ext_get_or}
use borrow.Author.Tests.{eq-eqb}
use Rattle.seq.specs.Lists.{up_to, any}
use Rattle.seq.proofs.Tests.{true-not-false, bool-refused, and_left, and_right}
use Rattle.seq.proofs.Ranges.{length-range, mem-range, range-mem}
use Rattle.seq.proofs.Positions.{get_or-mem, get_d_map, get_or-made}
use Rattle.seq.proofs.Searches.{any-mem, any_none, any-map, count-one-at}
use Rattle.grid.specs.Values.{Rect}
use Rattle.grid.specs.Slots.{pipe}
use Rattle.grid.specs.Cover.{holds}
use Rattle.grid.proofs.SkylineLaws.{holds-inside}
use Rattle.drawing.specs.Plain.{Box, Canvas, is_edge, is_inside, corner_at, horizontal_at, vertical_at}
use Rattle.drawing.proofs.BoxLaws.{Within, Tiled, is_edge-end, between-is_inside, box-horizontal_at, box-vertical_at}
use Rattle.drawing.proofs.BoxLaws.{inside-no-corner, inside-no-horizontal, inside-no-vertical}
use Rattle.drawing.proofs.GlyphRows.{no-across}
use Rattle.representation.specs.Arrays.{rects_of, rect_in}
use Rattle.representation.proofs.RectsLaws.{length-rects, get_or-rects}
use Rattle.representation.proofs.HeldLaws.{no_rect}
use Rattle.canvas.specs.declared.Rules.{Rules}
use Rattle.canvas.specs.Painting.{rule_byte, ended, sided, bordered}
use Rattle.canvas.specs.Picture.{Drawable}
use Rattle.canvas.proofs.PartLaws.{painted-is, OnEnd, OnSide, AtFirst, boxed, end_test, side_test}
use Rattle.canvas.proofs.PartLaws.{Part, on_end, on_side, at_first, away, part_of}

pub true-false-clash : {t : Bool} → t ≡ true → t ≡ false → ⊥
true-false-clash p q = true-not-false (sym p ∙ q)

rects-made : (n : ℕ) (rects : List ℕ) → rects_of n rects ≡ map (rect_in rects) (up_to n)
rects-made n rects =
    let made = length-map (up_to n) (rect_in rects) ∙ length-range 0 n in
    ext_get_or no_rect (rects_of n rects) (map (rect_in rects) (up_to n)) (length-rects n rects ∙ sym made)
    (λ i u. let h : i < n = omega (arith, length-rects n rects) in get_or-rects n i rects no_rect h ∙ sym (get_or-made (rect_in rects) n i no_rect h))

abbrev no_box : Box
no_box = record { frame = no_rect; lines = [] }

module _ {v : Canvas} {n : ℕ} {rects : List ℕ} {rules : Rules} {cols : List ℕ} {columns : ℕ} {xs marks : List ℕ} {row : ℕ}
    (D : Drawable v n rects rules cols columns xs marks row) where
  P : Tiled v
  P = D.lined.written.tiled

  -- a test of a cell's borders, over the boxes and over the array
  pub any-rects : (test : Rect → Bool) → any (λ (b : Box). test b.frame) v.boxes ≡ any (λ k. test (rect_in rects k)) (up_to n)
  any-rects test =
      sym (any-map (λ (b : Box). b.frame) test v.boxes) ∙ ap (any test) (D.frames ∙ rects-made n rects) ∙ any-map (rect_in rects) test (up_to n)

  number_of : (test : Rect → Bool) → any (λ (b : Box). test b.frame) v.boxes ≡ true → (k : ℕ) × (k < n) × (test (rect_in rects k) ≡ true)
  number_of test e =
      let (k, m, q) = any-mem (λ k. test (rect_in rects k)) (up_to n) (sym (any-rects test) ∙ e) in
      (k, omega (arith, range-mem 0 n k m), q)

  pub side-number : (y x : ℕ) → vertical_at v y x ≡ true → (k : ℕ) × (k < n) × (side_test (rect_in rects k) y x ≡ true)
  unfolding vertical_at
  side-number y x e = number_of (λ r. side_test r y x) e

  -- ---- the box of cell k
  boxes-length : length v.boxes ≡ n
  boxes-length = sym (length-map v.boxes (λ (b : Box). b.frame)) ∙ ap length D.frames ∙ length-rects n rects

  abbrev pub box_in : ℕ → Box
  box_in k = get_or v.boxes k no_box

  module _ (k : ℕ) (h : k < n) where
    pub box-mem : Memᴰ (box_in k) v.boxes
    box-mem = get_or-mem v.boxes k no_box (omega (arith, boxes-length))

    -- what holds of its rectangle holds of its frame
    pub frame-of : (Q : Rect → Type 0) → Q (rect_in rects k) → Q (box_in k).frame
    frame-of Q =
        subst Q
        (sym
        (sym (get_d_map (λ (b : Box). b.frame) v.boxes k no_rect no_box (omega (arith, boxes-length)))
        ∙ ap (λ (l : List Rect). get_or l k no_rect) D.frames ∙ get_or-rects n k rects no_rect h))

    module _ (y x : ℕ) where
      end-horizontal : OnEnd (rect_in rects k) y x → horizontal_at v y x ≡ true
      end-horizontal e = let (line, l, near) = frame-of (λ r. OnEnd r y x) e in box-horizontal_at v box-mem y x line l near

      side-vertical : OnSide (rect_in rects k) y x → vertical_at v y x ≡ true
      side-vertical e = let (column, l, low) = frame-of (λ r. OnSide r y x) e in box-vertical_at v box-mem y x column l low

      side-across : OnSide (rect_in rects k) y x → horizontal_at v y x ≡ false
      side-across e = let (column, l, low) = frame-of (λ r. OnSide r y x) e in no-across D.lined 0 box-mem y x l low column

      -- the first slot of an inner line lies strictly inside
      first-within : AtFirst (rect_in rects k) y x → Within (box_in k) y x
      first-within e =
          let (beside, l, low) = frame-of (λ r. AtFirst r y x) e in
          record { top = l; bottom = low; left = omega arith; right = omega (arith, (P.sized (box_in k) box-mem).broad) }

      pub first-no-corner : AtFirst (rect_in rects k) y x → corner_at v y x ≡ false
      first-no-corner e = inside-no-corner P box-mem y x (first-within e)

      first-no-horizontal : AtFirst (rect_in rects k) y x → horizontal_at v y x ≡ false
      first-no-horizontal e = inside-no-horizontal P box-mem y x (first-within e)

      first-no-vertical : AtFirst (rect_in rects k) y x → vertical_at v y x ≡ false
      first-no-vertical e = inside-no-vertical P box-mem y x (first-within e)

  -- a slot is the first of one cell only
  first-only : (j k : ℕ) → j < n → k < n → (y x : ℕ) → AtFirst (rect_in rects j) y x → AtFirst (rect_in rects k) y x → j ≡ k
  first-only j k hj hk y x e f =
      let a = first-within j hj y x e in
      let s = P.sized (box_in j) (box-mem j hj) in
      let once = P.square y x (omega (arith, a.bottom, s.low)) (omega (arith, a.right, s.near)) in
      count-one-at (λ (b : Box). holds y x b.frame) v.boxes no_box j k once
      (omega (arith, boxes-length)) (omega (arith, boxes-length)) (held a) (held (first-within k hk y x f)) where
        held : {b : Box} → Within b y x → holds y x b.frame ≡ true
        held {b} w = holds-inside {r = b.frame} (omega (arith, w.top)) w.bottom (omega (arith, w.left)) w.right

  -- ---- all cells at one slot
  module _ (y x : ℕ) where
    abbrev put : ℕ → ℕ → ℕ
    put k old = boxed rules k (rect_in rects k) y x old

    each-horizontal : horizontal_at v y x ≡ true → (j old : ℕ) → j < n → (put j old ≡ rule_byte rules y) ⊎ (put j old ≡ old)
    each-horizontal across j old h = go (part_of rules j (rect_in rects j) y x) where
      go : Part rules j (rect_in rects j) y x → (put j old ≡ rule_byte rules y) ⊎ (put j old ≡ old)
      go (on_end e q) = inl (q old)
      go (on_side e q) = absurd (true-false-clash across (side-across j h y x e))
      go (at_first e q) = absurd (true-false-clash across (first-no-horizontal j h y x e))
      go (away q) = inr (q old)

    each-vertical : horizontal_at v y x ≡ false → vertical_at v y x ≡ true → (j old : ℕ) → j < n → (put j old ≡ pipe) ⊎ (put j old ≡ old)
    each-vertical across up j old h = go (part_of rules j (rect_in rects j) y x) where
      go : Part rules j (rect_in rects j) y x → (put j old ≡ pipe) ⊎ (put j old ≡ old)
      go (on_end e q) = absurd (true-false-clash (end-horizontal j h y x e) across)
      go (on_side e q) = inl (q old)
      go (at_first e q) = absurd (true-false-clash up (first-no-vertical j h y x e))
      go (away q) = inr (q old)

    each_first : (k : ℕ) → k < n → AtFirst (rect_in rects k) y x → (j old : ℕ) → j < n → (put j old ≡ 256 + k) ⊎ (put j old ≡ old)
    each_first k u f j old h = go (part_of rules j (rect_in rects j) y x) where
      go : Part rules j (rect_in rects j) y x → (put j old ≡ 256 + k) ⊎ (put j old ≡ old)
      go (on_end e q) = absurd (true-false-clash (end-horizontal j h y x e) (first-no-horizontal k u y x f))
      go (on_side e q) = absurd (true-false-clash (side-vertical j h y x e) (first-no-vertical k u y x f))
      go (at_first e q) = inl (q old ∙ ap (λ (k : ℕ). 256 + k) (first-only j k h u y x e f))
      go (away q) = inr (q old)

    end-off : (k : ℕ) → k < n → horizontal_at v y x ≡ false → end_test (rect_in rects k) y x ≡ false
    unfolding horizontal_at
    end-off k h e =
        any_none (λ k. end_test (rect_in rects k) y x) (sym (any-rects (λ r. end_test r y x)) ∙ e) (mem-range 0 n k (omega arith) (omega arith))

    pub bordered-horizontal : (old : ℕ) → horizontal_at v y x ≡ true → bordered rules rects n y x old ≡ rule_byte rules y
    unfolding bordered ended horizontal_at
    bordered-horizontal old e =
        let (k, h, q) = number_of (λ r. end_test r y x) e in
        painted-is put (rule_byte rules y) n old (each-horizontal e) k h (λ o. rw q)

    pub bordered-vertical : (old : ℕ) → horizontal_at v y x ≡ false → vertical_at v y x ≡ true → bordered rules rects n y x old ≡ pipe
    unfolding bordered ended sided
    bordered-vertical old e f =
        let (k, h, q) = side-number y x f in
        let r = rect_in rects k in
        let column = and_left (is_edge r.left r.right x) (is_inside r.top r.bottom y) q in
        let inside = and_right (is_edge r.left r.right x) (is_inside r.top r.bottom y) q in
        painted-is put pipe n old (each-vertical e f) k h (λ o. rw (end-off k h e, column, inside))

    pub bordered-first : (old k : ℕ) → k < n → AtFirst (rect_in rects k) y x → bordered rules rects n y x old ≡ 256 + k
    unfolding bordered ended sided
    bordered-first old k h f =
        let r = rect_in rects k in
        let (beside, l, low) = f in
        let inside = between-is_inside r.top r.bottom y l low in
        let column : is_edge r.left r.right x ≡ false =
        bool-refused (is_edge r.left r.right x)
        (λ t. true-false-clash (side-vertical k h y x (is_edge-end r.left r.right x t, l, low)) (first-no-vertical k h y x f)) in
        painted-is put (256 + k) n old (each_first k h f) k h
        (λ o. rw (end-off k h (first-no-horizontal k h y x f), inside, column, eq-eqb x (r.left + 1) beside))
