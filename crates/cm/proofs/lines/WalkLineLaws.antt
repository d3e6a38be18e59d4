-- The walk over a line of the canvas: from border to border, and over a cell's inner line at once.
use Prim.Native.Nat.{ℕ, ◌+◌, ◌-◌, ◌≤◌, ◌<◌}
use mathlib.Core.Path.{◌≡◌, refl, sym, ap, ◌∙◌}
use mathlib.Core.Bool.{Bool, true, false, ◌||◌, cond}
use mathlib.Core.Logic.{⊎_elim}
use mathlib.Core.List.{List, [], ◌∷◌, ◌++◌, Memᴰ}
use native.Mathlib.Omega.{arith}
use native.Mathlib.Nat.{eq-or-lt_of_le}
use lib.ListN.{length, get_or, length-map}
use Rattle.seq.proofs.Tests.{true-not-false}
use Rattle.seq.proofs.Positions.{get_d_map, get_or-mem, mem-get_or}
use Rattle.text.specs.Characters.{plus}
use Rattle.grid.specs.Values.{Rect}
use Rattle.grid.specs.Slots.{pipe}
use Rattle.representation.specs.Arrays.{code_at}
use Rattle.representation.proofs.RectsLaws.{length-rects, get_or-rects}
use Rattle.drawing.specs.Plain.{Box, Canvas, canvas_width, canvas_height, corner_at, horizontal_at, vertical_at, border_byte, inner_line}
use Rattle.drawing.proofs.BoxLaws.{Within, Tiled, border, inside-no-border, border-or-inside}
use Rattle.drawing.proofs.RowLaws.{edge_byte, flat, flat-cut, flat-inner, flat-border, border-right}
use Rattle.representation.specs.Arrays.{rect_in}
use Rattle.canvas.specs.Picture.{Pictured}
use Rattle.writer.specs.Writing.{Wrote}
use Rattle.writer.proofs.WritingLaws.{wrote_then, wrote_as}
use Rattle.cm.specs.Board.{Board, no_box, Boxed, Inner, CanvasReady}

-- where the walk stands: past the end, on a border, or at a cell's first inner column
pub data Stop (v : Canvas) (n : ℕ) (rects : List ℕ) (y x : ℕ) : Type 0 where
  at_end : x ≡ canvas_width v → Stop v n rects y x
  on_border : border v y x ≡ true → Stop v n rects y x
  on_cell : (k : ℕ) → Inner n rects y k → x ≡ (rect_in rects k).left + 1 → Stop v n rects y x

pub record Reached (v : Canvas) (n : ℕ) (rects : List ℕ) (origin y x : ℕ) (before : List ℕ) (at : ℕ) (after : List ℕ) (end : ℕ) : Type 0 where
  pub inside : x ≤ canvas_width v
  pub stop : Stop v n rects y x
  pub wrote : Wrote before at (flat origin v y 0 x) after end

-- ---- boxes and rectangles
module _ {v : Canvas} {n : ℕ} {b : Board} (B : Boxed v n b) where
  no_rect : Rect
  no_rect = record { top = 0; left = 0; bottom = 0; right = 0 }

  pub boxes-count : length v.boxes ≡ n
  boxes-count = sym (length-map v.boxes (λ (b : Box). b.frame)) ∙ ap length B.frames ∙ length-rects n b.rects

  pub box-frame : (k : ℕ) → k < n → (get_or v.boxes k no_box).frame ≡ rect_in b.rects k
  box-frame k u =
      sym (get_d_map (λ (b : Box). b.frame) v.boxes k no_rect no_box (omega (arith, boxes-count)))
      ∙ ap (λ (l : List Rect). get_or l k no_rect) B.frames ∙ get_or-rects n k b.rects no_rect u

  pub box-mem : (k : ℕ) → k < n → Memᴰ (get_or v.boxes k no_box) v.boxes
  box-mem k u = get_or-mem v.boxes k no_box (omega (arith, boxes-count))

-- ---- one turn of the walk
module _ {v : Canvas} {n width : ℕ} {b : Board} {canvas : List ℕ} (R : CanvasReady v n width b canvas) where
  B : Boxed v n b
  B = R.boxed

  module _ (origin y x : ℕ) (low : y < canvas_height v) where
    abbrev W : ℕ
    W = canvas_width v

    tiled : Tiled v
    tiled = B.lined.written.tiled

    pub code-border : x < W → border v y x ≡ true → code_at canvas y x ≡ edge_byte v y x
    unfolding border edge_byte
    code-border u e = go (corner_at v y x) (horizontal_at v y x) (vertical_at v y x) refl refl refl e where
      p : Pictured v n b.rects canvas
      p = R.pictured

      go : (s t w : Bool) → corner_at v y x ≡ s → horizontal_at v y x ≡ t → vertical_at v y x ≡ w → s || t || w ≡ true
          → code_at canvas y x ≡ cond s plus (cond t (border_byte v y x) pipe)
      go true t w f g h k = p.corner y x (omega (arith, B.low)) (omega (arith, B.narrow)) f
      go false true w f g h k = p.horizontal y x (omega (arith, B.low)) (omega (arith, B.narrow)) f g
      go false false true f g h k = p.vertical y x (omega (arith, B.low)) (omega (arith, B.narrow)) f g h
      go false false false f g h k = absurd (true-not-false (sym k))

    -- past a border stands a border, a cell's first inner column, or the end
    past-border : x < W → border v y x ≡ true → Stop v n b.rects y (x + 1)
    past-border u e = ⊎_elim at_end (λ w. ⊎_elim on_border inner (border-or-inside tiled y (x + 1) low w)) (eq-or-lt_of_le (omega arith)) where
      inner : (c : Box) × Memᴰ c v.boxes × Within c y (x + 1) → Stop v n b.rects y (x + 1)
      inner (c, m, i) =
          let (k, w, q) = mem-get_or no_box m in
          let few : k < n = omega (arith, boxes-count B) in
          let f : c.frame ≡ rect_in b.rects k = sym (ap (λ (z : Box). z.frame) q) ∙ box-frame B k few in
          let t = ap (λ (r : Rect). r.top) f in
          let l = ap (λ (r : Rect). r.left) f in
          let d = ap (λ (r : Rect). r.bottom) f in
          let left : c.frame.left ≡ x =
          ⊎_elim (λ (z : c.frame.left ≡ x). z)
          (λ z. absurd (true-not-false (sym e ∙ inside-no-border tiled m y x (record { top = i.top; bottom = i.bottom; left = z; right = omega (arith, i.right) }))))
          (eq-or-lt_of_le (omega (arith, i.left))) in
          on_cell k (record { cell = few; below = omega (arith, i.top); above = omega (arith, i.bottom) }) (omega arith)

    module _ {before after : List ℕ} {at end : ℕ} (r : Reached v n b.rects origin y x before at after end) where
      pub reached-border : x < W → border v y x ≡ true → (code : ℕ) → code ≡ edge_byte v y x → (after' : List ℕ) (end' : ℕ) → Wrote after end (code ∷ []) after' end'
          → Reached v n b.rects origin y (x + 1) before at after' end'
      reached-border u e code is after' end' w =
          record {
            inside = omega arith;
            stop = past-border u e;
            wrote = wrote_as (wrote_then r.wrote w) (ap (λ (c : ℕ). flat origin v y 0 x ++ c ∷ []) is ∙ sym (flat-border B.lined.written origin y low x e));
          }

      module _ (k : ℕ) (s : Inner n b.rects y k) (start : x ≡ (rect_in b.rects k).left + 1) where
        abbrev box : Box
        box = get_or v.boxes k no_box

        m : Memᴰ box v.boxes
        m = box-mem B k s.cell

        frame : box.frame ≡ rect_in b.rects k
        frame = box-frame B k s.cell

        pub reached-cell : (after' : List ℕ) (end' : ℕ) → Wrote after end (inner_line origin box y) after' end'
            → Reached v n b.rects origin y (rect_in b.rects k).right before at after' end'
        reached-cell after' end' w =
            let t = ap (λ (r : Rect). r.top) frame in
            let l = ap (λ (r : Rect). r.left) frame in
            let d = ap (λ (r : Rect). r.bottom) frame in
            let h = ap (λ (r : Rect). r.right) frame in
            let z = tiled.sized box m in
            let inner = flat-inner tiled origin m y (omega (arith, s.below)) (omega (arith, s.above)) in
            let cut = flat-cut origin v y 0 x box.frame.right (omega arith) (omega (arith, start, z.broad)) in
            let first : x ≡ box.frame.left + 1 = omega (arith, start) in
            let right : flat origin v y 0 box.frame.right ≡ flat origin v y 0 x ++ inner_line origin box y =
            (let i : box.frame.right - 0 ≡ box.frame.right = omega arith in let j : x - 0 ≡ x = omega arith in rw i at (rw j at cut))
            ∙ ap (λ (i : ℕ). flat origin v y 0 x ++ flat origin v y i (box.frame.right - i)) first ∙ ap (λ (l : List ℕ). flat origin v y 0 x ++ l) inner in
            record {
              inside = omega (arith, z.near);
              stop = on_border (rw h at (border-right tiled origin m y (omega (arith, s.below)) (omega (arith, s.above))));
              wrote = wrote_as (wrote_then r.wrote w) (sym right ∙ ap (flat origin v y 0) h);
            }
