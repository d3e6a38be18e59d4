-- From where the borders stand: a drawing over its limits, and a canvas that is ready to be drawn.
use Prim.Native.Nat.{ℕ, ◌+◌, ◌^◌, ◌≤◌, ◌<◌}
use mathlib.Core.Path.{◌≡◌, refl, sym}
use mathlib.Core.Bool.{true, false, ◌||◌}
use mathlib.Core.Logic.{⊎_elim}
use mathlib.Core.List.{List, map}
use native.Mathlib.Omega.{arith}
use lib.Dec.{leb, ltb}
use lib.ListN.{length, get_or}
use borrow.Author.Tests.{lt-ltb, leb-true, leb-false}
use Rattle.seq.specs.Lists.{sum, any}
use Rattle.seq.proofs.Tests.{or_cases, or-neither, or_left, or_right}
use Rattle.grid.specs.Answer.{refuse}
use Rattle.grid.specs.Values.{Line}
use Rattle.grid.specs.LayoutCall.{slot_space, rect_space}
use Rattle.grid.specs.Read.{line_too_large, drawing_too_large}
use Rattle.drawing.specs.Plain.{Canvas, canvas_width, canvas_lines}
use Rattle.drawing.specs.Redraw.{drawn_too_large}
use Rattle.drawing.specs.RedrawCall.{DrawingArrays}
use Rattle.drawing.proofs.GlyphRows.{canvas_lines-length}
use Rattle.canvas.specs.Picture.{Pictured}
use Rattle.cm.specs.Board.{Board, CanvasReady}
use Rattle.cm.specs.Late.{late_answer, late_sizes, late_arrays}
use Rattle.cm.specs.Sketch.{Plan, Planned, Sketched, Texted}

-- the last border of the columns, and of the rows
module _ (p : Plan) where
  abbrev right : ℕ
  right = get_or p.xs p.columns 0

  abbrev bottom : ℕ
  bottom = get_or p.ys p.rows 0

module _ {v : Canvas} {p : Plan} (S : Sketched v p) where
  -- 2, of the width or the number of lines
  too_large : (origin : ℕ) → leb 128 (right p) || leb 128 (bottom p) ≡ true → drawn_too_large v (canvas_lines origin v) ≡ true
  unfolding drawn_too_large drawing_too_large
  too_large origin e =
      let lines = canvas_lines origin v in
      let bytes = ltb 32768 (sum (map (λ (line : Line). length line.text) lines)) in
      ⊎_elim
      (λ (h : leb 128 (right p) ≡ true). or_left (drawing_too_large lines) (lt-ltb 128 (canvas_width v) (omega (arith, S.wide, leb-true 128 (right p) h))))
      (λ (h : leb 128 (bottom p) ≡ true).
      or_right (ltb 128 (canvas_width v))
      (or_left bytes
      (or_left (any line_too_large lines) (lt-ltb 128 (length lines) (omega (arith, S.tall, canvas_lines-length origin v, leb-true 128 (bottom p) h))))))
      (or_cases (leb 128 (right p)) (leb 128 (bottom p)) e)

  pub sized-large : (origin : ℕ) (out : DrawingArrays) → leb 128 (right p) || leb 128 (bottom p) ≡ true
      → (refuse 2 0 ≡ late_sizes v origin out) × (out ≡ late_arrays v origin out)
  unfolding late_sizes late_arrays late_answer
  sized-large origin out e = rw (too_large origin e) (refl, refl)

-- ---- where the code's test passes
module _ {p : Plan} (P : Planned p) (small : leb 128 (right p) || leb 128 (bottom p) ≡ false) where
  right-small : right p < 128
  right-small = leb-false 128 (right p) (or-neither (leb 128 (right p)) (leb 128 (bottom p)) small).0

  bottom-small : bottom p < 128
  bottom-small = leb-false 128 (bottom p) (or-neither (leb 128 (right p)) (leb 128 (bottom p)) small).1

  pub width_fits : right p + 1 < 2 ^ 64
  width_fits = omega (arith, right-small)

  pub height-fits : bottom p + 1 < 2 ^ 64
  height-fits = omega (arith, bottom-small)

  module _ {origin rects_room slots : ℕ} (room : (origin ≤ 255) × (rect_space ≤ rects_room) × (slot_space ≤ slots)) where
    pub frames-asked : (right p < 128) × (bottom p < 128) × (rect_space ≤ rects_room) × (slot_space ≤ slots)
    frames-asked = (right-small, bottom-small, room.1, room.2)

    pub sized-ready : {v : Canvas} {b : Board} {canvas : List ℕ} → Sketched v p → Texted v b.text b.starts b.ends b.firsts b.heights
        → length b.rects ≡ rects_room → length canvas ≡ slots → Pictured v p.n b.rects canvas → CanvasReady v p.n (right p + 1) b canvas
    sized-ready S T rects-kept canvas-kept pictured =
        record {
          boxed = record {
            lined = S.lined;
            narrow = omega (arith, S.wide, right-small);
            low = omega (arith, S.tall, bottom-small);
            few = P.few_cells;
            rect_room = omega (arith, P.few_cells, room.1, rects-kept);
            frames = pictured.frames;
            lettered = T.lettered;
            short = T.short;
          };
          wide = sym S.wide;
          canvas_room = omega (arith, room.2, canvas-kept);
          pictured = pictured;
        }
