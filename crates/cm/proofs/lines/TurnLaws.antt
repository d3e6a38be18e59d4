-- One turn of the walk over a line, as the code makes it: what each step needs, and what it leaves.
use Prim.Native.Nat.{ℕ, ◌+◌, ◌*◌, ◌-◌, ◌≤◌, ◌<◌}
use mathlib.Core.Path.{◌≡◌, sym, ap, ◌∙◌}
use mathlib.Core.Bool.{true}
use mathlib.Core.List.{List, [], ◌∷◌}
use native.Mathlib.Omega.{arith}
use lib.ListN.{length, get_or}
use Rattle.grid.specs.Values.{Rect}
use Rattle.drawing.specs.Plain.{Canvas, canvas_width, canvas_height, inner_line, drawn_line}
use Rattle.drawing.proofs.BoxLaws.{border}
use Rattle.drawing.proofs.RowLaws.{edge_byte-single, flat, flat-zero, drawn_line-text, border-first}
use Rattle.representation.specs.Arrays.{rect_in}
use Rattle.writer.specs.Writing.{Wrote}
use Rattle.writer.proofs.WritingLaws.{wrote_none, wrote_as}
use Rattle.cm.specs.Board.{Board, no_box, Boxed, Inner, CanvasReady}
use Rattle.cm.specs.Bears.{board_of, Bears}
use Rattle.cm.specs.declared.board.Board.{Board as Bordered}
use Rattle.cm.proofs.lines.WalkLineLaws.{Stop, at_end, on_border, on_cell, Reached, box-frame, box-mem, code-border, reached-border, reached-cell}

-- what a line's function asks of its arguments
abbrev pub Asked : ℕ → ℕ → Board → List ℕ → ℕ → ℕ → ℕ → Type 0
Asked n width b canvas origin y at = (v : Canvas) × CanvasReady v n width b canvas × (y < canvas_height v) × (origin ≤ 255) × (at ≤ 1073741824)

pub asked : (d : Bordered) (y at : ℕ) → (v : Canvas) × Bears d v × (y < canvas_height v) → at ≤ 1073741824 → Asked d.cells d.width.0 (board_of d) d.canvas.now d.origin.0 y at
asked d y at (v, R, low) early = (v, R, low, d.near, early)

-- what the walk has come to, on every canvas that the arrays hold
abbrev pub Walked : ℕ → ℕ → Board → List ℕ → ℕ → ℕ → ℕ → List ℕ → ℕ → List ℕ → ℕ → Type 0
Walked n width b canvas origin y x before at after end =
    (v : Canvas) → CanvasReady v n width b canvas → y < canvas_height v → Reached v n b.rects origin y x before at after end

pub walk-starts : (n width : ℕ) (b : Board) (canvas : List ℕ) (origin y : ℕ) (before : List ℕ) (at : ℕ) → Walked n width b canvas origin y 0 before at before at
walk-starts n width b canvas origin y before at v R low =
    record { inside = omega arith; stop = on_border (border-first R.boxed.lined.written origin y low); wrote = rw (flat-zero origin v y 0) (wrote_none before at) }

module _ {n width : ℕ} {b : Board} {canvas : List ℕ} {origin y at x end : ℕ} {before after : List ℕ} (G : Asked n width b canvas origin y at)
    (I : Walked n width b canvas origin y x before at after end) where
  pub walk-total : end ≤ at + 641 * x → end ≤ at + 131072
  walk-total few = omega (arith, (I G.0 G.1 G.2).inside, G.1.boxed.narrow)

  pub walk_ends : width ≤ x → (v : Canvas) → CanvasReady v n width b canvas → y < canvas_height v → Wrote before at (drawn_line origin v y).text after end
  walk_ends h v R low =
      let e : x ≡ canvas_width v = omega (arith, (I v R low).inside, R.wide) in
      wrote_as (I v R low).wrote (ap (flat origin v y 0) e ∙ sym (drawn_line-text origin v y))

  -- the walk stands at the first inner column of cell k
  abbrev Large : ℕ → Type 0
  Large k = Inner n b.rects y k × (x ≡ (rect_in b.rects k).left + 1)

  module _ (u : x < width) where
    module _ (code : ℕ) (is : code ≡ get_or canvas (y * 128 + x) 0) where
      module _ (v : Canvas) (R : CanvasReady v n width b canvas) (low : y < canvas_height v) where
        near : x < canvas_width v
        near = omega (arith, R.wide)

        small-border : border v y x ≡ true → code < 256
        small-border e = omega (arith, is ∙ code-border R origin y x low near e, (edge_byte-single v y x).high)

        cell-code : (k : ℕ) → Inner n b.rects y k → x ≡ (rect_in b.rects k).left + 1 → code ≡ 256 + k
        cell-code k s first = is ∙ ap (λ (i : ℕ). get_or canvas (y * 128 + i) 0) first ∙ R.pictured.first k y s.cell s.below s.above

        small-code : code < 256 → border v y x ≡ true
        small-code h = go (I v R low).stop where
          go : Stop v n b.rects y x → border v y x ≡ true
          go (at_end e) = absurd (omega (arith, near))
          go (on_border e) = e
          go (on_cell k s first) = absurd (omega (arith, cell-code k s first))

        large-code : 256 ≤ code → Large (code - 256)
        large-code h = go (I v R low).stop where
          go : Stop v n b.rects y x → Large (code - 256)
          go (at_end e) = absurd (omega (arith, near))
          go (on_border e) = absurd (omega (arith, small-border e))
          go (on_cell k s first) = let q : code - 256 ≡ k = omega (arith, cell-code k s first) in rw q (s, first)

      pub walk-border : code < 256 → (after' : List ℕ) (end' : ℕ) → Wrote after end (code ∷ []) after' end' → Walked n width b canvas origin y (x + 1) before at after' end'
      walk-border h after' end' w v R low =
          let e = small-code v R low h in
          reached-border R origin y x low (I v R low) (near v R low) e code (is ∙ code-border R origin y x low (near v R low) e) after' end' w

      module _ (h : 256 ≤ code) where
        large : (v : Canvas) (R : CanvasReady v n width b canvas) (low : y < canvas_height v) → Large (code - 256)
        large v R low = large-code v R low h

        pub inner-asked : end ≤ at + 641 * x
            → (v : Canvas) × Boxed v n b × Inner n b.rects y (code - 256) × (origin ≤ 255) × (end ≤ 2147483648)
        inner-asked few = (G.0, G.1.boxed, (large G.0 G.1 G.2).0, G.3, omega (arith, G.4, G.1.wide, G.1.boxed.narrow))

        pub right-room : 4 * (code - 256) + 3 < length b.rects
        right-room = omega (arith, (large G.0 G.1 G.2).0.cell, G.1.boxed.rect_room)

        module _ (right : ℕ) (right_is : right ≡ get_or b.rects (4 * (code - 256) + 3) 0) where
          right-past : x < right
          right-past =
              let (i, first) = large G.0 G.1 G.2 in
              let B = G.1.boxed in
              let f = box-frame B (code - 256) i.cell in
              omega (arith, ap (λ (r : Rect). r.left) f, ap (λ (r : Rect). r.right) f, (B.lined.written.tiled.sized (get_or G.0.boxes (code - 256) no_box) (box-mem B (code - 256) i.cell)).broad)

          pub walk-less : width - right < width - x
          walk-less = omega (arith, right-past)

          module _ (after' : List ℕ) (end' : ℕ) (few : end' ≤ end + 641) where
            pub walk-cell : ((v : Canvas) → Boxed v n b → Wrote after end (inner_line origin (get_or v.boxes (code - 256) no_box) y) after' end')
                → Walked n width b canvas origin y right before at after' end'
            walk-cell w v R low =
                let (i, first) = large v R low in
                rw (← right_is) at (reached-cell R origin y x low (I v R low) (code - 256) i first after' end' (w v R.boxed))

            pub walk-few : end ≤ at + 641 * x → end' ≤ at + 641 * right
            walk-few so_far = omega (arith, right-past)
