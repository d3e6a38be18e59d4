-- A cell's inner line: what writing it needs, and that it is the definition's.
use Prim.Native.Nat.{ℕ, ◌+◌, ◌*◌, ◌-◌, ◌≤◌, ◌<◌}
use mathlib.Core.Path.{◌≡◌, refl, sym, ap, ◌∙◌}
use mathlib.Core.Bool.{true}
use mathlib.Core.List.{List, ◌∷◌, ◌++◌, Memᴰ}
use native.Mathlib.Omega.{arith}
use lib.ListN.{length, get_or, replicate, length-append, length-replicate}
use Rattle.text.specs.Characters.{space}
use Rattle.text.specs.Columns.{columns_from}
use Rattle.text.specs.Utf8.{char_indices, well_formed}
use Rattle.text.specs.Lines.{no_text}
use Rattle.grid.specs.Values.{Rect}
use Rattle.drawing.specs.Plain.{Box, Canvas, canvas_width, canvas_height, inner_line}
use Rattle.drawing.proofs.RowLaws.{text-fits}
use Rattle.representation.specs.Arrays.{rect_in}
use Rattle.writer.specs.Writing.{Wrote}
use Rattle.writer.proofs.WritingLaws.{wrote_as}
use Rattle.cm.specs.Board.{Board, no_box, lines_at, Lettered, Boxed, Inner}
use Rattle.cm.proofs.lines.WalkLineLaws.{boxes-count, box-frame, box-mem}

-- what the function asks of its arguments
abbrev Asked : ℕ → Board → ℕ → ℕ → ℕ → ℕ → Type 0
Asked n b origin y k at = (v : Canvas) × Boxed v n b × Inner n b.rects y k × (origin ≤ 255) × (at ≤ 2147483648)

module _ {n : ℕ} {b : Board} {origin y k at : ℕ} (G : Asked n b origin y k at) where
  module _ (top : ℕ) (top-is : top ≡ get_or b.rects (4 * k) 0) where
    low : y < canvas_height G.0
    low =
        let f = ap (λ (r : Rect). r.bottom) (box-frame G.1 k G.2.cell) in
        omega (arith, G.2.above, (G.1.lined.written.tiled.sized (get_or G.0.boxes k no_box) (box-mem G.1 k G.2.cell)).low)

    pub cell-asked : (bs : List Box) × Lettered bs b.text b.starts b.ends b.firsts b.heights × (k < length bs) × (y - 1 - top ≤ 128)
    cell-asked = (G.0.boxes, G.1.lettered, omega (arith, boxes-count G.1, G.2.cell), omega (arith, low, G.1.low))

    module _ (line : List ℕ)
        (told : (bs : List Box) → Lettered bs b.text b.starts b.ends b.firsts b.heights → k < length bs → line ≡ get_or (lines_at bs k) (y - 1 - top) no_text)
        (left right : ℕ) (left_is : left ≡ get_or b.rects (4 * k + 1) 0) (right_is : right ≡ get_or b.rects (4 * k + 3) 0) where
      module _ (v : Canvas) (B : Boxed v n b) where
        abbrev box : Box
        box = get_or v.boxes k no_box

        m : Memᴰ box v.boxes
        m = box-mem B k G.2.cell

        frame : box.frame ≡ rect_in b.rects k
        frame = box-frame B k G.2.cell

        left-same : box.frame.left ≡ left
        left-same = ap (λ (r : Rect). r.left) frame ∙ sym left_is

        right-same : box.frame.right ≡ right
        right-same = ap (λ (r : Rect). r.right) frame ∙ sym right_is

        index : y - box.frame.top - 1 ≡ y - 1 - top
        index = omega (arith, ap (λ (r : Rect). r.top) frame)

        line-is : get_or box.lines (y - box.frame.top - 1) no_text ≡ line
        line-is = ap (λ (i : ℕ). get_or box.lines i no_text) index ∙ sym (told v.boxes B.lettered (omega (arith, boxes-count B, G.2.cell)))

        inner-is : inner_line origin box y ≡ space ∷ line ++ replicate (right - left - 2 - columns_from (origin + left + 2) (char_indices line)) space
        unfolding inner_line
        inner-is = rw (line-is, left-same, right-same) refl

        fits : columns_from (origin + left + 2) (char_indices line) + left + 2 ≤ right
        fits = rw (line-is, left-same, right-same) at (text-fits origin box y (B.lined.written.texts box m (y - box.frame.top - 1)))

        well : well_formed line ≡ true
        well = rw line-is at (B.lined.written.texts box m (y - box.frame.top - 1)).well

        short : length line ≤ 512
        short = rw line-is at (B.short box m (y - box.frame.top - 1))

        right_near : right < canvas_width v
        right_near = rw right-same at (B.lined.written.tiled.sized box m).near

      pub inner-fits : columns_from (origin + left + 2) (char_indices line) + left + 2 ≤ right
      inner-fits = fits G.0 G.1

      right-low : right < 128
      right-low = omega (arith, right_near G.0 G.1, G.1.narrow)

      pub inner-asked : (origin ≤ 255) × (right < 128) × (at ≤ 2147483648) × (length line ≤ 512) × (well_formed line ≡ true)
      inner-asked = (G.3, right-low, G.4, short G.0 G.1, well G.0 G.1)

      module _ {before after : List ℕ} {r : ℕ} (w : Wrote before at (space ∷ line ++ replicate (right - left - 2 - columns_from (origin + left + 2) (char_indices line)) space) after r) where
        pub inner-line : (v : Canvas) → Boxed v n b → Wrote before at (inner_line origin (get_or v.boxes k no_box) y) after r
        inner-line v B = wrote_as w (sym (inner-is v B))

        pub inner-few : r ≤ at + 641
        inner-few =
            let k = right - left - 2 - columns_from (origin + left + 2) (char_indices line) in
            omega (arith, w.next, length-append line (replicate k space), length-replicate k space, short G.0 G.1, right-low)
