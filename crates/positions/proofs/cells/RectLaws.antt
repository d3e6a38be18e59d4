-- Laws of the loop that writes the positions of cells.
use Prim.Native.Nat.{ℕ, ◌+◌, ◌*◌, ◌≤◌, ◌<◌}
use mathlib.Core.Path.{◌≡◌, refl, ◌∙◌}
use mathlib.Core.List.{List, ◌++◌}
use native.Mathlib.Nat.{zero-add}
use native.Mathlib.Omega.{arith}
use lib.ListN.{length, take, drop}
use Rattle.seq.proofs.Entries.{Written, none_written, all-written}
use Rattle.grid.specs.Answer.{over}
use Rattle.grid.specs.Values.{Rect}
use Rattle.representation.specs.Arrays.{rects_of, rect_in}
use Rattle.representation.proofs.RectsLaws.{length-rects, get_or-rects}
use Rattle.representation.proofs.HeldLaws.{no_rect}
use Rattle.sourcepos.specs.Positions.{Sourcepos, Placed}
use Rattle.sourcepos.specs.PositionsCall.{four_numbers}
use Rattle.positions.specs.Spans.{rect_span, rect_spans}
use Rattle.positions.proofs.span.SpanLaws.{four_numbers-next}

module _ (p : Placed) (offsets rects : List ℕ) (n : ℕ) where
  abbrev span : Rect → Sourcepos
  span r = rect_span p offsets r

  pub record RectSpansWritten (buffer : List ℕ) (k : ℕ) (out : List ℕ) : Type 0 where
    pub kept : length out ≡ length buffer
    pub room : 4 * n ≤ length buffer
    pub entries : Written (λ r. four_numbers (span r)) (rects_of n rects) 0 buffer k out

  pub rect_spans_written-none : (buffer : List ℕ) → 4 * n ≤ length buffer → RectSpansWritten buffer 0 buffer
  rect_spans_written-none buffer room = record { kept = refl; room = room; entries = none_written (λ r. four_numbers (span r)) (rects_of n rects) 0 buffer }

  module _ (buffer out : List ℕ) (k : ℕ) (w : RectSpansWritten buffer k out) where
    pub rect_spans_written-room : k < n → 4 * k + 4 ≤ length out
    rect_spans_written-room h = omega (arith, w.kept, w.room)

    pub rect_spans_written-next : k < n → (s : Sourcepos) → s ≡ span (rect_in rects k)
        → (out' : List ℕ) → out' ≡ take (4 * k) out ++ four_numbers s ++ drop (4 * k + 4) out → RectSpansWritten buffer (k + 1) out'
    rect_spans_written-next h s told out' g =
        let next =
        four_numbers-next span (rects_of n rects) buffer out k no_rect (rw length-rects h) (rw length-rects w.room)
        w.entries s (told ∙ rw (get_or-rects n k rects no_rect h)) out' g in
        record { kept = next.kept; room = w.room; entries = next }

    pub rect_spans_written-all : n ≤ k → out ≡ over (rect_spans p offsets (rects_of n rects)) buffer
    rect_spans_written-all h =
        all-written (λ r. four_numbers (span r)) (rects_of n rects) 0 buffer out k (rw length-rects h) w.entries
        ∙ rw zero-add
