-- Laws of the loops that write and count the ranges of all cells.
use Prim.Native.Nat.{ℕ, ◌+◌, ◌*◌, ◌-◌, ◌≤◌, ◌<◌}
use mathlib.Core.Path.{◌≡◌, refl, sym, ap, subst, ◌∙◌}
use mathlib.Core.List.{List, ◌++◌, flat_map, Memᴰ}
use native.Mathlib.Omega.{arith}
use native.Mathlib.Nat.{zero-add}
use lib.ListN.{length, take, drop, get_or}
use lib.Seq.{take_all}
use Rattle.seq.proofs.Entries.{Written, length_more, first-shorter, none_written, all-written, write-more}
use Rattle.grid.specs.Answer.{over}
use Rattle.seq.specs.Lists.{sum}
use Rattle.grid.specs.Values as grid
use Rattle.grid.specs.Layout.{inner_count}
use Rattle.representation.specs.Arrays.{code_at, rect_in}
use Rattle.seq.proofs.Walks.{sum_more}
use Rattle.representation.proofs.RectsLaws.{length-rects, get_or-rects}
use Rattle.representation.specs.Lent.{rect_of}
use Rattle.representation.specs.LayoutEntries.{range_entries, all_ranges, Inside}
use Rattle.representation.specs.Traced.{rects_held}
use Rattle.representation.specs.declared.rect.Rect.{Rect}
use Rattle.representation.specs.declared.rects.Rects.{Rects}
use Rattle.representation.proofs.HeldLaws.{no_rect, rect-holds}
use Rattle.layout.proofs.range_entries.RangeLaws.{range_entries-length}

-- ---- the ranges of all cells
-- those of the first k, up to entry `end`
pub record AllRangesWritten (rects : Rects) (offsets buffer : List ℕ) (k end : ℕ) (out : List ℕ) : Type 0 where
  pub reached : end ≡ length (flat_map (range_entries offsets) (take k (rects_held rects)))
  pub entries : Written (range_entries offsets) (rects_held rects) 0 buffer k out

pub all_ranges_written-none : (rects : Rects) (offsets buffer : List ℕ) → AllRangesWritten rects offsets buffer 0 0 buffer
unfolding flat_map
all_ranges_written-none rects offsets buffer = record { reached = refl; entries = none_written (range_entries offsets) (rects_held rects) 0 buffer }

-- what holds on the inner lines of each rectangle holds on those of this one
pub rect-low : (rects : Rects) (offsets : List ℕ) (k : ℕ) → k < rects.count → (r : Rect) → rect_of r ≡ rect_in rects.array.now k
    → ((r : grid.Rect) → Memᴰ r (rects_held rects) → (y : ℕ) → r.top < y → y < r.bottom → code_at offsets y r.left < 512)
    → (y : ℕ) → r.top < y → y < r.bottom → code_at offsets y r.left.0 < 512
rect-low rects offsets k h r e small =
    let LowBytes : grid.Rect → Type 0 = λ q. (y : ℕ) → q.top < y → y < q.bottom → code_at offsets y q.left < 512 in
    subst LowBytes (sym e) (rect-holds LowBytes rects.array.now rects.count k h small)

module _ (rects : Rects) (offsets buffer : List ℕ) (k end : ℕ) (out : List ℕ) (w : AllRangesWritten rects offsets buffer k end out) where
  module _ (h : k < rects.count) (r : Rect) (e : rect_of r ≡ rect_in rects.array.now k) where
    entries-here : range_entries offsets (get_or (rects_held rects) k no_rect) ≡ range_entries offsets (rect_of r)
    entries-here = ap (range_entries offsets) (get_or-rects rects.count k rects.array.now no_rect h ∙ sym e)

    reached-next : end + 2 * (r.bottom - r.top - 1) ≡ length (flat_map (range_entries offsets) (take (k + 1) (rects_held rects)))
    reached-next =
        omega (arith, w.reached, length_more (range_entries offsets) (rects_held rects) k no_rect (rw length-rects h), ap length entries-here, range_entries-length offsets (rect_of r))

    pub all_ranges_written-room : length (all_ranges offsets (rects_held rects)) ≤ length buffer → end + 2 * (r.bottom - r.top - 1) ≤ length out
    all_ranges_written-room room = omega (arith, reached-next, first-shorter (range_entries offsets) (rects_held rects) (k + 1), room, w.entries.kept)

    pub all_ranges_written-next : length (all_ranges offsets (rects_held rects)) ≤ length buffer → (end' : ℕ) (out' : List ℕ)
        → end' ≡ end + 2 * (r.bottom - r.top - 1) → out' ≡ take end out ++ range_entries offsets (rect_of r) ++ drop end' out
        → AllRangesWritten rects offsets buffer (k + 1) end' out'
    all_ranges_written-next room end' out' f g =
        record {
          reached = f ∙ reached-next;
          entries =
              write-more (range_entries offsets) (rects_held rects) 0 buffer out k no_rect (rw length-rects h) w.entries end out' (rw zero-add w.reached)
              (rw (entries-here, range_entries-length offsets (rect_of r)) (omega (arith, all_ranges_written-room room, w.entries.kept)))
              (rw (entries-here, range_entries-length offsets (rect_of r)) (rw f at g));
        }

  pub all_ranges_written-all : rects.count ≤ k → out ≡ over (all_ranges offsets (rects_held rects)) buffer
  all_ranges_written-all h = all-written (range_entries offsets) (rects_held rects) 0 buffer out k (rw length-rects h) w.entries ∙ rw zero-add

-- ---- how many
pub record RangesCounted (rects : Rects) (k count : ℕ) : Type 0 where
  pub few : count ≤ 128 * k
  pub counted : count ≡ inner_count (take k (rects_held rects))

pub ranges_counted-none : (rects : Rects) → RangesCounted rects 0 0
unfolding sum
ranges_counted-none rects = record { few = omega arith; counted = refl }

module _ (rects : Rects) (k count : ℕ) (c : RangesCounted rects k count) where
  module _ (h : k < rects.count) (r : Rect) (e : rect_of r ≡ rect_in rects.array.now k) (i : Inside 128 128 (rect_of r)) where
    pub ranges_counted-next : RangesCounted rects (k + 1) (count + (r.bottom - r.top - 1))
    ranges_counted-next =
        let here : get_or (rects_held rects) k no_rect ≡ rect_of r = get_or-rects rects.count k rects.array.now no_rect h ∙ sym e in
        let more = rw here at (sum_more (λ (q : grid.Rect). q.bottom - q.top - 1) (rects_held rects) k no_rect (rw length-rects h)) in
        record { few = omega (arith, c.few, i.tall); counted = rw c.counted (sym more) }

  pub ranges_counted-all : rects.count ≤ k → count ≡ inner_count (rects_held rects)
  ranges_counted-all h = c.counted ∙ rw (take_all k (rects_held rects) (rw length-rects h))
