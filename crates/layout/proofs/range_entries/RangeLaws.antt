-- Laws of the loop that writes the ranges of one cell.
use Prim.Native.Nat.{ℕ, ◌+◌, ◌*◌, ◌-◌, ◌≤◌, ◌<◌}
use mathlib.Core.Path.{◌≡◌, refl, ◌∙◌}
use mathlib.Core.List.{List, [], ◌∷◌, ◌++◌}
use native.Mathlib.Omega.{arith}
use native.Mathlib.Numerals.{add-one}
use lib.ListN.{length, take, drop, get_or, set}
use Rattle.seq.proofs.Positions.{get_or-range}
use Rattle.seq.proofs.Ranges.{length-range}
use Rattle.seq.proofs.FlatMaps.{length-flat_map}
use Rattle.seq.proofs.Entries.{Written, none_written, all-written, write-sets}
use Rattle.seq.specs.Lists.{range}
use Rattle.grid.specs.Values.{Rect}
use Rattle.representation.specs.Arrays.{code_at}
use Rattle.grid.specs.Layout.{inner_lines}
use Rattle.representation.specs.LayoutEntries.{range_entries}

-- ---- the ranges of one cell
pub range_entries-length : (offsets : List ℕ) (r : Rect) → length (range_entries offsets r) ≡ 2 * (r.bottom - r.top - 1)
range_entries-length offsets r =
    length-flat_map 2 (λ y. (code_at offsets y r.left + 1) ∷ code_at offsets y r.right ∷ []) (inner_lines r) (λ y. refl) ∙ rw length-range

-- those on the inner lines above y, up to entry `end`
pub record RangesWritten (offsets : List ℕ) (r : Rect) (at : ℕ) (buffer : List ℕ) (y end : ℕ) (out : List ℕ) : Type 0 where
  pub reached : end ≡ at + 2 * (y - r.top - 1)
  pub entries : Written (λ y. (code_at offsets y r.left + 1) ∷ code_at offsets y r.right ∷ []) (range (r.top + 1) (r.bottom - r.top - 1)) at buffer (y - r.top - 1) out

module _ (offsets : List ℕ) (r : Rect) (at : ℕ) (buffer : List ℕ) where
  abbrev entry : ℕ → List ℕ
  entry y = (code_at offsets y r.left + 1) ∷ code_at offsets y r.right ∷ []

  pub ranges_written-none : RangesWritten offsets r at buffer (r.top + 1) at buffer
  ranges_written-none =
      let e : r.top + 1 - r.top - 1 ≡ 0 = omega arith in
      record { reached = omega arith; entries = rw e (none_written entry (range (r.top + 1) (r.bottom - r.top - 1)) at buffer) }

  module _ (y end : ℕ) (out : List ℕ) (w : RangesWritten offsets r at buffer y end out) where
    pub ranges_written-next : r.top + 1 ≤ y → y < r.bottom → at + 2 * (r.bottom - r.top - 1) ≤ length buffer
        → (start stop : ℕ) → start ≡ code_at offsets y r.left → stop ≡ code_at offsets y r.right
        → RangesWritten offsets r at buffer (y + 1) (end + 2) (set (set out end (start + 1)) (end + 1) stop)
    ranges_written-next low high room start stop starts stops =
        let k : y + 1 - r.top - 1 ≡ y - r.top - 1 + 1 = omega arith in
        let here : get_or (range (r.top + 1) (r.bottom - r.top - 1)) (y - r.top - 1) 0 ≡ y = get_or-range (r.top + 1) (r.bottom - r.top - 1) (y - r.top - 1) 0 (omega arith) ∙ omega arith in
        let step =
        write-sets entry (range (r.top + 1) (r.bottom - r.top - 1)) at buffer out (y - r.top - 1) 0 (rw length-range (omega arith)) w.entries 2 (λ b. refl)
        (rw length-range room) in
        record { reached = omega (arith, w.reached); entries = rw (k, add-one end, w.reached, starts, stops) (rw here at step) }

    pub ranges_written-all : r.top < r.bottom → r.bottom ≤ y → y ≤ r.bottom → out ≡ take at buffer ++ range_entries offsets r ++ drop end buffer
    ranges_written-all some high low =
        let last : end ≡ at + 2 * (r.bottom - r.top - 1) = omega (arith, w.reached) in
        all-written entry (range (r.top + 1) (r.bottom - r.top - 1)) at buffer out (y - r.top - 1) (rw length-range (omega arith)) w.entries
        ∙ rw (last, range_entries-length offsets r)
