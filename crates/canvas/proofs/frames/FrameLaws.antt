-- The borders of the first k cells in their array.
use Prim.Native.Nat.{ℕ, ◌+◌, ◌≤◌, ◌<◌}
use mathlib.Core.Path.{◌≡◌, refl, sym, ap, ◌∙◌}
use mathlib.Core.List.{List, [], ◌∷◌, map, map-append}
use native.Mathlib.Omega.{arith}
use native.Mathlib.Nat.{zero-add}
use lib.ListN.{length, length-map}
use lib.Seq.{ext_get_or}
use Rattle.seq.specs.Lists.{range, up_to}
use Rattle.seq.proofs.Ranges.{length-range}
use Rattle.seq.proofs.Positions.{get_d_map, get_or-made}
use Rattle.seq.proofs.Gathered.{range-step}
use Rattle.grid.specs.Values.{Rect, TableCell}
use Rattle.grid.specs.Flat.{cells_of_array}
use Rattle.grid.specs.LayoutCall.{rect_space}
use Rattle.drawing.specs.Plain.{box_of}
use Rattle.representation.specs.Arrays.{rects_of}
use Rattle.representation.specs.TableIn.{no_cell}
use Rattle.representation.proofs.HeldLaws.{no_rect}
use Rattle.representation.proofs.TableInLaws.{cells-length, cells_at}
use Rattle.trace.specs.Placing.{with_rect}
use Rattle.trace.proofs.rects.PlacingLaws.{with-rect}
use Rattle.canvas.specs.Frames.{frame_in, Placeable}

-- ---- the first k cells
pub record FramesSoFar (cells xs ys : List ℕ) (n : ℕ) (rects₀ rects : List ℕ) (k : ℕ) : Type 0 where
  pub placeable : (j : ℕ) → j < n → Placeable cells xs ys j
  pub within : k ≤ n
  pub kept : length rects ≡ length rects₀
  pub placed : rects_of k rects ≡ map (frame_in cells xs ys) (up_to k)

pub frames-start : (cells xs ys : List ℕ) (n : ℕ) (rects : List ℕ) → ((k : ℕ) → k < n → Placeable cells xs ys k) → FramesSoFar cells xs ys n rects rects 0
unfolding rects_of range
frames-start cells xs ys n rects all = record { placeable = all; within = omega arith; kept = refl; placed = refl }

-- the next cell
module _ (cells xs ys : List ℕ) (n : ℕ) (rects₀ rects : List ℕ) (k : ℕ) (s : FramesSoFar cells xs ys n rects₀ rects k) (h : k < n) where
  abbrev frame : Rect
  frame = frame_in cells xs ys k

  pub frame-room : n ≤ 1024 → rect_space ≤ length rects₀
      → ((k < 1024) × (rect_space ≤ length rects)) × ((frame.top < 256) × (frame.left < 256) × (frame.bottom < 256) × (frame.right < 256))
  frame-room few room =
      let p = s.placeable k h in
      ((omega arith, omega (arith, s.kept)), (omega (arith, p.top), omega (arith, p.left), omega (arith, p.bottom), omega (arith, p.right)))

  pub frames-next : (after : List ℕ) → n ≤ 1024 → rect_space ≤ length rects₀
      → length after ≡ length rects → after ≡ with_rect rects k (frame_in cells xs ys k) → FramesSoFar cells xs ys n rects₀ after (k + 1)
  frames-next after few room l e =
      record {
        placeable = s.placeable;
        within = omega arith;
        kept = l ∙ s.kept;
        placed = ap (rects_of (k + 1)) e ∙ with-rect rects k (frame_in cells xs ys k) (omega (arith, s.kept))
            ∙ rw (s.placed, range-step 0 k, zero-add k) (sym (map-append (frame_in cells xs ys) (up_to k) (k ∷ [])));
      }

-- the borders of the cells that the entries make, of whatever lines
module _ (cells xs ys : List ℕ) (n : ℕ) (lines : List (List ℕ)) where
  abbrev all : List TableCell
  all = cells_of_array n cells lines

  abbrev frame_of : TableCell → Rect
  frame_of c = (box_of xs ys c).frame

  frames-made : map (frame_in cells xs ys) (up_to n) ≡ map frame_of all
  unfolding box_of
  frames-made =
      let made = length-map (up_to n) (frame_in cells xs ys) ∙ length-range 0 n in
      ext_get_or no_rect (map (frame_in cells xs ys) (up_to n)) (map frame_of all) (made ∙ sym (length-map all frame_of ∙ cells-length n cells lines))
      (λ i u.
      let h : i < n = omega arith in
      get_or-made (frame_in cells xs ys) n i no_rect h
      ∙ sym (get_d_map frame_of all i no_rect no_cell (omega (arith, cells-length n cells lines)) ∙ ap frame_of (cells_at n cells lines i no_cell h)))

pub frames-end : (cells xs ys : List ℕ) (n : ℕ) (rects₀ rects : List ℕ) (k : ℕ) → FramesSoFar cells xs ys n rects₀ rects k → n ≤ k
    → (lines : List (List ℕ)) → rects_of n rects ≡ map (λ (c : TableCell). (box_of xs ys c).frame) (cells_of_array n cells lines)
frames-end cells xs ys n rects₀ rects k s h lines = let e : k ≡ n = omega (arith, s.within) in rw e at s.placed ∙ frames-made cells xs ys n lines
