-- Laws of the loop that writes the cut lines of a cell.
use Prim.Native.Nat.{ℕ, ◌+◌, ◌*◌, ◌-◌, ◌≤◌, ◌<◌}
use mathlib.Core.Path.{◌≡◌, refl, ap, ◌∙◌}
use mathlib.Core.List.{List, [], ◌∷◌, ◌++◌, flat_map}
use native.Mathlib.Omega.{arith}
use native.Mathlib.Nat.{zero-add}
use lib.ListN.{length, get_or, take, drop, length-map}
use lib.Seq.{length-take-le}
use Rattle.seq.proofs.Ranges.{length-range}
use Rattle.seq.proofs.Positions.{get_or-range, get_d_map}
use Rattle.seq.proofs.FlatMaps.{length-flat_map}
use Rattle.seq.proofs.Entries.{Written, none_written, all-written, write-more}
use Rattle.grid.specs.Answer.{over}
use Rattle.grid.specs.Values.{Rect}
use Rattle.grid.specs.Layout.{inner_lines}
use Rattle.grid.specs.CutCall.{CutNumbers, cut_numbers}
use Rattle.grid.specs.TableCall.{four_of, cut_array}
use Rattle.fragments.specs.declared.part.Piece.{Piece}
use Rattle.cell.specs.Text.{Source, fragment_between, Cuttable, PieceOf, Framed}
use Rattle.cell.specs.Cuts.{cuts_of}

abbrev no_cut : CutNumbers
no_cut = record { start = 0; end = 0; line = 0; byte = 0; column = 0 }

-- one for each inner line, and four entries for each
pub length-cuts : (s : Source) (r : Rect) → length (cuts_of s r) ≡ r.bottom - r.top - 1
length-cuts s r =
    length-map (inner_lines r) (λ y. cut_numbers 0 (fragment_between s r.left r.right y)) ∙ length-range (r.top + 1) (r.bottom - r.top - 1)

pub length-entries : (s : Source) (r : Rect) → length (cut_array (cuts_of s r)) ≡ 4 * (r.bottom - r.top - 1)
length-entries s r = length-flat_map 4 four_of (cuts_of s r) (λ b. refl) ∙ ap (λ n. 4 * n) (length-cuts s r)

-- the cuts of the inner lines above y
pub record CutsWritten (s : Source) (r : Rect) (buffer : List ℕ) (y : ℕ) (out : List ℕ) : Type 0 where
  pub entries : Written four_of (cuts_of s r) 0 buffer (y - r.top - 1) out

module _ (s : Source) (r : Rect) (buffer : List ℕ) where
  pub cuts_written-none : CutsWritten s r buffer (r.top + 1) buffer
  cuts_written-none = let e : r.top + 1 - r.top - 1 ≡ 0 = omega arith in record { entries = rw e (none_written four_of (cuts_of s r) 0 buffer) }

  module _ (y : ℕ) (low : r.top < y) where
    module _ (framed : Framed s r) (high : y < r.bottom) where
      pub framed-cuttable : Cuttable s r.left r.right y
      framed-cuttable = framed.borders y low high

    module _ (out : List ℕ) (w : CutsWritten s r buffer y out) where
      pub cuts_written-next : (p : Piece) → y < r.bottom → 4 * (r.bottom - r.top - 1) ≤ length buffer → PieceOf s r.left r.right y p → (at : ℕ) (out' : List ℕ)
          → out' ≡ take at out ++ (y ∷ p.start.0 ∷ p.end.0 ∷ p.column.0 ∷ []) ++ drop (at + 4) out → at ≡ 4 * (y - r.top - 1) → CutsWritten s r buffer (y + 1) out'
      cuts_written-next p high room told at out' written e =
          let k : y + 1 - r.top - 1 ≡ y - r.top - 1 + 1 = omega arith in
          let before : length (flat_map four_of (take (y - r.top - 1) (cuts_of s r))) ≡ 4 * (y - r.top - 1) =
          length-flat_map 4 four_of (take (y - r.top - 1) (cuts_of s r)) (λ b. refl) ∙ rw (length-take-le (y - r.top - 1) (cuts_of s r) (rw (length-cuts s r) (omega arith))) in
          let here : get_or (cuts_of s r) (y - r.top - 1) no_cut ≡ record { start = p.start.0; end = p.end.0; line = y; byte = p.start.0; column = p.column.0 } =
          get_d_map (λ y. cut_numbers 0 (fragment_between s r.left r.right y)) (inner_lines r) (y - r.top - 1) no_cut 0 (rw length-range (omega arith))
          ∙ ap (λ y. cut_numbers 0 (fragment_between s r.left r.right y)) (get_or-range (r.top + 1) (r.bottom - r.top - 1) (y - r.top - 1) 0 (omega arith) ∙ omega arith) ∙ told.numbers in
          record {
            entries =
                rw k
                (write-more four_of (cuts_of s r) 0 buffer out (y - r.top - 1) no_cut (rw (length-cuts s r) (omega arith)) w.entries at out' (rw before (omega arith)) (omega arith)
                (rw here written));
          }

      pub cuts_written-all : r.bottom ≤ y → out ≡ over (cut_array (cuts_of s r)) buffer
      cuts_written-all high = all-written four_of (cuts_of s r) 0 buffer out (y - r.top - 1) (rw (length-cuts s r) (omega arith)) w.entries ∙ rw zero-add
