-- 9 and 10 of a checked table, in the order of the code.
use Prim.Native.Nat.{ℕ, ◌≤◌}
use mathlib.Core.Path.{◌≡◌, refl, sym, ap, ◌∙◌}
use mathlib.Core.Bool.{true, false, not, ◌&&◌}
use mathlib.Core.List.{List, map}
use lib.Dec.{eqb}
use Rattle.seq.specs.Lists.{up_to, count, find}
use Rattle.grid.specs.Answer.{Answer, refuse}
use Rattle.grid.specs.Values.{Table}
use Rattle.grid.specs.Flat.{code_section}
use Rattle.representation.specs.TableIn.{table_in, Tabled}
use Rattle.reading.specs.Checks.{place_of}
use Rattle.std.specs.Prelude.{Option, Some, None}
use Rattle.drawing.specs.GridRules.{is_head, is_foot}
use Rattle.drawing.specs.Plain.{canvas_of}
use Rattle.drawing.specs.Redraw.{foot_without_head, misaligned}
use Rattle.drawing.specs.RedrawCall.{DrawingSizes, DrawingArrays}
use Rattle.drawing.proofs.LimitLaws.{table_too_large-parts}
use Rattle.alignment.specs.Corners.{Cornered, lacks_corner}
use Rattle.alignment.proofs.AlignmentLaws.{foot-told, misaligned-told}
use Rattle.cm.specs.Late.{late_sizes, late_arrays, canvas_answer, canvas_sizes, canvas_arrays}

module _ {origin columns n : ℕ} {cols sections cells lengths text : List ℕ} (T : Tabled origin columns n cols sections cells lengths text) where
  abbrev t : Table
  t = table_in columns n cols sections cells lengths text

  pub origin-low : origin ≤ 255
  origin-low = (table_too_large-parts origin t T.keeps.not_too_large).0

  module _ {heads foots : ℕ} (told : (heads ≡ count is_head (map code_section sections)) × (foots ≡ count is_foot (map code_section sections))) (out : DrawingArrays) where
    pub foot-refused : not (eqb foots 0) && eqb heads 0 ≡ true → (refuse 9 0 ≡ canvas_sizes t origin out) × (out ≡ canvas_arrays t origin out)
    unfolding canvas_sizes canvas_arrays canvas_answer
    foot-refused e = rw (sym (foot-told T told) ∙ e) (refl, refl)

    module _ (left : not (eqb foots 0) && eqb heads 0 ≡ false) where
      pub table-headed : foot_without_head t ≡ false
      table-headed = sym (foot-told T told) ∙ left

      module _ {marks : List ℕ} (C : Cornered cells n heads marks) (r : Option ℕ) (found : place_of r ≡ find (lacks_corner cols marks) (up_to columns)) where
        aligned : place_of r ≡ misaligned (canvas_of t)
        aligned = misaligned-told T told table-headed C r found

        pub corner-refused : (k : ℕ) → r ≡ Some k → (refuse 10 k ≡ canvas_sizes t origin out) × (out ≡ canvas_arrays t origin out)
        unfolding canvas_sizes canvas_arrays canvas_answer
        corner-refused k is = rw (table-headed, ← (ap place_of (sym is) ∙ aligned)) (refl, refl)

        pub late-same : r ≡ None → (answer : Answer DrawingSizes) (after : DrawingArrays) → (answer ≡ late_sizes (canvas_of t) origin out) × (after ≡ late_arrays (canvas_of t) origin out)
            → (answer ≡ canvas_sizes t origin out) × (after ≡ canvas_arrays t origin out)
        unfolding canvas_sizes canvas_arrays canvas_answer late_sizes late_arrays
        late-same is answer after (a, b) = rw (table-headed, ← (ap place_of (sym is) ∙ aligned)) (a, b)
