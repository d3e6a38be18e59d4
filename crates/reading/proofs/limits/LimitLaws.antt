-- Laws of the limits of a drawing.
use Prim.Native.Nat.{ℕ, zero, suc, ◌≤◌}
use mathlib.Core.Path.{◌≡◌, refl, sym, ◌∙◌}
use mathlib.Core.Bool.{false, ◌||◌}
use mathlib.Core.List.{List, [], ◌∷◌}
use native.Mathlib.Omega.{arith}
use lib.Dec.{ltb}
use lib.ListN.{length, get_or}
use Rattle.std.specs.List.{list_any}
use Rattle.std.specs.Ordering.{is_lt, nat_cmp}
use borrow.Author.Tests.{ltb-false}
use Rattle.std.proofs.lemmas.Bool.Decides.{nat_tests}
use Rattle.seq.specs.Lists.{any, sum}
use Rattle.seq.proofs.Tests.{or-neither}
use Rattle.grid.specs.Limits.{max_lines, max_line_bytes, max_bytes, max_origin}
use Rattle.grid.specs.Flat.{FlatDrawing, lines_of}
use Rattle.grid.specs.Read.{drawing_too_large}
use Rattle.reading.specs.Agreement.{Agree, WithinLimits, any_over}
use Rattle.grid.proofs.FlatLaws.{length-lines, lengths-lines, any-line-too-large}

-- ---- a number over a limit
pub any-listed : (limit : ℕ) (numbers : List ℕ) → list_any (λ n. ltb limit n) numbers ≡ any_over limit numbers
unfolding any_over any
any-listed limit [] = refl
any-listed limit (n ∷ ns) = rw (any-listed limit ns)

-- by the order of numbers
below : (a b : ℕ) → is_lt (nat_cmp a b) ≡ ltb a b
below a b = grind (arith, nat_tests)

pub over-listed : (limit : ℕ) (numbers : List ℕ) → list_any (λ n. is_lt (nat_cmp limit n)) numbers ≡ any_over limit numbers
unfolding any_over any
over-listed limit [] = refl
over-listed limit (n ∷ ns) = rw (below limit n, over-listed limit ns)

pub none-over-limit : (limit : ℕ) (numbers : List ℕ) → any_over limit numbers ≡ false → (i : ℕ) → get_or numbers i 0 ≤ limit
unfolding any_over any
none-over-limit limit [] e i = omega arith
none-over-limit limit (n ∷ ns) e zero = ltb-false limit n (or-neither (ltb limit n) (any (λ n. ltb limit n) ns) e).0
none-over-limit limit (n ∷ ns) e (suc i) = none-over-limit limit ns (or-neither (ltb limit n) (any (λ n. ltb limit n) ns) e).1 i

-- ---- a drawing's limits
module _ (d : FlatDrawing) (agree : Agree d.lengths d.columns d.text) where
  pub limits-apart : drawing_too_large (lines_of d)
      ≡ ltb max_lines (length d.lengths) || (any_over max_line_bytes d.lengths || any_over max_origin d.columns) || ltb max_bytes (length d.text)
  unfolding lines_of drawing_too_large any_over
  limits-apart =
      let h : sum d.lengths ≤ length d.text = omega (arith, agree.bytes_agree) in
      rw (length-lines, any-line-too-large d.lengths d.columns d.text agree.columns_agree h, lengths-lines d.lengths d.columns d.text h, agree.bytes_agree)

  -- a drawing that is not too large
  pub large-limited : drawing_too_large (lines_of d) ≡ false → WithinLimits d.lengths d.columns d.text
  large-limited small =
      let e = sym limits-apart ∙ small in
      record {
        agreed = agree;
        few_lines = grind (arith, nat_tests);
        short_lines = none-over-limit max_line_bytes d.lengths (grind (arith, nat_tests));
        near_columns = none-over-limit max_origin d.columns (grind (arith, nat_tests));
        few_bytes = grind (arith, nat_tests);
      }
