-- Laws of a sum of sizes.
use Prim.Native.Nat.{ℕ, ◌+◌, ◌*◌, ◌≤◌, ◌<◌}
use mathlib.Core.Path.{◌≡◌, refl}
use mathlib.Core.List.{List}
use native.Mathlib.Omega.{arith}
use lib.ListN.{length, get_or, take, drop, length-drop}
use lib.Seq.{get_or-drop}
use mir.Syntax.{w64}
use mir.Val.{Fits}
use borrow.Author.Rules.{Fits-under}
use Rattle.seq.specs.Lists.{sum}
use Rattle.seq.proofs.Gathered.{sum_step}
use Rattle.sizes.specs.Needs.{EachAtMost}

-- the first i sizes from `from` on add up to `total`
pub record Totalling (from span : ℕ) (sizes : List ℕ) (total i : ℕ) : Type 0 where
  pub inside : from + span ≤ 128
  pub room : length sizes ≡ 128
  pub small : EachAtMost (65535 * 1025) sizes
  pub added : total ≡ sum (take i (drop from sizes))
  pub few : total ≤ 65535 * 1025 * i

pub none-added : (from span : ℕ) (sizes : List ℕ) → (from + span ≤ 128) × (length sizes ≡ 128) × EachAtMost (65535 * 1025) sizes → Totalling from span sizes 0 0
unfolding sum
none-added from span sizes given = record { inside = given.0; room = given.1; small = given.2; added = refl; few = omega arith }

module _ {from span : ℕ} {sizes : List ℕ} {total i : ℕ} (t : Totalling from span sizes total i) where
  module _ (h : i < span) where
    pub total-fits : Fits w64 (total + get_or sizes (from + i) 0)
    total-fits = Fits-under w64 (total + get_or sizes (from + i) 0) 10000000000 (omega (arith, t.few, t.small (from + i), t.inside)) tt

    pub one-added : Totalling from span sizes (total + get_or sizes (from + i) 0) (i + 1)
    one-added =
        record {
          inside = t.inside;
          room = t.room;
          small = t.small;
          added = omega (arith, t.added, sum_step (drop from sizes) i (omega (arith, length-drop from sizes, t.inside, t.room)), get_or-drop from sizes i 0);
          few = omega (arith, t.few, t.small (from + i));
        }

  module _ (low : i ≤ span) (high : span ≤ i) where
    pub total-small : total ≤ 65535 * 1025 * 128
    total-small = omega (arith, t.few, t.inside)
