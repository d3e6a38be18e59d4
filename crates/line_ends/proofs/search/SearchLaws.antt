-- The walk from the last end of a register to its first: of the ends from i on that reach a line and column, the last.
use Rattle.std.proofs.Common.{ℕ, suc, ◌+◌, ◌-◌, ◌≤◌, ◌<◌, ◌≡◌, true, false, List, ◌∷◌, map, ap, ◌∙◌, arith}
use Rattle.std.proofs.Math.Option as math
use native.Mathlib.Nat.{sub_self}
use Rattle.seq.specs.Lists.{range, select}
use Rattle.sourcepos.specs.declared.CellLineEnd.{CellLineEnd}
use Rattle.sourcepos.specs.LineEnds.{reaches, later, last_end}
use Rattle.sourcepos.specs.LineEndCalls.{Register, end_at, ends_of}

module _ (g : Register) (line column : ℕ) where
  abbrev last_of : List ℕ → math.Option CellLineEnd
  last_of numbers = last_end (select (reaches line column) (map (end_at g) numbers))

  unfoldable pub behind : ℕ → math.Option CellLineEnd
  behind i = last_of (range i (g.count - i))

  pub behind-none : math.none ≡ behind g.count
  unfolding behind select last_end range
  behind-none = rw (sub_self g.count)

  module _ (i : ℕ) (some_left : 0 < i) (h : i ≤ g.count) where
    one_more : range (i - 1) (g.count - (i - 1)) ≡ (i - 1) ∷ range i (g.count - i)
    unfolding range
    one_more =
        ap (range (i - 1)) (let more : g.count - (i - 1) ≡ suc (g.count - i) = omega (arith, some_left, h) in more)
        ∙ ap (λ (j : ℕ). (i - 1) ∷ range j (g.count - i)) (let next : i - 1 + 1 ≡ i = omega (arith, some_left) in next)

    pub behind-past : reaches line column (end_at g (i - 1)) ≡ false → behind (i - 1) ≡ behind i
    unfolding behind select
    behind-past passed = ap last_of one_more ∙ rw passed

    pub behind-here : reaches line column (end_at g (i - 1)) ≡ true → behind (i - 1) ≡ math.some (later (end_at g (i - 1)) (behind i))
    unfolding behind select last_end
    behind-here reached = ap last_of one_more ∙ rw reached

  pub behind-all : behind 0 ≡ last_end (select (reaches line column) (ends_of g))
  unfolding behind ends_of
  behind-all = ap (λ (n : ℕ). last_of (range 0 n)) (omega arith)
