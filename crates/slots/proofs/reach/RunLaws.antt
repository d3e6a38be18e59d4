-- Laws of specs/Reaching.antt: how far places of a line reach, from its last place to its first.
use Prim.Native.Nat.{ℕ, ◌+◌, ◌≤◌, ◌<◌}
use mathlib.Core.Path.{◌≡◌, sym, ◌∙◌}
use mathlib.Core.Bool.{Bool, true, false, ◌&&◌}
use mathlib.Core.Logic.{⊎_elim}
use native.Mathlib.Omega.{arith}
use native.Mathlib.Nat.{eq-or-lt_of_le}
use Rattle.seq.proofs.Tests.{true-not-false, and_intro}
use Rattle.slots.specs.Reaching.{RunsFrom}

pub runs_none : (size : ℕ) (border : ℕ → Bool) (reach : ℕ → ℕ) → RunsFrom size size border reach
runs_none size border reach =
    record {
      self = λ x low high. absurd (omega arith);
      inside = λ x low high. absurd (omega arith);
      run = λ x e low high. absurd (omega arith);
      whole = λ x e low high over. absurd (omega arith);
    }

pub runs_same : {from size : ℕ} {border : ℕ → Bool} {reach reach' : ℕ → ℕ} → RunsFrom from size border reach
    → ((k : ℕ) → from ≤ k → k < size → reach' k ≡ reach k) → RunsFrom from size border reach'
runs_same runs same =
    record {
      self = λ x low high. rw (same x low high) (runs.self x low high);
      inside = λ x low high. rw (same x low high) (runs.inside x low high);
      run = λ x e low high over within. runs.run x e low high over (rw (same x low high) at within);
      whole = λ x e low high over all. rw (same x low (omega arith)) (runs.whole x e low high over all);
    }

-- without two borders side by side each place reaches itself
pub runs-self : {size : ℕ} {border : ℕ → Bool} {reach : ℕ → ℕ} → ((x : ℕ) → x + 1 < size → border x && border (x + 1) ≡ false)
    → ((x : ℕ) → x < size → reach x ≡ x) → RunsFrom 0 size border reach
runs-self apart selves =
    record {
      self = λ x low high. omega (arith, selves x high);
      inside = λ x low high. omega (arith, selves x high);
      run = λ x e low high over within. absurd (omega (arith, selves x high));
      whole = λ x e low high over all.
          absurd (true-not-false (sym (and_intro (all x (omega arith) (omega arith)) (all (x + 1) (omega arith) (omega arith))) ∙ apart x (omega arith)));
    }

-- one place more, x, before those that are known
module _ {x size : ℕ} {border : ℕ → Bool} {reach reach' : ℕ → ℕ} (later : RunsFrom (x + 1) size border reach) (here : x < size)
    (same : (k : ℕ) → x < k → k < size → reach' k ≡ reach k) where
  runs-before : x ≤ reach' x → reach' x < size
      → ((e : ℕ) → x < e → e ≤ reach' x → (k : ℕ) → x ≤ k → k ≤ e → border k ≡ true)
      → ((e : ℕ) → e < size → x < e → ((k : ℕ) → x ≤ k → k ≤ e → border k ≡ true) → e ≤ reach' x)
      → RunsFrom x size border reach'
  runs-before low high run whole =
      record {
        self = λ z from to. ⊎_elim (λ (e : x ≡ z). rw (← e) low) (λ (past : x < z). rest.self z (omega arith) to) (eq-or-lt_of_le from);
        inside = λ z from to. ⊎_elim (λ (e : x ≡ z). rw (← e) high) (λ (past : x < z). rest.inside z (omega arith) to) (eq-or-lt_of_le from);
        run = λ z e from to over within k.
            ⊎_elim (λ (q : x ≡ z). rw (← q) (run e (omega arith) (rw (← q) at within) k))
            (λ (past : x < z). rest.run z e (omega arith) to over within k) (eq-or-lt_of_le from);
        whole = λ z e from to over all.
            ⊎_elim (λ (q : x ≡ z). rw (← q) (whole e to (omega arith) (λ k low. all k (omega arith))))
            (λ (past : x < z). rest.whole z e (omega arith) to over all) (eq-or-lt_of_le from);
      } where
        rest : RunsFrom (x + 1) size border reach'
        rest = runs_same later (λ k low. same k (omega arith))

  -- a run goes on from x to the next place
  pub runs_on : x + 1 < size → border x ≡ true → border (x + 1) ≡ true → reach' x ≡ reach (x + 1) → RunsFrom x size border reach'
  runs_on next at_x at_next is =
      runs-before (omega (arith, later.self (x + 1) (omega arith) next)) (omega (arith, later.inside (x + 1) (omega arith) next)) run whole where
        run : (e : ℕ) → x < e → e ≤ reach' x → (k : ℕ) → x ≤ k → k ≤ e → border k ≡ true
        run e over within k low high =
            ⊎_elim (λ (q : x ≡ k). rw (← q) at_x)
            (λ (past : x < k).
            ⊎_elim (λ (q : x + 1 ≡ k). rw (← q) at_next)
            (λ (far : x + 1 < k). later.run (x + 1) e (omega arith) next (omega arith) (omega arith) k (omega arith) high) (eq-or-lt_of_le (let h : x + 1 ≤ k = omega arith in h)))
            (eq-or-lt_of_le low)

        whole : (e : ℕ) → e < size → x < e → ((k : ℕ) → x ≤ k → k ≤ e → border k ≡ true) → e ≤ reach' x
        whole e to over all =
            ⊎_elim (λ (q : x + 1 ≡ e). omega (arith, later.self (x + 1) (omega arith) next))
            (λ (far : x + 1 < e). omega (arith, later.whole (x + 1) e (omega arith) to far (λ k low. all k (omega arith)))) (eq-or-lt_of_le (let h : x + 1 ≤ e = omega arith in h))

  -- it ends at x, which is no border or has none after it
  pub runs-off : (x + 1 < size → border x ≡ true → border (x + 1) ≡ true → ⊥) → reach' x ≡ x → RunsFrom x size border reach'
  runs-off ends is =
      runs-before (omega arith) (omega arith) (λ e over within. absurd (omega arith))
      (λ e to over all. absurd (ends (omega arith) (all x (omega arith) (omega arith)) (all (x + 1) (omega arith) (omega arith))))
