-- Laws of answers. A chain of checks that refuses with a number: a check with another number was passed (`refuse_if-passed`,
-- `refuse_at-passed`), one with that number gave the place (`refuse_at-here`). `over-taken`: a result, taken from where it was written.
use Prim.Native.Nat.{ℕ}
use mathlib.Core.Path.{◌≡◌, refl, ap}
use mathlib.Core.Bool.{Bool, true, false}
use mathlib.Core.Option.{Option, none, some}
use mathlib.Core.List.{List}
use lib.ListN.{length, take, drop}
use lib.Seq.{take_at}
use Rattle.grid.specs.Answer.{Answer, accept, refuse, refuse_if, refuse_at, over}

module _ {A : Type 0} where
  pub accept-same : {a b : A} → ◌≡◌ {A = Answer A} (accept a) (accept b) → a ≡ b
  accept-same e = cc

  pub refuse_if-passed : (b : Bool) (n : ℕ) (next : Answer A) (m k : ℕ) → (n ≡ m → ⊥) → refuse_if b n next ≡ refuse m k → b ≡ false
  refuse_if-passed true n next m k other e = absurd (other (cc))
  refuse_if-passed false n next m k other e = refl

  pub refuse_at-passed : (p : Option ℕ) (n : ℕ) (next : Answer A) (m k : ℕ) → (n ≡ m → ⊥) → refuse_at p n next ≡ refuse m k → p ≡ none
  refuse_at-passed none n next m k other e = refl
  refuse_at-passed (some j) n next m k other e = absurd (other (cc))

  pub refuse_at-here : (p : Option ℕ) (n : ℕ) (next : Answer A) (k : ℕ) → (next ≡ refuse n k → ⊥) → refuse_at p n next ≡ refuse n k → p ≡ some k
  refuse_at-here none n next k later e = absurd (later e)
  refuse_at-here (some j) n next k later e = ap some (cc)

-- a result, taken from the array that it was written to
pub over-taken : (n : ℕ) (result buffer : List ℕ) → length result ≡ n → take n (over result buffer) ≡ result
over-taken n result buffer e = take_at result (drop (length result) buffer) n e
