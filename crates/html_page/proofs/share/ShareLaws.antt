-- `percent-once`: a whole number that an f64 holds, divided by 100.0, is the quotient rounded once. `half_up` and `none_of` are the
-- hundredths as they are computed, `hundredths-fit` that 32 bits hold them.
use Prim.Native.Nat.{ℕ, suc, ◌+◌, ◌*◌, ◌/◌, ◌^◌, ◌≤◌, ◌<◌}
use mathlib.Core.Path.{◌≡◌, refl, ap, ◌∙◌}
use mathlib.Core.Bool.{true, false}
use native.Mathlib.Nat.{mul-pos, mul-add, mul_assoc, mul_comm, mul-le-mul_right, div-le_of_le-mul}
use native.Mathlib.Omega.{arith}
use lib.Dec.{lit<}
use lib.IntN.{ℤ, pos, negsuc}
use lib.Pow.{pow_pos}
use lib.Ieee.{Float, nan, inf, fin, binary64, div, up, down, round, of_int}
use lib.Ieee.Exact.{HasValue}
use lib.Ieee.Back.{round_whole}
use lib.Ieee.Scale.{round_same}
use borrow.Author.Tests.{eq-eqb, ne_eqb}
use Rattle.html.specs.Shares.{hundredths_of, percent_of}

down_pos : (e : ℤ) → 0 < down e
down_pos (pos k) = lit< tt
down_pos (negsuc k) = pow_pos (suc k)

-- 100.0 is 25 * 2 ^ 2
div-100 : (x : Float) (h : ℕ) → HasValue x false h 1 → div binary64 x (fin false 25 (pos 2)) ≡ round binary64 false h 100
unfolding div
div-100 nan h v = absurd v
div-100 (inf t) h v = absurd v
div-100 (fin true m e) h v = let z : true ≡ false = v.0 in let o : ◌≡◌ {A = ℕ} 0 1 = cc in absurd (omega arith)
div-100 (fin false m e) h v =
    round_same binary64 false (m * up e * 1) (100 * down e) h 100 (mul-pos (lit< tt) (down_pos e)) (lit< tt)
    (ap (λ (k : ℕ). k * 100) v.1 ∙ mul_assoc h (down e) 100 ∙ ap (λ (k : ℕ). h * k) (mul_comm (down e) 100))

pub percent-once : (h : ℕ) → h ≤ 2 ^ 53 → div binary64 (of_int binary64 (pos h)) (fin false 25 (pos 2)) ≡ percent_of h
unfolding of_int percent_of
percent-once h p = div-100 (round binary64 false h 1) h (round_whole binary64 false h p)

pub none_of : (w t : ℕ) → t ≡ 0 → 0 ≡ hundredths_of w t
unfolding hundredths_of
none_of w t e = rw (eq-eqb t 0 e) refl

module _ (w t : ℕ) (some : t ≡ 0 → ⊥) where
  pub half_up : (2 * (w * 10000) + t) / (2 * t) ≡ hundredths_of w t
  unfolding hundredths_of
  half_up = rw (ne_eqb t 0 some) refl

  pub hundredths-fit : (half : ℕ) → half ≤ t → w < 65536 → (2 * (w * 10000) + half) / (2 * t) < 2 ^ 32
  hundredths-fit half h g =
      let a = w * 10000 in
      let pairs : 2 * a ≤ 2 * t * a = mul-le-mul_right a (omega arith) in
      let whole : 2 * t * (a + 1) ≡ 2 * t * a + 2 * t * 1 = mul-add (2 * t) a 1 in
      let few : (2 * a + half) / (2 * t) ≤ a + 1 = div-le_of_le-mul (2 * t) (omega (arith, pairs, whole)) in
      omega (arith, few)
