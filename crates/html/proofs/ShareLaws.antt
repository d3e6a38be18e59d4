-- `hundredths_of-most`: no column has more than 100 percent.
use Prim.Native.Nat.{ℕ, zero, suc, ◌+◌, ◌*◌, ◌/◌, ◌≤◌, ◌<◌}
use mathlib.Core.Path.{◌≡◌}
use native.Mathlib.Nat.{div-lt_iff_lt-mul}
use native.Mathlib.Omega.{arith}
use borrow.Author.Tests.{ne_eqb}
use Rattle.html.specs.Shares.{hundredths_of}

pub hundredths_of-most : (width total : ℕ) → width ≤ total → hundredths_of width total ≤ 10000
unfolding hundredths_of
hundredths_of-most width zero h = omega arith
hundredths_of-most width (suc t) h =
    let some : 0 < 2 * suc t = omega arith in
    let small : 2 * (width * 10000) + suc t < 10001 * (2 * suc t) = omega arith in
    let below : (2 * (width * 10000) + suc t) / (2 * suc t) < 10001 = (div-lt_iff_lt-mul some).1 small in
    rw (ne_eqb (suc t) 0 (λ (e : suc t ≡ 0). absurd (omega (arith, e)))) (omega (arith, below))
