-- `percent-is-number`: a share's percent is no NaN, since rounding never gives one.
use Prim.Native.Nat.{ℕ, zero, suc, ◌+◌, ◌-◌, ◌*◌, ◌/◌, ◌%◌, ◌^◌, compare}
use mathlib.Core.Path.{◌≡◌}
use mathlib.Core.Bool.{Bool, true, false, cond, not}
use lib.Dec.{T, ltb}
use lib.Ieee.{Format, binary64, prec, emax, low, size, nearest, inf, odd, units, round, is_nan}
use Rattle.html.specs.Shares.{hundredths_of, percent_of, share_of}
use Rattle.html.specs.declared.Share.{Share}

odd-is-number : (d : ℕ) (s : Bool) (q k l : ℕ) → T (not (is_nan (odd d s q k l)))
unfolding odd is_nan
odd-is-number d s zero k l = tt
odd-is-number d s (suc q) k l = tt

either-is-number : (b : Bool) (d : ℕ) (s : Bool) (q k l : ℕ) → T (not (is_nan (cond b (odd d s q k l) (inf s))))
unfolding is_nan
either-is-number true d s q k l = odd-is-number d s q k l
either-is-number false d s q k l = tt

units-is-number : (f : Format) (s : Bool) (q k : ℕ) → T (not (is_nan (units f s q k)))
unfolding units
units-is-number f s q k = either-is-number (ltb (q * 2 ^ k) (2 ^ (low f + suc (emax f)))) (suc (prec f)) s q k (low f)

round-is-number : (f : Format) (s : Bool) (num den : ℕ) → T (not (is_nan (round f s num den)))
unfolding round
round-is-number f s num den =
    let n = num * 2 ^ low f in
    let k = size (n / den) - prec f in
    let u = den * 2 ^ k in
    units-is-number f s (nearest (n / u) (compare (n % u * 2) u)) k

pub percent-is-number : (r : Share) (w t : ℕ) → r ≡ share_of w t → T (not (is_nan r.percent))
unfolding share_of percent_of
percent-is-number r w t h = rw h (round-is-number binary64 false (hundredths_of w t) 100)
