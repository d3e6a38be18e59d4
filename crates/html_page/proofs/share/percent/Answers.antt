-- `html_page::share::percent` meets its contract: 32 bits hold no number that an f64 does not.
use Prim.Native.Nat.{◌≤◌, ◌^◌}
use native.Mathlib.Omega.{arith}
use lib.Ieee.{of_bits}
use Rattle.html_page.proofs.share.ShareLaws.{percent-once}
use Rattle.html_page.proofs.share.percent.Goals as goal

pub returns : goal.returns
unfolding of_bits
returns c = let small : c.args.hundredths ≤ 2 ^ 53 = omega arith in percent-once c.args.hundredths small
