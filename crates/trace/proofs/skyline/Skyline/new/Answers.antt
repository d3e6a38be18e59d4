-- The first `width - 1` of 127 zeros.
use Prim.Native.Nat.{◌-◌}
use native.Mathlib.Omega.{arith}
use borrow.Author.Rules.{rules}
use Rattle.seq.proofs.Prefixes.{take-replicate}
use Rattle.trace.proofs.skyline.Skyline.new.Goals as goal

pub returns : goal.returns
returns c = (search rules, take-replicate (c.args.width - 1) 127 0 (omega arith))
