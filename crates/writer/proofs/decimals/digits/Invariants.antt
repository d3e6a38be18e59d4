-- `writer::decimals::digits` meets its contract. The invariant: the digits of what is left, onto those that stand from i on, are the number's.
use Prim.Native.Nat.{◌≤◌}
use mathlib.Core.Path.{◌≡◌}
use lib.ListN.{length, drop}
use Rattle.seq.specs.Decimal.{decimal, digits_onto}
use Rattle.writer.proofs.decimals.digits.Given as goal

abbrev pub invariant-loop-i : goal.invariant-loop-i
invariant-loop-i l = (l.i ≤ 20) × (length l.initial.digits ≡ 20) × (length l.digits ≡ 20) × (digits_onto l.i l.left (drop l.i l.digits) ≡ decimal l.number)
