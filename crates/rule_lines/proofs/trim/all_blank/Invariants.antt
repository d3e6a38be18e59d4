-- `rule_lines::trim::all_blank` meets its contract. The invariant: all are blank where those before i and those from i on are.
use Prim.Native.Nat.{◌≤◌}
use mathlib.Core.Path.{◌≡◌}
use mathlib.Core.Bool.{◌&&◌}
use lib.ListN.{length, drop}
use Rattle.seq.specs.Lists.{all}
use Rattle.text.specs.Trim.{blank}
use Rattle.rule_lines.proofs.trim.all_blank.Given as goal

abbrev pub invariant-loop-b : goal.invariant-loop-b
invariant-loop-b l = (l.b-index ≤ length l.part) × (all blank l.part ≡ (l.blanks && all blank (drop l.b-index l.part)))
