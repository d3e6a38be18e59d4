-- `utf8::line_text::is_plain` meets its contract: the invariant: the whole line is plain where the bytes before i and those from i on are.
use Prim.Native.Nat.{◌-◌, ◌≤◌}
use mathlib.Core.Path.{◌≡◌}
use mathlib.Core.Bool.{◌&&◌}
use lib.ListN.{length, drop}
use Rattle.text.specs.Utf8.{plain}
use Rattle.utf8.proofs.line_text.is_plain.Given as goal

abbrev pub invariant-loop-b : goal.invariant-loop-b
invariant-loop-b l = (l.b-index ≤ length l.line) × (plain l.line ≡ (l.all && plain (drop l.b-index l.line)))
