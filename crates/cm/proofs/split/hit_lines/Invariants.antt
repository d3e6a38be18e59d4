-- `cm::split::hit_lines` meets its contract. The invariant: the first i lines are counted.
use mathlib.Core.Path.{◌≡◌}
use lib.ListN.{length}
use Rattle.cm.proofs.split.HitLinesLaws.{Counting}
use Rattle.cm.proofs.split.hit_lines.Given as goal

abbrev pub invariant-loop-i : goal.invariant-loop-i
invariant-loop-i l = (length l.hits.lines ≡ 128) × Counting l.lettering l.column.0 l.from.0 l.k l.i l.hits.lines
