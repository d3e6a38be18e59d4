-- `table_checks::cover::Levels::all_at` meets its contract. The invariant: all are at the level where those from x on are.
use mathlib.Core.Path.{◌≡◌}
use Rattle.table_checks.specs.Skyline.{all_at}
use Rattle.table_checks.proofs.cover.Levels.all_at.Given as goal

abbrev pub invariant-loop-x : goal.invariant-loop-x
invariant-loop-x l = all_at l.self.each l.from l.to l.level ≡ all_at l.self.each l.x l.to l.level
