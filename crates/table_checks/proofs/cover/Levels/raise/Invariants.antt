-- `table_checks::cover::Levels::raise` meets its contract. The invariant: the columns from left up to x have risen.
use Rattle.table_checks.specs.Skyline.{Raised}
use Rattle.table_checks.proofs.cover.Levels.raise.Given as goal

abbrev pub invariant-loop-x : goal.invariant-loop-x
invariant-loop-x l = Raised l.initial.self.each l.left l.x l.level l.self.each
