-- `layout::bounds::collect` meets its contract: a marked number is a line more, and the lines rise.
use Rattle.layout.proofs.bounds.EdgeLaws.{collected-none, collected-line, collected-no-line, lines-rise, lines-low}
use Rattle.std.proofs.Common.{◌≤◌, arith}
use borrow.Author.Rules.{rules}
use Rattle.layout.proofs.bounds.collect.Goals as goal
use Rattle.layout.proofs.bounds.collect.Goals.{else-marks-x, then-marks-x}

pub loop-x-init : goal.loop-x-init
loop-x-init c = search (rules, collected-none)

pub loop-x-preserved : goal.loop-x-preserved
loop-x-preserved c =
    elim c.if-marks-x.branch [ then-marks-x w ↦ search (rules, collected-line) | else-marks-x w ↦ search (rules, collected-no-line) ]

pub invariant_of-result : goal.invariant_of-result
invariant_of-result c =
    let small : c.loop-x.x ≤ 128 = omega arith in
    let found = c.loop-x.invariant in
    record { room = found.room; few = omega (arith, found.few); rising = lines-rise _ _ _ _ _ small found; low = lines-low _ _ _ _ _ small found }
