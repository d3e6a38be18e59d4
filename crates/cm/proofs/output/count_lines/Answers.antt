use mathlib.Core.Path.{refl}
use native.Mathlib.Omega.{arith}
use borrow.Author.Rules.{rules}
use Rattle.cm.proofs.output.OutputLaws.{board-low, line-low, counted_none, counted_next, counted-all}
use Rattle.cm.proofs.output.count_lines.Goals as goal

pub loop-y-init : goal.loop-y-init
loop-y-init c = record { room = refl; few = omega arith; counted = counted_none _ }

pub write_line-end-requires-clause-ready : goal.write_line-end-requires-clause-ready
write_line-end-requires-clause-ready c = line-low c.args.board.now _ c.requires c.loop-y-test.true

pub loop-y-preserved : goal.loop-y-preserved
loop-y-preserved c =
    let low = board-low c.args.board.now c.requires in
    record {
      room = search rules;
      few = search rules;
      counted = counted_next c.loop-y.invariant.counted _ _ _ c.loop-y-test.true (omega (arith, c.loop-y.invariant.room)) c.write_line-end.ensures.wrote;
    }

pub returns : goal.returns
returns c = counted-all c.loop-y.invariant.counted c.loop-y.auto.y-end c.loop-y-test.false c.loop-y.invariant.room
