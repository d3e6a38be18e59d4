use mathlib.Core.Path.{refl}
use native.Mathlib.Omega.{arith}
use borrow.Author.Rules.{rules}
use Rattle.cm.proofs.output.OutputLaws.{line-low, written_none, written_next, written_all}
use Rattle.cm.proofs.output.write_lines.Goals as goal

pub loop-y-init : goal.loop-y-init
loop-y-init c = record { few = omega arith; kept = refl; written = written_none _ _ }

pub write_line-at-requires-clause-ready : goal.write_line-at-requires-clause-ready
write_line-at-requires-clause-ready c = line-low c.args.board.now _ c.requires c.loop-y-test.true

pub loop-y-preserved : goal.loop-y-preserved
loop-y-preserved c =
    record {
      few = search rules;
      kept = search rules;
      written = written_next _ _ c.loop-y.invariant.written _ _ c.loop-y-test.true c.write_line-at.ensures.wrote;
    }

pub returns : goal.returns
returns c = written_all _ _ c.loop-y.invariant.written c.loop-y.auto.y-end c.loop-y-test.false
