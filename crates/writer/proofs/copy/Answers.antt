-- `writer::copy` meets its contract: the bytes that fit are copied.
use Prim.Native.Nat.{min}
use mathlib.Core.Path.{ap, ◌∙◌}
use lib.ListN.{length}
use Rattle.writer.proofs.WritingLaws.{written_none, written_next, written_all}
use Rattle.writer.proofs.copy.Goals as goal

pub loop-i-init : goal.loop-i-init
loop-i-init c = search written_none

pub loop-i-preserved : goal.loop-i-preserved
loop-i-preserved c =
    let fits = c.min-count.ensures ∙ ap (min (length c.args.bytes.now)) c.saturating_sub.ensures in
    written_next c.args.bytes.now c.args.at c.loop-i.i c.min-count.result c.loop-i-test.true fits c.loop-i.invariant

pub returns : goal.returns
returns c =
    let fits = c.min-count.ensures ∙ ap (min (length c.args.bytes.now)) c.saturating_sub.ensures in
    written_all c.args.bytes.now c.args.at c.loop-i.i c.min-count.result c.loop-i.auto.i-end c.loop-i-test.false fits c.loop-i.invariant
