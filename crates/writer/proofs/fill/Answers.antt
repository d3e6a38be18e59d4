-- `writer::fill` meets its contract: the part that fits is filled.
use Rattle.writer.proofs.WritingLaws.{filled-part}
use Rattle.writer.proofs.fill.Goals as goal

pub returns : goal.returns
returns c =
    filled-part c.args.out.now c.args.at c.min-start.result c.args.count c.args.b c.min.result c.min-start.ensures c.min.ensures c.fill.new.self (c.fill.ensures.after (λ y e. e))
