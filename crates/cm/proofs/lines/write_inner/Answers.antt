-- `cm::lines::write_inner` meets its contract: a space, the text, and spaces.
use Rattle.cm.proofs.lines.LineLaws.{inner-written}
use Rattle.cm.proofs.lines.write_inner.Goals as goal

-- src/lines.rt:47:1
pub returns : goal.returns
returns c = search inner-written
