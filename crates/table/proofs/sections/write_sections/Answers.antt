use borrow.Author.Rules.{rules}
use Rattle.table.proofs.sections.WriteLaws.{no-section, section-next, sections-done}
use Rattle.table.proofs.sections.write_sections.Goals as goal

pub loop-k-init : goal.loop-k-init
loop-k-init c = search (rules, no-section)

pub loop-k-preserved : goal.loop-k-preserved
loop-k-preserved c = search (rules, section-next)

pub returns : goal.returns
returns c = search (rules, sections-done)
