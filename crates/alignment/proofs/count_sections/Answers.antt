-- `alignment::count_sections` meets its contract: 0 and 2 are the codes of Head and Foot.
use Rattle.alignment.proofs.SectionLaws.{heads-counted, foots-counted}
use borrow.Author.Rules.{rules}
use Rattle.alignment.proofs.count_sections.Goals as goal

pub returns : goal.returns
returns c = search (rules, heads-counted, foots-counted)
