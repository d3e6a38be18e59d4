-- `layout::sections::find_parts` meets its contract: by the last two separators.
use Rattle.layout.proofs.sections.PartLaws.{foot_start-few, foot_start-found, foot_start-not-last}
use borrow.Author.Rules.{rules}
use Rattle.layout.proofs.sections.find_parts.Goals as goal

pub returns-in-len2-up-clause-foot : goal.returns-in-len2-up-clause-foot
returns-in-len2-up-clause-foot c = search (rules, foot_start-found)

pub returns-in_default-clause-foot : goal.returns-in_default-clause-foot
returns-in_default-clause-foot c = search (rules, foot_start-few)

pub returns-in_default-2-clause-foot : goal.returns-in_default-2-clause-foot
returns-in_default-2-clause-foot c = search (rules, foot_start-not-last)
