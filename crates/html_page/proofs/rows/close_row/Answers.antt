use mathlib.Core.Path.{ap}
use mathlib.Core.Bool.{not}
-- `html_page::rows::close_row` meets its contract.
use borrow.Author.Rules.{rules}
use Rattle.seq.specs.Ascii.{ascii}
use Rattle.html_page.proofs.rows.EdgeLaws.{row-closed, section-closed}
use Rattle.html_page.proofs.rows.close_row.Goals as goal

pub returns-then-not-ends_section : goal.returns-then-not-ends_section
unfolding ascii
returns-then-not-ends_section c = (search row-closed, search rules)

pub returns : goal.returns
unfolding ascii
returns c = (section-closed _ _ c.ends_section.ensures c.copy-closed.ensures (ap not c.if-not-ends_section.false) c.requires.0 (rw c.section_of.ensures at c.close_section.ensures.0), search rules)
