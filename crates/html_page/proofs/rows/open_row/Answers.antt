use mathlib.Core.Path.{ap}
use mathlib.Core.Bool.{not}
-- `html_page::rows::open_row` meets its contract.
use borrow.Author.Rules.{rules}
use Rattle.seq.specs.Ascii.{ascii}
use Rattle.html_page.proofs.rows.EdgeLaws.{row_opened, section-opened}
use Rattle.html_page.proofs.rows.open_row.Goals as goal

pub returns-then-not-starts_section : goal.returns-then-not-starts_section
unfolding ascii
returns-then-not-starts_section c = (search row_opened, search rules)

pub returns : goal.returns
unfolding ascii
returns c = (section-opened _ _ c.starts_section.ensures (ap not c.if-not-starts_section.false) c.requires.0 (rw c.section_of.ensures at c.open_section-opened.ensures.0) c.copy-2.ensures, search rules)
