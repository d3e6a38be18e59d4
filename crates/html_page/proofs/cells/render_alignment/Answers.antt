-- `html_page::cells::render_alignment` meets its contract.
use Rattle.seq.specs.Ascii.{ascii}
use Rattle.writer.proofs.WritingLaws.{wrote_none}
use borrow.Author.Rules.{rules}
use Rattle.html_page.proofs.cells.render_alignment.Goals as goal

pub returns-in-None : goal.returns-in-None
returns-in-None c = rw c.in-None.is (wrote_none _ _, search rules)

pub returns-in-Left : goal.returns-in-Left
unfolding ascii
returns-in-Left c = rw c.in-Left.is (c.copy.ensures, search rules)
