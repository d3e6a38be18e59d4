-- `html_page::rows::starts_section` meets its contract.
use Rattle.html_page.proofs.rows.EdgeLaws.{row_opens}
use Rattle.html_page.proofs.rows.starts_section.Goals as goal

pub returns-else-row-eq0 : goal.returns-else-row-eq0
returns-else-row-eq0 c = λ t same. search row_opens
