-- `html_page::rows::ends_section` meets its contract.
use Rattle.html_page.proofs.rows.EdgeLaws.{row_closes}
use Rattle.html_page.proofs.rows.ends_section.Goals as goal

pub returns-else-sections-row : goal.returns-else-sections-row
returns-else-sections-row c = λ t same. search row_closes
