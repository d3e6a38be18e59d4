-- `printing::cell_line` meets its contract.
use Rattle.printing.proofs.WordLaws.{cell-put}
use Rattle.printing.proofs.cell_line.Goals as goal

pub returns : goal.returns
returns c = search cell-put
