-- `gridtable::lines::grid_is_rule` meets its contract: what the call answers.
use Rattle.gridtable.proofs.lines.grid_is_rule.Goals as goal

pub returns : goal.returns
returns c = c.is_rule.ensures
