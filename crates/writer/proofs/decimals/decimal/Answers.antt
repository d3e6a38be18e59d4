-- `writer::decimals::decimal` meets its contract.
use Rattle.writer.proofs.decimals.DigitLaws.{decimal-wrote, decimal-near}
use Rattle.writer.proofs.decimals.decimal.Goals as goal

pub returns : goal.returns
returns c = (search decimal-wrote, search decimal-near)
