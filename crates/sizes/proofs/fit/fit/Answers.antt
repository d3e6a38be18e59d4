-- `sizes::fit::fit` meets its contract: its two loops are the two parts of the definition.
use Rattle.sizes.proofs.fit.TurnLaws.{fit-turns}
use borrow.Author.Rules.{rules}
use Rattle.sizes.proofs.fit.fit.Goals as goal

pub returns-clause-value : goal.returns-clause-value
returns-clause-value c = search (rules, fit-turns)

pub returns-clause-result_len : goal.returns-clause-result_len
returns-clause-result_len c = search (rules, fit-turns)
