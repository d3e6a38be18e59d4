-- `layout::sizes::measure` meets its contract: what its three callees give, and the tests of 12.
use Rattle.layout.proofs.sizes.SizedLaws.{inner_count-fits}
use borrow.Author.Rules.{rules}
use Rattle.layout.proofs.sizes.measure.Goals as goal

pub overflow_mul-short : goal.overflow_mul-short
overflow_mul-short c = search (rules, inner_count-fits)
