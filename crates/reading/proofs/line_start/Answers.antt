-- `reading::line_start` meets its contract: its chain adds up the lengths before line y.
use mathlib.Core.Path.{sym, ◌∙◌}
use native.Mathlib.Omega.{arith}
use lib.ListN.{take}
use borrow.Author.Rules.{rules}
use Rattle.std.proofs.lemmas.Iterator.{YieldsList-from_slice, YieldsList-from_take, YieldsList-from_map}
use Rattle.std.proofs.lemmas.Iterator.Consumers.{sum_by_from_yields_List, fits_by_from_yields_list}
use Rattle.seq.proofs.Gathered.{sum-within}
use Rattle.reading.proofs.CheckedLaws.{lengths-summed}
use Rattle.reading.proofs.line_start.Goals as goal

pub sum-requires-clause-fits : goal.sum-requires-clause-fits
sum-requires-clause-fits c =
    fits_by_from_yields_list (λ n. n) (take c.args.y c.args.lengths.now) c.map.result _
    (YieldsList-from_map _ (λ n. n) (YieldsList-from_take c.args.y (YieldsList-from_slice c.args.lengths.now cc) cc) c.map.ensures.closure (λ x r q k. search rules))
    (omega (arith, lengths-summed (take c.args.y c.args.lengths.now), sum-within c.args.lengths.now c.args.y))

pub returns : goal.returns
returns c =
    sum_by_from_yields_List (λ n. n) (take c.args.y c.args.lengths.now) c.map.result _ c.sum.ensures.ran
    (YieldsList-from_map _ (λ n. n) (YieldsList-from_take c.args.y (YieldsList-from_slice c.args.lengths.now cc) cc) c.map.ensures.closure (λ x r q k. search rules))
    ∙ sym (lengths-summed (take c.args.y c.args.lengths.now))
