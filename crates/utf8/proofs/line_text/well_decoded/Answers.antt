use borrow.Author.Rules.{rules}
use Rattle.text.proofs.Utf8Laws.{well-on, end-inside, end_fits, fewer-left, ill-formed, well-to-the-end}
use Rattle.utf8.proofs.CommonLaws.{sized_on, sized_inside, sized-fits, sized-left}
use Rattle.utf8.proofs.line_text.well_decoded.Goals as goal

pub overflow_add-at : goal.overflow_add-at
overflow_add-at c = let fits = sized-fits c.args.line.now c.loop-at.at c.in-Some.common c.in-Some.ensures in search (rules, fits)

pub loop-at-smaller-in-Some : goal.loop-at-smaller-in-Some
loop-at-smaller-in-Some c = search (rules, sized-left)

pub loop-at-preserved-in-Some : goal.loop-at-preserved-in-Some
loop-at-preserved-in-Some c = (
  sized_inside c.args.line.now c.loop-at.at c.in-Some.common c.in-Some.ensures,
  sized_on c.args.line.now c.loop-at.at c.in-Some.common c.in-Some.ensures c.loop-at.invariant.1,
)

pub returns-in_default-decode : goal.returns-in_default-decode
returns-in_default-decode c = search ill-formed

pub overflow_add-at-in_default : goal.overflow_add-at-in_default
overflow_add-at-in_default c = search (rules, end_fits)

pub loop-at-smaller : goal.loop-at-smaller
loop-at-smaller c = search (rules, fewer-left)

pub loop-at-preserved : goal.loop-at-preserved
loop-at-preserved c = search (rules, end-inside, well-on)

pub returns : goal.returns
returns c = search well-to-the-end
