use mathlib.Core.Path.{sym, ◌∙◌}
use borrow.Author.Rules.{rules}
use Rattle.reading.proofs.checks.CheckLaws.{plain-none, block-inside, block-after, block-plain, plain-to}
use Rattle.reading.proofs.checks.plain_start.Goals as goal

pub loop-block-init : goal.loop-block-init
loop-block-init c = record { inside = search rules; front = plain-none c.args.text.now; left = cc; sized = search rules }

pub loop-block-preserved : goal.loop-block-preserved
loop-block-preserved c =
    let steps = c.in-Some.ensures.steps in
    let sized = steps.1.1 ∙ c.loop-block.invariant.sized in
    let cut = sym steps.1.0 ∙ c.loop-block.invariant.left in
    record {
      inside = block-inside c.args.text.now _ _ c.loop-block.n 512 sized cut c.loop-block.invariant.inside;
      front = block-plain c.args.text.now _ _ c.loop-block.n 512 sized cut c.loop-block.invariant.front (sym (c.if-not-is_plain.ensures));
      left = block-after c.args.text.now _ _ c.loop-block.n 512 sized cut;
      sized = steps.0 ∙ c.loop-block.invariant.sized;
    }

pub returns-then-is_plain : goal.returns-then-is_plain
returns-then-is_plain c = search (rules, plain-to)
