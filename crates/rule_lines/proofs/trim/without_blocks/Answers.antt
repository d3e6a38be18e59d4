use mathlib.Core.Path.{ap}
use mathlib.Core.Bool.{not}
use borrow.Author.Rules.{rules}
use lib.Seq.{take-length}
use Rattle.text.proofs.TrimLaws.{trim-block}
use Rattle.rule_lines.proofs.trim.without_blocks.Goals as goal

pub loop-n-init : goal.loop-n-init
loop-n-init c = search (rules, take-length)

pub loop-n-preserved : goal.loop-n-preserved
loop-n-preserved c =
    (search rules, trim-block _ c.loop-n.n c.loop-n.invariant.1 64 c.all_blank.result (search rules) c.all_blank.ensures (ap not c.if-not-all_blank.false))
