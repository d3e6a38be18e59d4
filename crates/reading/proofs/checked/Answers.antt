-- `reading::checked` meets its contract: each return by its law.
use Rattle.reading.proofs.CheckedLaws.{width-contradicted, adds-up, drawing_contradicts-agree, width-no-lines, some-length, width-large, large-limits, width-outside, width-no-rule, rule-told-plain, width-too-wide, width-measured, width-scanned, width-plain}
use borrow.Author.Rules.{rules}
use mathlib.Core.Path.{ap}
use mathlib.Core.Bool.{not}
use Rattle.representation.specs.Lent.{drawing_of}
use Rattle.reading.proofs.checked.Goals as goal

pub returns-then-contradicts-clause-answer : goal.returns-then-contradicts-clause-answer
returns-then-contradicts-clause-answer c = search (rules, width-contradicted)

pub returns-then-drawing-eq0-clause-answer : goal.returns-then-drawing-eq0-clause-answer
returns-then-drawing-eq0-clause-answer c = search (rules, width-no-lines)

pub too_large-requires : goal.too_large-requires
too_large-requires c = drawing_contradicts-agree (drawing_of c.args.drawing) _ c.contradicts.ensures c.if-contradicts.false

pub returns-then-too_large-clause-answer : goal.returns-then-too_large-clause-answer
returns-then-too_large-clause-answer c = search (rules, width-large)

pub scan_lines-requires-clause-within_limits : goal.scan_lines-requires-clause-within_limits
scan_lines-requires-clause-within_limits c =
    large-limits (drawing_of c.args.drawing) _ c.contradicts.ensures c.if-contradicts.false c.if-drawing-eq0.false _ c.too_large.ensures c.if-too_large.false

pub returns-in-Some-clause-answer : goal.returns-in-Some-clause-answer
returns-in-Some-clause-answer c = search (rules, width-outside)

pub trimmed_line-top-requires : goal.trimmed_line-top-requires
trimmed_line-top-requires c = (
  adds-up (drawing_of c.args.drawing) _ c.contradicts.ensures c.if-contradicts.false,
  some-length (drawing_of c.args.drawing) _ c.contradicts.ensures c.if-contradicts.false c.if-drawing-eq0.false,
)

pub returns-then-not-is_rule-clause-answer : goal.returns-then-not-is_rule-clause-answer
returns-then-not-is_rule-clause-answer c = search (rules, width-no-rule)

pub plain_width-width-requires : goal.plain_width-width-requires
plain_width-width-requires c = rule-told-plain _ _ c.is_rule.ensures (ap not c.if-not-is_rule.false)

pub returns-then-too_wide-clause-answer : goal.returns-then-too_wide-clause-answer
returns-then-too_wide-clause-answer c = search (rules, width-too-wide)

pub returns-clause-answer : goal.returns-clause-answer
returns-clause-answer c = search (rules, width-measured)

pub returns-clause-scanned : goal.returns-clause-scanned
returns-clause-scanned c = search (rules, width-scanned)

pub returns-clause-plain_top : goal.returns-clause-plain_top
returns-clause-plain_top c = search (rules, width-plain)
