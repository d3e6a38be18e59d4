-- `utf8::line_text::well_formed` meets its contract: a plain line is well formed.
use mathlib.Core.Path.{◌∙◌}
use Rattle.text.proofs.PlainLaws.{plain-well}
use Rattle.utf8.proofs.line_text.well_formed.Goals as goal

pub returns-then-is_plain : goal.returns-then-is_plain
returns-then-is_plain c = c.if-is_plain.true ∙ plain-well c.args.line.now c.is_plain.result c.is_plain.ensures c.if-is_plain.true
