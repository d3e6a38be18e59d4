-- `slots::line::fill_line` meets its contract: the bytes of a plain line, or what scanning left.
use mathlib.Core.Path.{◌≡◌}
use mathlib.Core.Bool.{true, ◌||◌}
use lib.Dec.{eqb}
use Rattle.slots.proofs.line.PlainLaws.{by-rule, by-count, not-known, plain-filled, scanned-filled}
use Rattle.slots.proofs.line.fill_line.Goals as goal
use Rattle.slots.proofs.line.fill_line.Goals.{then-rule-via-then-rule, then-rule-via-else-rule+then-count-eq-PLAIN}

pub returns-then-rule : goal.returns-then-rule
returns-then-rule c =
    let known : c.args.rule || eqb c.args.count 255 ≡ true =
    elim c.then-rule.branch [ then-rule-via-then-rule w ↦ by-rule _ _ w.if-rule.true | then-rule-via-else-rule+then-count-eq-PLAIN w ↦ by-count _ _ w.if-count-eq-PLAIN.true ] in
    plain-filled _ _ _ _ _ _ _ _ c.requires.line_len_bound.1 known c.plain_width-columns.ensures.bytes _ _ c.if-columns-width.false c.requires.width_in_bounds.0 c.requires.width_in_bounds.1
    c.fill_plain.ensures.glyphs_after c.fill_plain.ensures.offsets_after

pub returns : goal.returns
returns c =
    scanned-filled _ _ _ _ _ _ _ c.requires.line_len_bound.2 (not-known _ _ c.if-rule.false c.if-count-eq-PLAIN.false) c.requires.width_in_bounds.0 c.requires.width_in_bounds.1
