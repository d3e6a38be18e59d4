-- `slots::fill::fill_next` meets its contract: a rule is plain, and so is a line that scanning found to be.
use mathlib.Core.Path.{◌≡◌, refl}
use mathlib.Core.Bool.{◌||◌}
use lib.Dec.{eqb}
use Rattle.slots.proofs.fill.NextLaws.{noted-separator, noted-none, top-rule, later-rule, trimmed-plain, next-filled}
use Rattle.slots.proofs.scan.ScannedLaws.{trimmed-room}
use Rattle.slots.proofs.fill.fill_next.Goals as goal
use Rattle.slots.proofs.fill.fill_next.Goals.{then-y-eq0, else-y-eq0}

pub fill_line-full-requires-clause-line_len_bound : goal.fill_line-full-requires-clause-line_len_bound
fill_line-full-requires-clause-line_len_bound c =
    let rule : c.if-y-eq0.rule ≡ (eqb c.args.y 0 || c.is_separator-separator.result) =
    elim c.if-y-eq0.branch [ then-y-eq0 w ↦ top-rule _ _ _ w.if-y-eq0.true w.rule-is | else-y-eq0 w ↦ later-rule _ _ _ w.if-y-eq0.false w.rule-is ] in (
      trimmed-room _ _ c.trim_end-line.ensures.1 c.requires.short_line,
      trimmed-plain _ _ c.trim_end-line.ensures.1 _ _ _ c.is_separator-separator.ensures _ rule c.requires.plain_line c.requires.plain_top,
      c.requires.narrow,
    )

pub returns-then-separator : goal.returns-then-separator
returns-then-separator c =
    let rule : c.if-y-eq0.rule ≡ (eqb c.args.y 0 || c.is_separator-separator.result) =
    elim c.if-y-eq0.branch [ then-y-eq0 w ↦ top-rule _ _ _ w.if-y-eq0.true w.rule-is | else-y-eq0 w ↦ later-rule _ _ _ w.if-y-eq0.false w.rule-is ] in
    next-filled _ _ c.trim_end-line.ensures.1 _ _ _ c.is_separator-separator.ensures _ rule _ c.args.separators.now c.note.new.separators _ _ _ _ _ c.fill_line-full.ensures
    (noted-separator c.args.separators.now c.note.new.separators _ _ c.if-separator.true c.note.ensures)

pub returns-else-separator : goal.returns-else-separator
returns-else-separator c =
    let rule : c.if-y-eq0.rule ≡ (eqb c.args.y 0 || c.is_separator-separator.result) =
    elim c.if-y-eq0.branch [ then-y-eq0 w ↦ top-rule _ _ _ w.if-y-eq0.true w.rule-is | else-y-eq0 w ↦ later-rule _ _ _ w.if-y-eq0.false w.rule-is ] in
    next-filled _ _ c.trim_end-line.ensures.1 _ _ _ c.is_separator-separator.ensures _ rule _ c.args.separators.now c.args.separators.now _ _ _ _ _ c.fill_line-full.ensures
    (noted-none c.args.separators.now c.args.separators.now _ _ c.if-separator.false refl)
