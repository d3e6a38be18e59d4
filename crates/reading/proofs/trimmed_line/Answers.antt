-- `reading::trimmed_line` meets its contract: the line begins after the bytes of those before it.
use native.Mathlib.Omega.{arith}
use borrow.Author.Rules.{rules}
use Rattle.reading.proofs.CheckedLaws.{line-end, line-trimmed}
use Rattle.reading.proofs.trimmed_line.Goals as goal

pub overflow_add-end : goal.overflow_add-end
overflow_add-end c = omega (arith, line-end _ _ _ _ c.line_start-at.ensures c.requires.0)

pub slice_bounds-trim_end-end : goal.slice_bounds-trim_end-end
slice_bounds-trim_end-end c = search (rules, line-end)

pub returns : goal.returns
returns c = search (rules, line-trimmed)
