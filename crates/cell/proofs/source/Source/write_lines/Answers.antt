use borrow.Author.Rules.{rules}
use Rattle.representation.specs.Lent.{rect_of}
use Rattle.cell.proofs.lines.WriteLaws.{pieces-cuttable, lines_written-first-fits, lines_written-line-fits, pieces-fit, lines_written-none, lines_written-place-fits, lines_written-next, lines_written-end, lines_written-lengths, lines_written-text}
use Rattle.cell.proofs.source.Source.write_lines.Goals as goal

pub loop-i-init : goal.loop-i-init
loop-i-init c = search (rules, lines_written-none)

pub overflow_add-rect : goal.overflow_add-rect
overflow_add-rect c = lines_written-first-fits _ _ _ _ _ _ _ _ _ _ _ c.loop-i.invariant c.args.self.now.ready c.loop-i-test.true

pub overflow_add-rect-in-loop-i : goal.overflow_add-rect-in-loop-i
overflow_add-rect-in-loop-i c = lines_written-line-fits _ _ _ _ _ _ _ _ _ _ _ c.loop-i.invariant c.args.self.now.ready c.loop-i-test.true

pub cut_line-piece-requires : goal.cut_line-piece-requires
cut_line-piece-requires c = pieces-cuttable _ (rect_of c.args.rect) _ _ c.loop-i-test.true c.args.self.now.ready c.requires.cuttable

pub overflow_cast-out_lengths : goal.overflow_cast-out_lengths
overflow_cast-out_lengths c = pieces-fit _ (rect_of c.args.rect) _ _ c.loop-i-test.true c.args.self.now.ready c.requires.cuttable _ c.cut_line-piece.ensures

pub copy-end-requires : goal.copy-end-requires
copy-end-requires c = search lines_written-place-fits

pub loop-i-preserved : goal.loop-i-preserved
loop-i-preserved c = search (rules, lines_written-next)

pub returns-clause-end : goal.returns-clause-end
returns-clause-end c = lines_written-end _ _ _ _ _ _ _ _ _ _ _ c.loop-i.invariant c.loop-i-test.false

pub returns-clause-lengths_written : goal.returns-clause-lengths_written
returns-clause-lengths_written c = lines_written-lengths _ _ _ _ _ _ _ _ _ _ _ c.loop-i.invariant c.loop-i-test.false

pub returns-clause-text_written : goal.returns-clause-text_written
returns-clause-text_written c = lines_written-text _ _ _ _ _ _ _ _ _ _ _ c.loop-i.invariant c.loop-i-test.false
