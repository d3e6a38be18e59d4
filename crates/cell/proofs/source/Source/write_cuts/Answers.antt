use native.Mathlib.Omega.{arith}
use borrow.Author.Rules.{rules}
use Rattle.cell.proofs.cuts.WriteLaws.{cuts_written-none, framed-cuttable, cuts_written-next, cuts_written-all}
use Rattle.cell.proofs.source.Source.write_cuts.Goals as goal

pub loop-y-init : goal.loop-y-init
loop-y-init c = search (rules, cuts_written-none)

pub piece_at-piece-requires : goal.piece_at-piece-requires
piece_at-piece-requires c = search (rules, framed-cuttable)

pub loop-y-preserved : goal.loop-y-preserved
loop-y-preserved c =
    cuts_written-next _ _ _ _ (omega arith) _ c.loop-y.invariant _ c.loop-y-test.true c.requires.room c.piece_at-piece.ensures _ _ c.write_cut.ensures (omega arith)

pub returns : goal.returns
returns c = cuts_written-all _ _ _ _ (omega arith) _ c.loop-y.invariant c.loop-y-test.false
