use native.Mathlib.Omega.{arith}
use mathlib.Core.Path.{sym, ◌∙◌}
use borrow.Author.Rules.{rules}
use borrow.Author.Tests.{eqb-true, eqb-false}
use Rattle.cell.proofs.pieces.MeasureLaws.{measuring-none, framed-cuttable, measuring-fits, measuring-empty, measuring-filled, measuring-all}
use Rattle.cell.proofs.source.Source.measure_cell.Goals as goal
use Rattle.cell.proofs.source.Source.measure_cell.Goals.{then-not-is_empty, else-not-is_empty}

pub loop-y-init : goal.loop-y-init
loop-y-init c = search (rules, measuring-none)

pub cut_line-piece-requires : goal.cut_line-piece-requires
cut_line-piece-requires c = framed-cuttable _ _ c.requires _ (omega arith) c.loop-y-test.true

pub overflow_add-bytes : goal.overflow_add-bytes
overflow_add-bytes c = measuring-fits _ _ c.requires c.args.self.now.ready _ (omega arith) c.loop-y-test.true _ c.cut_line-piece.ensures c.loop-y.invariant

pub loop-y-preserved : goal.loop-y-preserved
loop-y-preserved c =
    elim c.if-not-is_empty.branch [
      | then-not-is_empty w ↦ measuring-filled _ _ c.requires c.args.self.now.ready _ (omega arith) c.loop-y-test.true _ c.cut_line-piece.ensures c.loop-y.invariant (eqb-false _ _ (sym c.is_empty.ensures ∙ w.if-not-is_empty.true)) w.lines-is
      | else-not-is_empty w ↦ measuring-empty _ _ c.requires c.args.self.now.ready _ (omega arith) c.loop-y-test.true _ c.cut_line-piece.ensures c.loop-y.invariant (eqb-true _ _ (sym c.is_empty.ensures ∙ w.if-not-is_empty.false)) w.lines-is
    ]

pub returns : goal.returns
returns c =
    let told = measuring-all _ _ _ _ _ c.loop-y.invariant c.requires (omega arith) c.loop-y-test.false in
    record { lines = told.0; bytes = told.1 }
