-- `positions::rows::StartedLines::write_rows` meets its contract: a row after the other is written.
use Rattle.std.proofs.Common.{◌+◌, arith}
use Rattle.positions.specs.Lent.{started_by}
use Rattle.positions.proofs.rows.RowLaws.{row_spans_written-none, lines_held-inside, row_spans_written-next, row_spans_written-all}
use Rattle.positions.proofs.rows.StartedLines.write_rows.Goals as goal

pub loop-k-init : goal.loop-k-init
loop-k-init c = λ columns. row_spans_written-none _ _ _

pub between-requires : goal.between-requires
between-requires c =
    (c.band-top.ensures.apart, rw c.band-top.ensures.to (lines_held-inside _ c.args.rows (c.loop-k.k + 1) c.requires.inside (omega (arith, c.loop-k-test.true, c.bands-k-end.ensures))))

pub loop-k-preserved : goal.loop-k-preserved
loop-k-preserved c = λ columns.
    row_spans_written-next (started_by c.args.self.now columns) c.args.rows _ _ _ (c.loop-k.invariant columns) (omega (arith, c.loop-k-test.true, c.bands-k-end.ensures)) c.requires.room _
    (rw (← c.band-top.ensures.from, ← c.band-top.ensures.to) (c.between.ensures columns)) _ c.write.ensures

pub returns : goal.returns
returns c = λ columns. row_spans_written-all _ _ _ _ _ (c.loop-k.invariant columns) (omega (arith, c.loop-k-test.false, c.bands-k-end.ensures))
