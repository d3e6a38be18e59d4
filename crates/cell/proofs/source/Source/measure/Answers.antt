use native.Mathlib.Omega.{arith}
use borrow.Author.Rules.{rules}
use Rattle.cell.proofs.pieces.TotalLaws.{totalling-none, totalling-framed, totalling-room, totalling-lines-fit, totalling-bytes-fit, totalling-next, totalling-all}
use Rattle.cell.proofs.source.Source.measure.Goals as goal

pub loop-k-init : goal.loop-k-init
loop-k-init c = totalling-none _ _ _ _ c.requires.framed c.requires.room

pub measure_cell-size-requires : goal.measure_cell-size-requires
measure_cell-size-requires c = search totalling-framed

pub bounds-counts-k : goal.bounds-counts-k
bounds-counts-k c = search totalling-room

pub overflow_add-lines : goal.overflow_add-lines
overflow_add-lines c = search (rules, totalling-lines-fit)

pub overflow_add-bytes : goal.overflow_add-bytes
overflow_add-bytes c = search (rules, totalling-bytes-fit)

pub loop-k-preserved : goal.loop-k-preserved
loop-k-preserved c = search (rules, totalling-next)

pub returns : goal.returns
returns c =
    let told = totalling-all _ _ _ _ c.loop-k.invariant (omega arith) c.args.rects.few c.loop-k-test.false in
    record { lines = told.0; bytes = told.1; counted = told.2; few_bytes = told.3 }
