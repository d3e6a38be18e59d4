-- `cell::finish_cell` meets its contract: 13, 12, or the cut lines written.
use native.Mathlib.Omega.{arith}
use Rattle.cell.proofs.FrameLaws.{traced-startable, traced-ready}
use Rattle.cell.proofs.CellLaws.{cell_count_of-past, cutting-framed, cutting-ordered, cutting-some, cutting-fits, cell_count_of-short, cell_count_of-written}
use Rattle.cell.proofs.finish_cell.Goals as goal

pub returns-then-n-k : goal.returns-then-n-k
returns-then-n-k c =
    let past = cell_count_of-past c.args.traced.reading.cells c.args.k _ _ (omega arith) in
    record { answer = past.0; written = past.1 }

pub overflow_sub-count : goal.overflow_sub-count
overflow_sub-count c = cutting-ordered _ _ c.args.traced.traced c.args.starts.now _ c.if-n-k.false c.at-rect.ensures

pub overflow_sub-count-2 : goal.overflow_sub-count-2
overflow_sub-count-2 c = cutting-some _ _ c.args.traced.traced c.args.starts.now _ c.if-n-k.false c.at-rect.ensures

pub overflow_mul-count : goal.overflow_mul-count
overflow_mul-count c = cutting-fits _ _ c.args.traced.traced c.args.starts.now _ c.if-n-k.false c.at-rect.ensures

pub returns-then-out-count : goal.returns-then-out-count
returns-then-out-count c =
    let short = cell_count_of-short _ _ c.args.traced.traced c.args.starts.now _ c.if-n-k.false c.at-rect.ensures _ c.if-out-count.true in
    record { answer = short.0; written = short.1 }

pub line_starts-requires : goal.line_starts-requires
line_starts-requires c = traced-startable _ _ c.args.traced.traced _ c.requires

pub invariant_of-source : goal.invariant_of-source
invariant_of-source c =
    record { ready = traced-ready _ _ c.args.traced.traced _ c.requires _ c.line_starts.ensures.starts_len_unchanged c.line_starts.ensures.by_index }

pub write_cuts-requires-clause-framed : goal.write_cuts-requires-clause-framed
write_cuts-requires-clause-framed c = cutting-framed _ _ c.args.traced.traced c.args.starts.now _ c.if-n-k.false c.at-rect.ensures _

pub returns : goal.returns
returns c =
    let written = cell_count_of-written _ _ c.args.traced.traced c.args.starts.now _ c.if-n-k.false c.at-rect.ensures _ c.if-out-count.false _ c.write_cuts.ensures in
    record { answer = written.0; written = written.1 }
