-- `cell::pieces::prepare` meets its contract: from its two calls.
use native.Mathlib.Omega.{arith}
use Rattle.cell.proofs.pieces.TotalLaws.{preparable-ready, preparable-prepared}
use Rattle.cell.proofs.pieces.prepare.Goals as goal

pub invariant_of-source : goal.invariant_of-source
invariant_of-source c =
    record { ready = preparable-ready _ _ _ _ _ _ _ _ c.requires _ (omega arith) c.line_starts.ensures.by_index }

pub measure-requires-clause-framed : goal.measure-requires-clause-framed
measure-requires-clause-framed c = c.requires.framed _

pub returns : goal.returns
returns c = search preparable-prepared
