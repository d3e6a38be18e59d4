-- Of the ends from i on that reach, `last` is the last.
use Rattle.std.proofs.Common.{◌≡◌, ◌<◌}
use Rattle.std.specs.Prelude.{IfSome}
use Rattle.line_ends.specs.Search.{register_of, last_at}
use Rattle.line_ends.proofs.search.SearchLaws.{behind}
use Rattle.line_ends.proofs.search.last_end.Given as goal

abbrev pub invariant-loop-i : goal.invariant-loop-i
invariant-loop-i l =
    (last_at (register_of l.register) l.last ≡ behind (register_of l.register) l.line l.column l.i) × IfSome l.last (λ j. j < l.register.count)
