-- `cm::split::split_column` meets its contract. The invariant: the search from x on is the whole search.
use Prim.Native.Nat.{◌-◌}
use mathlib.Core.Path.{◌≡◌}
use Rattle.seq.specs.Lists.{range, any}
use Rattle.representation.specs.Lent.{rect_of}
use Rattle.cm.specs.Hits.{split_column}
use Rattle.cm.proofs.split.ColumnLaws.{split_test}
use Rattle.cm.proofs.split.split_column.Given as goal

abbrev pub invariant-loop-x : goal.invariant-loop-x
invariant-loop-x l =
    split_column l.canvas (rect_of l.rect) l.lines l.hits.lines ≡ any (split_test l.canvas l.rect.top l.rect.bottom l.lines l.hits.lines) (range l.x (l.rect.right.0 - l.x))
