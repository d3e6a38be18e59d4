-- `cm::lines::write_line` meets its contract. The invariant: what the columns before x put down is written, and x is where the walk may stand.
use Prim.Native.Nat.{◌+◌, ◌*◌, ◌-◌, ◌≤◌}
use mathlib.Core.Path.{◌≡◌}
use lib.ListN.{length}
use Rattle.cm.specs.Bears.{board_of}
use Rattle.cm.proofs.lines.TurnLaws.{Walked}
use Rattle.cm.proofs.lines.write_line.Given as goal

abbrev pub invariant-loop-x : goal.invariant-loop-x
invariant-loop-x l =
    record {
      short : l.end.0 ≤ l.initial.end.0 + 641 * l.x;
      kept : length l.out ≡ length l.initial.out;
      walked : Walked l.board.cells l.across (board_of l.board) l.board.canvas.now l.board.origin.0 l.y l.x l.initial.out l.initial.end.0 l.out l.end.0;
    }

abbrev pub decreases-loop-x : goal.decreases-loop-x
decreases-loop-x l = l.across - l.x
