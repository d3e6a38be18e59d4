-- `cm::output::write_lines` meets its contract. The invariant: the first y lines are written.
use Prim.Native.Nat.{◌*◌, ◌≤◌}
use mathlib.Core.Path.{◌≡◌}
use lib.ListN.{length}
use Rattle.cm.specs.Bears.{board_of}
use Rattle.cm.proofs.output.OutputLaws.{Writing}
use Rattle.cm.proofs.output.write_lines.Given as goal

abbrev pub invariant-loop-y : goal.invariant-loop-y
invariant-loop-y l =
    record {
      few : l.at.0 ≤ 131072 * l.y;
      kept : length l.out ≡ length l.initial.out;
      written : Writing l.board.cells l.board.width.0 (board_of l.board) l.board.canvas.now l.board.origin.0 l.board.height l.y l.initial.out l.out l.at.0;
    }
