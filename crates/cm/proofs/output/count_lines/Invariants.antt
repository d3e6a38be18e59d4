-- `cm::output::count_lines` meets its contract. The invariant: the first y lines are counted.
use Prim.Native.Nat.{◌*◌, ◌≤◌}
use mathlib.Core.Path.{◌≡◌}
use lib.ListN.{length}
use Rattle.cm.specs.Bears.{board_of}
use Rattle.cm.proofs.output.OutputLaws.{Counting}
use Rattle.cm.proofs.output.count_lines.Given as goal

abbrev pub invariant-loop-y : goal.invariant-loop-y
invariant-loop-y l =
    record {
      room : length l.lengths ≡ 128;
      few : l.bytes ≤ 131072 * l.y;
      counted : Counting l.board.cells l.board.width.0 (board_of l.board) l.board.canvas.now l.board.origin.0 l.board.height l.y l.lengths l.bytes;
    }
