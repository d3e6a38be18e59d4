-- `reading::checks::plain_start` meets its contract. The invariant: the first n bytes are plain, and the others are still to come.
use Prim.Native.Nat.{◌≤◌}
use mathlib.Core.Path.{◌≡◌}
use mathlib.Core.Bool.{true}
use lib.ListN.{length, take, drop}
use Rattle.std.specs.Slice.Iter.{chunks_exact_rest, chunks_exact_size}
use Rattle.text.specs.Utf8.{plain}
use Rattle.reading.proofs.checks.plain_start.Given as goal

abbrev pub invariant-loop-block : goal.invariant-loop-block
invariant-loop-block l =
    record {
      inside : l.n ≤ length l.text;
      front : plain (take l.n l.text) ≡ true;
      left : chunks_exact_rest l.block-iterator ≡ drop l.n l.text;
      sized : chunks_exact_size l.block-iterator ≡ 512;
    }
