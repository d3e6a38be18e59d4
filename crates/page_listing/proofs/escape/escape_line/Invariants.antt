-- `page_listing::escape::escape_line` meets its contract. The invariant: the bytes before the index are written.
use Prim.Native.Nat.{◌+◌, ◌*◌, ◌≤◌}
use mathlib.Core.Path.{◌≡◌}
use mathlib.Core.List.{flat_map}
use lib.ListN.{length, take}
use Rattle.html.specs.Escaping.{escape_byte}
use Rattle.writer.specs.Writing.{Wrote}
use Rattle.page_listing.proofs.escape.escape_line.Given as goal

abbrev pub invariant-loop-b : goal.invariant-loop-b
invariant-loop-b l =
    (l.end ≤ l.at + 5 * l.b-index) × (length l.out ≡ length l.initial.out) × Wrote l.initial.out l.at (flat_map escape_byte (take l.b-index l.line)) l.out l.end
