-- The line lies in the bytes that the buffer holds.
use Rattle.std.proofs.Common.{◌≤◌, ◌<◌, ◌≡◌, IfSome, length}
use Rattle.replaying.proofs.answer_lines.Given as goal

abbrev pub invariant-loop : goal.invariant-loop
invariant-loop g l =
    goal.F-IsAlwaysCallable g l.answer
    × (length l.buffer ≡ 65536)
    × IfSome l.next (λ line. (line.start ≤ line.end) × (line.end < line.held) × (line.held ≤ length l.buffer))
