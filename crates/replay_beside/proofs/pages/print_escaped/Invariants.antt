-- Each turn takes one byte at least.
use Rattle.std.proofs.Common.{length}
use Rattle.replay_beside.proofs.pages.print_escaped.Given as goal

abbrev pub decreases-loop-rest : goal.decreases-loop-rest
decreases-loop-rest g l = length l.rest
