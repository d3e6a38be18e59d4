-- `page_listing::escape::escape_lines` meets its contract. The invariant: the first i lines are written.
use Rattle.page_listing.proofs.escape.LineLaws.{Escaping}
use Rattle.page_listing.proofs.escape.escape_lines.Given as goal

abbrev pub invariant-loop-i : goal.invariant-loop-i
invariant-loop-i l = Escaping l.lengths l.text l.initial.out l.at l.out l.i l.used l.end
