-- `reading::checks::first_outside` meets its contract. The invariant: the search goes on at the lines from y on, whose bytes are the rest.
use mathlib.Core.Path.{◌≡◌}
use mathlib.Core.Bool.{not}
use lib.ListN.{length, drop}
use Rattle.seq.specs.Lists.{sum, first_at}
use Rattle.text.specs.Utf8.{well_formed}
use Rattle.grid.specs.Flat.{split_text}
use Rattle.reading.proofs.checks.first_outside.Given as goal

abbrev pub invariant-loop-y : goal.invariant-loop-y
invariant-loop-y l =
    record {
      room : sum (drop l.y l.lengths) ≡ length l.rest;
      passed : first_at (λ line. not (well_formed line)) 0 (split_text l.lengths l.text) ≡ first_at (λ line. not (well_formed line)) l.y (split_text (drop l.y l.lengths) l.rest);
    }
