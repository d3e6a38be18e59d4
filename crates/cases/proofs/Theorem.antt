-- Document 01's cases 1 to 11 hold of the definitions, by computing.
use mathlib.Core.Path.{◌≡◌, refl}
use mathlib.Core.List.{map}
use Rattle.html.specs.Computing.{rendering}
use Rattle.cases.specs.Cases.{Case, redrawn, redrawn_twice, cases}

pub cases-hold : map (λ (c : Case). c.given) cases ≡ map (λ (c : Case). c.expected) cases
unfolding rendering redrawn redrawn_twice cases
cases-hold = refl
