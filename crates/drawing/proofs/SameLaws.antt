-- Sameness of tables that keep the grid rules. Cite `same-exactly`: it holds exactly when their looks agree, which is document 01's
-- sentence without a word on where cells stand.
use mathlib.Core.Path.{◌≡◌, ap}
use mathlib.Core.Bool.{true}
use mathlib.Core.Logic.{◌↔◌}
use lib.ListN.{length}
use Rattle.grid.specs.Values.{Table}
use Rattle.grid.specs.Same.{Same, SameLook}
use Rattle.grid.proofs.SameLaws.{same_parts}
use Rattle.drawing.specs.GridRules.{keeps_rules}
use Rattle.drawing.proofs.CellPlaces.{keeps-places}

-- Under the grid rules two tables are the same exactly when the number of columns, alignments, sections, cells with their spans, and
-- each cell's trimmed lines without empty last ones agree.
pub same-exactly : (t u : Table) → keeps_rules t ≡ true → keeps_rules u ≡ true → Same t u ↔ SameLook t u
same-exactly t u keeps keeps' = ((λ e. ((same_parts t u).0 e).look), back) where
  back : SameLook t u → Same t u
  back look =
      let places = keeps-places t u keeps keeps' (ap length look.sections) look.columns look.colspans look.rowspans in
      (same_parts t u).1 (record { look = look; places = places })
