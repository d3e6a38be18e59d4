-- What the checks of the layout call answer.
use Rattle.std.specs.Prelude.{ℕ, ◌≡◌, not, List, Option, Some, None}
use Rattle.std.proofs.Math.Option as found
use Rattle.seq.specs.Lists.{first_at}
use Rattle.text.specs.Utf8.{well_formed}
use Rattle.grid.specs.Flat.{split_text, lines_from}
use Rattle.slots.specs.Scan.{SheetScanned}

-- a place that a function gives, as the one that the definitions find
abbrev pub place_of : Option ℕ → found.Option ℕ
place_of (Some y) = found.some y
place_of None = found.none

-- the first line outside the set, or none and what is known of each line
pub record LinesScanned (lengths columns text glyphs offsets counts : List ℕ) (r : Option ℕ) : Type 0 where
  pub told : place_of r ≡ first_at (λ line. not (well_formed line)) 0 (split_text lengths text)
  pub known : place_of r ≡ found.none → SheetScanned (lines_from lengths columns text) glyphs offsets counts
