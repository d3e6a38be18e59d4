-- Document 01, "Page": "A column's share is a record of hundredths (width times 10,000 / total, half up) and their f64 quotient by 100,
-- rounded once. It is printed in decimal without closing zeros: 33.33, 12.5, 50."
use Rattle.std.specs.Prelude.{ℕ, ◌+◌, ◌*◌, ◌/◌, ◌%◌, false, cond, List, [], ◌∷◌, ◌++◌, map, eqb, Float}
use Rattle.std.specs.Float.{binary64}
use Rattle.std.specs.Float.Ieee.{round}
use Rattle.seq.specs.Lists.{sum}
use Rattle.seq.specs.Decimal.{decimal}
use Rattle.grid.specs.Values.{GridTableColumn}
use Rattle.html.specs.declared.Share.{Share}

-- a quotient rounded half up
abbrev pub half_up : ℕ → ℕ → ℕ
half_up a b = (2 * a + b) / (2 * b)

-- "With widths on and a total of 0 .. the port's shares are then 0"
unfoldable pub hundredths_of : ℕ → ℕ → ℕ
hundredths_of width total = cond (eqb total 0) 0 (half_up (width * 10000) total)

unfoldable pub percent_of : ℕ → Float
percent_of hundredths = round binary64 false hundredths 100

unfoldable pub share_of : ℕ → ℕ → Share
share_of width total = record { hundredths = hundredths_of width total; percent = percent_of (hundredths_of width total) }

unfoldable pub shares : List GridTableColumn → List Share
shares columns =
    map (λ (c : GridTableColumn). share_of c.width (sum (map (λ (d : GridTableColumn). d.width) columns))) columns

-- "without closing zeros"
unfoldable pub fraction : ℕ → List ℕ
fraction n =
    cond (eqb n 0) []
    (0x2e ∷ (48 + n / 10) ∷ cond (eqb (n % 10) 0) [] ((48 + n % 10) ∷ []))

unfoldable pub share_text : ℕ → List ℕ
share_text hundredths = decimal (hundredths / 100) ++ fraction (hundredths % 100)
