-- Document 01, "Line ends": "ends may come in any order. The answer at a line and column is the eol of the last end on that line,
-- ordered by start then eol, with start ≤ column ≤ eol, or none."
use Rattle.std.specs.Prelude.{ℕ, ◌+◌, Bool, ◌&&◌, ◌||◌, cond, List, [], ◌∷◌, eqb, leb, ltb}
use Rattle.std.proofs.Math.Option.{Option, none, some}
use Rattle.seq.specs.Lists.{select}
use Rattle.sourcepos.specs.declared.CellLineEnd.{CellLineEnd}

-- "on that line, .. with start ≤ column ≤ eol"
abbrev pub reaches : ℕ → ℕ → CellLineEnd → Bool
reaches line column e = eqb e.line line && leb e.start column && leb column e.eol

-- "ordered by start then eol"
abbrev pub is_later : CellLineEnd → CellLineEnd → Bool
is_later a b = ltb b.start a.start || (eqb b.start a.start && leb b.eol a.eol)

abbrev pub later : CellLineEnd → Option CellLineEnd → CellLineEnd
later e none = e
later e (some f) = cond (is_later e f) e f

unfoldable pub last_end : List CellLineEnd → Option CellLineEnd
last_end [] = none
last_end (e ∷ es) = some (later e (last_end es))

abbrev pub eol_of : Option CellLineEnd → Option ℕ
eol_of none = none
eol_of (some e) = some e.eol

unfoldable pub find_eol : List CellLineEnd → ℕ → ℕ → Option ℕ
find_eol ends line column = eol_of (last_end (select (reaches line column) ends))

-- "`CellLineEnd::remap` takes the fragment's line and adds its byte to both numbers"
unfoldable pub remap : CellLineEnd → ℕ → ℕ → CellLineEnd
remap e line byte = record { line = line; start = byte + e.start; eol = byte + e.eol }
