-- What a found line end is, apart from the search. Document 01, "Line ends": "the eol of the last end on that line, ordered by start
-- then eol, with start ≤ column ≤ eol".
use Rattle.std.specs.Prelude.{ℕ, ◌≡◌, true}
use mathlib.Core.List.{Memᴰ}
use Rattle.sourcepos.specs.declared.CellLineEnd.{CellLineEnd}
use Rattle.sourcepos.specs.LineEnds.{reaches, is_later}
use Rattle.sourcepos.specs.LineEndCalls.{Register, ends_of}

-- `eol` is that of an end of the register that reaches the place, and no end that reaches it is later
pub record LastReaching (g : Register) (line column eol : ℕ) : Type 0 where
  pub end : CellLineEnd
  pub held : Memᴰ end (ends_of g)
  pub reached : reaches line column end ≡ true
  pub answered : eol ≡ end.eol
  pub last : (f : CellLineEnd) → Memᴰ f (ends_of g) → reaches line column f ≡ true → is_later end f ≡ true
