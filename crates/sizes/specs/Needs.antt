-- The needs of cells in their arrays.
use Rattle.std.specs.Prelude.{ℕ, ◌+◌, ◌*◌, ◌≤◌, ◌<◌, List, map, get_or, length}
use Rattle.seq.specs.Lists.{up_to}
use Rattle.drawing.specs.Sizes.{Need}

-- what cell k needs: its first column, or row, and its span stand at these places of its entry
abbrev pub need_at : (from_at span_at : ℕ) (cells sizes : List ℕ) → ℕ → Need
need_at from_at span_at cells sizes k =
    record { from = get_or cells (5 * k + from_at) 0; to = get_or cells (5 * k + from_at) 0 + get_or cells (5 * k + span_at) 0; size = get_or sizes k 0 }

-- what each of n cells needs
abbrev pub needs_in : (n from_at span_at : ℕ) (cells sizes : List ℕ) → List Need
needs_in n from_at span_at cells sizes = map (need_at from_at span_at cells sizes) (up_to n)

-- n cells that have spans and lie in so many columns, or rows
pub record Spanned (n from_at span_at : ℕ) (cells : List ℕ) (count : ℕ) : Type 0 where
  pub few : n ≤ 1024
  pub room : 5 * n ≤ length cells
  pub early : (from_at < 5) × (span_at < 5)
  pub some : (k : ℕ) → k < n → 0 < get_or cells (5 * k + span_at) 0
  pub inside : (k : ℕ) → k < n → get_or cells (5 * k + from_at) 0 + get_or cells (5 * k + span_at) 0 ≤ count

-- no number is above `most`
abbrev pub EachAtMost : ℕ → List ℕ → Type 0
EachAtMost most sizes = (i : ℕ) → get_or sizes i 0 ≤ most
