-- The inner bytes of a table's cells, and the arrays that the page call is lent for them.
use Rattle.std.specs.Prelude.{ℕ, ◌*◌, ◌≤◌, ◌<◌, ◌≡◌, length, take}
use mathlib.Core.List.{List, [], ◌∷◌, flat_map}
use Rattle.grid.specs.Values.{TableCell}
use Rattle.html.specs.Escaping.{inner_of}

abbrev pub cell_inner : TableCell → List ℕ
cell_inner c = inner_of c.lines

abbrev pub cell_entries : TableCell → List ℕ
cell_entries c = c.row ∷ c.column ∷ c.colspan ∷ c.rowspan ∷ length (cell_inner c) ∷ []

-- the first bytes and entries are of all cells
pub record InnerHeld (cells : List TableCell) (entries inner : List ℕ) (bytes : ℕ) : Type 0 where
  pub size : bytes ≡ length (flat_map cell_inner cells)
  pub text : take bytes inner ≡ flat_map cell_inner cells
  pub numbers : take (5 * length cells) entries ≡ flat_map cell_entries cells

-- so many bytes, or so many that the limit is passed
abbrev pub InnerTold : List TableCell → (entries inner : List ℕ) → ℕ → Type 0
InnerTold cells entries inner r =
    (32768 < r → 32768 < length (flat_map cell_inner cells)) × (r ≤ 32768 → InnerHeld cells entries inner r)
