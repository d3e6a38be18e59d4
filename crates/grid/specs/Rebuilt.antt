-- The rectangles as a reader of the layout call's arrays rebuilds them, from nothing but what stands there.
use Rattle.std.specs.Prelude.{ℕ, zero, suc, ◌+◌, ◌-◌, ◌*◌, List, [], ◌∷◌, map, get_or, drop}
use Rattle.seq.specs.Lists.{range, sum}
use Rattle.grid.specs.Values.{Rect}
use Rattle.grid.specs.LayoutCall.{LayoutArrays}

-- "A width is the distance less 1": a column with the border at its right
abbrev pub column_across : List ℕ → ℕ → ℕ
column_across columns j = get_or columns (2 * j + 1) 0 + 1

-- a cell goes from the top of its first row to the bottom of its last one, and from its left column over its columns
abbrev pub rebuilt_cell : LayoutArrays → ℕ → ℕ → ℕ → ℕ → ℕ → Rect
rebuilt_cell a row column colspan rowspan left =
    record {
      top = get_or a.rows (3 * row + 1) 0;
      left = left;
      bottom = get_or a.rows (3 * (row + rowspan - 1) + 2) 0;
      right = left + sum (map (column_across a.columns) (range column colspan));
    }

-- n cells, five numbers each
unfoldable pub rebuilt_from : LayoutArrays → ℕ → List ℕ → List Rect
rebuilt_from a zero cells = []
rebuilt_from a (suc n) cells =
    rebuilt_cell a (get_or cells 0 0) (get_or cells 1 0) (get_or cells 2 0) (get_or cells 3 0) (get_or cells 4 0) ∷ rebuilt_from a n (drop 5 cells)

abbrev pub rebuilt : ℕ → LayoutArrays → List Rect
rebuilt n a = rebuilt_from a n a.cells
