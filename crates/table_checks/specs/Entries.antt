-- Entries of an array at equal distances, the two of a column and the five of a cell.
use Rattle.std.specs.Prelude.{ℕ, ◌+◌, ◌*◌, List, get_or, drop}
use Rattle.grid.specs.Flat.{code_alignment, every_nth}
use Rattle.table_checks.specs.declared.column_entry.ColumnEntry.{ColumnEntry}
use Rattle.table_checks.specs.declared.cell_entry.CellEntry.{CellEntry}

-- `count` entries, the first at `from` and each `step` after the last
abbrev pub entries : (from step count : ℕ) → List ℕ → List ℕ
entries from step count numbers = every_nth step count (drop from numbers)

-- column k
abbrev pub column_in : List ℕ → ℕ → ColumnEntry
column_in columns k = record { alignment = code_alignment (get_or columns (2 * k) 0); width = get_or columns (2 * k + 1) 0 }

-- cell k
abbrev pub entry_in : List ℕ → ℕ → CellEntry
entry_in cells k =
    record {
      row = get_or cells (5 * k) 0;
      column = get_or cells (5 * k + 1) 0;
      colspan = get_or cells (5 * k + 2) 0;
      rowspan = get_or cells (5 * k + 3) 0;
      size = get_or cells (5 * k + 4) 0;
    }
