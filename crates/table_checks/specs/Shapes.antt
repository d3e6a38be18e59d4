-- A table without its lines, in the terms of the definitions.
use Rattle.representation.specs.declared.lent.Table.{Table}
use Rattle.grid.specs.Values as grid
use Rattle.representation.specs.TableIn.{table_in}
use Rattle.table_checks.specs.Places.{grid_in, CellsPlaced, Laid}
use Rattle.table_checks.specs.declared.shape.Shape.{Shape}

abbrev pub shape_of : Table → Shape
shape_of t =
    record {
      columns = t.columns;
      rows = t.rows;
      cells = t.cells;
      column_entries = t.column_entries;
      sections = t.sections;
      cell_entries = t.cell_entries;
    }

-- the table that the grid rules look at
abbrev pub grid_of : Shape → grid.Table
grid_of s = grid_in s.columns s.cells s.sections.now s.cell_entries.now

abbrev pub IsPlaced : Shape → Type 0
IsPlaced s = CellsPlaced s.columns s.cells s.sections.now s.cell_entries.now

abbrev pub IsLaid : Shape → Type 0
IsLaid s = Laid s.columns s.cells s.sections.now s.cell_entries.now

-- the table with its lines
abbrev pub lent_table : Table → grid.Table
lent_table t = table_in t.columns t.cells t.column_entries.now t.sections.now t.cell_entries.now t.lengths.now t.text.now
