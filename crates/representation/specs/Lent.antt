-- What a caller lends, in the terms of the definitions.
use Rattle.grid.specs.Values as grid
use Rattle.grid.specs.Flat.{FlatDrawing, TableSizes, TableArrays}
use Rattle.representation.specs.declared.lent.Drawing.{Drawing}
use Rattle.representation.specs.declared.lent.Table.{Table}
use Rattle.representation.specs.declared.rect.Rect.{Rect}

abbrev pub drawing_of : Drawing → FlatDrawing
drawing_of d = record { lines = d.lines; bytes = d.bytes; lengths = d.lengths.now; columns = d.columns.now; text = d.text.now }

abbrev pub sizes_of : Table → TableSizes
sizes_of t = record { columns = t.columns; rows = t.rows; cells = t.cells; lines = t.lines; bytes = t.bytes }

abbrev pub arrays_of : Table → TableArrays
arrays_of t =
    record {
      columns = t.column_entries.now;
      sections = t.sections.now;
      cells = t.cell_entries.now;
      lengths = t.lengths.now;
      text = t.text.now;
    }

abbrev pub rect_of : Rect → grid.Rect
rect_of r = record { top = r.top; left = r.left.0; bottom = r.bottom; right = r.right.0 }
