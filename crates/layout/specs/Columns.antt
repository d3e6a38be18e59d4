-- What the layout and table calls write of columns, by the line that aligns them.
use Rattle.std.specs.Prelude.{ℕ, List}
use Rattle.representation.specs.LayoutEntries.{column_entries}
use Rattle.layout.specs.declared.alignments.AlignmentLine.{AlignmentLine}

abbrev pub columns_of : AlignmentLine → List ℕ → List ℕ
columns_of a lines = column_entries a.glyphs.now a.offsets.now a.text.now a.line lines
