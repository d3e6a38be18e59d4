-- The lines of a drawing that can be cut, in the terms of the definitions.
use Rattle.cell.specs.Text as text
use Rattle.cell.specs.declared.source.Source.{Source}

abbrev pub source_of : Source → text.Source
source_of s = text.source s.lengths.now s.columns.now s.text.now s.starts.now s.offsets.now
