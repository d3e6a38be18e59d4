-- A drawing that was read, in the terms of the definitions.
use Rattle.representation.specs.Lent.{drawing_of}
use Rattle.reading.specs.Call.{SheetArrays, sheet_of}
use Rattle.reading.specs.declared.TracedDrawing.{TracedDrawing}

-- its arrays
abbrev pub arrays_in : TracedDrawing → SheetArrays
arrays_in t = sheet_of (drawing_of t.drawing) t.glyphs.now t.offsets.now t.rects.now
