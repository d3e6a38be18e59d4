-- The rectangles that tracing left, in the terms of the definitions.
use Rattle.std.specs.Prelude.{List}
use Rattle.grid.specs.Values.{Rect}
use Rattle.representation.specs.Arrays.{rects_of}
use Rattle.representation.specs.declared.rects.Rects.{Rects}

abbrev pub rects_held : Rects → List Rect
rects_held r = rects_of r.count r.array.now
