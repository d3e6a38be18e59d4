-- The structs of a canvas and its text, in the terms of the working arrays.
use Rattle.std.specs.Prelude.{◌≡◌, List}
use Rattle.drawing.specs.Plain.{Box, Canvas, canvas_height}
use Rattle.cm.specs.Board as arrays
use Rattle.cm.specs.Board.{Lettered, CanvasReady}
use Rattle.cm.specs.declared.board.Board.{Board}
use Rattle.cm.specs.declared.lettering.Lettering.{Lettering}

abbrev pub LettersOf : Lettering → List Box → Type 0
LettersOf l bs = Lettered bs l.text.now l.starts.now l.ends.now l.firsts.now l.heights.now

abbrev pub board_of : Board → arrays.Board
board_of d = arrays.board d.rects.now d.lettering.text.now d.lettering.starts.now d.lettering.ends.now d.lettering.firsts.now d.lettering.heights.now

-- the arrays hold this canvas
abbrev pub Bears : Board → Canvas → Type 0
Bears d v = CanvasReady v d.cells d.width.0 (board_of d) d.canvas.now

-- they hold one, of this height
abbrev pub Ready : Board → Type 0
Ready d = (v : Canvas) × Bears d v × (d.height ≡ canvas_height v)
