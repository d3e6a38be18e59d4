-- `canvas::draw_canvas` meets its contract: borders, corners over them, and colons over both.
use Rattle.canvas.proofs.PictureLaws.{canvas-pictured}
use Rattle.canvas.proofs.draw_canvas.Goals as goal

pub returns : goal.returns
returns c v D =
    let inside = c.requires.inside in
    canvas-pictured D inside c.draw_borders.ensures c.draw_corners.ensures c.draw_colons.ensures
