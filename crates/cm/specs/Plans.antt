-- The struct that a canvas is drawn from, in the terms of the arguments.
use Rattle.cm.specs.Sketch as given
use Rattle.cm.specs.declared.plan.Plan.{Plan}

abbrev pub plan_of : Plan → given.Plan
plan_of p = given.plan p.columns p.rows p.cells p.heads p.foots p.column_entries.now p.cell_entries.now p.xs p.ys p.marks
