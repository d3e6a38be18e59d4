-- The answer of the call from a drawing to its redrawing as a struct.
use Rattle.std.specs.Prelude.{Result, Ok, Err}
use Rattle.drawing.specs.SheetCall.{SheetAnswer, redrawn, unread, undrawn}
use Rattle.cm.specs.Late.{written_sizes}
use Rattle.cm.specs.declared.draw.DrawingSizes.{DrawingSizes}
use Rattle.redrawing.specs.declared.SheetRefusal.{SheetRefusal}
use Rattle.redrawing.specs.declared.SheetRefusal.TheVariants as sheet
use Rattle.replies.specs.Refused.{refused_of}
use Rattle.replies.specs.declared.sheets.SheetRefused.{SheetRefused}
use Rattle.replies.specs.declared.sheets.SheetRefused.TheVariants.{Unread, Undrawn}
use Rattle.replies.specs.declared.sheets.SheetReply.{SheetReply}

-- what the call refuses, by its number and its place
abbrev pub sheet_refused_of : SheetRefusal → SheetRefused
sheet_refused_of (sheet.Unread r) = Unread (refused_of r)
sheet_refused_of (sheet.Undrawn r) = Undrawn (refused_of r)

-- the step, number and place of a refusal
abbrev pub step_told : SheetRefused → SheetAnswer
step_told (Unread r) = unread r.number r.place
step_told (Undrawn r) = undrawn r.number r.place

-- what the answer stands for, by the step, number and place of a refusal
abbrev pub sheet_told : {R : Type 0} → (R → SheetRefused) → Result DrawingSizes R → SheetAnswer
sheet_told refused (Ok s) = redrawn (written_sizes s)
sheet_told refused (Err r) = step_told (refused r)

abbrev pub sheet_reply_of : SheetAnswer → SheetReply
sheet_reply_of (redrawn s) = record { step = 0; number = 0; place = 0; lines = s.lines; bytes = s.bytes }
sheet_reply_of (unread number place) = record { step = 1; number = number; place = place; lines = 0; bytes = 0 }
sheet_reply_of (undrawn number place) = record { step = 2; number = number; place = place; lines = 0; bytes = 0 }
