-- `redraw_sheet`: from a drawing and an origin to its redrawing in one call. It checks 13 for the arrays and the working space of both
-- steps, then what reading checks, then what redraw checks, 12 last. Its answer says which of the two steps refused.
use Rattle.std.specs.Prelude.{ℕ, ◌*◌, Bool, ◌||◌, List, ltb, length}
use Rattle.grid.specs.Answer.{Answer, accept, refuse, refuse_if, and_then, afterwards}
use Rattle.grid.specs.Limits.{max_bytes, max_columns, max_rows, max_cells, max_table_lines}
use Rattle.grid.specs.Read.{read_table}
use Rattle.grid.specs.Flat.{FlatDrawing, lines_of}
use Rattle.grid.specs.LayoutCall.{LayoutSpace}
use Rattle.grid.specs.TableCall.{TableSpace, table_space_short, read_contradicts}
use Rattle.drawing.specs.RedrawCall.{RedrawSpace, redraw_space_short, DrawingSizes, DrawingArrays, drawing_sizes, drawing_over, redraw_into}

-- working space beside that of the two steps: the lengths of the arrays that hold the table between them, room for every table that is read
pub record SheetSpace : Type 0 where
  pub columns : ℕ
  pub sections : ℕ
  pub cells : ℕ
  pub lengths : ℕ
  pub text : ℕ

abbrev pub sheet_spaces : (columns sections cells lengths text : List ℕ) → SheetSpace
sheet_spaces columns sections cells lengths text =
    record { columns = length columns; sections = length sections; cells = length cells; lengths = length lengths; text = length text }

unfoldable pub sheet_space_short : SheetSpace → Bool
sheet_space_short h =
    ltb h.columns (2 * max_columns) || ltb h.sections max_rows || ltb h.cells (5 * max_cells) || ltb h.lengths max_table_lines
    || ltb h.text max_bytes

-- a refusal's number and place, by the step that refused: 13 is the reading step's, 12 the redraw step's
pub data SheetAnswer : Type 0 where
  redrawn : DrawingSizes → SheetAnswer
  unread : ℕ → ℕ → SheetAnswer
  undrawn : ℕ → ℕ → SheetAnswer

-- what the redraw step answers
abbrev pub redraw_step : Answer DrawingSizes → SheetAnswer
redraw_step (accept sizes) = redrawn sizes
redraw_step (refuse number place) = undrawn number place

-- what the reading step answers and, where it accepts, what the redraw step does
abbrev pub both_steps : Answer (Answer FlatDrawing) → SheetAnswer
both_steps (accept drawing) = redraw_step (and_then drawing (λ d. accept (drawing_sizes d)))
both_steps (refuse number place) = unread number place

-- the arguments: the working space, the drawing, the origin, and what the output arrays hold
unfoldable pub sheet_accepts : LayoutSpace → TableSpace → SheetSpace → RedrawSpace → FlatDrawing → ℕ → DrawingArrays → Answer (Answer FlatDrawing)
sheet_accepts w s h v d origin out =
    refuse_if (read_contradicts w (table_space_short s) d || sheet_space_short h || redraw_space_short v) 13
    (and_then (read_table (lines_of d)) (λ t. accept (redraw_into out origin t)))

unfoldable pub sheet_answer : LayoutSpace → TableSpace → SheetSpace → RedrawSpace → FlatDrawing → ℕ → DrawingArrays → SheetAnswer
sheet_answer w s h v d origin out = both_steps (sheet_accepts w s h v d origin out)

unfoldable pub sheet_afterwards : LayoutSpace → TableSpace → SheetSpace → RedrawSpace → FlatDrawing → ℕ → DrawingArrays → DrawingArrays
sheet_afterwards w s h v d origin out =
    afterwards (sheet_accepts w s h v d origin out) (λ drawing. afterwards drawing (λ d. drawing_over d out) out) out
