-- The redrawing of lines at column 0, and what the redraw call tells of it.
use Rattle.std.specs.Prelude.{ℕ, ◌≤◌, ◌≡◌, Result, Ok, Err, length, take}
use mathlib.Core.List.{List, flat_map}
use Rattle.seq.specs.Lists.{sum}
use Rattle.grid.specs.Answer.{Answer, refuse, and_then}
use Rattle.grid.specs.Values.{Line}
use Rattle.grid.specs.Read.{read_table}
use Rattle.grid.specs.Flat.{split_text}
use Rattle.drawing.specs.Redraw.{redraw}
use Rattle.drawing.specs.Listing.{ended_line, redraw_listed}
use Rattle.refusals.specs.Refusal.{number_of, place_of}
use Rattle.refusals.specs.declared.Refusal.{Refusal}
use Rattle.cm.specs.declared.draw.DrawingSizes.{DrawingSizes}
use Rattle.input_lines.specs.Sheet.{lines_at0}

abbrev pub lines_redrawn : List (List ℕ) → List ℕ
lines_redrawn texts = redraw_listed (and_then (read_table (lines_at0 texts)) (redraw 0))

-- the first lines and bytes are of the drawing
pub record DrawingHeld (drawing : Answer (List Line)) (lengths text : List ℕ) : Type 0 where
  pub few_lines : length lengths ≤ 128
  pub few_bytes : length text ≤ 32768
  pub whole : sum lengths ≡ length text
  pub drawn : flat_map ended_line (split_text lengths text) ≡ redraw_listed drawing

abbrev pub DrawingTold : Answer (List Line) → List ℕ → List ℕ → Result DrawingSizes Refusal → Type 0
DrawingTold drawing lengths text (Ok s) =
    (s.lines ≤ 128) × (s.bytes ≤ 32768) × DrawingHeld drawing (take s.lines lengths) (take s.bytes text)
DrawingTold drawing lengths text (Err e) = drawing ≡ refuse (number_of e) (place_of e)
