-- From the redraw call's answer and arrays to what they tell, and what is printed of both calls.
use Prim.Native.Nat.{ℕ, ◌≤◌}
use Rattle.std.specs.Prelude.{Result, Ok, Err}
use mathlib.Core.Path.{◌≡◌, refl, ap, ap₂, sym, ◌∙◌}
use mathlib.Core.Bool.{false}
use mathlib.Core.List.{List, [], ◌∷◌, map, flat_map}
use native.Mathlib.Omega.{arith}
use lib.ListN.{length, take, drop, length-map}
use Rattle.seq.specs.Lists.{sum}
use Rattle.seq.proofs.FlatMaps.{flat_map-map}
use Rattle.grid.specs.Answer.{Answer, accept, refuse, and_then}
use Rattle.grid.specs.Values.{Line, Table}
use Rattle.grid.specs.Read.{drawing_too_large, read_table}
use Rattle.grid.specs.Flat.{FlatDrawing, TableSizes, TableArrays, split_text, lines_with, lines_of, flat_drawing, table_contradicts, table_of_arrays}
use Rattle.grid.proofs.ReadLaws.{and_then-accepting, drawing_too_large-limited}
use Rattle.grid.proofs.FlatDrawingLaws.{drawing-again, join_text-length}
use Rattle.grid.specs.Listing.{refused_line}
use Rattle.drawing.specs.Plain.{canvas_of, canvas_lines}
use Rattle.drawing.specs.Redraw.{redraw}
use Rattle.drawing.specs.RedrawCall.{RedrawSpace, DrawingSizes, DrawingArrays, redraw_spaces, drawing_lent, drawing_sizes, redraw_answer, redraw_afterwards}
use Rattle.drawing.specs.RoundTripCall.{drawing_taken, RedrawRoom}
use Rattle.drawing.proofs.LimitLaws.{drawn_too_large-parts}
use Rattle.drawing.proofs.GlyphRows.{drawn-lines}
use Rattle.drawing.proofs.RoundTrip.{accepted-passes}
use Rattle.drawing.proofs.CallLaws.{redraw-answers, Redrawn, redraw-accepted, redrawn-taken}
use Rattle.drawing.specs.Listing.{ended_line, redraw_listed}
use Rattle.cm.specs.Late.{answer_of as drawing_of}
use Rattle.refusals.specs.Refusal.{number_of, place_of}
use Rattle.refusals.specs.declared.Refusal.{Refusal}
use Rattle.cm.specs.declared.draw.DrawingSizes.{DrawingSizes as Written}
use Rattle.input_lines.proofs.SheetLaws.{zeroes, length-zeroes}
use Rattle.printing.specs.Printing.{Prints}
use Rattle.printing.proofs.PutLaws.{prints-as}
use Rattle.input_lines.specs.Sheet.{lines_at0}
use Rattle.input_table.specs.Told.{TableHeld}
use Rattle.redraw_listing.specs.Told.{lines_redrawn, DrawingHeld, DrawingTold}

-- ---- the redraw call

abbrev fresh_redraw : RedrawSpace
fresh_redraw = redraw_spaces (zeroes 16384) (zeroes 16384) (zeroes 1024) (zeroes 1024) (zeroes 1024) (zeroes 4096) (zeroes 16384)

fresh-room : RedrawRoom fresh_redraw
fresh-room =
    record {
      starts = omega (arith, length-zeroes 16384);
      ends = omega (arith, length-zeroes 16384);
      firsts = omega (arith, length-zeroes 1024);
      heights = omega (arith, length-zeroes 1024);
      wides = omega (arith, length-zeroes 1024);
      rects = omega (arith, length-zeroes 4096);
      canvas = omega (arith, length-zeroes 16384);
    }

-- the texts of lines, whatever their columns
texts-of : (texts : List (List ℕ)) (columns : List ℕ) → map (λ (line : Line). line.text) (lines_with texts columns) ≡ texts
unfolding lines_with
texts-of [] columns = refl
texts-of (t ∷ texts) columns = ap (λ (l : List (List ℕ)). t ∷ l) (texts-of texts (drop 1 columns))

flat-ended : (ls : List Line) → flat_map ended_line (split_text (flat_drawing ls).lengths (flat_drawing ls).text) ≡ redraw_listed (accept ls)
unfolding lines_of
flat-ended ls =
    let f = flat_drawing ls in
    let texts : split_text f.lengths f.text ≡ map (λ (line : Line). line.text) ls =
    sym (texts-of (split_text f.lengths f.text) f.columns) ∙ ap (map (λ (line : Line). line.text)) (drawing-again ls) in
    rw texts (flat_map-map ended_line (λ (line : Line). line.text) ls)

flat-whole : (ls : List Line) → sum (flat_drawing ls).lengths ≡ length (flat_drawing ls).text
unfolding flat_drawing
flat-whole ls = sym (join_text-length ls)

module _ (s : TableSizes) (t : TableArrays) (agree : table_contradicts s t ≡ false) (out_lengths out_text : List ℕ)
    (rooms : (length out_lengths ≡ 128) × (length out_text ≡ 32768)) where
  abbrev T : Table
  T = table_of_arrays s t

  abbrev lent_drawing : DrawingArrays
  lent_drawing = drawing_lent out_lengths (zeroes 128) out_text

  answers-all : redraw_answer fresh_redraw 0 s t lent_drawing ≡ and_then (redraw 0 T) (λ lines. accept (drawing_sizes (flat_drawing lines)))
  answers-all =
      redraw-answers fresh_redraw 0 s t lent_drawing agree fresh-room
      (record { lengths = omega (arith, rooms); columns = omega (arith, length-zeroes 128); text = omega (arith, rooms) })

  undrawn-told : (n p : ℕ) → redraw_answer fresh_redraw 0 s t lent_drawing ≡ refuse n p → redraw 0 T ≡ refuse n p
  undrawn-told n p e = and_then-accepting (redraw 0 T) (λ lines. drawing_sizes (flat_drawing lines)) n p (sym answers-all ∙ e)

  -- the lines drawn, within the limits
  drawn-few : (ls : List Line) → redraw 0 T ≡ accept ls → (length ls ≤ 128) × (sum (map (λ (line : Line). length line.text) ls) ≤ 32768)
  drawn-few ls e =
      let (p, q) = accepted-passes 0 T ls e in
      let small = (drawn_too_large-parts (canvas_of T) (canvas_lines 0 (canvas_of T)) p.not_too_large).1 in
      let few = drawing_too_large-limited ls (ap drawing_too_large (q ∙ drawn-lines 0 T) ∙ small) in
      (few.few_lines, few.few_bytes)

  drawn-told : (n : DrawingSizes) → Redrawn fresh_redraw 0 s t lent_drawing n → (after : DrawingArrays)
      → after ≡ redraw_afterwards fresh_redraw 0 s t lent_drawing
      → (n.lines ≤ 128) × (n.bytes ≤ 32768) × DrawingHeld (redraw 0 T) (take n.lines after.lengths) (take n.bytes after.text)
  unfolding drawing_taken flat_drawing
  drawn-told n r after f =
      let ls = r.lines in
      let taken : drawing_taken n after ≡ flat_drawing ls = ap (drawing_taken n) f ∙ redrawn-taken fresh_redraw 0 s t lent_drawing r in
      let lengths : take n.lines after.lengths ≡ (flat_drawing ls).lengths = ap (λ (d : FlatDrawing). d.lengths) taken in
      let text : take n.bytes after.text ≡ (flat_drawing ls).text = ap (λ (d : FlatDrawing). d.text) taken in
      let (lines, bytes) = drawn-few ls r.drawing in
      let as-lines = ap (λ (n : DrawingSizes). n.lines) r.sizes in
      let as_bytes = ap (λ (n : DrawingSizes). n.bytes) r.sizes in
      let as-lengths = length-map ls (λ (line : Line). length line.text) in (
        omega (arith, lines, as-lines),
        omega (arith, bytes, as_bytes),
        record {
          few_lines = omega (arith, ap length lengths, as-lengths, lines);
          few_bytes = omega (arith, ap length text, join_text-length ls, bytes);
          whole = ap sum lengths ∙ flat-whole ls ∙ ap length (sym text);
          drawn = ap₂ (λ (ns t : List ℕ). flat_map ended_line (split_text ns t)) lengths text ∙ flat-ended ls ∙ ap redraw_listed (sym r.drawing);
        },
      )

  pub drawing-told : (r : Result Written Refusal) (after : DrawingArrays) → drawing_of r ≡ redraw_answer fresh_redraw 0 s t lent_drawing
      → after ≡ redraw_afterwards fresh_redraw 0 s t lent_drawing → DrawingTold (redraw 0 T) after.lengths after.text r
  drawing-told (Err refusal) after e f = undrawn-told (number_of refusal) (place_of refusal) (sym e)
  drawing-told (Ok drawn) after e f =
      let n : DrawingSizes = record { lines = drawn.lines; bytes = drawn.bytes } in
      drawn-told n (redraw-accepted fresh_redraw 0 s t lent_drawing n (sym e)) after f

-- ---- as the functions have it

pub table-drawn : (s : TableSizes) (t : TableArrays) (out_lengths out_text lengths columns text : List ℕ) (r : Result Written Refusal) → table_contradicts s t ≡ false
    → (length out_lengths ≡ 128) × (length out_text ≡ 32768)
    → (drawing_of r ≡ redraw_answer fresh_redraw 0 s t (drawing_lent out_lengths (zeroes 128) out_text))
    × (drawing_lent lengths columns text ≡ redraw_afterwards fresh_redraw 0 s t (drawing_lent out_lengths (zeroes 128) out_text))
    → DrawingTold (redraw 0 (table_of_arrays s t)) lengths text r
table-drawn s t out_lengths out_text lengths columns text r agree rooms told =
    drawing-told s t agree out_lengths out_text rooms r (drawing_lent lengths columns text) told.0 told.1

-- what is printed of the redraw call's answer
module _ (drawing : Answer (List Line)) where
  pub drawing-printed : {lengths text : List ℕ} → DrawingHeld drawing lengths text → {out : List ℕ} {end : ℕ}
      → Prints out end (flat_map ended_line (split_text lengths text)) → Prints out end (redraw_listed drawing)
  drawing-printed held p = prints-as p held.drawn

  pub undrawn-printed : {number place : ℕ} → drawing ≡ refuse number place → {out : List ℕ} {end : ℕ} → Prints out end (refused_line number place)
      → Prints out end (redraw_listed drawing)
  undrawn-printed refused p = prints-as p (ap redraw_listed (sym refused))

-- what is printed of the table call's answer
module _ (lengths text : List ℕ) where
  pub table-printed : (s : TableSizes) (t : TableArrays) → TableHeld lengths text s t → {out : List ℕ} {end : ℕ}
      → Prints out end (redraw_listed (redraw 0 (table_of_arrays s t))) → Prints out end (lines_redrawn (split_text lengths text))
  table-printed s t held p = prints-as p (ap (λ (a : Answer Table). redraw_listed (and_then a (redraw 0))) (sym held.read))

  pub unread-printed : {number place : ℕ} → read_table (lines_at0 (split_text lengths text)) ≡ refuse number place → {out : List ℕ} {end : ℕ}
      → Prints out end (refused_line number place) → Prints out end (lines_redrawn (split_text lengths text))
  unread-printed refused p = prints-as p (ap (λ (a : Answer Table). redraw_listed (and_then a (redraw 0))) (sym refused))
