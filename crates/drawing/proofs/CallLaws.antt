-- Laws of the table call and the redraw call. With room for every result there is no 12 (`table-with-room`, `drawing-roomy`). An accepted
-- call has read a table, or drawn one, and that is what a caller takes from its arrays (`table-accepted`, `redraw-accepted`);
-- `read-redraw` is the step from the one to the other.
use Prim.Native.Nat.{ℕ, ◌*◌, ◌≤◌}
use mathlib.Core.Path.{◌≡◌, refl, sym, ap, ap₂, ◌∙◌}
use mathlib.Core.Bool.{false, ◌||◌}
use mathlib.Core.List.{List, map, flat_map}
use native.Mathlib.Omega.{arith}
use borrow.Author.Tests.{le-ltb}
use lib.Dec.{ltb}
use lib.ListN.{length, length-map}
use Rattle.seq.specs.Lists.{sum}
use Rattle.seq.proofs.Tests.{or-none}
use Rattle.seq.proofs.FlatMaps.{length-flat_map, length-flat_map-sum}
use Rattle.grid.specs.Limits.{max_lines, max_bytes, max_columns, max_rows, max_cells, max_table_lines}
use Rattle.grid.specs.Answer.{Answer, accept, refuse, refuse_if, and_then}
use Rattle.grid.specs.Values.{Line, Table}
use Rattle.grid.specs.Read.{drawing_too_large, read_table}
use Rattle.grid.specs.Flat.{FlatDrawing, drawing_contradicts, lines_of, join_text, flat_drawing, section_code, TableSizes, TableArrays, column_numbers, table_cell_numbers, table_lines, table_contradicts, table_of_arrays, table_sizes, table_arrays, shorter}
use Rattle.grid.specs.LayoutCall.{LayoutSpace, space_short}
use Rattle.grid.specs.TableCall.{TableSpace, starts_short, table_space_short, table_short, table_over, read_contradicts, table_accepts, table_answer, table_afterwards}
use Rattle.grid.proofs.AnswerLaws.{accept-same, over-taken}
use Rattle.grid.proofs.ReadLaws.{passed-if, passed_then, afterwards-accepted, handed_out-read, drawing_too_large-limited}
use Rattle.grid.proofs.FlatDrawingLaws.{join_text-length}
use Rattle.grid.proofs.FlatTableLaws.{table-again}
use Rattle.drawing.specs.Plain.{canvas_of, canvas_lines}
use Rattle.drawing.specs.Redraw.{shape_too_large, lines_too_large, redraw}
use Rattle.drawing.specs.RedrawCall.{RedrawSpace, redraw_space_short, DrawingSizes, DrawingArrays, drawing_sizes, drawing_short, drawing_over, redraw_into, redraw_accepts, redraw_answer, redraw_afterwards}
use Rattle.drawing.specs.RoundTripCall.{drawing_taken, table_taken, DrawingRoom, TableRoom, ReadRoom, RedrawRoom}
use Rattle.drawing.proofs.ReadLimits.{read-not-too-large, arrays-redraw}
use Rattle.drawing.proofs.LimitLaws.{table_too_large-parts, drawn_too_large-parts, shape-limits, lines-limits}
use Rattle.drawing.proofs.GlyphRows.{drawn-lines}
use Rattle.drawing.proofs.RoundTrip.{accepted-passes}

-- ---- room
enough : {n m : ℕ} → m ≤ n → ltb n m ≡ false
enough {n} {m} h = le-ltb n m h

not-shorter : (buffer result : List ℕ) (n : ℕ) → length result ≤ n → n ≤ length buffer → shorter buffer result ≡ false
not-shorter buffer result n h k = le-ltb (length buffer) (length result) (omega arith)

small-roomy : (ls : List Line) → drawing_too_large ls ≡ false → (out : DrawingArrays) → DrawingRoom out → drawing_short out (flat_drawing ls) ≡ false
unfolding drawing_short flat_drawing
small-roomy ls small out room =
    let few = drawing_too_large-limited ls small in
    let lengths = map (λ (line : Line). length line.text) ls in
    let columns = map (λ (line : Line). line.column) ls in
    let text = join_text (map (λ (line : Line). line.text) ls) in
    let as-lengths = length-map ls (λ (line : Line). length line.text) in
    let as-columns = length-map ls (λ (line : Line). line.column) in
    or-none
    (or-none (not-shorter out.lengths lengths max_lines (omega (arith, few.few_lines, as-lengths)) room.lengths)
    (not-shorter out.columns columns max_lines (omega (arith, few.few_lines, as-columns)) room.columns))
    (not-shorter out.text text max_bytes (omega (arith, few.few_bytes, join_text-length ls)) room.text)

-- a drawing that redraw accepts is never too long for such arrays
pub drawing-roomy : (o : ℕ) (t : Table) (lines : List Line) → redraw o t ≡ accept lines
    → (out : DrawingArrays) → DrawingRoom out → drawing_short out (flat_drawing lines) ≡ false
drawing-roomy o t lines e out room =
    let (p, q) = accepted-passes o t lines e in
    let small = (drawn_too_large-parts (canvas_of t) (canvas_lines o (canvas_of t)) p.not_too_large).1 in
    small-roomy lines (ap drawing_too_large (q ∙ drawn-lines o t) ∙ small) out room

module _ (t : Table) (shape : shape_too_large t ≡ false) (text : lines_too_large t ≡ false) where
  table-roomy : (out : TableArrays) → TableRoom out → table_short out (table_arrays t) ≡ false
  unfolding table_short table_arrays
  table-roomy out room =
      let s = shape-limits t shape in
      let l = lines-limits t text in
      let columns = flat_map column_numbers t.columns in
      let sections = map section_code t.sections in
      let cells = flat_map table_cell_numbers t.cells in
      let two = length-flat_map 2 column_numbers t.columns (λ c. refl) in
      let five = length-flat_map 5 table_cell_numbers t.cells (λ c. refl) in
      let bytes = length-flat_map-sum (λ line. line) (table_lines t) in
      or-none
      (or-none
      (or-none
      (or-none (not-shorter out.columns columns (2 * max_columns) (omega (arith, s.columns, two)) room.columns)
      (not-shorter out.sections sections max_rows (omega (arith, s.rows, length-map t.sections section_code)) room.sections))
      (not-shorter out.cells cells (5 * max_cells) (omega (arith, s.cells, five)) room.cells))
      (not-shorter out.lengths (map length (table_lines t)) max_table_lines (omega (arith, l.lines, length-map (table_lines t) length)) room.lengths))
      (not-shorter out.text (join_text (table_lines t)) max_bytes (omega (arith, l.bytes, bytes)) room.text)

-- a table that is read is never too long for such arrays
read-roomy : (ls : List Line) (u : Table) → read_table ls ≡ accept u → (out : TableArrays) → TableRoom out → table_short out (table_arrays u) ≡ false
read-roomy ls u e out room =
    let (_, shape, text) = table_too_large-parts 0 u (read-not-too-large ls u e 0 (omega arith)) in
    table-roomy u shape text out room

space-enough : (w : LayoutSpace) (s : TableSpace) → ReadRoom w s → (space_short w ≡ false) × (table_space_short s ≡ false)
unfolding space_short table_space_short starts_short
space-enough w s room =
    let slots = or-none (or-none (or-none (enough room.glyphs) (enough room.offsets)) (enough room.down)) (enough room.right) in
    (or-none slots (enough room.rects), or-none (enough room.starts) (enough room.counts))

pub redraw-space-enough : (w : RedrawSpace) → RedrawRoom w → redraw_space_short w ≡ false
unfolding redraw_space_short
redraw-space-enough w room =
    let lines = or-none (enough room.starts) (enough room.ends) in
    let cells = or-none (or-none (or-none lines (enough room.firsts)) (enough room.heights)) (enough room.wides) in
    or-none (or-none cells (enough room.rects)) (enough room.canvas)

-- ---- taking the results
table_taken_lem : (u : Table) (out : TableArrays) → table_taken (table_sizes u) (table_over (table_arrays u) out) ≡ table_arrays u
unfolding table_taken table_over table_sizes table_arrays
table_taken_lem u out =
    let two = length-flat_map 2 column_numbers u.columns (λ c. refl) in
    let five = length-flat_map 5 table_cell_numbers u.cells (λ c. refl) in
    let columns = over-taken (2 * length u.columns) (flat_map column_numbers u.columns) out.columns two in
    let sections = over-taken (length u.sections) (map section_code u.sections) out.sections (length-map u.sections section_code) in
    let cells = over-taken (5 * length u.cells) (flat_map table_cell_numbers u.cells) out.cells five in
    let lengths = over-taken (length (table_lines u)) (map length (table_lines u)) out.lengths (length-map (table_lines u) length) in
    let text = over-taken (length (join_text (table_lines u))) (join_text (table_lines u)) out.text refl in
    λ i. record { columns = columns i; sections = sections i; cells = cells i; lengths = lengths i; text = text i }

pub drawing-taken : (ls : List Line) (out : DrawingArrays) → drawing_taken (drawing_sizes (flat_drawing ls)) (drawing_over (flat_drawing ls) out) ≡ flat_drawing ls
unfolding drawing_taken flat_drawing
drawing-taken ls out =
    let total = sum (map (λ (line : Line). length line.text) ls) in
    let as-lengths = length-map ls (λ (line : Line). length line.text) in
    let as-columns = length-map ls (λ (line : Line). line.column) in
    let lengths = over-taken (length ls) (map (λ (line : Line). length line.text) ls) out.lengths as-lengths in
    let columns = over-taken (length ls) (map (λ (line : Line). line.column) ls) out.columns as-columns in
    let text = over-taken total (join_text (map (λ (line : Line). line.text) ls)) out.text (join_text-length ls) in
    λ i. record { lines = length ls; bytes = total; lengths = lengths i; columns = columns i; text = text i }

-- ---- the table call
module _ (w : LayoutSpace) (s : TableSpace) (d : FlatDrawing) (out : TableArrays) where
  abbrev with_room : Table → Answer Table
  with_room t = refuse_if (table_short out (table_arrays t)) 12 (accept t)

  -- With room in its output arrays the table call gives no 12.
  pub table-with-room : TableRoom out → table_accepts w s d out ≡ refuse_if (read_contradicts w (table_space_short s) d) 13 (read_table (lines_of d))
  unfolding table_accepts
  table-with-room room = ap (λ (a : Answer Table). refuse_if (read_contradicts w (table_space_short s) d) 13 a) (go (read_table (lines_of d)) refl) where
    go : (a : Answer Table) → read_table (lines_of d) ≡ a → and_then a with_room ≡ a
    go (accept u) e = rw (read-roomy (lines_of d) u e out room)
    go (refuse n p) e = refl

  -- With room everywhere it accepts what is read.
  pub table-accepts : ReadRoom w s → TableRoom out → drawing_contradicts d ≡ false → (u : Table) → read_table (lines_of d) ≡ accept u
      → table_answer w s d out ≡ accept (table_sizes u)
  unfolding table_answer
  table-accepts reading room fits u e =
      let (enough, more) = space-enough w s reading in
      let accepts : table_accepts w s d out ≡ accept u = table-with-room room ∙ rw (fits, enough, more, e) in
      ap (λ (a : Answer Table). and_then a (λ t. accept (table_sizes t))) accepts

  -- what an accepted one has read, and what is taken from its arrays
  pub record TableRead (m : TableSizes) : Type 0 where
    pub table : Table
    pub accepts : table_accepts w s d out ≡ accept table
    pub read : read_table (lines_of d) ≡ accept table
    pub sizes : table_sizes table ≡ m
    pub taken : table_taken m (table_afterwards w s d out) ≡ table_arrays table

  pub table-accepted : (m : TableSizes) → table_answer w s d out ≡ accept m → TableRead m
  unfolding table_answer table_afterwards table_accepts
  table-accepted m e =
      let (u, accepts, made) = passed_then (table_accepts w s d out) (λ t. accept (table_sizes t)) m e in
      let sizes : table_sizes u ≡ m = accept-same made in
      let after = afterwards-accepted (table_accepts w s d out) (λ t. table_over (table_arrays t) out) out u accepts in
      record {
        table = u;
        accepts = accepts;
        read = handed_out-read (read_contradicts w (table_space_short s) d) (read_table (lines_of d)) (λ t. table_short out (table_arrays t)) u accepts;
        sizes = sizes;
        taken = ap₂ table_taken (sym sizes) after ∙ table_taken_lem u out;
      }

  -- taken apart it is the table that was read
  pub taken-apart : {m : TableSizes} → (r : TableRead m) → table_of_arrays m (table_taken m (table_afterwards w s d out)) ≡ r.table
  taken-apart r = ap₂ table_of_arrays (sym r.sizes) r.taken ∙ table-again r.table

  -- Handed to the redraw call, what was written gives no 13 but for working space.
  pub read-redraw : {m : TableSizes} → (r : TableRead m) (v : RedrawSpace) (o : ℕ) (a : DrawingArrays)
      → redraw_accepts v o m (table_taken m (table_afterwards w s d out)) a ≡ refuse_if (redraw_space_short v) 13 (redraw_into a o r.table)
  read-redraw r v o a =
      ap₂ (λ (m : TableSizes) (b : TableArrays). redraw_accepts v o m b a) (sym r.sizes) r.taken ∙ arrays-redraw v o r.table a

-- ---- the redraw call
module _ (w : RedrawSpace) (o : ℕ) (s : TableSizes) (t : TableArrays) (out : DrawingArrays) where
  abbrev T : Table
  T = table_of_arrays s t

  abbrev drawing_room : List Line → Answer FlatDrawing
  drawing_room lines = refuse_if (drawing_short out (flat_drawing lines)) 12 (accept (flat_drawing lines))

  -- what an accepted one has drawn and written
  pub record Redrawn (n : DrawingSizes) : Type 0 where
    pub lines : List Line
    pub drawing : redraw o T ≡ accept lines
    pub sizes : drawing_sizes (flat_drawing lines) ≡ n
    pub written : redraw_afterwards w o s t out ≡ drawing_over (flat_drawing lines) out

  pub redraw-accepted : (n : DrawingSizes) → redraw_answer w o s t out ≡ accept n → Redrawn n
  unfolding redraw_answer redraw_afterwards redraw_accepts
  redraw-accepted n e =
      let (d, accepts, sized) = passed_then (redraw_accepts w o s t out) (λ d. accept (drawing_sizes d)) n e in
      let (_, into) = passed-if (table_contradicts s t || redraw_space_short w) 13 (redraw_into out o T) d accepts in
      let (lines, drawn, room) = passed_then (redraw o T) drawing_room d into in
      let flat : flat_drawing lines ≡ d = accept-same (passed-if (drawing_short out (flat_drawing lines)) 12 (accept (flat_drawing lines)) d room).1 in
      let after = afterwards-accepted (redraw_accepts w o s t out) (λ d. drawing_over d out) out d accepts in
      record {
        lines = lines;
        drawing = drawn;
        sizes = ap drawing_sizes flat ∙ accept-same sized;
        written = after ∙ ap (λ (d : FlatDrawing). drawing_over d out) (sym flat);
      }

  -- taken from its arrays it is the flat form of the drawing
  pub redrawn-taken : {n : DrawingSizes} → (r : Redrawn n) → drawing_taken n (redraw_afterwards w o s t out) ≡ flat_drawing r.lines
  redrawn-taken r = ap₂ drawing_taken (sym r.sizes) r.written ∙ drawing-taken r.lines out

  -- with room everywhere, and no contradiction, it answers what redraw gives
  pub redraw-answers : table_contradicts s t ≡ false → RedrawRoom w → DrawingRoom out
      → redraw_answer w o s t out ≡ and_then (redraw o T) (λ lines. accept (drawing_sizes (flat_drawing lines)))
  unfolding redraw_answer redraw_accepts
  redraw-answers fits enough room = rw (fits, redraw-space-enough w enough) (go (redraw o T) refl) where
    go : (a : Answer (List Line)) → redraw o T ≡ a
        → and_then (and_then a drawing_room) (λ d. accept (drawing_sizes d)) ≡ and_then a (λ lines. accept (drawing_sizes (flat_drawing lines)))
    go (accept lines) e = rw (drawing-roomy o T lines e out room)
    go (refuse k p) e = refl
