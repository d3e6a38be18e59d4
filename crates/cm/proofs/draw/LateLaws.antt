-- The checks after 10 on a canvas that is drawn, in the order of the code.
use Prim.Native.Nat.{ℕ, ◌≤◌}
use mathlib.Core.Path.{◌≡◌, refl, sym, ap, ◌∙◌}
use mathlib.Core.Bool.{Bool, true, false, ◌||◌}
use mathlib.Core.Option.{none}
use mathlib.Core.List.Memᴰ
use mathlib.Core.List.{List, [], ◌∷◌, map, Memᴰ}
use native.Mathlib.Omega.{arith}
use lib.Dec.{ltb}
use lib.ListN.{length, take, replicate, length-map}
use borrow.Author.Tests.{le-ltb, ltb-false}
use Rattle.seq.specs.Lists.{up_to, any}
use Rattle.seq.proofs.Tests.{or-neither}
use Rattle.seq.proofs.Walks.{or-false}
use Rattle.seq.proofs.Ranges.{length-range}
use Rattle.seq.proofs.Searches.{any-agree, any-map}
use Rattle.grid.specs.Answer.{accept, refuse, over}
use Rattle.grid.specs.Values.{Line}
use Rattle.grid.specs.Slots.{grid_of}
use Rattle.grid.specs.Read.{line_too_large, drawing_too_large}
use Rattle.grid.specs.Flat.{flat_drawing}
use Rattle.grid.proofs.FlatDrawingLaws.{join_text-length}
use Rattle.reading.specs.Checks.{place_of}
use Rattle.std.specs.Prelude.{Option, Some, None}
use Rattle.drawing.specs.Plain.{Canvas, canvas_height, drawn_line, canvas_lines}
use Rattle.drawing.specs.Redraw.{drawn_too_large, split_cell}
use Rattle.drawing.specs.RedrawCall.{DrawingArrays, drawing_lent, drawing_short}
use Rattle.drawing.proofs.GlyphRows.{canvas_lines-length}
use Rattle.writer.specs.Writing.{put_down}
use Rattle.writer.proofs.WritingLaws.{put_down-over}
use Rattle.cm.specs.Board.{Board, CanvasReady}
use Rattle.cm.specs.Counted.{line_lengths, drawn_text, Counted}
use Rattle.cm.specs.Late.{late_answer, late_sizes, late_arrays}
use Rattle.cm.specs.declared.output.LineSizes.{LineSizes}
use Rattle.cm.proofs.draw.SizeLaws.{long}

-- the code's test of the output arrays leaves room for the lengths and the columns
pub room-left : (a b c height bytes : ℕ) → ltb a height || ltb b height || ltb c bytes ≡ false → (height ≤ a) × (height ≤ b)
room-left a b c height bytes e =
    let both = (or-neither (ltb a height || ltb b height) (ltb c bytes) e).0 in
    let each = or-neither (ltb a height) (ltb b height) both in
    (ltb-false a height each.0, ltb-false b height each.1)

-- every drawn line starts at the origin
drawn-columns : (o : ℕ) (v : Canvas) → map (λ (line : Line). line.column) (canvas_lines o v) ≡ replicate (canvas_height v) o
unfolding canvas_lines drawn_line
drawn-columns o v = go (up_to (canvas_height v)) ∙ ap (λ (k : ℕ). replicate k o) (length-range 0 (canvas_height v)) where
  go : (l : List ℕ) → map (λ (line : Line). line.column) (map (drawn_line o v) l) ≡ replicate (length l) o
  go [] = refl
  go (y ∷ l) = ap (λ (r : List ℕ). o ∷ r) (go l)

drawn-column : (o : ℕ) (v : Canvas) (line : Line) → Memᴰ line (canvas_lines o v) → line.column ≡ o
unfolding canvas_lines drawn_line
drawn-column o v line m = let (y, i, e) = Memᴰ.of_map (drawn_line o v) (up_to (canvas_height v)) m in sym (ap (λ (l : Line). l.column) e)

module _ {v : Canvas} {n width : ℕ} {b : Board} {canvas : List ℕ} (R : CanvasReady v n width b canvas) (origin height : ℕ) (tall : height ≡ canvas_height v) (near : origin ≤ 255)
    (sizes : LineSizes) (C : Counted (canvas_lines origin v) sizes) (out : DrawingArrays) where
  abbrev lines : List Line
  lines = canvas_lines origin v

  count : length lines ≡ height
  count = canvas_lines-length origin v ∙ sym tall

  each : take height sizes.lengths ≡ line_lengths lines
  each = rw count at C.each

  pub height-low : height ≤ 128
  height-low = omega (arith, R.boxed.low)

  -- 2
  line-long : any line_too_large lines ≡ any long (line_lengths lines)
  line-long =
      any-agree line_too_large (λ (line : Line). long (length line.text)) lines (λ line m.
      rw (drawn-column origin v line m, le-ltb 255 origin near) (or-false (long (length line.text))))
      ∙ sym (any-map (λ (line : Line). length line.text) long lines)

  too_large : any long (take height sizes.lengths) || ltb 32768 sizes.bytes ≡ drawn_too_large v lines
  unfolding drawn_too_large drawing_too_large
  too_large =
      rw (each, C.total, line-long, le-ltb 128 (length lines) (omega (arith, count, height-low)), le-ltb 128 _ R.boxed.narrow) refl

  -- what the code's test of the sizes says
  module _ (t : Bool) (test : t ≡ any long (take height sizes.lengths) || ltb 32768 sizes.bytes) where
    pub late-large : t ≡ true → (refuse 2 0 ≡ late_sizes v origin out) × (out ≡ late_arrays v origin out)
    unfolding late_sizes late_arrays late_answer
    late-large e = rw (sym too_large ∙ sym test ∙ e) (refl, refl)

    pub lengths_short : t ≡ false → any long (take height sizes.lengths) ≡ false
    lengths_short e = (or-neither (any long (take height sizes.lengths)) (ltb 32768 sizes.bytes) (sym test ∙ e)).0

    module _ (small : t ≡ false) where
      -- 11
      fits : drawn_too_large v lines ≡ false
      fits = sym too_large ∙ sym test ∙ small

      pub late-split : (r : Option ℕ) (k : ℕ) → place_of r ≡ split_cell v (grid_of lines) → r ≡ Some k → (refuse 11 k ≡ late_sizes v origin out) × (out ≡ late_arrays v origin out)
      unfolding late_sizes late_arrays late_answer
      late-split r k e is = rw (fits, ← (ap place_of (sym is) ∙ e)) (refl, refl)

      -- 12
      module _ (r : Option ℕ) (found : place_of r ≡ split_cell v (grid_of lines)) (is : r ≡ None) where
        whole : none ≡ split_cell v (grid_of lines)
        whole = ap place_of (sym is) ∙ found

        text-size : length (drawn_text lines) ≡ sizes.bytes
        text-size = join_text-length lines ∙ sym C.total

        short-is : ltb (length out.lengths) height || ltb (length out.columns) height || ltb (length out.text) sizes.bytes ≡ drawing_short out (flat_drawing lines)
        unfolding drawing_short flat_drawing
        short-is = rw (length-map lines (λ (line : Line). length line.text), length-map lines (λ (line : Line). line.column), count, text-size) refl

        pub late-short : ltb (length out.lengths) height || ltb (length out.columns) height || ltb (length out.text) sizes.bytes ≡ true → (refuse 12 0 ≡ late_sizes v origin out) × (out ≡ late_arrays v origin out)
        unfolding late_sizes late_arrays late_answer
        late-short e = rw (fits, ← whole, sym short-is ∙ e) (refl, refl)

        -- the drawing
        pub late-drawn : ltb (length out.lengths) height || ltb (length out.columns) height || ltb (length out.text) sizes.bytes ≡ false → (lengths columns text : List ℕ) → lengths ≡ over (take height sizes.lengths) out.lengths
            → columns ≡ over (replicate height origin) out.columns → text ≡ put_down out.text 0 (drawn_text lines)
            → (accept (record { lines = height; bytes = sizes.bytes }) ≡ late_sizes v origin out) × (drawing_lent lengths columns text ≡ late_arrays v origin out)
        unfolding late_sizes late_arrays late_answer flat_drawing
        late-drawn e lengths columns text l c t =
            let room : length (drawn_text lines) ≤ length out.text = omega (arith, text-size, ltb-false (length out.text) sizes.bytes (last-false e)) in
            let same : columns ≡ over (map (λ (line : Line). line.column) lines) out.columns =
            c ∙ ap (λ (k : ℕ). over (replicate k origin) out.columns) tall ∙ ap (λ (m : List ℕ). over m out.columns) (sym (drawn-columns origin v)) in
            rw (fits, ← whole, sym short-is ∙ e)
            (rw (count, C.total) refl, rw (← (l ∙ ap (λ (m : List ℕ). over m out.lengths) each), ← same, ← (t ∙ put_down-over out.text (drawn_text lines) room)) refl) where
              last-false : ltb (length out.lengths) height || ltb (length out.columns) height || ltb (length out.text) sizes.bytes ≡ false → ltb (length out.text) sizes.bytes ≡ false
              last-false h = (or-neither (ltb (length out.lengths) height || ltb (length out.columns) height) (ltb (length out.text) sizes.bytes) h).1
