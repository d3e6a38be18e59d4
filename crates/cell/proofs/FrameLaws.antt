-- Each inner line of a traced rectangle has its borders, and its cut lines are those of the table read.
use Prim.Native.Nat.{ℕ, suc, ◌+◌, ◌-◌, ◌≤◌, ◌<◌}
use mathlib.Core.Path.{◌≡◌, sym, ap, ◌∙◌}
use mathlib.Core.List.{List, [], map, Memᴰ}
use native.Mathlib.Omega.{arith}
use lib.ListN.{length, get_or, take, drop, length-take}
use Rattle.seq.specs.Lists.{sum}
use Rattle.seq.proofs.FlatMaps.{map_same}
use Rattle.seq.proofs.Ranges.{range-mem}
use Rattle.grid.specs.Limits.{max_lines}
use Rattle.grid.specs.Values.{Line, Rect, Fragment, no_line}
use Rattle.grid.specs.Slots.{grid_of, byte_at}
use Rattle.grid.specs.Layout.{inner_lines, cell_read, layout_of}
use Rattle.grid.specs.Cut.{drop_empty_last, table_cell}
use Rattle.representation.specs.Arrays.{code_at}
use Rattle.grid.proofs.ByteLaws.{slot-in-line, border-climbs, bytes-rise}
use Rattle.grid.proofs.CellLaws.{cut_at, cell-lines}
use Rattle.representation.proofs.HoldsLaws.{held-byte}
use Rattle.grid.proofs.SlotLaws.{line_at}
use Rattle.cell.specs.Text.{source_in, fragment_between, cut_between, kept_lines, Cuttable, AllFramed, SourceReady}
use Rattle.reading.specs.Call.{SheetArrays, lines_in, rects_in, TracedSheet}
use Rattle.reading.specs.declared.Reading.{Reading}
use Rattle.reading.proofs.SheetLaws.{traced-holds, traced_lines, traced-height, traced-inside, traced-laid, traced-cover}

module _ (a : SheetArrays) (o : Reading) (t : TracedSheet a o) where
  abbrev lines : List Line
  lines = lines_in a

  module _ {r : Rect} (m : Memᴰ r (rects_in a o.cells)) (y : ℕ) (above : r.top < y) (below : y < r.bottom) where
    line : y < length lines
    line = let b = ((traced-cover a o t).first r m).bordered in omega (arith, b.bottom_inside, traced-height a o t, traced_lines a o t)

    low : y < (grid_of lines).height
    low = omega (arith, line, traced-height a o t, traced_lines a o t)

    full : length (get_or (grid_of lines).rows y []) ≡ (grid_of lines).width
    full = (traced-laid a o t).full y low

    byte : (x : ℕ) → x < (grid_of lines).width → code_at a.offsets y x ≡ byte_at (grid_of lines) y x
    byte x wide =
        held-byte (grid_of lines) a.glyphs a.offsets (traced-holds a o t) y x
        (omega (arith, low, (traced-laid a o t).tall)) wide full

    left-inside : r.left < (grid_of lines).width
    left-inside = let b = ((traced-cover a o t).first r m).bordered in omega (arith, b.left_before_right, b.right_inside)

    right-inside : r.right < (grid_of lines).width
    right-inside = ((traced-cover a o t).first r m).bordered.right_inside

    text-length : length (get_or lines y no_line).text ≤ get_or a.lengths y 0
    text-length =
        rw (line_at a.lengths a.columns a.text y no_line (omega (arith, line, traced_lines a o t)))
        (omega (arith, length-take (get_or a.lengths y 0) (drop (sum (take y a.lengths)) a.text)))

    pub traced-cuttable : (starts : List ℕ) → Cuttable (source_in a starts) r.left r.right y
    traced-cuttable starts =
        let b = ((traced-cover a o t).first r m).bordered in
        let i = traced-inside a o t r m in
        let past : suc r.left + (r.right - suc r.left) ≡ r.right = omega (arith, b.left_before_right) in
        let rise : byte_at (grid_of lines) y (suc r.left) ≤ byte_at (grid_of lines) y r.right =
        rw past at (bytes-rise lines y (suc r.left) (r.right - suc r.left) line (omega (arith, full, b.left_before_right, b.right_inside))) in
        record {
          line = omega (arith, line, traced_lines a o t);
          left_fits = omega (arith, i.across, i.wide);
          right_fits = i.wide;
          forward =
              omega (
                arith,
                byte r.left left-inside,
                byte r.right right-inside,
                rise,
                border-climbs lines y r.left line (omega (arith, full, b.left_before_right, b.right_inside)) (b.left_side y (omega arith) (omega arith)),
              );
          inside = omega (arith, byte r.right right-inside, slot-in-line lines y r.right line (omega (arith, full, right-inside)), text-length);
        }

    -- the cut of the definition
    pub traced-cut : (starts : List ℕ) → fragment_between (source_in a starts) r.left r.right y ≡ cut_at lines (grid_of lines) r y
    traced-cut starts = rw (byte r.left left-inside, byte r.right right-inside)

  pub traced-framed : (starts : List ℕ) → AllFramed (source_in a starts) (rects_in a o.cells)
  traced-framed starts r m =
      record { inside = traced-inside a o t r m; borders = λ y above below. traced-cuttable m y above below starts }

  -- ---- where its lines start
  module _ (starts₀ : List ℕ) (room : max_lines ≤ length starts₀) where
    pub traced-startable : (length a.lengths ≤ length starts₀) × (sum a.lengths ≤ 32768)
    traced-startable = (omega (arith, t.sheet.few_lines, room), omega (arith, t.sheet.bytes_agree, t.few_bytes))

    pub traced-ready : (starts : List ℕ) → length starts ≡ length starts₀ → ((y : ℕ) → y < length a.lengths → get_or starts y 0 ≡ sum (take y a.lengths))
        → SourceReady (source_in a starts)
    traced-ready starts same started =
        record {
          sheet = t.sheet;
          few_bytes = t.few_bytes;
          start_room = omega (arith, traced-startable.0, same);
          started = started;
          offset_room = t.roomy.offset_room;
        }

  -- ---- the lines of the table read
  module _ (starts : List ℕ) {r : Rect} (m : Memᴰ r (rects_in a o.cells)) where
    inner : (y : ℕ) → Memᴰ y (inner_lines r) → (r.top < y) × (y < r.bottom)
    inner y n = let h = range-mem (r.top + 1) (r.bottom - r.top - 1) y n in omega arith

    pub traced-cuts : map (fragment_between (source_in a starts) r.left r.right) (inner_lines r)
        ≡ map (cut_at lines (grid_of lines) r) (inner_lines r)
    traced-cuts = map_same (fragment_between (source_in a starts) r.left r.right) (cut_at lines (grid_of lines) r) (inner_lines r) (λ y n. traced-cut m y (inner y n).0 (inner y n).1 starts)

    pub traced-kept : (table_cell lines (layout_of lines (grid_of lines) (rects_in a o.cells)) (cell_read (grid_of lines) (rects_in a o.cells) r)).lines
        ≡ kept_lines (source_in a starts) r
    traced-kept =
        cell-lines lines (grid_of lines) (rects_in a o.cells) (traced-cover a o t) m
        ∙ ap drop_empty_last (sym (map_same (cut_between (source_in a starts) r.left r.right) (λ y. (cut_at lines (grid_of lines) r y).text) (inner_lines r) (λ y n. ap (λ (f : Fragment). f.text) (traced-cut m y (inner y n).0 (inner y n).1 starts))))
