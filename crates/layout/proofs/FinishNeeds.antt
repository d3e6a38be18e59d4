-- What the last part of the layout call asks of its callees, from what filling and tracing left.
use Prim.Native.Nat.{ℕ, ◌*◌, ◌-◌, ◌≤◌}
use mathlib.Core.Path.{◌≡◌, refl, sym, ap, ◌∙◌}
use mathlib.Core.Bool.{true, false}
use mathlib.Core.List.{List, [], ◌∷◌, flat_map}
use native.Mathlib.Omega.{arith}
use lib.ListN.{length, get_or, length-append}
use borrow.Author.Tests.{ltb-false}
use Rattle.seq.specs.Lists.{sum}
use Rattle.seq.proofs.Tests.{or-neither}
use Rattle.text.specs.Trim.{trim_end}
use Rattle.text.specs.Lines.{no_text}
use Rattle.grid.specs.Answer.{accept, refuse, over}
use Rattle.grid.specs.Values.{Rect}
use Rattle.grid.specs.Slots.{grid_of}
use Rattle.grid.specs.Layout.{inner_count, row_lines, column_lines}
use Rattle.grid.specs.Flat.{split_text}
use Rattle.grid.specs.LayoutCall.{LayoutArrays}
use Rattle.representation.specs.LayoutParts.{finish_sizes, finish_arrays}
use Rattle.representation.proofs.RectsLaws.{length-rects}
use Rattle.representation.specs.Edges.{row_lines_below, column_lines_below}
use Rattle.representation.specs.LayoutEntries.{lines_held, numbering_of, column_entries, row_entries, cell_entries, range_entries, all_ranges}
use Rattle.representation.specs.declared.Parts.{Parts}
use Rattle.representation.proofs.TracedLaws.{rows-some, small_bytes}
use Rattle.reading.specs.Call.{SheetArrays, lines_in, rects_in, TracedSheet}
use Rattle.reading.specs.declared.Reading.{Reading}
use Rattle.reading.proofs.CheckedLaws.{trimmed-text}
use Rattle.reading.proofs.SheetLaws.{traced-accepted, traced-holds, traced_lines, traced-height, traced-width, traced-rule, traced-short, traced-laid}
use Rattle.layout.specs.Sized.{rects_short, SizesTold}
use Rattle.layout.specs.Written.{LayoutWritable}
use Rattle.layout.specs.declared.sizes.Measured.{Measured}
use Rattle.layout.specs.Call.{sizes_of, layout_lent}
use Rattle.layout.proofs.FoundLaws.{PartsFound, parts-head, parts-foot, tops-found, lefts-found, tops-found-count, lefts-found-count, rects-found-numbered}
use Rattle.layout.proofs.range_entries.RangeLaws.{range_entries-length}
use Rattle.layout.proofs.FinishLaws.{sizes_short_for, finish_sizes-short, finish_arrays-short, finish_sizes-accepted, finish_arrays-written}

-- the entries of the ranges, two for each inner line
all_ranges-length : (offsets : List ℕ) (rs : List Rect) → length (all_ranges offsets rs) ≡ 2 * inner_count rs
unfolding sum flat_map
all_ranges-length offsets [] = refl
all_ranges-length offsets (r ∷ rs) =
    omega (arith, length-append (range_entries offsets r) (all_ranges offsets rs), range_entries-length offsets r, all_ranges-length offsets rs)

module _ {a : SheetArrays} {o : Reading} (t : TracedSheet a o) where
  pub row_lines-some : 1 ≤ length (row_lines_below (length a.lengths) (rects_in a o.cells))
  unfolding row_lines grid_of
  row_lines-some = rw (traced_lines a o t) at (rows-some (lines_in a) (rects_in a o.cells) a.glyphs a.offsets (traced-accepted a o t) (traced-holds a o t))

  rows-below : length (row_lines_below (length a.lengths) (rects_in a o.cells)) ≡ length (row_lines (grid_of (lines_in a)) (rects_in a o.cells))
  unfolding row_lines grid_of
  rows-below = ap (λ (n : ℕ). length (row_lines_below n (rects_in a o.cells))) (sym (traced_lines a o t))

  columns-below : length (column_lines_below o.width.0 (rects_in a o.cells)) ≡ length (column_lines (grid_of (lines_in a)) (rects_in a o.cells))
  unfolding column_lines
  columns-below = ap (λ (n : ℕ). length (column_lines_below n (rects_in a o.cells))) (sym (traced-width a o t))

  module _ (out : LayoutArrays) where
    pub finish-refused : rects_short (length a.lengths) o.width.0 (rects_in a o.cells) o.cells (length out.columns) (length out.rows) (length out.cells) (length out.ranges) ≡ true
        → (refuse 12 0 ≡ finish_sizes (lines_in a) (rects_in a o.cells) out) × (out ≡ finish_arrays (lines_in a) (rects_in a o.cells) out)
    finish-refused short =
        let columns = ap (λ (n : ℕ). n - 1) columns-below in
        let rows = ap (λ (n : ℕ). n - 1) rows-below in
        let cells = sym (length-rects o.cells a.rects) in
        (finish_sizes-short _ _ out _ _ _ _ columns rows cells refl short, finish_arrays-short _ _ out _ _ _ _ columns rows cells refl short)

    -- room enough, and the parts found
    module _ {m : Measured} (z : SizesTold (length a.lengths) o.width.0 (rects_in a o.cells) o.cells m)
        (room : rects_short (length a.lengths) o.width.0 (rects_in a o.cells) o.cells (length out.columns) (length out.rows) (length out.cells) (length out.ranges) ≡ false)
        (p : Parts) (parts : PartsFound a o p) where
      sized-columns : m.sizes.columns ≡ length (column_lines (grid_of (lines_in a)) (rects_in a o.cells)) - 1
      sized-columns = z.columns_told ∙ lefts-found-count t z.down z.across

      sized_rows : m.sizes.rows ≡ length (row_lines (grid_of (lines_in a)) (rects_in a o.cells)) - 1
      sized_rows = z.rows_told ∙ tops-found-count t z.down z.across

      sized-cells : m.sizes.cells ≡ length (rects_in a o.cells)
      sized-cells = z.cells_told ∙ sym (length-rects o.cells a.rects)

      sized-enough : sizes_short_for out m.sizes.columns m.sizes.rows m.sizes.cells m.sizes.ranges ≡ false
      sized-enough =
          rw (z.columns_told ∙ ap (λ (n : ℕ). n - 1) z.across.counted, z.rows_told ∙ ap (λ (n : ℕ). n - 1) z.down.counted, z.cells_told, z.ranges_told) room

      sized-room : (2 * m.sizes.columns ≤ length out.columns) × (3 * m.sizes.rows ≤ length out.rows) × (5 * m.sizes.cells ≤ length out.cells) × (2 * m.sizes.ranges ≤ length out.ranges)
      sized-room =
          let f0 = or-neither _ _ sized-enough in
          let f1 = or-neither _ _ f0.0 in
          let f2 = or-neither _ _ f1.0 in
          (ltb-false _ _ f2.0, ltb-false _ _ f2.1, ltb-false _ _ f1.1, ltb-false _ _ f0.1)

      pub finish-writable : LayoutWritable (rects_in a o.cells) o.cells a.offsets (numbering_of m.tops) m.lefts out
      finish-writable =
          record {
            offset_room = t.roomy.offset_room;
            few_tops = m.tops.few;
            numbered = rects-found-numbered t z.down z.across;
            small_bytes = small_bytes _ _ _ _ (traced-accepted a o t) (traced-holds a o t) (traced-short a o t);
            columns_fit = rw z.columns_told at sized-room.0;
            rows_fit = rw z.rows_told at sized-room.1;
            cells_fit = rw z.cells_told at sized-room.2;
            ranges_fit = rw (all_ranges-length a.offsets (rects_in a o.cells), ← z.ranges_told) sized-room.3;
          }

      pub finish-written : {cols rows cells ranges line : List ℕ} → line ≡ trim_end (get_or (split_text a.lengths a.text) p.head no_text)
          → cols ≡ over (column_entries a.glyphs a.offsets line p.head (lines_held m.lefts)) out.columns
          → rows ≡ over (row_entries p (lines_held m.tops)) out.rows
          → cells ≡ over (cell_entries (lines_held m.tops) (lines_held m.lefts) (rects_in a o.cells)) out.cells
          → ranges ≡ over (all_ranges a.offsets (rects_in a o.cells)) out.ranges
          → (accept (sizes_of m.sizes) ≡ finish_sizes (lines_in a) (rects_in a o.cells) out)
          × (layout_lent cols rows cells ranges ≡ finish_arrays (lines_in a) (rects_in a o.cells) out)
      finish-written trimmed c0 c1 c2 c3 = (
        finish_sizes-accepted _ _ out _ _ _ _ sized-columns sized_rows sized-cells z.ranges_told sized-enough m.sizes.width.0 (z.width_told ∙ traced-rule a o t),
        rw (c0, c1, c2, c3, trimmed, ← trimmed-text (split_text a.lengths a.text) a.columns p.head, tops-found t z.down z.across, lefts-found t z.down z.across)
            (finish_arrays-written _ _ out _ _ _ _ sized-columns sized_rows sized-cells z.ranges_told sized-enough a.glyphs a.offsets (traced-laid a o t) p (parts-head t p parts) (parts-foot t p parts) (rw (traced-height a o t) t.sheet.few_lines)),
      )
