-- The arrays, the sizes and 12 of the table of a traced drawing.
use Prim.Native.Nat.{ℕ, ◌*◌, ◌-◌}
use mathlib.Core.Path.{◌≡◌, refl, sym, ap, ◌∙◌}
use mathlib.Core.Bool.{◌||◌}
use mathlib.Core.List.{List, map, map-map, flat_map}
use native.Mathlib.Omega.{arith}
use lib.Dec.{ltb}
use lib.ListN.{length, length-map}
use Rattle.seq.proofs.FlatMaps.{flat_map-same, flat_map-map, length-flat_map}
use Rattle.grid.specs.Values.{Line, Rect, Row, TableCell}
use Rattle.grid.specs.Slots.{Grid, grid_of, trimmed_at}
use Rattle.grid.specs.Layout.{column_lines, row_lines, rows_read, cell_read, layout_of}
use Rattle.grid.specs.Cut.{table_cell, table_of}
use Rattle.grid.specs.Flat.{TableArrays, section_code, column_numbers, table_cell_numbers, table_lines, table_sizes, table_arrays, join_text}
use Rattle.grid.specs.TableCall.{table_short}
use Rattle.representation.specs.TableParts.{table_from}
use Rattle.grid.proofs.SizeLaws.{columns-count, rows-count}
use Rattle.representation.specs.LayoutEntries.{column_entries}
use Rattle.representation.specs.declared.Parts.{Parts}
use Rattle.representation.proofs.AgreeLaws.{columns-agree}
use Rattle.cell.specs.Text.{source_in, kept_lines, all_lines}
use Rattle.representation.specs.TableEntries.{section_entries, table_entries}
use Rattle.representation.proofs.TableEntryLaws.{cell_of, cells_told, sections-told}
use Rattle.reading.specs.Call.{SheetArrays, lines_in, rects_in, TracedSheet}
use Rattle.reading.specs.declared.Reading.{Reading}
use Rattle.reading.proofs.SheetLaws.{traced-height, traced-laid}
use Rattle.layout.proofs.FoundLaws.{PartsFound, parts-head, parts-foot}
use Rattle.table.specs.Call.{arrays}
use Rattle.cell.proofs.FrameLaws.{traced-kept}

module _ {a : SheetArrays} {o : Reading} (t : TracedSheet a o) (starts : List ℕ) where
  abbrev lines : List Line
  lines = lines_in a

  abbrev g : Grid
  g = grid_of lines

  abbrev rs : List Rect
  rs = rects_in a o.cells

  abbrev kept : Rect → List (List ℕ)
  kept r = kept_lines (source_in a starts) r

  lines-told : table_lines (table_from lines rs) ≡ all_lines (source_in a starts) rs
  unfolding table_of layout_of
  lines-told =
      ap (flat_map (λ (c : TableCell). c.lines)) (map-map (table_cell lines (layout_of lines g rs)) (cell_read g rs) rs)
      ∙ flat_map-map (λ (c : TableCell). c.lines) (cell_of lines rs) rs
      ∙ flat_map-same (λ r. (cell_of lines rs r).lines) kept rs (λ r m. traced-kept a o t starts m)

  cells-length : length (table_from lines rs).cells ≡ length rs
  unfolding table_of layout_of
  cells-length = length-map (map (cell_read g rs) rs) (table_cell lines (layout_of lines g rs)) ∙ length-map rs (cell_read g rs)

  rows-length : length (table_from lines rs).sections ≡ length (row_lines g rs) - 1
  unfolding table_of layout_of
  rows-length = length-map (rows_read g rs) (λ (row : Row). row.section) ∙ rows-count lines g rs

  columns-length : length (table_from lines rs).columns ≡ length (column_lines g rs) - 1
  unfolding table_of layout_of
  columns-length = columns-count lines g rs

  pub table_sizes-told : table_sizes (table_from lines rs) ≡ record {
    columns = length (column_lines g rs) - 1;
    rows = length (row_lines g rs) - 1;
    cells = length rs;
    lines = length (all_lines (source_in a starts) rs);
    bytes = length (join_text (all_lines (source_in a starts) rs));
  }
  unfolding table_sizes
  table_sizes-told = rw (columns-length, rows-length, cells-length, lines-told)

  -- the tests of 12
  pub table_short-told : (out : TableArrays) → table_short out (table_arrays (table_from lines rs))
      ≡ (ltb (length out.columns) (2 * (length (column_lines g rs) - 1)) || ltb (length out.sections) (length (row_lines g rs) - 1) || ltb (length out.cells) (5 * length rs)
      || ltb (length out.lengths) (length (all_lines (source_in a starts) rs))
      || ltb (length out.text) (length (join_text (all_lines (source_in a starts) rs))))
  unfolding table_short table_arrays
  table_short-told out =
      rw (
        length-flat_map 2 column_numbers (table_from lines rs).columns (λ c. refl),
        columns-length,
        length-map (table_from lines rs).sections section_code,
        rows-length,
        length-flat_map 5 table_cell_numbers (table_from lines rs).cells (λ c. refl),
        cells-length,
        length-map (table_lines (table_from lines rs)) (length {A = ℕ}),
        lines-told,
      )

  module _ (p : Parts) (parts : PartsFound a o p) where
    columns-told : flat_map column_numbers (table_from lines rs).columns ≡ column_entries a.glyphs a.offsets (trimmed_at lines p.head) p.head (column_lines g rs)
    unfolding table_of layout_of
    columns-told = rw (parts-head t p parts) (sym (columns-agree lines g rs a.glyphs a.offsets (traced-laid a o t)))

    pub table_arrays-told : table_arrays (table_from lines rs)
        ≡ arrays (column_entries a.glyphs a.offsets (trimmed_at lines p.head) p.head (column_lines g rs)) (section_entries p (row_lines g rs))
        (table_entries (λ r. length (kept r)) (row_lines g rs) (column_lines g rs) rs) (map length (all_lines (source_in a starts) rs))
        (join_text (all_lines (source_in a starts) rs))
    unfolding table_arrays
    table_arrays-told =
        rw (
          columns-told,
          sections-told lines rs p (parts-head t p parts) (parts-foot t p parts)
              (omega (arith, traced-height a o t, t.sheet.few_lines)),
          cells_told lines rs (λ r. length (kept r)) (λ r m. ap length (traced-kept a o t starts m)),
          lines-told,
        )
