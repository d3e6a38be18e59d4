-- The entries are those of the table that a drawing reads as.
use Prim.Native.Nat.{ℕ, ◌≤◌}
use mathlib.Core.Path.{◌≡◌, sym, ap, ◌∙◌}
use mathlib.Core.List.{List, map, map-map, flat_map, Memᴰ}
use native.Mathlib.Omega.{arith}
use lib.ListN.{length}
use Rattle.seq.specs.Lists.{or_default}
use Rattle.seq.proofs.FlatMaps.{map_same, flat_map-same, flat_map-map}
use Rattle.grid.specs.Values.{Line, Rect, Row, TableCell}
use Rattle.grid.specs.Slots.{Grid, grid_of}
use Rattle.grid.specs.Layout.{Between, between, column_lines, row_lines, head_end, foot_start, section_at, rows_read, cell_read, layout_of}
use Rattle.grid.specs.Cut.{table_cell, table_of}
use Rattle.grid.specs.Flat.{section_code, table_cell_numbers}
use Rattle.representation.specs.TableParts.{table_from}
use Rattle.representation.specs.LayoutEntries.{section_from}
use Rattle.representation.specs.declared.Parts.{Parts}
use Rattle.representation.proofs.AgreeLaws.{section-agrees, row_inside}
use Rattle.representation.specs.TableEntries.{section_entries, table_entry, table_entries}

module _ (lines : List Line) (rs : List Rect) where
  abbrev g : Grid
  g = grid_of lines

  abbrev pub cell_of : Rect → TableCell
  cell_of r = table_cell lines (layout_of lines g rs) (cell_read g rs r)

  pub cells_told : (count : Rect → ℕ) → ((r : Rect) → Memᴰ r rs → length (cell_of r).lines ≡ count r)
      → flat_map table_cell_numbers (table_from lines rs).cells ≡ table_entries count (row_lines g rs) (column_lines g rs) rs
  unfolding table_of layout_of table_cell cell_read
  cells_told count counted =
      ap (flat_map table_cell_numbers) (map-map (table_cell lines (layout_of lines g rs)) (cell_read g rs) rs)
      ∙ flat_map-map table_cell_numbers cell_of rs
      ∙ flat_map-same (λ r. table_cell_numbers (cell_of r)) (table_entry count (row_lines g rs) (column_lines g rs)) rs (λ r m. rw (counted r m))

  pub sections-told : (p : Parts) → p.head ≡ or_default 0 (head_end g) → p.foot ≡ or_default 128 (foot_start g) → g.height ≤ 128
      → map section_code (table_from lines rs).sections ≡ section_entries p (row_lines g rs)
  unfolding table_of layout_of rows_read
  sections-told p head foot few =
      ap (map section_code) (map-map (λ (row : Row). row.section) (λ (b : Between). record { section = section_at g b.from; top = b.from; bottom = b.to }) (between (row_lines g rs)))
      ∙ map-map section_code (λ (b : Between). section_at g b.from) (between (row_lines g rs))
      ∙ map_same (λ (b : Between). section_code (section_at g b.from)) (λ (b : Between). section_from p b.from) (between (row_lines g rs))
      (λ b m. sym (section-agrees g p b.from head foot (omega (arith, row_inside g rs b m))))
