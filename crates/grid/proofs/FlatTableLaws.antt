-- A table's arrays are free of contradictions, and taken apart they are the table again.
use Prim.Native.Nat.{ℕ, ◌*◌}
use mathlib.Core.Path.{◌≡◌, refl, sym, ap, ap₂, ◌∙◌}
use mathlib.Core.Bool.{true, false, not}
use mathlib.Core.List.{List, [], ◌∷◌, map, flat_map}
use lib.Dec.{ltb}
use lib.ListN.{length, drop, length-map}
use lib.Seq.{take-append_seam, drop-append_seam}
use borrow.Author.Tests.{eq-eqb}
use Rattle.seq.specs.Lists.{sum, all}
use Rattle.seq.proofs.Tests.{and_intro}
use Rattle.seq.proofs.FlatMaps.{length-flat_map, length-flat_map-sum}
use Rattle.grid.specs.Values.{GridTableColumn, TableCell, Table}
use Rattle.grid.specs.Flat.{alignment_code, code_alignment, section_code, code_section, split_text, join_text, column_numbers, table_cell_numbers, columns_of_array, cells_of_array, every_nth, table_lines, table_contradicts, table_of_arrays, table_sizes, table_arrays}
use Rattle.grid.specs.declared.TableAlignment.{TableAlignment}
use Rattle.grid.specs.declared.TableAlignment.TheVariants.{None, Left, Right, Center}
use Rattle.grid.specs.declared.GridTableSection.{GridTableSection}
use Rattle.grid.specs.declared.GridTableSection.TheVariants.{Head, Body, Foot}

-- ---- numbers that stand for an alignment and a section
alignment-again : (a : TableAlignment) → code_alignment (alignment_code a) ≡ a
alignment-again None = refl
alignment-again Left = refl
alignment-again Right = refl
alignment-again Center = refl

alignment-code : (a : TableAlignment) → ltb (alignment_code a) 4 ≡ true
alignment-code None = refl
alignment-code Left = refl
alignment-code Right = refl
alignment-code Center = refl

section-again : (s : GridTableSection) → code_section (section_code s) ≡ s
section-again Head = refl
section-again Body = refl
section-again Foot = refl

section-code : (s : GridTableSection) → ltb (section_code s) 3 ≡ true
section-code Head = refl
section-code Body = refl
section-code Foot = refl

-- ---- columns, sections, lines and cells
columns-again : (cs : List GridTableColumn) → columns_of_array (length cs) (flat_map column_numbers cs) ≡ cs
unfolding columns_of_array flat_map
columns-again [] = refl
columns-again (c ∷ cs) = ap₂ ◌∷◌ (λ i. record { alignment = alignment-again c.alignment i; width = c.width }) (columns-again cs)

column-codes : (cs : List GridTableColumn) → all (λ code. ltb code 4) (every_nth 2 (length cs) (flat_map column_numbers cs)) ≡ true
unfolding every_nth flat_map all
column-codes [] = refl
column-codes (c ∷ cs) = and_intro (alignment-code c.alignment) (column-codes cs)

sections-again : (ss : List GridTableSection) → map code_section (map section_code ss) ≡ ss
sections-again [] = refl
sections-again (s ∷ ss) = ap₂ ◌∷◌ (section-again s) (sections-again ss)

section-codes : (ss : List GridTableSection) → all (λ code. ltb code 3) (map section_code ss) ≡ true
unfolding all
section-codes [] = refl
section-codes (s ∷ ss) = and_intro (section-code s) (section-codes ss)

lines-again : (ls : List (List ℕ)) → split_text (map length ls) (join_text ls) ≡ ls
unfolding split_text flat_map
lines-again [] = refl
lines-again (l ∷ ls) = rw (take-append_seam l (join_text ls), drop-append_seam l (join_text ls), lines-again ls)

cells-again : (cs : List TableCell) → cells_of_array (length cs) (flat_map table_cell_numbers cs) (flat_map (λ (c : TableCell). c.lines) cs) ≡ cs
unfolding cells_of_array flat_map
cells-again [] = refl
cells-again (c ∷ cs) =
    let later = flat_map (λ (c : TableCell). c.lines) cs in
    rw (take-append_seam c.lines later, drop-append_seam c.lines later, cells-again cs)

line-counts : (cs : List TableCell) → every_nth 5 (length cs) (drop 4 (flat_map table_cell_numbers cs)) ≡ map (λ (c : TableCell). length c.lines) cs
unfolding every_nth flat_map
line-counts [] = refl
line-counts (c ∷ cs) = ap (λ (l : List ℕ). length c.lines ∷ l) (line-counts cs)

-- ---- a table
module _ (t : Table) where
  -- A table's arrays are of its sizes, so that no call refuses them with 13.
  pub table_fits : table_contradicts (table_sizes t) (table_arrays t) ≡ false
  unfolding table_contradicts table_sizes table_arrays
  table_fits =
      let ls = table_lines t in
      let of-columns = length-flat_map 2 column_numbers t.columns (λ c. refl) in
      let of-cells = length-flat_map 5 table_cell_numbers t.cells (λ c. refl) in
      let of-counts = ap sum (line-counts t.cells) ∙ sym (length-flat_map-sum (λ (c : TableCell). c.lines) t.cells) in
      let of-text = sym (length-flat_map-sum (λ line. line) ls) in
      ap not
      (and_intro (and_intro (and_intro (and_intro (and_intro (and_intro (and_intro (and_intro
      (eq-eqb (length (flat_map column_numbers t.columns)) (2 * length t.columns) of-columns)
      (eq-eqb (length (map section_code t.sections)) (length t.sections) (length-map t.sections section_code)))
      (eq-eqb (length (flat_map table_cell_numbers t.cells)) (5 * length t.cells) of-cells))
      (eq-eqb (length (map length ls)) (length ls) (length-map ls length)))
      (eq-eqb (length (join_text ls)) (length (join_text ls)) refl))
      (eq-eqb (sum (every_nth 5 (length t.cells) (drop 4 (flat_map table_cell_numbers t.cells)))) (length ls) of-counts))
      (eq-eqb (sum (map length ls)) (length (join_text ls)) of-text))
      (column-codes t.columns))
      (section-codes t.sections))

  -- Taken apart, a table's arrays are the table again.
  pub table-again : table_of_arrays (table_sizes t) (table_arrays t) ≡ t
  unfolding table_of_arrays table_sizes table_arrays
  table-again =
      λ i. record {
        columns = columns-again t.columns i;
        sections = sections-again t.sections i;
        cells = (ap (cells_of_array (length t.cells) (flat_map table_cell_numbers t.cells)) (lines-again (table_lines t)) ∙ cells-again t.cells) i;
      }
