-- From what is counted of the cells to what they need: the borders of the table stand where its definition says.
use Prim.Native.Nat.{ℕ, zero, suc, ◌+◌, ◌*◌, ◌≤◌, ◌<◌}
use mathlib.Core.Path.{◌≡◌, refl, sym, ap, ◌∙◌}
use mathlib.Core.List.{List, [], ◌∷◌, map}
use native.Mathlib.Numerals.{add-one}
use native.Mathlib.Omega.{arith}
use lib.ListN.{length, get_or, take, drop, replicate, length-map, length-take}
use lib.Seq.{ext_get_or, drop-cons, get_or-take, get_or-drop}
use Rattle.seq.specs.Lists.{range, sum, up_to}
use Rattle.seq.proofs.Positions.{get_d_map, get_or-made}
use Rattle.seq.proofs.Ranges.{length-range}
use Rattle.text.specs.Trim.{trim_end}
use Rattle.text.specs.Lines.{no_text}
use Rattle.text.proofs.TrimLaws.{trim-shorter}
use Rattle.text.proofs.PartLaws.{well-trimmed}
use Rattle.grid.specs.Values.{TableCell, Table}
use Rattle.grid.specs.Flat.{code_section, columns_of_array, split_text}
use Rattle.grid.specs.Same.{drawn_lines}
use Rattle.grid.specs.declared.GridTableSection.{GridTableSection}
use Rattle.grid.proofs.FlatLaws.{length-split}
use Rattle.drawing.specs.Sizes.{Need, widest, fit, start_width, width_need, height_need, widths, heights, offsets}
use Rattle.representation.specs.TableIn.{table_in, counts_in, no_cell, cell_in, Tabled}
use Rattle.representation.proofs.TableInLaws.{cells-length, cells_at, counts-within}
use Rattle.sizes.specs.Lines.{line_at, lines_at, Trimmed, Measurable}
use Rattle.sizes.specs.Cells.{Gathered, cell_lines, Counted}
use Rattle.sizes.specs.Needs.{need_at, needs_in, Spanned}
use Rattle.sizes.specs.Measured.{Measured}
use Rattle.sizes.proofs.FactLaws.{Facts, tabled-facts}

module _ {columns n : ℕ} {cols sections cells lengths text : List ℕ} (f : Facts columns n cols sections cells lengths text) where
  abbrev lines : List (List ℕ)
  lines = split_text lengths text

  abbrev table : Table
  table = table_in columns n cols sections cells lengths text

  module _ {starts ends : List ℕ} (t : Trimmed lengths text starts ends) where
    line-trimmed : (i : ℕ) → i < sum (counts_in n cells) → line_at text starts ends i ≡ trim_end (get_or lines i no_text)
    line-trimmed i h = t.trimmed i (omega (arith, f.lines_agree))

    trimmed-measurable : Measurable text starts ends (sum (counts_in n cells))
    trimmed-measurable =
        record {
          start_room = omega (arith, t.start_room, f.lines_agree);
          end_room = omega (arith, t.end_room, f.lines_agree);
          forward = λ i h. t.forward i (omega (arith, f.lines_agree));
          inside = λ i h. t.inside i (omega (arith, f.lines_agree));
          short = λ i h. omega (arith, ap length (line-trimmed i h), trim-shorter (get_or lines i no_text), f.short i);
          well = λ i h. rw (line-trimmed i h) (well-trimmed (get_or lines i no_text) (f.well i));
        }

    -- the lines of a cell, trimmed
    lines-trimmed : (count first : ℕ) → first + count ≤ length lengths → lines_at text starts ends first count ≡ map trim_end (take count (drop first lines))
    unfolding range
    lines-trimmed zero first h = refl
    lines-trimmed (suc count) first h =
        let next : lines_at text starts ends (first + 1) count ≡ map trim_end (take count (drop (suc first) lines)) = rw (add-one first) (lines-trimmed count (suc first) (omega arith)) in
        rw (drop-cons lines first [] (omega (arith, length-split lengths text)), t.trimmed first (omega arith), next)

    module _ (k : ℕ) (h : k < n) where
      within : sum (counts_in k cells) + get_or cells (5 * k + 4) 0 ≤ length lengths
      within = omega (arith, counts-within n k cells h, f.lines_agree)

      cell-lines : cell_lines cells text starts ends k ≡ drawn_lines (get_or table.cells k no_cell).lines
      unfolding drawn_lines
      cell-lines = rw (cells_at n cells lines k no_cell h, lines-trimmed (get_or cells (5 * k + 4) 0) (sum (counts_in k cells)) within)

      cell-placed : (i : ℕ) → i < length (get_or table.cells k no_cell).lines
          → (sum (counts_in k cells) + i < length lines) × (get_or lines (sum (counts_in k cells) + i) no_text ≡ get_or (get_or table.cells k no_cell).lines i no_text)
      cell-placed i low =
          let count = get_or cells (5 * k + 4) 0 in
          let first = sum (counts_in k cells) in
          let here : i < length (take count (drop first lines)) = rw (cells_at n cells lines k no_cell h) at low in
          let few : i < count = omega (arith, length-take count (drop first lines)) in (
            omega (arith, within, length-split lengths text),
            rw (cells_at n cells lines k no_cell h) (sym (get_or-take count (drop first lines) i [] few ∙ get_or-drop first lines i [])),
          )

    module _ {firsts highs wides : List ℕ} (c : Counted cells text starts ends n firsts highs wides) where
      counted-gathered : Gathered table.cells lines firsts highs wides
      counted-gathered =
          let e = cells-length n cells lines in
          record {
            first_room = omega (arith, e, c.first_room);
            height_room = omega (arith, e, c.height_room);
            wide_room = omega (arith, e, c.wide_room);
            placed = λ k i h. rw (c.first k (omega (arith, e))) (cell-placed k (omega (arith, e)) i);
            tall = λ k h. c.tall k (omega (arith, e)) ∙ ap length (cell-lines k (omega (arith, e)));
            wide = λ k h. c.wide k (omega (arith, e)) ∙ ap (λ (l : List (List ℕ)). widest l + 1) (cell-lines k (omega (arith, e)));
          }

  -- ---- what the cells need
  needs-same : (from_at span_at : ℕ) (sizes : List ℕ) (need : TableCell → Need) → ((k : ℕ) → k < n → need_at from_at span_at cells sizes k ≡ need (get_or table.cells k no_cell))
      → needs_in n from_at span_at cells sizes ≡ map need table.cells
  needs-same from_at span_at sizes need same =
      let made : length (needs_in n from_at span_at cells sizes) ≡ n = length-map (up_to n) (need_at from_at span_at cells sizes) ∙ length-range 0 n in
      let e = cells-length n cells lines in
      ext_get_or (need no_cell) (needs_in n from_at span_at cells sizes) (map need table.cells) (made ∙ sym (length-map table.cells need ∙ e))
      (λ k h. get_or-made (need_at from_at span_at cells sizes) n k (need no_cell) (omega (arith, made)) ∙ same k (omega (arith, made))
      ∙ sym (get_d_map need table.cells k (need no_cell) no_cell (omega (arith, made, e))))

  module _ {firsts highs wides : List ℕ} (g : Gathered table.cells lines firsts highs wides) where
    width-needs : needs_in n 1 2 cells wides ≡ map width_need table.cells
    width-needs =
        needs-same 1 2 wides width_need (λ k h.
        let size : get_or wides k 0 ≡ widest (drawn_lines (cell_in cells lines k).lines) + 1 = rw (cells_at n cells lines k no_cell h) at (g.wide k (rw cells-length h)) in
        rw (cells_at n cells lines k no_cell h, size))

    height-needs : needs_in n 0 3 cells highs ≡ map height_need table.cells
    height-needs =
        needs-same 0 3 highs height_need (λ k h.
        let e : 5 * k + 0 ≡ 5 * k = omega arith in
        let size : get_or highs k 0 ≡ length (drawn_lines (cell_in cells lines k).lines) = rw (cells_at n cells lines k no_cell h) at (g.tall k (rw cells-length h)) in
        rw (cells_at n cells lines k no_cell h, size, e))

    widths-fit : fit (map start_width (columns_of_array columns cols)) (needs_in n 1 2 cells wides) ≡ widths table
    unfolding widths
    widths-fit = rw width-needs

    heights-fit : fit (replicate (length sections) 1) (needs_in n 0 3 cells highs) ≡ heights table
    unfolding heights
    heights-fit = rw (height-needs, ones sections) where
      ones : (sections : List ℕ) → ◌≡◌ {A = List ℕ} (replicate (length sections) 1) (map (λ (s : GridTableSection). 1) (map code_section sections))
      ones [] = refl
      ones (s ∷ sections) = ap (λ (l : List ℕ). 1 ∷ l) (ones sections)

-- ---- what each call of `measure_table` asks, and what they make together
module _ {origin columns n : ℕ} {cols sections cells lengths text : List ℕ} (t : Tabled origin columns n cols sections cells lengths text) where
  f : Facts columns n cols sections cells lengths text
  f = tabled-facts t

  pub trim-asked : (starts ends : List ℕ) → (16384 ≤ length starts) × (16384 ≤ length ends)
      → ((sum lengths ≡ length text) × (length text ≤ 32768)) × ((length lengths ≤ length starts) × (length lengths ≤ length ends))
  trim-asked starts ends room = ((f.bytes_agree, f.few_bytes), (omega (arith, f.few_lines), omega (arith, f.few_lines)))

  pub cells-asked : {starts ends : List ℕ} (firsts highs wides : List ℕ) → Trimmed lengths text starts ends → (1024 ≤ length firsts) × (1024 ≤ length highs) × (1024 ≤ length wides)
      → ((n ≤ 1024) × (5 * n ≤ length cells) × (sum (counts_in n cells) ≤ 16384))
      × (Measurable text starts ends (sum (counts_in n cells)) × ((n ≤ length firsts) × (n ≤ length highs) × (n ≤ length wides)))
  cells-asked firsts highs wides trimmed room = (
    (f.few_cells, f.cells_room, omega (arith, f.lines_agree, f.few_lines)),
    (trimmed-measurable f trimmed, (omega (arith, f.few_cells), omega (arith, f.few_cells), omega (arith, f.few_cells))),
  )

  module _ {starts ends firsts highs wides : List ℕ} (counted : Counted cells text starts ends n firsts highs wides) where
    pub columns-asked : ((columns ≤ 127) × (length cols ≡ 2 * columns)) × (((k : ℕ) → k < columns → get_or cols (2 * k) 0 < 4) × (Spanned n 1 2 cells columns × (n ≤ length wides)))
    columns-asked = ((f.few_columns, f.cols_room), (f.codes, (f.across, counted.wide_room)))

    pub rows-asked : (length sections ≤ 127) × Spanned n 0 3 cells (length sections) × (n ≤ length highs)
    rows-asked = (f.few_rows, f.down, counted.height_room)

    pub table-measured : Trimmed lengths text starts ends → (xs ys : List ℕ)
        → (length xs ≡ 128) × (take (columns + 1) xs ≡ offsets (fit (map start_width (columns_of_array columns cols)) (needs_in n 1 2 cells wides)))
        → (length ys ≡ 128) × (take (length sections + 1) ys ≡ offsets (fit (replicate (length sections) 1) (needs_in n 0 3 cells highs)))
        → Measured columns n cols sections cells lengths text starts ends firsts highs wides (record { xs = xs; ys = ys })
    table-measured trimmed xs ys across down =
        let gathered = counted-gathered f trimmed counted in
        record {
          across_room = across.0;
          down_room = down.0;
          across = across.1 ∙ ap offsets (widths-fit f gathered);
          down = down.1 ∙ ap offsets (heights-fit f gathered);
          trimmed = trimmed;
          gathered = gathered;
        }
