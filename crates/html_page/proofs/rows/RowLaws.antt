-- Rows and cells as one walk. `select` of a row's cells is a stretch, since the cells stand in order of row: `held_next` is a cell of the
-- row, `cells-all` where its last is passed; `row_written` is a row, `rows_next` one row more.
use Prim.Native.Nat.{ℕ, zero, suc, ◌+◌, ◌*◌, ◌≤◌, ◌<◌}
use mathlib.Core.Path.{◌≡◌, refl, sym, ap, ◌∙◌}
use mathlib.Core.Bool.{Bool}
use mathlib.Core.Logic.{⊎_elim}
use mathlib.Core.List.{List, [], ◌∷◌, ◌++◌, append_assoc, append-nil, map, flat_map}
use native.Mathlib.Numerals.{add-one}
use native.Mathlib.Omega.{arith}
use native.Mathlib.Nat.{eq-or-lt_of_le, le_dest}
use mir.Syntax.{w64}
use mir.Val.{Fits}
use lib.Dec.{eqb}
use lib.ListN.{length, get_or, take}
use lib.Seq.{take-suc, take_all}
use borrow.Author.Tests.{eq-eqb, ne_eqb}
use Rattle.seq.specs.Ascii.{ascii}
use Rattle.seq.specs.Lists.{range, up_to, sum, select, cons_if}
use Rattle.seq.proofs.Gathered.{range-step, select-append}
use Rattle.seq.proofs.Positions.{get_d_map}
use Rattle.grid.specs.Values.{TableCell, Table}
use Rattle.grid.specs.Flat.{code_section, every_nth}
use Rattle.grid.specs.declared.GridTableSection.TheVariants.{Body}
use Rattle.html.specs.Page.{section_tag, opening, closing, new_line, when_edge, section_of, opens_section, closes_section, cell_page, row_page}
use Rattle.html.specs.PageCall.{page_cells}
use Rattle.representation.specs.TableIn.{counts_in, no_cell}
use Rattle.representation.proofs.TableInLaws.{counts_step, counts-within}
use Rattle.writer.specs.Writing.{Wrote}
use Rattle.writer.proofs.WritingLaws.{wrote_none, wrote_then, wrote_as, wrote-more}
use Rattle.html_page.specs.Paged.{columns_in, page_in, cell_at, CellGiven, Celled, Standing}
use Rattle.html_page.proofs.PageCellLaws.{page_cells-length, page_cells-at}

-- ---- where the walk stands
pub standing-first : (n : ℕ) (cells : List ℕ) → Standing n cells 0 0 0 0
unfolding every_nth sum
standing-first n cells =
    record { few = omega arith; offset = refl; before = λ j h. absurd (omega arith); after = λ j h g. omega arith }

module _ {n : ℕ} {cells : List ℕ} {row k from : ℕ} where
  pub standing-in : Standing n cells row row k from → Standing n cells row (row + 1) k from
  standing-in S =
      record { few = S.few; offset = S.offset; before = λ j h. omega (arith, S.before j h); after = S.after }

  -- a cell of the row
  pub standing-next : Standing n cells row (row + 1) k from → k < n → get_or cells (5 * k) 0 ≡ row
      → Standing n cells row (row + 1) (k + 1) (from + get_or cells (5 * k + 4) 0)
  standing-next S h here =
      record {
        few = omega arith;
        offset = omega (arith, S.offset, counts_step k cells);
        before = λ j u. ⊎_elim (λ (e : j ≡ k). rw e (omega arith)) (λ w. S.before j w) (eq-or-lt_of_le (omega arith));
        after = λ j u w. S.after j (omega arith) w;
      }

module _ {n : ℕ} {cols cells inner : List ℕ} (C : Celled n cols cells inner) where
  pub cell-given : {row below k from : ℕ} → Standing n cells row below k from → k < n → CellGiven cols cells inner k from
  cell-given {row} {below} {k} S h =
      record {
        entries = omega (arith, C.cells_room);
        column = C.column k h;
        bytes = omega (arith, S.offset, C.bytes_agree, counts-within n k cells h);
        small = C.small;
      }

  pub bytes_fit : {row below k from : ℕ} → Standing n cells row below k from → k < n → Fits w64 (from + get_or cells (5 * k + 4) 0)
  bytes_fit S h = let g = cell-given S h in record { fits = omega (arith, g.bytes, g.small) }

  pub place-low : {row below k from end : ℕ} → Standing n cells row below k from → row ≤ 127 → end ≤ 49152 + 65536 * k + 64 * row + 12 → end ≤ 536870912
  place-low S h g = omega (arith, S.few, C.few)

  -- the row's last cell is passed
  pub standing-past : {row k from : ℕ} → Standing n cells row (row + 1) k from → (k < n → get_or cells (5 * k) 0 ≡ row → ⊥)
      → Standing n cells (row + 1) (row + 1) k from
  standing-past {row} {k} S other =
      record { few = S.few; offset = S.offset; before = S.before; after = later } where
        later : (j : ℕ) → k ≤ j → j < n → row + 1 ≤ get_or cells (5 * j) 0
        later j u w =
            let up : get_or cells (5 * k) 0 ≤ get_or cells (5 * j) 0 = C.rising k j u w in
            let low : row ≤ get_or cells (5 * k) 0 = S.after k (omega arith) (omega arith) in
            ⊎_elim (λ (e : row ≡ get_or cells (5 * k) 0). absurd (other (omega arith) (sym e))) (λ g. omega arith) (eq-or-lt_of_le low)

-- ---- those of the first k cells that start in a row
module _ (n : ℕ) (cells inner : List ℕ) (row : ℕ) where
  abbrev all-cells : List TableCell
  all-cells = page_cells n cells inner

  abbrev starts-in : TableCell → Bool
  starts-in c = eqb c.row row

  abbrev pub held : ℕ → List TableCell
  held k = select starts-in (take k all-cells)

  held_more : (k : ℕ) → k < n → held (k + 1) ≡ held k ++ cons_if (eqb (get_or cells (5 * k) 0) row) (cell_at cells inner k (sum (counts_in k cells))) []
  unfolding select
  held_more k h =
      rw (add-one k, take-suc all-cells k no_cell (omega (arith, page_cells-length n cells inner)), page_cells-at n cells inner k h)
      (select-append starts-in (take k all-cells) (cell_at cells inner k (sum (counts_in k cells)) ∷ []))

  held_next : (k : ℕ) → k < n → get_or cells (5 * k) 0 ≡ row → held (k + 1) ≡ held k ++ cell_at cells inner k (sum (counts_in k cells)) ∷ []
  held_next k h e = rw (eq-eqb (get_or cells (5 * k) 0) row e) at (held_more k h)

  held-skip : (k : ℕ) → k < n → (get_or cells (5 * k) 0 ≡ row → ⊥) → held (k + 1) ≡ held k
  held-skip k h e = (rw (ne_eqb (get_or cells (5 * k) 0) row e) at (held_more k h)) ∙ append-nil (held k)

  held_none : (k : ℕ) → k ≤ n → ((j : ℕ) → j < k → get_or cells (5 * j) 0 < row) → held k ≡ []
  unfolding select
  held_none zero h below = refl
  held_none (suc k) h below =
      let e : k + 1 ≡ suc k = omega arith in
      (rw e at (held-skip k (omega arith) (λ q. absurd (omega (arith, q, below k (omega arith)))))) ∙ held_none k (omega arith) (λ j u. below j (omega arith))

  held-rest : (m k : ℕ) → k + m ≡ n → ((j : ℕ) → k ≤ j → j < n → row + 1 ≤ get_or cells (5 * j) 0) → held n ≡ held k
  held-rest zero k e above = let same : n ≡ k = omega arith in ap held same
  held-rest (suc m) k e above =
      held-rest m (k + 1) (omega arith) (λ j u w. above j (omega arith) w)
      ∙ held-skip k (omega arith) (λ q. absurd (omega (arith, q, above k (omega arith) (omega arith))))

module _ {n : ℕ} {cells : List ℕ} (inner : List ℕ) (row : ℕ) {k from : ℕ} where
  pub cells-none : (page : TableCell → List ℕ) (d : List ℕ) (at : ℕ) → Standing n cells row row k from
      → Wrote d at (flat_map page (held n cells inner row k)) d at
  unfolding flat_map
  cells-none page d at S = wrote_as (wrote_none d at) (sym (ap (flat_map page) (held_none n cells inner row k S.few S.before)))

  module _ (page : TableCell → List ℕ) {d e : List ℕ} {at mid : ℕ} (p : Wrote d at (flat_map page (held n cells inner row k)) e mid) where
    pub cells-next : {f : List ℕ} {r : ℕ} → Standing n cells row (row + 1) k from → k < n → get_or cells (5 * k) 0 ≡ row → Wrote e mid (page (cell_at cells inner k from)) f r
        → Wrote d at (flat_map page (held n cells inner row (k + 1))) f r
    cells-next S h here q =
        let cell : cell_at cells inner k from ≡ cell_at cells inner k (sum (counts_in k cells)) = ap (cell_at cells inner k) S.offset in
        rw (held_next n cells inner row k h here, ← cell) (wrote-more page (held n cells inner row k) (cell_at cells inner k from) p q)

    pub cells-all : Standing n cells (row + 1) (row + 1) k from → Wrote d at (flat_map page (select (λ (c : TableCell). eqb c.row row) (page_cells n cells inner))) e mid
    cells-all S =
        let (m, gap) = le_dest S.few in
        let whole : held n cells inner row n ≡ select (λ (c : TableCell). eqb c.row row) (page_cells n cells inner) =
        ap (select (starts-in n cells inner row)) (take_all n (page_cells n cells inner) (omega (arith, page_cells-length n cells inner))) in
        wrote_as p (ap (flat_map page) (sym (held-rest n cells inner row m k gap S.after) ∙ whole))

-- ---- a row, and the first rows
module _ (n : ℕ) (cols sections cells inner : List ℕ) where
  abbrev table : Table
  table = page_in n cols sections cells inner

  pub row_written : {d e f g : List ℕ} {at opened mid r : ℕ} (row : ℕ) → row < length sections
      → ((t : Table) → t.sections ≡ map code_section sections
      → Wrote d at (when_edge (opens_section t row) (opening (section_tag (section_of t row)) ++ new_line) ++ ascii "<tr>") e opened)
      → Wrote e opened (flat_map (cell_page (columns_in cols) (code_section (get_or sections row 0))) (select (λ (c : TableCell). eqb c.row row) (page_cells n cells inner))) f mid
      → ((t : Table) → t.sections ≡ map code_section sections
      → Wrote f mid (new_line ++ ascii "</tr>" ++ when_edge (closes_section t row) (new_line ++ closing (section_tag (section_of t row))) ++ new_line) g r)
      → Wrote d at (row_page table row) g r
  unfolding row_page
  row_written row h p q w =
      let section : code_section (get_or sections row 0) ≡ section_of table row = sym (get_d_map code_section sections row Body 0 h) in
      let body = rw section at q in
      wrote_as (wrote_then (p table refl) (wrote_then body (w table refl))) (simp append_assoc)

  pub rows_none : (d : List ℕ) (at : ℕ) → Wrote d at (flat_map (row_page table) (up_to 0)) d at
  unfolding range flat_map
  rows_none d at = wrote_none d at

  pub rows_next : {d e f : List ℕ} {at mid r : ℕ} (row : ℕ) → Wrote d at (flat_map (row_page table) (up_to row)) e mid → Wrote e mid (row_page table row) f r
      → Wrote d at (flat_map (row_page table) (up_to (row + 1))) f r
  rows_next row p q =
      let same : 0 + row ≡ row = omega arith in
      wrote_as (wrote-more (row_page table) (up_to row) row p q)
      (ap (flat_map (row_page table)) (sym (range-step 0 row ∙ ap (λ (k : ℕ). up_to row ++ k ∷ []) same)))

  pub rows_all : {d e : List ℕ} {at r : ℕ} (row : ℕ) → row ≤ length sections → length sections ≤ row → Wrote d at (flat_map (row_page table) (up_to row)) e r
      → Wrote d at (flat_map (row_page table) (up_to (length sections))) e r
  rows_all row h g p = wrote_as p (ap (λ (k : ℕ). flat_map (row_page table) (up_to k)) (omega arith))
