-- The grid rules look at no line of a cell and no width or alignment of a column: `rules-agree` of any two tables, `rules-placed` of one
-- in its arrays.
use Prim.Native.Nat.{ℕ, zero, suc, ◌+◌}
use mathlib.Core.Path.{◌≡◌, refl, sym, ap, ap₂, ◌∙◌}
use mathlib.Core.Bool.{Bool, ◌&&◌}
use mathlib.Core.List.{List, [], ◌∷◌, map}
use lib.Dec.{eqb, leb, ltb}
use lib.ListN.{length, get_or, drop}
use Rattle.seq.specs.Lists.{range, up_to, all, any, count, neighbours}
use Rattle.seq.proofs.Searches.{all_map, any-map, count_map, neighbours-map}
use Rattle.grid.specs.Values.{TableCell, Table}
use Rattle.grid.specs.Flat.{cells_of_array, split_text}
use Rattle.grid.specs.declared.GridTableSection.TheVariants.{Body}
use Rattle.drawing.specs.GridRules.{comes_before, stays_inside, holds_square, same_section}
use Rattle.drawing.specs.GridRules.{in_order, all_inside, cover_once, all_start, sections_run, none_crosses, keeps_rules}
use Rattle.representation.specs.TableIn.{table_in}
use Rattle.representation.proofs.TableInLaws.{columns-length}
use Rattle.table_checks.specs.Places.{grid_in}

-- a cell without its lines
abbrev pub bare : TableCell → TableCell
bare c = record { row = c.row; column = c.column; colspan = c.colspan; rowspan = c.rowspan; lines = [] }

module _ (t u : Table) (wide : length t.columns ≡ length u.columns) (same : t.sections ≡ u.sections)
    (places : map bare t.cells ≡ map bare u.cells) where
  -- what is the same of bare cells is the same of both
  through : (test : List TableCell → Bool) → ((l : List TableCell) → test (map bare l) ≡ test l) → test t.cells ≡ test u.cells
  through test e = sym (e t.cells) ∙ ap test places ∙ e u.cells

  order-agrees : in_order t ≡ in_order u
  unfolding in_order
  order-agrees = through (neighbours comes_before) (neighbours-map bare comes_before)

  inside-agrees : all_inside t ≡ all_inside u
  unfolding all_inside
  inside-agrees =
      let spans : TableCell → Bool = λ c. ltb 0 c.colspan && ltb 0 c.rowspan in
      let inside : ℕ → ℕ → TableCell → Bool = λ w h c. spans c && leb (c.column + c.colspan) w && leb (c.row + c.rowspan) h in
      ap₂ (λ (w h : ℕ). all (inside w h) t.cells) wide (ap length same) ∙ through (all (stays_inside u)) (all_map bare (stays_inside u))

  cover-agrees : cover_once t ≡ cover_once u
  unfolding cover_once
  cover-agrees =
      let covers : (ℕ → ℕ → ℕ) → Bool = λ held. all (λ r. all (λ k. eqb (held r k) 1) (up_to (length u.columns))) (up_to (length u.sections)) in
      rw (wide, same) (through (λ l. covers (λ r k. count (holds_square r k) l)) (λ l. ap covers (λ i r k. count_map bare (holds_square r k) l i)))

  starts-agree : all_start t ≡ all_start u
  unfolding all_start
  starts-agree =
      let (w, h) : ℕ × ℕ = (length u.columns, length u.sections) in
      let meets : ℕ → (ℕ → Bool) → Bool = λ size found. all found (up_to size) in
      let row : List TableCell → ℕ → Bool = λ l r. any (λ (c : TableCell). eqb c.row r) l in
      let column : List TableCell → ℕ → Bool = λ l k. any (λ (c : TableCell). eqb c.column k) l in
      rw (wide, same)
      (ap₂ (λ (p q : Bool). p && q)
      (through (λ l. meets h (row l)) (λ l. ap (meets h) (λ i r. any-map bare (λ (c : TableCell). eqb c.row r) l i)))
      (through (λ l. meets w (column l)) (λ l. ap (meets w) (λ i k. any-map bare (λ (c : TableCell). eqb c.column k) l i))))

  crossing-agrees : none_crosses t ≡ none_crosses u
  unfolding none_crosses
  crossing-agrees =
      let whole : TableCell → Bool = λ c. all (λ r. same_section (get_or u.sections c.row Body) (get_or u.sections r Body)) (range c.row c.rowspan) in
      rw same (through (all whole) (all_map bare whole))

  pub rules-agree : keeps_rules t ≡ keeps_rules u
  unfolding keeps_rules sections_run
  rules-agree = rw (order-agrees, inside-agrees, cover-agrees, starts-agree, crossing-agrees, same)

pub bare-cells : (n : ℕ) (cells : List ℕ) (lines more : List (List ℕ)) → map bare (cells_of_array n cells lines) ≡ map bare (cells_of_array n cells more)
unfolding cells_of_array
bare-cells zero cells lines more = refl
bare-cells (suc n) cells lines more =
    let first : TableCell = record { row = get_or cells 0 0; column = get_or cells 1 0; colspan = get_or cells 2 0; rowspan = get_or cells 3 0; lines = [] } in
    ap (λ (l : List TableCell). first ∷ l) (bare-cells n (drop 5 cells) (drop (get_or cells 4 0) lines) (drop (get_or cells 4 0) more))

pub rules-placed : (columns n : ℕ) (cols sections cells lengths text : List ℕ)
    → keeps_rules (table_in columns n cols sections cells lengths text) ≡ keeps_rules (grid_in columns n sections cells)
rules-placed columns n cols sections cells lengths text =
    rules-agree (table_in columns n cols sections cells lengths text) (grid_in columns n sections cells)
    (columns-length columns cols ∙ sym (columns-length columns [])) refl (bare-cells n cells (split_text lengths text) [])
