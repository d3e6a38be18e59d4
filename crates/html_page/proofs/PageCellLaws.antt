-- The cells of a page in their array: `page_cells-at`, cell k; `page_cells-places`, they stand where a table's cells stand.
use Prim.Native.Nat.{ℕ, zero, suc, ◌*◌, ◌+◌, ◌<◌}
use mathlib.Core.Path.{◌≡◌, refl, sym, ap, ap₂, ◌∙◌}
use mathlib.Core.List.{List, [], ◌∷◌, map, map-map, flat_map}
use native.Mathlib.Omega.{arith}
use lib.ListN.{length, get_or, take, drop, length-map}
use Rattle.seq.specs.Lists.{sum}
use Rattle.seq.proofs.Positions.{get_d_map}
use Rattle.grid.specs.Values.{TableCell}
use Rattle.grid.specs.Flat.{cells_of_array, join_text}
use Rattle.html.specs.PageCall.{page_cells}
use Rattle.representation.specs.TableIn.{counts_in, no_cell}
use Rattle.representation.proofs.TableInLaws.{cells-length, cells_at}
use Rattle.table_checks.specs.Places.{places_of}
use Rattle.table_checks.proofs.PlaceLaws.{bare, bare-cells}
use Rattle.html_page.specs.Paged.{cell_at}

-- ---- inner bytes as lines of one byte each: then a cell's inner bytes are its lines joined
abbrev apart : List ℕ → List (List ℕ)
apart bytes = map (λ b. b ∷ []) bytes

abbrev joined : TableCell → TableCell
joined c = record { row = c.row; column = c.column; colspan = c.colspan; rowspan = c.rowspan; lines = join_text c.lines ∷ [] }

join_apart : (m : ℕ) (bytes : List ℕ) → join_text (take m (apart bytes)) ≡ take m bytes
unfolding flat_map
join_apart zero bytes = refl
join_apart (suc m) [] = refl
join_apart (suc m) (b ∷ bytes) = ap (λ (l : List ℕ). b ∷ l) (join_apart m bytes)

drop-apart : (m : ℕ) (bytes : List ℕ) → drop m (apart bytes) ≡ apart (drop m bytes)
drop-apart zero bytes = refl
drop-apart (suc m) [] = refl
drop-apart (suc m) (b ∷ bytes) = drop-apart m bytes

page_cells-joined : (n : ℕ) (cells inner : List ℕ) → page_cells n cells inner ≡ map joined (cells_of_array n cells (apart inner))
unfolding page_cells cells_of_array
page_cells-joined zero cells inner = refl
page_cells-joined (suc n) cells inner =
    let m = get_or cells 4 0 in
    let cell : List ℕ → TableCell = λ bytes. record { row = get_or cells 0 0; column = get_or cells 1 0; colspan = get_or cells 2 0; rowspan = get_or cells 3 0; lines = bytes ∷ [] } in
    ap₂ (λ (bytes : List ℕ) (l : List TableCell). cell bytes ∷ l) (sym (join_apart m inner))
    (page_cells-joined n (drop 5 cells) (drop m inner) ∙ ap (λ (lines : List (List ℕ)). map joined (cells_of_array n (drop 5 cells) lines)) (sym (drop-apart m inner)))

-- ---- what follows of them
pub page_cells-length : (n : ℕ) (cells inner : List ℕ) → length (page_cells n cells inner) ≡ n
page_cells-length n cells inner =
    ap length (page_cells-joined n cells inner) ∙ length-map (cells_of_array n cells (apart inner)) joined ∙ cells-length n cells (apart inner)

pub page_cells-places : (n : ℕ) (cells inner : List ℕ) → map bare (page_cells n cells inner) ≡ map bare (places_of n cells)
page_cells-places n cells inner = ap (map bare) (page_cells-joined n cells inner) ∙ map-map bare joined (cells_of_array n cells (apart inner)) ∙ bare-cells n cells (apart inner) []

pub page_cells-at : (n : ℕ) (cells inner : List ℕ) (k : ℕ) → k < n → get_or (page_cells n cells inner) k no_cell ≡ cell_at cells inner k (sum (counts_in k cells))
page_cells-at n cells inner k h =
    let m = get_or cells (5 * k + 4) 0 in
    let from = sum (counts_in k cells) in
    let bytes : join_text (take m (drop from (apart inner))) ≡ take m (drop from inner) =
    ap (λ (lines : List (List ℕ)). join_text (take m lines)) (drop-apart from inner) ∙ join_apart m (drop from inner) in
    ap (λ (l : List TableCell). get_or l k no_cell) (page_cells-joined n cells inner)
    ∙ get_d_map joined (cells_of_array n cells (apart inner)) k no_cell no_cell (omega (arith, cells-length n cells (apart inner)))
    ∙ ap joined (cells_at n cells (apart inner) k no_cell h)
    ∙ rw bytes refl
