-- The page call: "Page checks 13, 1, 2, 8, 12."
use Rattle.std.specs.Prelude.{ℕ, zero, suc, ◌*◌, Bool, not, ◌&&◌, ◌||◌, List, [], ◌∷◌, map, length, get_or, take, drop, eqb, ltb}
use Rattle.seq.specs.Lists.{sum, all}
use Rattle.grid.specs.Answer.{Answer, accept, refuse_if, and_then, afterwards, over}
use Rattle.grid.specs.Limits.{max_bytes}
use Rattle.grid.specs.Values.{TableCell, Table}
use Rattle.grid.specs.Flat.{code_section, columns_of_array, every_nth, length_is, shorter}
use Rattle.drawing.specs.GridRules.{keeps_rules}
use Rattle.drawing.specs.Redraw.{table_empty, shape_too_large}
use Rattle.html.specs.Page.{page}

-- a table as lent for the page: the number of lines of each cell is in its place the length of its inner bytes
pub record PageSizes : Type 0 where
  pub columns : ℕ
  pub rows : ℕ
  pub cells : ℕ
  pub bytes : ℕ

pub record PageArrays : Type 0 where
  pub columns : List ℕ
  pub sections : List ℕ
  pub cells : List ℕ
  pub inner : List ℕ

abbrev pub inner_lengths : PageSizes → PageArrays → List ℕ
inner_lengths s t = every_nth 5 s.cells (drop 4 t.cells)

-- 13: as a table's, with the lengths of the inner bytes in place of the lines'
unfoldable pub page_contradicts : PageSizes → PageArrays → Bool
page_contradicts s t =
    not (length_is t.columns (2 * s.columns) && length_is t.sections s.rows && length_is t.cells (5 * s.cells)
    && length_is t.inner s.bytes && eqb (sum (inner_lengths s t)) s.bytes
    && all (λ code. ltb code 4) (every_nth 2 s.columns t.columns) && all (λ code. ltb code 3) t.sections)

-- a cell whose one line is its inner bytes
unfoldable pub page_cells : ℕ → List ℕ → List ℕ → List TableCell
page_cells zero array inner = []
page_cells (suc n) array inner =
    record {
      row = get_or array 0 0;
      column = get_or array 1 0;
      colspan = get_or array 2 0;
      rowspan = get_or array 3 0;
      lines = take (get_or array 4 0) inner ∷ [];
    } ∷ page_cells n (drop 5 array) (drop (get_or array 4 0) inner)

unfoldable pub page_table : PageSizes → PageArrays → Table
page_table s t =
    record {
      columns = columns_of_array s.columns t.columns;
      sections = map code_section t.sections;
      cells = page_cells s.cells t.cells t.inner;
    }

-- 2: a table's limits beside its lines', and of the inner bytes their sum alone
unfoldable pub page_too_large : PageSizes → Table → Bool
page_too_large s t = shape_too_large t || ltb max_bytes s.bytes

unfoldable pub page_bytes : Bool → PageSizes → Table → Answer (List ℕ)
page_bytes widths s t =
    refuse_if (table_empty t) 1 (refuse_if (page_too_large s t) 2 (refuse_if (not (keeps_rules t)) 8 (accept (page widths t))))

unfoldable pub page_accepts : Bool → PageSizes → PageArrays → List ℕ → Answer (List ℕ)
page_accepts widths s t out =
    refuse_if (page_contradicts s t) 13
    (and_then (page_bytes widths s (page_table s t)) (λ bytes. refuse_if (shorter out bytes) 12 (accept bytes)))

-- how many bytes the page has
unfoldable pub page_answer : Bool → PageSizes → PageArrays → List ℕ → Answer ℕ
page_answer widths s t out = and_then (page_accepts widths s t out) (λ bytes. accept (length bytes))

unfoldable pub page_afterwards : Bool → PageSizes → PageArrays → List ℕ → List ℕ
page_afterwards widths s t out = afterwards (page_accepts widths s t out) (λ bytes. over bytes out) out
