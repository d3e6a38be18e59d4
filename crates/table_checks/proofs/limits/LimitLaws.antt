-- Laws of the limits of a table.
use Prim.Native.Nat.{ℕ, zero, suc}
use mathlib.Core.Path.{◌≡◌, refl, sym, ◌∙◌}
use mathlib.Core.Bool.{Bool, ◌||◌}
use mathlib.Core.List.{List, [], ◌∷◌}
use native.Mathlib.Omega.{arith}
use lib.Dec.{eqb, ltb}
use lib.ListN.{length, drop, length-map}
use lib.Seq.{get_or-drop, drop-drop}
use borrow.Author.Tests.{ne_eqb}
use Rattle.seq.specs.Lists.{any, is_empty}
use Rattle.seq.proofs.Searches.{any-map}
use Rattle.grid.specs.Limits.{max_lines, max_line_bytes, max_bytes, max_width, max_columns, max_rows, max_cells, max_origin, max_table_lines}
use Rattle.grid.specs.Values.{GridTableColumn, Table}
use Rattle.grid.specs.Flat.{code_section, columns_of_array, every_nth, split_text}
use Rattle.grid.proofs.FlatLaws.{length-split, split-lengths}
use Rattle.drawing.specs.Redraw.{table_empty, shape_too_large, lines_too_large, table_too_large}
use Rattle.reading.specs.Agreement.{any_over}
use Rattle.representation.specs.TableIn.{table_in}
use Rattle.representation.proofs.TableInLaws.{columns-length, cells-length, lines-whole}
use Rattle.table_checks.specs.Entries.{entries}
use Rattle.table_checks.specs.Agreement.{Agree}
use Rattle.table_checks.proofs.entries.EntryLaws.{entries-all}
use Rattle.table_checks.proofs.LineLaws.{counts-over}

-- ---- 1
empty-length : {A : Type 0} (l : List A) → is_empty l ≡ eqb (length l) 0
empty-length [] = refl
empty-length (a ∷ l) = sym (ne_eqb (length (a ∷ l)) 0 (λ e. omega arith))

pub empty-sizes : (columns rows n : ℕ) (t : Table) → length t.columns ≡ columns → length t.sections ≡ rows → length t.cells ≡ n
    → eqb columns 0 || eqb rows 0 || eqb n 0 ≡ table_empty t
unfolding table_empty
empty-sizes columns rows n t e f g = rw (empty-length t.columns, empty-length t.sections, empty-length t.cells, e, f, g)

-- ---- 2, of the shape
widths-over : (limit n : ℕ) (cols : List ℕ) → any (λ (c : GridTableColumn). ltb limit c.width) (columns_of_array n cols) ≡ any_over limit (entries 1 2 n cols)
unfolding columns_of_array every_nth any_over any
widths-over limit zero cols = refl
widths-over limit (suc n) cols =
    rw (widths-over limit n (drop 2 cols), get_or-drop 1 cols 0 0, drop-drop 1 2 cols, drop-drop 2 1 cols)

pub shape-apart : (columns rows n : ℕ) (cols : List ℕ) (a : Bool) → a ≡ any_over max_width (entries 1 2 columns cols)
    → (t : Table) → t.columns ≡ columns_of_array columns cols → length t.sections ≡ rows → length t.cells ≡ n
    → ltb max_columns columns || ltb max_rows rows || ltb max_cells n || a ≡ shape_too_large t
unfolding shape_too_large
shape-apart columns rows n cols a told t e f g = rw (e, f, g, columns-length columns cols, widths-over max_width columns cols, told)

-- ---- 2, of the lines
module _ (n : ℕ) (cells lengths text : List ℕ) (agree : Agree n cells lengths text) where
  pub lines-apart : (a b : Bool) → a ≡ any_over max_lines (entries 4 5 n cells) → b ≡ any_over max_line_bytes (entries 0 1 (length lengths) lengths)
      → (columns : ℕ) (cols sections : List ℕ)
      → a || ltb max_table_lines (length lengths) || b || ltb max_bytes (length text) ≡ lines_too_large (table_in columns n cols sections cells lengths text)
  unfolding lines_too_large any_over
  lines-apart a b e f columns cols sections =
      let lines = split_text lengths text in
      let count = length-split lengths text in
      let whole = lines-whole n cells lines (omega (arith, agree.lines_agree, count)) in
      let each = split-lengths lengths text (omega (arith, agree.bytes_agree)) in
      let short : any (λ line. ltb max_line_bytes (length line)) lines ≡ any (λ n. ltb max_line_bytes n) lengths =
      sym (any-map length (λ n. ltb max_line_bytes n) lines) ∙ rw each in
      rw (whole, counts-over max_lines n cells lines (omega (arith, agree.lines_agree, count)), count, short, each, agree.bytes_agree, e, f, entries-all lengths)

-- ---- 2
pub limits-apart : (origin columns n : ℕ) (cols sections cells lengths text : List ℕ) (a b : Bool)
    → ((t : Table) → t.columns ≡ columns_of_array columns cols → length t.sections ≡ length sections → length t.cells ≡ n → a ≡ shape_too_large t)
    → ((columns : ℕ) (cols sections : List ℕ) → b ≡ lines_too_large (table_in columns n cols sections cells lengths text))
    → ltb max_origin origin || a || b ≡ table_too_large origin (table_in columns n cols sections cells lengths text)
unfolding table_too_large
limits-apart origin columns n cols sections cells lengths text a b shape lines =
    let t = table_in columns n cols sections cells lengths text in
    rw (← shape t refl (length-map sections code_section) (cells-length n cells (split_text lengths text)), ← lines columns cols sections)
