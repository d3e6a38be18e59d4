-- The table call after the rectangles: 12, and the table. The cell call after the cut lines: 12, and their array.
use Rattle.std.specs.Prelude.{ℕ, List, length}
use Rattle.grid.specs.Answer.{Answer, accept, refuse_if, and_then, afterwards, over}
use Rattle.grid.specs.Values.{Line, Rect, Table}
use Rattle.grid.specs.Slots.{grid_of}
use Rattle.grid.specs.Layout.{layout_of}
use Rattle.grid.specs.Cut.{table_of}
use Rattle.grid.specs.Flat.{TableSizes, TableArrays, table_sizes, table_arrays, shorter}
use Rattle.grid.specs.CutCall.{CutNumbers}
use Rattle.grid.specs.TableCall.{table_short, table_over, cut_array}

-- the table of a drawing with these rectangles
abbrev pub table_from : List Line → List Rect → Table
table_from lines rs = table_of lines (layout_of lines (grid_of lines) rs)

unfoldable pub table_answer_of : List Line → List Rect → TableArrays → Answer Table
table_answer_of lines rs out = refuse_if (table_short out (table_arrays (table_from lines rs))) 12 (accept (table_from lines rs))

unfoldable pub table_sizes_of : List Line → List Rect → TableArrays → Answer TableSizes
table_sizes_of lines rs out = and_then (table_answer_of lines rs out) (λ t. accept (table_sizes t))

unfoldable pub table_arrays_of : List Line → List Rect → TableArrays → TableArrays
table_arrays_of lines rs out = afterwards (table_answer_of lines rs out) (λ t. table_over (table_arrays t) out) out

unfoldable pub cuts_answer_of : List CutNumbers → List ℕ → Answer (List CutNumbers)
cuts_answer_of cuts out = refuse_if (shorter out (cut_array cuts)) 12 (accept cuts)

unfoldable pub cuts_count_of : List CutNumbers → List ℕ → Answer ℕ
cuts_count_of cuts out = and_then (cuts_answer_of cuts out) (λ cuts. accept (length cuts))

unfoldable pub cuts_array_of : List CutNumbers → List ℕ → List ℕ
cuts_array_of cuts out = afterwards (cuts_answer_of cuts out) (λ cuts. over (cut_array cuts) out) out
