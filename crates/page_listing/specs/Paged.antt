-- The page of lines at column 0, and of the table that they are read as.
use Rattle.std.specs.Prelude.{ℕ, Bool, List}
use Rattle.grid.specs.Answer.{and_then}
use Rattle.grid.specs.Values.{Table}
use Rattle.grid.specs.Read.{read_table}
use Rattle.html.specs.PageCall.{page_bytes}
use Rattle.html.specs.PageListing.{escaped_table, escaped_sizes, page_listed}
use Rattle.input_lines.specs.Sheet.{lines_at0}

abbrev pub table_paged : Bool → Table → List ℕ
table_paged widths t = page_listed (page_bytes widths (escaped_sizes t) (escaped_table t))

abbrev pub lines_paged : Bool → List (List ℕ) → List ℕ
lines_paged widths texts = page_listed (and_then (read_table (lines_at0 texts)) (λ t. page_bytes widths (escaped_sizes t) (escaped_table t)))
