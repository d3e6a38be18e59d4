-- The arguments and the answer of the page call, in the terms of the definitions.
use Rattle.std.specs.Prelude.{ℕ, Bool, List, Result}
use Rattle.grid.specs.Answer.{Answer, accept, refuse_if}
use Rattle.grid.specs.Values.{GridTableColumn, TableCell, Table}
use Rattle.grid.specs.Flat.{shorter}
use Rattle.html.specs.Page.{page}
use Rattle.html.specs.PageCall.{PageSizes, PageArrays}
use Rattle.html_page.specs.Paged.{columns_in, page_in, cell_at, CellGiven, Celled, Paged, Standing}
use Rattle.refusals.specs.Refusal.{answer_from}
use Rattle.refusals.specs.declared.Refusal.{Refusal}
use Rattle.html_page.specs.declared.lent.PageTable.{PageTable}

-- document 01's number, place and values for each case of the answer
abbrev pub answer_of : Result ℕ Refusal → Answer ℕ
answer_of r = answer_from (λ bytes. bytes) r

-- the sizes and the arrays as lent
abbrev pub sizes : (columns rows cells bytes : ℕ) → PageSizes
sizes columns rows cells bytes = record { columns = columns; rows = rows; cells = cells; bytes = bytes }

abbrev pub arrays : (columns sections cells inner : List ℕ) → PageArrays
arrays columns sections cells inner = record { columns = columns; sections = sections; cells = cells; inner = inner }

abbrev pub sizes_of : PageTable → PageSizes
sizes_of t = sizes t.shape.columns t.shape.rows t.shape.cells t.bytes

abbrev pub arrays_of : PageTable → PageArrays
arrays_of t = arrays t.shape.column_entries.now t.shape.sections.now t.shape.cell_entries.now t.inner.now

-- a table that passed the checks up to 8
abbrev pub IsPaged : PageTable → Type 0
IsPaged t = Paged t.shape.columns t.shape.cells t.shape.column_entries.now t.shape.sections.now t.shape.cell_entries.now t.inner.now

-- the table of these arrays
abbrev pub page_of : PageTable → Table
page_of t = page_in t.shape.cells t.shape.column_entries.now t.shape.sections.now t.shape.cell_entries.now t.inner.now

-- its columns, its cell k with the inner bytes from `from` on, and that what the page reads of that cell is there
abbrev pub columns_of : PageTable → List GridTableColumn
columns_of t = columns_in t.shape.column_entries.now

abbrev pub cell_of : PageTable → (k from : ℕ) → TableCell
cell_of t k from = cell_at t.shape.cell_entries.now t.inner.now k from

abbrev pub IsGiven : PageTable → (k from : ℕ) → Type 0
IsGiven t k from = CellGiven t.shape.column_entries.now t.shape.cell_entries.now t.inner.now k from

-- its cells stand in order, and the page goes on with cell k
abbrev pub IsCelled : PageTable → Type 0
IsCelled t = Celled t.shape.cells t.shape.column_entries.now t.shape.cell_entries.now t.inner.now

abbrev pub IsStanding : PageTable → (above below k from : ℕ) → Type 0
IsStanding t above below k from = Standing t.shape.cells t.shape.cell_entries.now above below k from

-- the checks after 8: 12
unfoldable pub page_within : Bool → Table → List ℕ → Answer (List ℕ)
page_within widths t out = refuse_if (shorter out (page widths t)) 12 (accept (page widths t))
