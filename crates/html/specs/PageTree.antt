-- The tree of a table's page: its sections, rows and cells in order, their spans, and each cell's alignment, its first column's.
use Rattle.std.specs.Prelude.{ℕ, zero, suc, ◌+◌, Bool, true, false, cond, List, [], ◌∷◌, ◌++◌, length, get_or, eqb, ltb}
use Rattle.seq.specs.Lists.{select}
use Rattle.seq.specs.Ascii.{ascii}
use Rattle.seq.specs.Decimal.{decimal}
use Rattle.grid.specs.Values.{GridTableColumn, TableCell, Table}
use Rattle.grid.specs.Flat.{join_text}
use Rattle.grid.specs.declared.TableAlignment.{TableAlignment}
use Rattle.grid.specs.declared.TableAlignment.TheVariants.{None, Left, Right, Center}
use Rattle.grid.specs.declared.GridTableSection.{GridTableSection}
use Rattle.drawing.specs.GridRules.{same_section}
use Rattle.html.specs.declared.Share.{Share}
use Rattle.html.specs.Shares.{shares, share_text}
use Rattle.html.specs.Page.{new_line, section_tag, cell_tag, section_of}
use Rattle.html.specs.Tags.{Attribute, Tag, Forest, nothing, text, single, element}

abbrev pub plain : List ℕ → Tag
plain name = record { name = name; attributes = [] }

abbrev pub attribute : (name value : List ℕ) → List Attribute
attribute name value = record { name = name; value = value } ∷ []

abbrev pub line_feed : Forest → Forest
line_feed f = text new_line f

-- a span of one is not told
abbrev pub span_of : List ℕ → ℕ → List Attribute
span_of name n = cond (ltb 1 n) (attribute name (decimal n)) []

abbrev pub align_of : TableAlignment → List Attribute
align_of None = []
align_of Left = attribute (ascii "align") (ascii "left")
align_of Right = attribute (ascii "align") (ascii "right")
align_of Center = attribute (ascii "align") (ascii "center")

abbrev pub cell_tag_of : List GridTableColumn → GridTableSection → TableCell → Tag
cell_tag_of columns s c =
    record {
      name = cell_tag s;
      attributes = span_of (ascii "colspan") c.colspan ++ span_of (ascii "rowspan") c.rowspan
          ++ align_of (get_or columns c.column (record { alignment = None; width = 0 })).alignment;
    }

-- the inner bytes of a cell, where it has some
abbrev pub inner_tree : List ℕ → Forest
inner_tree [] = nothing
inner_tree (b ∷ bs) = text (b ∷ bs) nothing

unfoldable pub cells_tree : List GridTableColumn → GridTableSection → List TableCell → Forest
cells_tree columns s [] = line_feed nothing
cells_tree columns s (c ∷ cs) = line_feed (element (cell_tag_of columns s c) (inner_tree (join_text c.lines)) (cells_tree columns s cs))

-- the cells that start in row r
abbrev pub row_cells : Table → ℕ → List TableCell
row_cells t r = select (λ (c : TableCell). eqb c.row r) t.cells

-- rows of the same section that follow each other, each with its cells
pub record SectionRows : Type 0 where
  pub section : GridTableSection
  pub rows : List (List TableCell)

abbrev pub start_section : GridTableSection → List TableCell → List SectionRows → List SectionRows
start_section s cells rest = record { section = s; rows = cells ∷ [] } ∷ rest

abbrev pub join_row : GridTableSection → List TableCell → List SectionRows → List SectionRows
join_row s cells [] = start_section s cells []
join_row s cells (x ∷ rest) =
    cond (same_section s x.section) (record { section = s; rows = cells ∷ x.rows } ∷ rest) (start_section s cells (x ∷ rest))

-- the sections of n rows from row r on
unfoldable pub section_rows : Table → ℕ → ℕ → List SectionRows
section_rows t r zero = []
section_rows t r (suc n) = join_row (section_of t r) (row_cells t r) (section_rows t (r + 1) n)

unfoldable pub rows_tree : List GridTableColumn → GridTableSection → List (List TableCell) → Forest
rows_tree columns s [] = nothing
rows_tree columns s (cells ∷ rest) = element (plain (ascii "tr")) (cells_tree columns s cells) (line_feed (rows_tree columns s rest))

unfoldable pub sections_tree : List GridTableColumn → List SectionRows → Forest
sections_tree columns [] = nothing
sections_tree columns (x ∷ rest) =
    element (plain (section_tag x.section)) (line_feed (rows_tree columns x.section x.rows)) (line_feed (sections_tree columns rest))

unfoldable pub shares_tree : List Share → Forest
shares_tree [] = nothing
shares_tree (s ∷ rest) =
    single (record { name = ascii "col"; attributes = attribute (ascii "style") (ascii "width:" ++ share_text s.hundredths ++ ascii "%") })
    (line_feed (shares_tree rest))

-- the shares of the columns, where widths are on, before the sections
unfoldable pub group_tree : Bool → List GridTableColumn → Forest → Forest
group_tree false columns f = f
group_tree true columns f = element (plain (ascii "colgroup")) (line_feed (shares_tree (shares columns))) (line_feed f)

unfoldable pub page_tree : Bool → Table → Forest
page_tree widths t =
    element (plain (ascii "table"))
    (line_feed (group_tree widths t.columns (sections_tree t.columns (section_rows t 0 (length t.sections)))))
    (line_feed nothing)
