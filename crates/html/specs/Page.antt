-- Document 01, "Page": "source positions and compact form off, column widths on or off, cells' inner bytes ready, output as if after a
-- line feed. Tags are written as fixed byte strings."
use Rattle.std.specs.Prelude.{ℕ, zero, suc, ◌+◌, Bool, true, false, not, ◌&&◌, cond, length, get_or, eqb, ltb}
use mathlib.Core.List.{List, [], ◌++◌, flat_map}
use Rattle.seq.specs.Lists.{up_to, select}
use Rattle.seq.specs.Ascii.{ascii}
use Rattle.seq.specs.Decimal.{decimal}
use Rattle.grid.specs.Values.{GridTableColumn, TableCell, Table}
use Rattle.grid.specs.Flat.{join_text}
use Rattle.grid.specs.declared.TableAlignment.{TableAlignment}
use Rattle.grid.specs.declared.TableAlignment.TheVariants.{None, Left, Right, Center}
use Rattle.grid.specs.declared.GridTableSection.{GridTableSection}
use Rattle.grid.specs.declared.GridTableSection.TheVariants.{Head, Body, Foot}
use Rattle.drawing.specs.GridRules.{is_head, same_section}
use Rattle.html.specs.declared.Share.{Share}
use Rattle.html.specs.Shares.{shares, share_text}

abbrev pub section_tag : GridTableSection → List ℕ
section_tag Head = ascii "thead"
section_tag Body = ascii "tbody"
section_tag Foot = ascii "tfoot"

abbrev pub opening : List ℕ → List ℕ
opening tag = ascii "<" ++ tag ++ ascii ">"

abbrev pub closing : List ℕ → List ℕ
closing tag = ascii "</" ++ tag ++ ascii ">"

abbrev pub new_line : List ℕ
new_line = ascii "\n"

abbrev pub col_tag : Share → List ℕ
col_tag s = ascii "<col style=\"width:" ++ share_text s.hundredths ++ ascii "%\" />" ++ new_line

-- the shares of the columns, where widths are on
unfoldable pub column_group : Bool → List GridTableColumn → List ℕ
column_group false columns = []
column_group true columns =
    ascii "<colgroup>" ++ new_line ++ flat_map col_tag (shares columns) ++ ascii "</colgroup>" ++ new_line

abbrev pub span_attribute : List ℕ → ℕ → List ℕ
span_attribute name n = cond (ltb 1 n) (ascii " " ++ name ++ ascii "=\"" ++ decimal n ++ ascii "\"") []

abbrev pub align_attribute : TableAlignment → List ℕ
align_attribute None = []
align_attribute Left = ascii " align=\"left\""
align_attribute Right = ascii " align=\"right\""
align_attribute Center = ascii " align=\"center\""

abbrev pub cell_tag : GridTableSection → List ℕ
cell_tag s = cond (is_head s) (ascii "th") (ascii "td")

-- a cell, with its first column's alignment; its lines are its inner bytes, and the closing tag follows them at once
unfoldable pub cell_page : List GridTableColumn → GridTableSection → TableCell → List ℕ
cell_page columns s c =
    new_line ++ ascii "<" ++ cell_tag s ++ span_attribute (ascii "colspan") c.colspan ++ span_attribute (ascii "rowspan") c.rowspan
    ++ align_attribute (get_or columns c.column (record { alignment = None; width = 0 })).alignment ++ ascii ">" ++ join_text c.lines
    ++ closing (cell_tag s)

-- a section's tag before its first row and after its last
abbrev pub when_edge : Bool → List ℕ → List ℕ
when_edge true tag = tag
when_edge false tag = []

abbrev pub section_of : Table → ℕ → GridTableSection
section_of t r = get_or t.sections r Body

abbrev pub opens_section : Table → ℕ → Bool
opens_section t zero = true
opens_section t (suc r) = not (same_section (section_of t r) (section_of t (r + 1)))

abbrev pub closes_section : Table → ℕ → Bool
closes_section t r = not (ltb (r + 1) (length t.sections) && same_section (section_of t r) (section_of t (r + 1)))

unfoldable pub row_page : Table → ℕ → List ℕ
row_page t r =
    when_edge (opens_section t r) (opening (section_tag (section_of t r)) ++ new_line) ++ ascii "<tr>"
    ++ flat_map (cell_page t.columns (section_of t r)) (select (λ (c : TableCell). eqb c.row r) t.cells) ++ new_line ++ ascii "</tr>"
    ++ when_edge (closes_section t r) (new_line ++ closing (section_tag (section_of t r))) ++ new_line

unfoldable pub page : Bool → Table → List ℕ
page widths t =
    ascii "<table>" ++ new_line ++ column_group widths t.columns ++ flat_map (row_page t) (up_to (length t.sections))
    ++ ascii "</table>" ++ new_line
