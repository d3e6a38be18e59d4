-- The values that document 01 speaks of. Names are the Rust's where it has them.
use Rattle.std.specs.Prelude.{ℕ, List}
use Rattle.text.specs.Lines.{no_text}
use Rattle.grid.specs.declared.TableAlignment.{TableAlignment}
use Rattle.grid.specs.declared.GridTableSection.{GridTableSection}

-- a line of a drawing: its bytes, and the screen column at which it starts
pub record Line : Type 0 where
  pub text : List ℕ
  pub column : ℕ

-- what stands for a line past the last one of a drawing
abbrev pub no_line : Line
no_line = record { text = no_text; column = 0 }

-- a rectangle of a drawing: its border lines and border columns
pub record Rect : Type 0 where
  pub top : ℕ
  pub left : ℕ
  pub bottom : ℕ
  pub right : ℕ

pub record GridTableColumn : Type 0 where
  pub alignment : TableAlignment
  pub width : ℕ

-- a row of a layout: its section and its two border lines
pub record Row : Type 0 where
  pub section : GridTableSection
  pub top : ℕ
  pub bottom : ℕ

-- bytes of a line from start up to end
pub record Range : Type 0 where
  pub start : ℕ
  pub end : ℕ

-- a cell of a layout: its place in the table, the column of its left border, and its range on each inner line
pub record Cell : Type 0 where
  pub row : ℕ
  pub column : ℕ
  pub colspan : ℕ
  pub rowspan : ℕ
  pub left : ℕ
  pub content : List Range

pub record Layout : Type 0 where
  pub columns : List GridTableColumn
  pub rows : List Row
  pub cells : List Cell

-- a cut line: its bytes, and the line, byte and column at which they start
pub record Fragment : Type 0 where
  pub text : List ℕ
  pub line : ℕ
  pub byte : ℕ
  pub column : ℕ

-- a cell of a table, with its lines
pub record TableCell : Type 0 where
  pub row : ℕ
  pub column : ℕ
  pub colspan : ℕ
  pub rowspan : ℕ
  pub lines : List (List ℕ)

-- a table: its columns, the section of each row, and its cells
pub record Table : Type 0 where
  pub columns : List GridTableColumn
  pub sections : List GridTableSection
  pub cells : List TableCell
