-- Document 01: "Limits: 128 lines, 512 bytes a line, 32,768 bytes of text, width and declared widths 128, 127 columns, 127 rows,
-- 1,024 cells, origin and line columns 0 to 255, register numbers 65,535. They bind drawings as well. In a table the 128 lines
-- hold for each cell, and all cells together have at most 16,384."
use Rattle.std.specs.Prelude.{ℕ}

abbrev pub max_lines : ℕ
max_lines = 128

abbrev pub max_line_bytes : ℕ
max_line_bytes = 512

abbrev pub max_bytes : ℕ
max_bytes = 32768

abbrev pub max_width : ℕ
max_width = 128

abbrev pub max_columns : ℕ
max_columns = 127

abbrev pub max_rows : ℕ
max_rows = 127

abbrev pub max_cells : ℕ
max_cells = 1024

abbrev pub max_origin : ℕ
max_origin = 255

abbrev pub max_register : ℕ
max_register = 65535

abbrev pub max_table_lines : ℕ
max_table_lines = 16384

-- "a left column over 127 is a 2"
abbrev pub max_left : ℕ
max_left = 127
