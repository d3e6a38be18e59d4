-- Lines as their bytes.
use Rattle.std.specs.Prelude.{ℕ, List, []}

-- what stands for a line past the last one of a text or of a cell: an empty line
abbrev pub no_text : List ℕ
no_text = []
