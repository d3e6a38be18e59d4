-- Laws of the columns of a line, a tab counted as 4.
use Prim.Native.Nat.{ℕ}
use mathlib.Core.Path.{◌≡◌, ◌∙◌}
use mathlib.Core.Bool.{true}
use mathlib.Core.List.{List}
use Rattle.text.specs.Characters.{tab_columns, span}
use Rattle.text.specs.Columns.{added_columns}
use Rattle.text.specs.Utf8.{well_formed}
use Rattle.text.proofs.ByteColumnsLaws.{added_columns-spans}
use Rattle.sizes.specs.Lines.{line_columns}

-- a tab at column 0 takes 4 columns
pub added-columns : (line : List ℕ) (n : ℕ) → well_formed line ≡ true → n ≡ added_columns line → n ≡ line_columns line
unfolding line_columns span tab_columns
added-columns line n well is = is ∙ added_columns-spans line well
