-- What a trimmed part cut at its first byte is in numbers.
use Prim.Native.Nat.{ℕ, ◌+◌, ◌-◌, ◌≤◌}
use mathlib.Core.Path.{◌≡◌}
use mathlib.Core.List.{List}
use native.Mathlib.Omega.{arith}
use lib.ListN.{length, take, drop, length-take, length-drop}
use Rattle.text.specs.Trim.{trim_end}
use Rattle.text.proofs.TrimLaws.{trim-shorter}
use Rattle.text.specs.declared.ByteAt.{ByteAt}
use Rattle.text.specs.declared.Column.{Column}
use Rattle.grid.specs.Cut.{cut}
use Rattle.grid.specs.CutCall.{cut_numbers}
use Rattle.fragments.specs.declared.part.Place.{Place}
use Rattle.fragments.specs.Part.{Checked, Begins, Pieced}

-- trimmed, then cut at its first byte
pub cut-pieced : (text : List ℕ) (column : Column) (start end : ByteAt) (left : Column) → Checked text column start end left
    → (trimmed : List ℕ) → trimmed ≡ trim_end (take (end.0 - start.0) (drop start.0 text))
    → (begun : Place) → Begins trimmed (record { byte = start; column = record { 0 = column.0 + left.0 + 1 } }) begun
    → Pieced text column start end left (record { start = begun.byte; end = record { 0 = start.0 + length trimmed }; column = begun.column })
unfolding cut cut_numbers
cut-pieced text column start end left c trimmed told begun begins =
    let short : length trimmed ≤ end.0 - start.0 =
    rw told (omega (arith, trim-shorter (take (end.0 - start.0) (drop start.0 text)), length-take (end.0 - start.0) (drop start.0 text))) in
    let over : begun.byte.0 + length (drop (begun.byte.0 - start.0) trimmed) ≡ start.0 + length trimmed =
    omega (arith, length-drop (begun.byte.0 - start.0) trimmed, begins.inside) in
    record {
      numbers = λ line table_byte. let at : table_byte + begun.byte.0 - table_byte ≡ begun.byte.0 = omega arith in rw (← told, begins.begun line table_byte, at, over);
      within = omega (arith, begins.inside, short, c.forward);
    }
