-- A cell of a table in its arrays has as many lines as the array says: `counts-over`.
use Prim.Native.Nat.{ℕ, zero, suc, ◌≤◌}
use mathlib.Core.Path.{◌≡◌, refl, sym, ap}
use mathlib.Core.List.{List}
use native.Mathlib.Omega.{arith}
use lib.Dec.{ltb}
use lib.ListN.{length, get_or, drop, length-drop}
use lib.Seq.{length-take-le}
use Rattle.seq.specs.Lists.{sum, any}
use Rattle.grid.specs.Values.{TableCell}
use Rattle.grid.specs.Flat.{every_nth, cells_of_array}
use Rattle.reading.specs.Agreement.{any_over}
use Rattle.representation.specs.TableIn.{counts_in}
use Rattle.representation.proofs.TableInLaws.{counts-cons, counts-next}

pub counts-over : (limit n : ℕ) (cells : List ℕ) (lines : List (List ℕ)) → sum (counts_in n cells) ≤ length lines
    → any (λ (c : TableCell). ltb limit (length c.lines)) (cells_of_array n cells lines) ≡ any_over limit (counts_in n cells)
unfolding cells_of_array any_over any every_nth
counts-over limit zero cells lines h = refl
counts-over limit (suc n) cells lines h =
    let k = get_or cells 4 0 in
    let later = counts-over limit n (drop 5 cells) (drop k lines) (omega (arith, counts-next n cells, length-drop k lines)) in
    rw (length-take-le k lines (omega (arith, counts-next n cells)), later) (sym (ap (any_over limit) (counts-cons n cells)))
