-- Laws of positions and of their four numbers.
use Prim.Native.Nat.{ℕ, ◌+◌, ◌*◌, ◌≤◌, ◌<◌}
use mathlib.Core.Path.{◌≡◌, refl, ◌∙◌}
use mathlib.Core.List.{List, ◌++◌, flat_map}
use native.Mathlib.Omega.{arith}
use native.Mathlib.Nat.{zero-add}
use lib.ListN.{length, get_or, take, drop}
use lib.Seq.{length-take-le}
use Rattle.seq.proofs.FlatMaps.{length-flat_map}
use Rattle.seq.proofs.Entries.{Written, write-more}
use Rattle.sourcepos.specs.Positions.{Sourcepos}
use Rattle.sourcepos.specs.PositionsCall.{four_numbers}

-- one turn of a loop that writes a position for each element of a list
pub four_numbers-next : {B : Type 0} (f : B → Sourcepos) (l : List B) (buffer out : List ℕ) (k : ℕ) (d : B) → k < length l → 4 * length l ≤ length buffer
    → Written (λ b. four_numbers (f b)) l 0 buffer k out → (s : Sourcepos) → s ≡ f (get_or l k d)
    → (out' : List ℕ) → out' ≡ take (4 * k) out ++ four_numbers s ++ drop (4 * k + 4) out → Written (λ b. four_numbers (f b)) l 0 buffer (k + 1) out'
four_numbers-next f l buffer out k d h room w s e out' g =
    let before : length (flat_map (λ b. four_numbers (f b)) (take k l)) ≡ 4 * k =
    length-flat_map 4 (λ b. four_numbers (f b)) (take k l) (λ b. refl) ∙ rw (length-take-le k l (omega arith)) in
    write-more (λ b. four_numbers (f b)) l 0 buffer out k d h w (4 * k) out' (rw (before, zero-add)) (omega arith) (rw e at g)
