-- What is put down of a line, part after part.
use Prim.Native.Nat.{ℕ, ◌-◌}
use mathlib.Core.Path.{◌≡◌}
use mathlib.Core.List.{List, [], ◌∷◌, ◌++◌}
use lib.ListN.{replicate}
use Rattle.text.specs.Characters.{space}
use Rattle.text.specs.Columns.{columns_from}
use Rattle.text.specs.Utf8.{char_indices}
use Rattle.writer.specs.Writing.{Wrote}
use Rattle.writer.proofs.WritingLaws.{wrote_then}

-- a space, the text, and spaces
pub inner-written : {d e f g line : List ℕ} {at a b r taken : ℕ} (left right column : ℕ) → taken ≡ columns_from column (char_indices line)
    → Wrote d at (space ∷ []) e a → Wrote e a line f b → Wrote f b (replicate (right - left - 2 - taken) space) g r
    → Wrote d at (space ∷ line ++ replicate (right - left - 2 - columns_from column (char_indices line)) space) g r
inner-written left right column t p q s = rw (← t) (wrote_then (wrote_then p q) s)
