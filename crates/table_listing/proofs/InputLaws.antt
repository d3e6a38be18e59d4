-- From what splitting an input tells to its cells.
use Prim.Native.Nat.{ℕ, ◌-◌}
use mathlib.Core.Path.{◌≡◌}
use mathlib.Core.List.{List}
use native.Mathlib.Omega.{arith}
use lib.ListN.{take}
use Rattle.grid.specs.Read.{read_table}
use Rattle.grid.specs.Flat.{split_text}
use Rattle.grid.specs.Listing.{lines_read, refused_line}
use Rattle.grid.specs.CellListing.{cell_listing}
use Rattle.input_lines.specs.Splitting.{Splits}
use Rattle.std.specs.Prelude.{Result, Ok, Err}
use Rattle.refusals.specs.declared.Refusal.{Refusal}
use Rattle.refusals.specs.Refusal.{number_of, place_of}
use Rattle.input_lines.specs.declared.Lines.{Lines}
use Rattle.input_lines.proofs.SheetLaws.{split-refused, split-held}
use Rattle.table_listing.specs.Listed.{lines_listed}

pub large-listed : (input lengths text : List ℕ) (r : Result Lines Refusal) (refusal : Refusal) → r ≡ Err refusal → Splits input lengths text r
    → (number place : ℕ) → number ≡ number_of refusal → place ≡ place_of refusal → refused_line number place ≡ cell_listing input
unfolding cell_listing read_table
large-listed input lengths text r refusal e h number place is at = let (large, told) = split-refused input lengths text r refusal e h in rw (is, at, large, told)

pub held-listed : (input lengths text : List ℕ) (r : Result Lines Refusal) (l : Lines) → r ≡ Ok l → Splits input lengths text r
    → lines_listed (split_text (take (l.lines - 0) lengths) (take (l.bytes - 0) text)) ≡ cell_listing input
unfolding cell_listing lines_read
held-listed input lengths text r l e h =
    let same : l.lines - 0 ≡ l.lines = omega arith in
    let also : l.bytes - 0 ≡ l.bytes = omega arith in
    rw (same, also, (split-held input lengths text r l e h).split)
