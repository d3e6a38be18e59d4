-- From what splitting an input tells to its listing.
use Prim.Native.Nat.{ℕ, ◌-◌, ◌<◌}
use mathlib.Core.Path.{◌≡◌, sym, ◌∙◌}
use mathlib.Core.List.{List, ◌++◌}
use native.Mathlib.Omega.{arith}
use lib.ListN.{length, take, length-append}
use Rattle.grid.specs.Flat.{split_text}
use Rattle.grid.specs.Listing.{lines_read, listing, refused_line}
use Rattle.input_lines.specs.Splitting.{Splits}
use Rattle.std.specs.Prelude.{Result, Ok, Err}
use Rattle.refusals.specs.declared.Refusal.{Refusal}
use Rattle.refusals.specs.Refusal.{number_of, place_of}
use Rattle.input_lines.specs.declared.Lines.{Lines}
use Rattle.input_lines.proofs.SplitLaws.{long-input}
use Rattle.input_lines.proofs.SheetLaws.{too-large-refused, split-refused, split-held}
use Rattle.layout_listing.specs.Listed.{listed_lines}

pub listing-large : (input lengths text : List ℕ) (r : Result Lines Refusal) (refusal : Refusal) → r ≡ Err refusal → Splits input lengths text r
    → (number place : ℕ) → number ≡ number_of refusal → place ≡ place_of refusal → refused_line number place ≡ listing input
unfolding listing
listing-large input lengths text r refusal e h number place is at = let (large, told) = split-refused input lengths text r refusal e h in rw (is, at, large, told)

-- whatever follows the first 32,897 bytes, the listing is the same
pub listing-long : (input : List ℕ) → 32896 < length input → refused_line 2 0 ≡ listing input
unfolding listing
listing-long input h = rw (too-large-refused (lines_read input) (long-input input h))

pub listing-settled : (input rest : List ℕ) → length input ≡ 32897 → listing (input ++ rest) ≡ listing input
listing-settled input rest h = sym (listing-long (input ++ rest) (omega (arith, length-append input rest))) ∙ listing-long input (omega arith)

pub listing-held : (input lengths text : List ℕ) (r : Result Lines Refusal) (l : Lines) → r ≡ Ok l → Splits input lengths text r
    → listed_lines (split_text (take (l.lines - 0) lengths) (take (l.bytes - 0) text)) ≡ listing input
unfolding listing lines_read
listing-held input lengths text r l e h =
    let same : l.lines - 0 ≡ l.lines = omega arith in
    let also : l.bytes - 0 ≡ l.bytes = omega arith in
    rw (same, also, (split-held input lengths text r l e h).split)
