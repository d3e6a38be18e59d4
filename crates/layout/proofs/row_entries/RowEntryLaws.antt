-- Laws of the entries of rows.
use Prim.Native.Nat.{ℕ, suc, ◌+◌, ◌*◌, ◌-◌, ◌≤◌, ◌<◌}
use mathlib.Core.Path.{◌≡◌, refl, ◌∙◌}
use mathlib.Core.List.{List, [], ◌∷◌}
use native.Mathlib.Omega.{arith}
use native.Mathlib.Nat.{zero-add}
use native.Mathlib.Numerals.{add-one}
use lib.ListN.{length, get_or, set}
use Rattle.seq.proofs.Entries.{Written, none_written, all-written, write-sets}
use Rattle.grid.specs.Answer.{over}
use Rattle.grid.specs.Layout.{Between, between}
use Rattle.representation.specs.declared.Numbering.{Numbering}
use Rattle.representation.specs.declared.Parts.{Parts}
use Rattle.representation.specs.LayoutEntries.{lines_numbered, section_from, row_entries}
use Rattle.representation.proofs.HeldLaws.{no_between, numbered-bands, numbered-band-at}

pub record RowsWritten (p : Parts) (rows : Numbering) (buffer : List ℕ) (k : ℕ) (out : List ℕ) : Type 0 where
  pub entries : Written (λ (b : Between). section_from p b.from ∷ b.from ∷ b.to ∷ []) (between (lines_numbered rows)) 0 buffer k out

pub rows_written-none : (p : Parts) (rows : Numbering) (buffer : List ℕ) → RowsWritten p rows buffer 0 buffer
rows_written-none p rows buffer = record { entries = none_written (λ (b : Between). section_from p b.from ∷ b.from ∷ b.to ∷ []) (between (lines_numbered rows)) 0 buffer }

module _ (p : Parts) (rows : Numbering) (full : length rows.lines ≡ 128) (few : rows.count ≤ 128) (buffer out : List ℕ) (k : ℕ) (w : RowsWritten p rows buffer k out) where
  pub rows_written-next : (top bottom code : ℕ) → k < rows.count - 1 → 3 * (rows.count - 1) ≤ length buffer → top ≡ get_or rows.lines k 0
      → bottom ≡ get_or rows.lines (k + 1) 0 → code ≡ section_from p top
      → RowsWritten p rows buffer (k + 1) (set (set (set out (3 * k) code) (3 * k + 1) top) (3 * k + 2) bottom)
  rows_written-next top bottom code h room t b e =
      let two : 3 * k + 2 ≡ suc (suc (3 * k)) = omega arith in
      let step =
      write-sets (λ (b : Between). section_from p b.from ∷ b.from ∷ b.to ∷ []) (between (lines_numbered rows)) 0 buffer out k no_between
      (omega (arith, numbered-bands rows full few)) w.entries 3 (λ b. refl) (rw (numbered-bands rows full few) (omega arith)) in
      record { entries = rw (e, t, b, two, add-one (3 * k)) (rw (numbered-band-at rows full few k (omega arith), zero-add) at step) }

  pub rows_written-all : rows.count - 1 ≤ k → out ≡ over (row_entries p (lines_numbered rows)) buffer
  rows_written-all h =
      all-written (λ (b : Between). section_from p b.from ∷ b.from ∷ b.to ∷ []) (between (lines_numbered rows)) 0 buffer out k
      (omega (arith, numbered-bands rows full few)) w.entries ∙ rw zero-add
