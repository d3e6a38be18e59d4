-- Laws of the entries of columns.
use Prim.Native.Nat.{ℕ, ◌+◌, ◌*◌, ◌-◌, ◌≤◌, ◌<◌}
use mathlib.Core.Path.{◌≡◌, refl, ◌∙◌}
use mathlib.Core.List.{List, [], ◌∷◌}
use native.Mathlib.Omega.{arith}
use native.Mathlib.Nat.{zero-add}
use native.Mathlib.Numerals.{add-one}
use lib.ListN.{length, get_or, set}
use Rattle.seq.proofs.Entries.{Written, none_written, all-written, write-sets}
use Rattle.grid.specs.Answer.{over}
use Rattle.grid.specs.Layout.{Between, between}
use Rattle.representation.specs.declared.Bounds.{Bounds}
use Rattle.representation.specs.LayoutEntries.{lines_held, alignment_from}
use Rattle.representation.proofs.HeldLaws.{no_between, length-bands, band-at}
use Rattle.layout.specs.Columns.{columns_of}
use Rattle.layout.specs.declared.alignments.AlignmentLine.{AlignmentLine}

abbrev column_entry : AlignmentLine → Between → List ℕ
column_entry a b = alignment_from a.glyphs.now a.offsets.now a.text.now a.line b.from ∷ (b.to - b.from - 1) ∷ []

pub record ColumnsWritten (a : AlignmentLine) (columns : Bounds) (buffer : List ℕ) (k : ℕ) (out : List ℕ) : Type 0 where
  pub entries : Written (column_entry a) (between (lines_held columns)) 0 buffer k out

module _ (a : AlignmentLine) (columns : Bounds) (buffer : List ℕ) where
  pub columns_written-none : ColumnsWritten a columns buffer 0 buffer
  columns_written-none = record { entries = none_written (column_entry a) (between (lines_held columns)) 0 buffer }

  module _ (out : List ℕ) (k : ℕ) (w : ColumnsWritten a columns buffer k out) where
    pub columns_written-next : (from to code : ℕ) → k < columns.count - 1 → 2 * (columns.count - 1) ≤ length buffer → from ≡ get_or columns.lines k 0
        → to ≡ get_or columns.lines (k + 1) 0 → code ≡ alignment_from a.glyphs.now a.offsets.now a.text.now a.line from
        → ColumnsWritten a columns buffer (k + 1) (set (set out (2 * k) code) (2 * k + 1) (to - from - 1))
    columns_written-next from to code h room f t e =
        let step =
        write-sets (column_entry a) (between (lines_held columns)) 0 buffer out k no_between (omega (arith, length-bands columns)) w.entries 2 (λ b. refl)
        (rw (length-bands columns) (omega arith)) in
        record { entries = rw (e, f, t, add-one (2 * k)) (rw (band-at columns k (omega arith), zero-add) at step) }

    pub columns_written-all : columns.count - 1 ≤ k → out ≡ over (columns_of a (lines_held columns)) buffer
    columns_written-all h =
        all-written (column_entry a) (between (lines_held columns)) 0 buffer out k (omega (arith, length-bands columns)) w.entries ∙ rw zero-add
