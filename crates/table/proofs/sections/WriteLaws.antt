-- Laws of the sections of rows.
use Prim.Native.Nat.{ℕ, ◌+◌, ◌*◌, ◌-◌, ◌≤◌, ◌<◌}
use mathlib.Core.Path.{◌≡◌, refl, ◌∙◌}
use mathlib.Core.List.{List, [], ◌∷◌}
use native.Mathlib.Omega.{arith}
use native.Mathlib.Nat.{zero-add}
use lib.ListN.{length, get_or, set}
use Rattle.seq.proofs.FlatMaps.{flat_map-ones}
use Rattle.seq.proofs.Entries.{Written, none_written, all-written, write-sets}
use Rattle.grid.specs.Answer.{over}
use Rattle.grid.specs.Layout.{Between, between}
use Rattle.representation.specs.declared.Numbering.{Numbering}
use Rattle.representation.specs.declared.Parts.{Parts}
use Rattle.representation.specs.LayoutEntries.{lines_numbered, section_from}
use Rattle.representation.proofs.HeldLaws.{no_between, numbered-bands, numbered-band-at}
use Rattle.representation.specs.TableEntries.{section_entries}

pub record SectionsWritten (p : Parts) (tops : Numbering) (buffer : List ℕ) (k : ℕ) (out : List ℕ) : Type 0 where
  pub entries : Written (λ (b : Between). section_from p b.from ∷ []) (between (lines_numbered tops)) 0 buffer k out

pub no-section : (p : Parts) (tops : Numbering) (buffer : List ℕ) → SectionsWritten p tops buffer 0 buffer
no-section p tops buffer = record { entries = none_written (λ (b : Between). section_from p b.from ∷ []) (between (lines_numbered tops)) 0 buffer }

module _ (p : Parts) (tops : Numbering) (full : length tops.lines ≡ 128) (few : tops.count ≤ 128) (buffer out : List ℕ) (k : ℕ) (w : SectionsWritten p tops buffer k out) where
  pub section-next : (top s : ℕ) → k < tops.count - 1 → tops.count - 1 ≤ length buffer → top ≡ get_or tops.lines k 0 → s ≡ section_from p top
      → SectionsWritten p tops buffer (k + 1) (set out k s)
  section-next top s h room t e =
      let at : 0 + 1 * k ≡ k = omega arith in
      let step =
      write-sets (λ (b : Between). section_from p b.from ∷ []) (between (lines_numbered tops)) 0 buffer out k no_between
      (omega (arith, numbered-bands tops full few)) w.entries 1 (λ b. refl) (rw (numbered-bands tops full few) (omega arith)) in
      record { entries = rw (e, t) (rw (numbered-band-at tops full few k (omega arith), at) at step) }

  pub sections-done : tops.count - 1 ≤ k → out ≡ over (section_entries p (lines_numbered tops)) buffer
  sections-done h =
      all-written (λ (b : Between). section_from p b.from ∷ []) (between (lines_numbered tops)) 0 buffer out k
      (omega (arith, numbered-bands tops full few)) w.entries
      ∙ rw (zero-add, flat_map-ones (λ (b : Between). section_from p b.from) (between (lines_numbered tops)))
