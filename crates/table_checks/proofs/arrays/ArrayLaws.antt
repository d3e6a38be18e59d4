-- Laws of the sizes and the codes in a table's arrays.
use Prim.Native.Nat.{ℕ, suc, ◌+◌, ◌-◌, ◌*◌, ◌≤◌, ◌<◌}
use mathlib.Core.Path.{◌≡◌, sym, ap, ◌∙◌}
use mathlib.Core.Bool.{Bool, true, false, not, ◌&&◌}
use mathlib.Core.List.{List}
use native.Mathlib.Omega.{arith}
use lib.Dec.{eqb, ltb}
use lib.ListN.{length, get_or, drop}
use lib.Seq.{get_or-drop, drop-drop}
use native.Mathlib.Nat.{add-zero}
use Rattle.std.proofs.Common.{Result, Ok, Err}
use Rattle.std.proofs.lemmas.Bool.{false≢true}
use Rattle.std.specs.Result.{is_err}
use Rattle.grid.specs.Codes.{DecodesAlignment, DecodesSection}
use Rattle.grid.specs.declared.UnknownCode.{UnknownCode}
use Rattle.grid.specs.declared.TableAlignment.{TableAlignment}
use Rattle.grid.specs.declared.TableAlignment.TheVariants.{None, Left, Right, Center}
use Rattle.grid.specs.declared.GridTableSection.{GridTableSection}
use Rattle.grid.specs.declared.GridTableSection.TheVariants.{Head, Body, Foot}
use borrow.Author.Tests.{lt-ltb, le-ltb, eqb-true, eq-eqb, ne_eqb}
use Rattle.seq.specs.Lists.{sum, all}
use Rattle.seq.proofs.Tests.{and_assoc, both_true, and-false}
use Rattle.grid.specs.Flat.{TableSizes, TableArrays, alignment_code, section_code, length_is, every_nth, table_contradicts}
use Rattle.table_checks.specs.Entries.{entries}
use Rattle.table_checks.proofs.entries.EntryLaws.{entries-all}
use Rattle.table_checks.proofs.WalkLaws.{all-fails, all-passes, all_done}

-- ---- codes of alignments
pub alignment-unknown : (code : ℕ) (r : Result TableAlignment UnknownCode) → DecodesAlignment code r → true ≡ is_err r → 3 < code
alignment-unknown code (Ok a) told e = absurd (false≢true (sym e))
alignment-unknown code (Err unknown) told e = told.1

pub alignment-known : (code : ℕ) (r : Result TableAlignment UnknownCode) → DecodesAlignment code r → false ≡ is_err r → code ≤ 3
alignment-known code (Ok a) told e = rw (← told.1) (elim a as (λ a. alignment_code a ≤ 3) [ None ↦ omega arith | Left ↦ omega arith | Right ↦ omega arith | Center ↦ omega arith ])
alignment-known code (Err unknown) told e = absurd (false≢true e)

module _ (columns k : ℕ) (entries : List ℕ)
    (passed : all (λ code. ltb code 4) (every_nth 2 columns entries) ≡ all (λ code. ltb code 4) (every_nth 2 (columns - k) (drop (2 * k) entries))) where
  abbrev aligned : Bool
  aligned = all (λ code. ltb code 4) (every_nth 2 columns entries)

  alignment-step : k < columns
      → aligned ≡ ltb (get_or entries (2 * k) 0) 4 && all (λ code. ltb code 4) (every_nth 2 (columns - (k + 1)) (drop (2 * (k + 1)) entries))
  unfolding every_nth all
  alignment-step h =
      let more : columns - k ≡ suc (columns - (k + 1)) = omega arith in
      let next : 2 * k + 2 ≡ 2 * (k + 1) = omega arith in
      passed ∙ rw (more, get_or-drop (2 * k) entries 0 0, add-zero (2 * k), drop-drop 2 (2 * k) entries, next)

  pub unaligned-here : k < columns → 3 < get_or entries (2 * k) 0 → false ≡ aligned
  unaligned-here h high = sym (alignment-step h ∙ rw (le-ltb (get_or entries (2 * k) 0) 4 high))

  pub aligned-here : k < columns → get_or entries (2 * k) 0 ≤ 3
      → aligned ≡ all (λ code. ltb code 4) (every_nth 2 (columns - (k + 1)) (drop (2 * (k + 1)) entries))
  aligned-here h low = alignment-step h ∙ rw (lt-ltb (get_or entries (2 * k) 0) 4 (omega arith))

  pub all_aligned : columns ≤ k → true ≡ aligned
  unfolding every_nth all
  all_aligned h = let none : columns - k ≡ 0 = omega arith in sym (passed ∙ rw none)

-- ---- codes of sections
pub section-unknown : (code : ℕ) (r : Result GridTableSection UnknownCode) → DecodesSection code r → true ≡ is_err r → 2 < code
section-unknown code (Ok s) told e = absurd (false≢true (sym e))
section-unknown code (Err unknown) told e = told.1

pub section-known : (code : ℕ) (r : Result GridTableSection UnknownCode) → DecodesSection code r → false ≡ is_err r → code ≤ 2
section-known code (Ok s) told e = rw (← told.1) (elim s as (λ s. section_code s ≤ 2) [ Head ↦ omega arith | Body ↦ omega arith | Foot ↦ omega arith ])
section-known code (Err unknown) told e = absurd (false≢true e)

abbrev is_section : ℕ → Bool
is_section code = ltb code 3

module _ (sections : List ℕ) (i : ℕ) (passed : all (λ code. ltb code 3) sections ≡ all (λ code. ltb code 3) (drop i sections)) where
  pub unknown-here : i < length sections → 2 < get_or sections i 0 → false ≡ all (λ code. ltb code 3) sections
  unknown-here h high = all-fails is_section sections i 0 (all is_section sections) passed h (le-ltb (get_or sections i 0) 3 high)

  pub known-here : i < length sections → get_or sections i 0 ≤ 2 → all (λ code. ltb code 3) sections ≡ all (λ code. ltb code 3) (drop (i + 1) sections)
  known-here h low = all-passes is_section sections i 0 (all is_section sections) passed h (lt-ltb (get_or sections i 0) 3 (omega arith))

  pub all_known : length sections ≤ i → true ≡ all (λ code. ltb code 3) sections
  all_known h = all_done is_section sections i 0 (all is_section sections) passed h

-- ---- 13
pub sized-agree : (columns rows n : ℕ) (cols sections cells : List ℕ) → length_is cols (2 * columns) && length_is sections rows && length_is cells (5 * n) ≡ true
    → (length cols ≡ 2 * columns) × (length sections ≡ rows) × (length cells ≡ 5 * n)
sized-agree columns rows n cols sections cells e =
    let (front, c) = both_true (length_is cols (2 * columns) && length_is sections rows) (length_is cells (5 * n)) e in
    let (a, b) = both_true (length_is cols (2 * columns)) (length_is sections rows) front in
    (eqb-true (length cols) (2 * columns) a, eqb-true (length sections) rows b, eqb-true (length cells) (5 * n) c)

module _ (s : TableSizes) (t : TableArrays) where
  -- the sizes of the arrays that a page has as well
  abbrev shaped : Bool
  shaped = length_is t.columns (2 * s.columns) && length_is t.sections s.rows && length_is t.cells (5 * s.cells)

  pub unshaped : shaped ≡ false → true ≡ table_contradicts s t
  unfolding table_contradicts
  unshaped e = rw e

  pub lines-wrong : (length t.lengths ≡ s.lines → ⊥) → true ≡ table_contradicts s t
  unfolding table_contradicts
  lines-wrong e = rw (ne_eqb (length t.lengths) s.lines e, and-false shaped)

  pub bytes-wrong : (length t.text ≡ s.bytes → ⊥) → true ≡ table_contradicts s t
  unfolding table_contradicts
  bytes-wrong e = rw (ne_eqb (length t.text) s.bytes e, and-false (shaped && length_is t.lengths s.lines))

  module _ (sized : shaped ≡ true) (l : length t.lengths ≡ s.lines) (b : length t.text ≡ s.bytes) where
    pub columns-room : length t.columns ≡ 2 * s.columns
    columns-room = (sized-agree s.columns s.rows s.cells t.columns t.sections t.cells sized).0

    pub cells-room : 5 * s.cells ≤ length t.cells
    cells-room = omega (arith, (sized-agree s.columns s.rows s.cells t.columns t.sections t.cells sized).2)

    -- the tests that are left
    abbrev counted : Bool
    counted = eqb (sum (entries 4 5 s.cells t.cells)) s.lines

    abbrev filled : Bool
    filled = eqb (sum (entries 0 1 s.lines t.lengths)) s.bytes

    abbrev coded : Bool
    coded = all (λ code. ltb code 4) (every_nth 2 s.columns t.columns) && all (λ code. ltb code 3) t.sections

    apart : table_contradicts s t ≡ not (counted && filled && coded)
    unfolding table_contradicts
    apart =
        let whole : entries 0 1 s.lines t.lengths ≡ t.lengths = rw (← l) (entries-all t.lengths) in
        let p = all (λ code. ltb code 4) (every_nth 2 s.columns t.columns) in
        let q = all (λ code. ltb code 3) t.sections in
        rw (sized, eq-eqb (length t.lengths) s.lines l, eq-eqb (length t.text) s.bytes b, whole)
        (ap not (and_assoc (eqb (sum (entries 4 5 s.cells t.cells)) s.lines && eqb (sum t.lengths) s.bytes) p q))

    pub uncounted : false ≡ counted → true ≡ table_contradicts s t
    uncounted e = sym (apart ∙ rw (← e))

    pub unfilled : false ≡ filled → true ≡ table_contradicts s t
    unfilled e = sym (apart ∙ rw (← e, and-false counted))

    pub codes-left : true ≡ counted → true ≡ filled → {c : Bool} → c ≡ coded → not c ≡ table_contradicts s t
    codes-left e f g = sym (apart ∙ rw (← e, ← f, ← g))
