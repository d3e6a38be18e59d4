-- The checks of a table in their order: what each return answers, and what the checks before a call tell.
use Prim.Native.Nat.{ℕ, ◌*◌}
use mathlib.Core.Path.{◌≡◌, sym, ap, ◌∙◌}
use mathlib.Core.Bool.{Bool, true, false, not, ◌&&◌}
use mathlib.Core.List.{List}
use native.Mathlib.Omega.{arith}
use lib.Dec.{eqb, ltb}
use lib.ListN.{length, length-map}
use borrow.Author.Tests.{eqb-true, not-false}
use Rattle.seq.specs.Lists.{sum, all, first_at}
use Rattle.seq.proofs.Tests.{both_true}
use Rattle.text.specs.Utf8.{well_formed}
use Rattle.grid.specs.Answer.{Answer, refuse, refuse_if}
use Rattle.grid.specs.Values.{Line, Table}
use Rattle.grid.specs.Flat.{TableSizes, TableArrays, code_section, every_nth, length_is, split_text, table_contradicts, table_of_arrays}
use Rattle.grid.proofs.FlatLaws.{length-split}
use Rattle.drawing.specs.GridRules.{keeps_rules}
use Rattle.drawing.specs.Redraw.{table_empty, table_too_large, table_outside_set, check_table}
use Rattle.drawing.proofs.LimitLaws.{table_too_large-parts, shape-limits}
use Rattle.reading.specs.Checks.{place_of}
use Rattle.std.proofs.Common.{Option, Some, None}
use Rattle.representation.specs.TableIn.{table_in, counts_in, Tabled}
use Rattle.representation.proofs.TableInLaws.{columns-length, cells-length, lines-whole}
use Rattle.table_checks.specs.Agreement.{Agree}
use Rattle.table_checks.specs.Places.{grid_in, CellsPlaced}
use Rattle.table_checks.proofs.PlaceLaws.{rules-placed}

-- ---- arrays without a contradiction
pub record Sized (s : TableSizes) (t : TableArrays) : Type 0 where
  pub cols_room : length t.columns ≡ 2 * s.columns
  pub rows_agree : length t.sections ≡ s.rows
  pub cells_room : length t.cells ≡ 5 * s.cells
  pub lines_agree : length t.lengths ≡ s.lines
  pub bytes_agree : length t.text ≡ s.bytes
  pub counts_agree : sum (counts_in s.cells t.cells) ≡ s.lines
  pub lengths_agree : sum t.lengths ≡ s.bytes
  pub alignments : all (λ code. ltb code 4) (every_nth 2 s.columns t.columns) ≡ true
  pub section_codes : all (λ code. ltb code 3) t.sections ≡ true

module _ (s : TableSizes) (t : TableArrays) {a : Bool} (told : a ≡ table_contradicts s t) (fit : a ≡ false) where
  sized : Sized s t
  unfolding table_contradicts
  sized =
      let p₁ = length_is t.columns (2 * s.columns) in
      let p₂ = length_is t.sections s.rows in
      let p₃ = length_is t.cells (5 * s.cells) in
      let p₄ = length_is t.lengths s.lines in
      let p₅ = length_is t.text s.bytes in
      let p₆ = eqb (sum (counts_in s.cells t.cells)) s.lines in
      let p₇ = eqb (sum t.lengths) s.bytes in
      let p₈ = all (λ code. ltb code 4) (every_nth 2 s.columns t.columns) in
      let p₉ = all (λ code. ltb code 3) t.sections in
      let (q₈, codes) = both_true (p₁ && p₂ && p₃ && p₄ && p₅ && p₆ && p₇ && p₈) p₉ (not-false _ (sym told ∙ fit)) in
      let (q₇, aligned) = both_true (p₁ && p₂ && p₃ && p₄ && p₅ && p₆ && p₇) p₈ q₈ in
      let (q₆, summed) = both_true (p₁ && p₂ && p₃ && p₄ && p₅ && p₆) p₇ q₇ in
      let (q₅, counted) = both_true (p₁ && p₂ && p₃ && p₄ && p₅) p₆ q₆ in
      let (q₄, texts) = both_true (p₁ && p₂ && p₃ && p₄) p₅ q₅ in
      let (q₃, lined) = both_true (p₁ && p₂ && p₃) p₄ q₄ in
      let (q₂, celled) = both_true (p₁ && p₂) p₃ q₃ in
      let (wide, tall) = both_true p₁ p₂ q₂ in
      record {
        cols_room = eqb-true (length t.columns) (2 * s.columns) wide;
        rows_agree = eqb-true (length t.sections) s.rows tall;
        cells_room = eqb-true (length t.cells) (5 * s.cells) celled;
        lines_agree = eqb-true (length t.lengths) s.lines lined;
        bytes_agree = eqb-true (length t.text) s.bytes texts;
        counts_agree = eqb-true (sum (counts_in s.cells t.cells)) s.lines counted;
        lengths_agree = eqb-true (sum t.lengths) s.bytes summed;
        alignments = aligned;
        section_codes = codes;
      }

  pub lines-add-up : sum t.lengths ≡ length t.text
  lines-add-up = sized.lengths_agree ∙ sym sized.bytes_agree

  pub columns-sized : length t.columns ≡ 2 * s.columns
  columns-sized = sized.cols_room

  pub lines-agree : Agree s.cells t.cells t.lengths t.text
  lines-agree = record { cells_room = sized.cells_room; lines_agree = sized.counts_agree ∙ sym sized.lines_agree; bytes_agree = lines-add-up }

  pub check_table-placed : (origin : ℕ) {l : Bool}
      → l ≡ table_too_large origin (table_in s.columns s.cells t.columns t.sections t.cells t.lengths t.text) → l ≡ false
      → CellsPlaced s.columns s.cells t.sections t.cells
  check_table-placed origin check_table-large small =
      let table = table_in s.columns s.cells t.columns t.sections t.cells t.lengths t.text in
      let shape = shape-limits table (table_too_large-parts origin table (sym check_table-large ∙ small)).1 in
      record {
        cells_room = sized.cells_room;
        narrow = omega (arith, shape.columns, columns-length s.columns t.columns);
        low = omega (arith, shape.rows, length-map t.sections code_section);
        codes = sized.section_codes;
      }

-- ---- the returns
module _ (origin : ℕ) (s : TableSizes) (t : TableArrays) where
  abbrev table : Table
  table = table_in s.columns s.cells t.columns t.sections t.cells t.lengths t.text

  -- what is answered where this follows the checks
  abbrev answer : Answer (List Line) → Answer (List Line)
  answer next = refuse_if (table_contradicts s t) 13 (check_table origin (table_of_arrays s t) next)

  module _ {a : Bool} (a-told : a ≡ table_contradicts s t) where
    module _ (fit : a ≡ false) {b : Bool}
        (b-told : (u : Table) → length u.columns ≡ s.columns → length u.sections ≡ s.rows → length u.cells ≡ s.cells → b ≡ table_empty u) where
      agreed : Sized s t
      agreed = sized s t a-told fit

      rest : (next : Answer (List Line)) → answer next ≡ check_table origin table next
      unfolding table_of_arrays
      rest next = rw (← a-told, fit)

      is-empty : b ≡ table_empty table
      is-empty =
          b-told table (columns-length s.columns t.columns) (length-map t.sections code_section ∙ agreed.rows_agree)
          (cells-length s.cells t.cells (split_text t.lengths t.text))

      pub check_table-empty : b ≡ true → (next : Answer (List Line)) → refuse 1 0 ≡ answer next
      unfolding check_table
      check_table-empty e next = rw (rest next, ← is-empty, e)

      module _ (some : b ≡ false) {l : Bool} (l-told : l ≡ table_too_large origin table) where
        pub check_table-large : l ≡ true → (next : Answer (List Line)) → refuse 2 0 ≡ answer next
        unfolding check_table
        check_table-large e next = rw (rest next, ← is-empty, some, ← l-told, e)

        module _ (small : l ≡ false) (p : Option ℕ) (p-told : place_of p ≡ first_at (λ line. not (well_formed line)) 0 (split_text t.lengths t.text)) where
          outside_told : table_outside_set table ≡ place_of p
          unfolding table_outside_set
          outside_told =
              let lines = split_text t.lengths t.text in
              let counted = agreed.counts_agree ∙ sym agreed.lines_agree ∙ sym (length-split t.lengths t.text) in
              rw (lines-whole s.cells t.cells lines (omega (arith, counted))) (sym p-told)

          pub check_table-outside : {y : ℕ} → p ≡ Some y → (next : Answer (List Line)) → refuse 3 y ≡ answer next
          unfolding check_table
          check_table-outside e next = rw (rest next, ← is-empty, some, ← l-told, small, outside_told, e)

          module _ (inside : p ≡ None) {k : Bool} (k-told : k ≡ keeps_rules (grid_in s.columns s.cells t.sections t.cells)) where
            rules-told : keeps_rules table ≡ k
            rules-told = rules-placed s.columns s.cells t.columns t.sections t.cells t.lengths t.text ∙ sym k-told

            pub check_table-broken : not k ≡ true → (next : Answer (List Line)) → refuse 8 0 ≡ answer next
            unfolding check_table
            check_table-broken e next = rw (rest next, ← is-empty, some, ← l-told, small, outside_told, inside, rules-told, e)

            module _ (kept : not k ≡ false) where
              pub check_table-kept : (next : Answer (List Line)) → next ≡ answer next
              unfolding check_table
              check_table-kept next = sym (rest next ∙ rw (← is-empty, some, ← l-told, small, outside_told, inside, rules-told, kept))

              pub check_table-sized : (s.rows ≡ length t.sections) × (s.lines ≡ length t.lengths) × (s.bytes ≡ length t.text)
              check_table-sized = (sym agreed.rows_agree, sym agreed.lines_agree, sym agreed.bytes_agree)

              pub check_table-tabled : Tabled origin s.columns s.cells t.columns t.sections t.cells t.lengths t.text
              check_table-tabled =
                  record {
                    cols_room = agreed.cols_room;
                    cells_room = agreed.cells_room;
                    lines_agree = agreed.counts_agree ∙ sym agreed.lines_agree;
                    bytes_agree = agreed.lengths_agree ∙ sym agreed.bytes_agree;
                    alignments = agreed.alignments;
                    section_codes = agreed.section_codes;
                    keeps = record {
                      not_empty = sym is-empty ∙ some;
                      not_too_large = sym l-told ∙ small;
                      in_set = outside_told ∙ ap place_of inside;
                      rules = rules-told ∙ not-false _ kept;
                    };
                  }
