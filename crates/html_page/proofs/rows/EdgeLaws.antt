-- The tags around a row: whether it is its section's first or last (`row_opens`, `row_closes`), and what stands before its cells
-- (`row_opened`, `section-opened`) and after them (`row-closed`, `section-closed`).
use Prim.Native.Nat.{ℕ, zero, suc, ◌+◌, ◌-◌, ◌<◌}
use mathlib.Core.Path.{◌≡◌, refl, ap}
use mathlib.Core.Bool.{Bool, true, false, not}
use mathlib.Core.List.{List, ◌++◌, map}
use native.Mathlib.Omega.{arith}
use lib.Dec.{eqb, ltb}
use lib.ListN.{length, get_or, length-map}
use borrow.Author.Tests.{lt-ltb, not-true, not-false}
use Rattle.seq.specs.Ascii.{ascii}
use Rattle.seq.specs.Lists.{all}
use Rattle.seq.proofs.Positions.{get_d_map}
use Rattle.grid.specs.Values.{Table}
use Rattle.grid.specs.Flat.{code_section}
use Rattle.grid.specs.declared.GridTableSection.TheVariants.{Body}
use Rattle.drawing.specs.GridRules.{same_section}
use Rattle.html.specs.Page.{section_tag, opening, closing, new_line, when_edge, section_of, opens_section, closes_section}
use Rattle.table_checks.proofs.rules.SectionLaws.{same_rows}
use Rattle.writer.specs.Writing.{Wrote}
use Rattle.writer.proofs.WritingLaws.{wrote_then}

-- ---- first and last rows
module _ (sections : List ℕ) (known : all (λ code. ltb code 3) sections ≡ true) (t : Table) (same : t.sections ≡ map code_section sections) where
  same-section : (i j : ℕ) → i < length sections → j < length sections → same_section (section_of t i) (section_of t j) ≡ eqb (get_or sections i 0) (get_or sections j 0)
  same-section i j u w = rw same (same_rows sections known i j u w)

  pub row_opens : (row : ℕ) → row < length sections → (row ≡ 0 → ⊥) → not (eqb (get_or sections (row - 1) 0) (get_or sections row 0)) ≡ opens_section t row
  row_opens zero h g = absurd (g refl)
  row_opens (suc row) h g =
      let before : suc row - 1 ≡ row = omega arith in
      let here : row + 1 ≡ suc row = omega arith in
      rw (before, same-section row (row + 1) (omega arith) (omega arith), here) refl

  pub row_closes : (row : ℕ) → row + 1 < length sections → not (eqb (get_or sections row 0) (get_or sections (row + 1) 0)) ≡ closes_section t row
  row_closes row h =
      let inside : row + 1 < length t.sections = omega (arith, ap length same, length-map sections code_section) in
      rw (lt-ltb (row + 1) (length t.sections) inside, same-section row (row + 1) (omega arith) (omega arith)) refl

-- ---- what stands before a row's cells, and after them
module _ (sections : List ℕ) (row : ℕ) {b : Bool} {d e : List ℕ} {at r : ℕ} where
  module _ (told : (t : Table) → t.sections ≡ map code_section sections → b ≡ opens_section t row) where
    pub row_opened : not b ≡ true → Wrote d at (ascii "<tr>") e r → (t : Table) → t.sections ≡ map code_section sections
        → Wrote d at (when_edge (opens_section t row) (opening (section_tag (section_of t row)) ++ new_line) ++ ascii "<tr>") e r
    row_opened h p t same = rw (← told t same, not-true b h) p

    pub section-opened : {f : List ℕ} {end : ℕ} → not b ≡ false → row < length sections
        → Wrote d at (opening (section_tag (code_section (get_or sections row 0))) ++ new_line) e r → Wrote e r (ascii "<tr>") f end
        → (t : Table) → t.sections ≡ map code_section sections
        → Wrote d at (when_edge (opens_section t row) (opening (section_tag (section_of t row)) ++ new_line) ++ ascii "<tr>") f end
    section-opened h u p q t same = rw (← told t same, not-false b h, same, get_d_map code_section sections row Body 0 u) (wrote_then p q)

  module _ (told : (t : Table) → t.sections ≡ map code_section sections → b ≡ closes_section t row) (p : Wrote d at (ascii "\n</tr>\n") e r) where
    pub row-closed : not b ≡ true → (t : Table) → t.sections ≡ map code_section sections
        → Wrote d at (new_line ++ ascii "</tr>" ++ when_edge (closes_section t row) (new_line ++ closing (section_tag (section_of t row))) ++ new_line) e r
    unfolding ascii
    row-closed h t same = rw (← told t same, not-true b h) p

    pub section-closed : {f : List ℕ} {end : ℕ} → not b ≡ false → row < length sections
        → Wrote e r (closing (section_tag (code_section (get_or sections row 0))) ++ new_line) f end
        → (t : Table) → t.sections ≡ map code_section sections
        → Wrote d at (new_line ++ ascii "</tr>" ++ when_edge (closes_section t row) (new_line ++ closing (section_tag (section_of t row))) ++ new_line) f end
    unfolding ascii
    section-closed h u q t same = rw (← told t same, not-false b h, same, get_d_map code_section sections row Body 0 u) (wrote_then p q)
