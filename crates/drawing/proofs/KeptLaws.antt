-- What the grid rules say of a table, as facts: `keeps_rules-kept` gives a `Kept` of a table that keeps them.
use Prim.Native.Nat.{ℕ, ◌+◌, ◌≤◌, ◌<◌}
use mathlib.Core.Path.{◌≡◌}
use mathlib.Core.Bool.{true, ◌&&◌}
use mathlib.Core.List.{Memᴰ}
use native.Mathlib.Omega.{arith}
use lib.Dec.{eqb, leb, ltb}
use borrow.Author.Tests.{leb-true, ltb-true, eqb-true, lt-ltb, le-leb}
use lib.ListN.{length, get_or}
use Rattle.seq.specs.Lists.{range, up_to, all, any, count, neighbours}
use Rattle.seq.proofs.Tests.{and_left, and_right, and_intro}
use Rattle.seq.proofs.Searches.{all-mem, any-mem, all-range}
use Rattle.grid.specs.Values.{TableCell, Table}
use Rattle.grid.specs.declared.GridTableSection.TheVariants.{Body}
use Rattle.drawing.specs.GridRules.{may_follow, comes_before, in_order, stays_inside, all_inside, holds_square, cover_once, all_start, sections_run, same_section, none_crosses, keeps_rules}

-- a cell with spans that lies in the grid
pub record Lies (t : Table) (c : TableCell) : Type 0 where
  pub broad : 0 < c.colspan
  pub tall : 0 < c.rowspan
  pub near : c.column + c.colspan ≤ length t.columns
  pub low : c.row + c.rowspan ≤ length t.sections

-- the test of it, both ways
pub lies-stays : (t : Table) (c : TableCell) → Lies t c → stays_inside t c ≡ true
lies-stays t c s =
    and_intro (and_intro (and_intro (lt-ltb 0 c.colspan s.broad) (lt-ltb 0 c.rowspan s.tall)) (le-leb (c.column + c.colspan) (length t.columns) s.near))
    (le-leb (c.row + c.rowspan) (length t.sections) s.low)

pub stays-lies : (t : Table) (c : TableCell) → stays_inside t c ≡ true → Lies t c
stays-lies t c h =
    let p = ltb 0 c.colspan in
    let q = ltb 0 c.rowspan in
    let u = leb (c.column + c.colspan) (length t.columns) in
    let v = leb (c.row + c.rowspan) (length t.sections) in
    let a = and_left (p && q && u) v h in
    let b = and_left (p && q) u a in
    record {
      broad = ltb-true _ _ (and_left p q b);
      tall = ltb-true _ _ (and_right p q b);
      near = leb-true _ _ (and_right (p && q) u a);
      low = leb-true _ _ (and_right (p && q && u) v h);
    }

pub record Kept (t : Table) : Type 0 where
  pub lies : (c : TableCell) → Memᴰ c t.cells → Lies t c
  pub ordered : neighbours comes_before t.cells ≡ true
  pub square : (r k : ℕ) → r < length t.sections → k < length t.columns → count (holds_square r k) t.cells ≡ 1
  pub row_start : (r : ℕ) → r < length t.sections → (c : TableCell) × Memᴰ c t.cells × (c.row ≡ r)
  pub column_start : (k : ℕ) → k < length t.columns → (c : TableCell) × Memᴰ c t.cells × (c.column ≡ k)
  pub run : neighbours may_follow t.sections ≡ true
  pub whole : (c : TableCell) → Memᴰ c t.cells → (i : ℕ) → c.row ≤ i → i < c.row + c.rowspan
      → same_section (get_or t.sections c.row Body) (get_or t.sections i Body) ≡ true

pub keeps_rules-kept : (t : Table) → keeps_rules t ≡ true → Kept t
unfolding keeps_rules in_order all_inside cover_once all_start sections_run none_crosses
keeps_rules-kept t h =
    let a₁ = in_order t in
    let a₂ = all_inside t in
    let a₃ = cover_once t in
    let a₄ = all_start t in
    let a₅ = sections_run t in
    let a₆ = none_crosses t in
    let h₅ = and_left (a₁ && a₂ && a₃ && a₄ && a₅) a₆ h in
    let h₄ = and_left (a₁ && a₂ && a₃ && a₄) a₅ h₅ in
    let h₃ = and_left (a₁ && a₂ && a₃) a₄ h₄ in
    let h₂ = and_left (a₁ && a₂) a₃ h₃ in
    let starts = and_right (a₁ && a₂ && a₃) a₄ h₄ in
    let rows = all (λ r. any (λ (c : TableCell). eqb c.row r) t.cells) (up_to (length t.sections)) in
    let columns = all (λ k. any (λ (c : TableCell). eqb c.column k) t.cells) (up_to (length t.columns)) in
    record {
      lies = λ c m. stays-lies t c (all-mem (stays_inside t) t.cells (and_right a₁ a₂ h₂) m);
      ordered = and_left a₁ a₂ h₂;
      square = λ r k u w.
          eqb-true _ _
          (all-range (λ k. eqb (count (holds_square r k) t.cells) 1) 0 (length t.columns)
          (all-range (λ r. all (λ k. eqb (count (holds_square r k) t.cells) 1) (up_to (length t.columns))) 0 (length t.sections) (and_right (a₁ && a₂) a₃ h₃) r (omega arith) (omega arith)) k
          (omega arith) (omega arith));
      row_start = λ r u.
          let (c, m, e) = any-mem (λ (c : TableCell). eqb c.row r) t.cells
          (all-range (λ r. any (λ (c : TableCell). eqb c.row r) t.cells) 0 (length t.sections) (and_left rows columns starts) r (omega arith) (omega arith)) in
          (c, m, eqb-true _ _ e);
      column_start = λ k u.
          let (c, m, e) = any-mem (λ (c : TableCell). eqb c.column k) t.cells
          (all-range (λ k. any (λ (c : TableCell). eqb c.column k) t.cells) 0 (length t.columns) (and_right rows columns starts) k (omega arith) (omega arith)) in
          (c, m, eqb-true _ _ e);
      run = and_right (a₁ && a₂ && a₃ && a₄) a₅ h₅;
      whole = λ c m i low high.
          all-range (λ r. same_section (get_or t.sections c.row Body) (get_or t.sections r Body)) c.row c.rowspan
          (all-mem (λ (c : TableCell). all (λ r. same_section (get_or t.sections c.row Body) (get_or t.sections r Body)) (range c.row c.rowspan)) t.cells
          (and_right (a₁ && a₂ && a₃ && a₄ && a₅) a₆ h) m) i low high;
    }
