-- Laws of the sections of rows, by their codes.
use Prim.Native.Nat.{ℕ, zero, suc, ◌+◌, ◌-◌, ◌*◌, ◌≤◌, ◌<◌}
use mathlib.Core.Path.{◌≡◌, refl, sym, ◌∙◌}
use mathlib.Core.Bool.{Bool, true, false, ◌&&◌}
use mathlib.Core.List.{List, [], ◌∷◌, map, Memᴰ}
use native.Mathlib.Omega.{arith}
use native.Mathlib.Nat.{le_trans}
use lib.Dec.{eqb, leb, ltb}
use lib.ListN.{length, get_or, drop}
use borrow.Author.Tests.{leb-true, ltb-true, eqb-true, le-leb, eq-eqb, ne_eqb}
use Rattle.seq.specs.Lists.{range, all, neighbours}
use Rattle.seq.proofs.Tests.{and_left, and_right, and_intro, bool_same, bool-refused}
use Rattle.seq.proofs.Searches.{all-mem, all-range, range_all}
use Rattle.seq.proofs.Positions.{get_or-mem, get_d_map}
use Rattle.seq.proofs.Sorted.{sorted_tail}
use Rattle.grid.specs.declared.GridTableSection.TheVariants.{Body}
use Rattle.grid.specs.Values.{TableCell, Table}
use Rattle.grid.specs.Flat.{code_section}
use Rattle.drawing.specs.GridRules.{may_follow, same_section, none_crosses}
use Rattle.representation.specs.TableIn.{no_cell, cell_in}
use Rattle.representation.proofs.TableInLaws.{cells-length, cells_at}
use Rattle.table_checks.specs.Places.{places_of, grid_in, Within, Laid}
use Rattle.table_checks.proofs.WalkLaws.{all-fails, all-passes, all_done}
use Rattle.std.proofs.Common.{Some}
use Rattle.std.specs.Bool.{MatchBool}
use Rattle.std.specs.List.{IsAllAdjacentAnswer}
use Rattle.std.specs.List.Sorted.{IsNonDecreasing}
use Rattle.std.specs.Ordering.{is_le, is_some_and, nat_cmp}
use Rattle.std.proofs.lemmas.List.Sorted.{non_decreasing_from_is_sorted}

-- ---- codes and the sections that they stand for
may-code : (a b : ℕ) → a < 3 → b < 3 → may_follow (code_section a) (code_section b) ≡ leb a b
may-code zero b u w = sym (le-leb 0 b (omega arith))
may-code (suc zero) zero u w = refl
may-code (suc zero) (suc zero) u w = refl
may-code (suc zero) (suc (suc zero)) u w = refl
may-code (suc zero) (suc (suc (suc b))) u w = absurd (omega arith)
may-code (suc (suc zero)) zero u w = refl
may-code (suc (suc zero)) (suc zero) u w = refl
may-code (suc (suc zero)) (suc (suc zero)) u w = refl
may-code (suc (suc zero)) (suc (suc (suc b))) u w = absurd (omega arith)
may-code (suc (suc (suc a))) b u w = absurd (omega arith)

pub run-codes : (sections : List ℕ) → all (λ code. ltb code 3) sections ≡ true → neighbours may_follow (map code_section sections) ≡ neighbours leb sections
unfolding neighbours all
run-codes [] e = refl
run-codes (a ∷ []) e = refl
run-codes (a ∷ b ∷ l) e =
    let later = and_right (ltb a 3) (all (λ code. ltb code 3) (b ∷ l)) e in
    let u = ltb-true a 3 (and_left (ltb a 3) (all (λ code. ltb code 3) (b ∷ l)) e) in
    let w = ltb-true b 3 (and_left (ltb b 3) (all (λ code. ltb code 3) l) later) in
    rw (may-code a b u w, run-codes (b ∷ l) later)

-- the codes of rising rows rise
first-lowest : (a : ℕ) (l : List ℕ) → neighbours leb (a ∷ l) ≡ true → {x : ℕ} → Memᴰ x l → a ≤ x
unfolding neighbours
first-lowest a [] e x4 = elim x4 [ ]
first-lowest a (b ∷ l) e (Memᴰ.head q) = rw q (leb-true a b (and_left (leb a b) (neighbours leb (b ∷ l)) e))
first-lowest a (b ∷ l) e (Memᴰ.tail m) =
    le_trans (leb-true a b (and_left (leb a b) (neighbours leb (b ∷ l)) e)) (first-lowest b l (and_right (leb a b) (neighbours leb (b ∷ l)) e) m)

neighbours-rising : (l : List ℕ) → neighbours leb l ≡ true → (i j : ℕ) → i ≤ j → j < length l → get_or l i 0 ≤ get_or l j 0
neighbours-rising [] e i j u w = absurd (omega arith)
neighbours-rising (a ∷ l) e zero zero u w = omega arith
neighbours-rising (a ∷ l) e zero (suc j) u w = first-lowest a l e (get_or-mem l j 0 (omega arith))
neighbours-rising (a ∷ l) e (suc i) zero u w = absurd (omega arith)
neighbours-rising (a ∷ l) e (suc i) (suc j) u w = neighbours-rising l (sorted_tail leb a l e) i j (omega arith) (omega arith)

-- a slice that is sorted has rising codes
neighbours-each : (l : List ℕ) → ((k : ℕ) → k + 1 < length l → get_or l k 0 ≤ get_or l (k + 1) 0) → neighbours leb l ≡ true
unfolding neighbours
neighbours-each [] each = refl
neighbours-each (a ∷ []) each = refl
neighbours-each (a ∷ b ∷ l) each =
    and_intro (le-leb a b (each 0 (omega arith)))
    (neighbours-each (b ∷ l) (λ k h. let next : suc k + 1 ≡ suc (k + 1) = omega arith in rw next at (each (suc k) (omega arith))))

pub sorted-runs : (sections : List ℕ) (sorted : Bool) → IsAllAdjacentAnswer (λ x y b. is_some_and is_le (Some (nat_cmp x y)) ≡ b) sections sorted
    → sorted ≡ neighbours leb sections
sorted-runs sections sorted e = told sorted (non_decreasing_from_is_sorted sections sorted e) where
  told : (sorted : Bool) → MatchBool sorted (IsNonDecreasing sections) ((k : ℕ) × (k + 1 < length sections) × ((d : ℕ) → get_or sections (k + 1) d < get_or sections k d))
      → sorted ≡ neighbours leb sections
  told true rises = sym (neighbours-each sections (λ k h. rises k (k + 1) 0 (omega arith) h))
  told false (k, h, falls) =
      sym (bool-refused (neighbours leb sections) (λ run. absurd (omega (arith, falls 0, neighbours-rising sections run k (k + 1) (omega arith) h))))

-- ---- no cell crosses
abbrev pub stays_whole : Table → TableCell → Bool
stays_whole t c = all (λ r. same_section (get_or t.sections c.row Body) (get_or t.sections r Body)) (range c.row c.rowspan)

same_code : (a b : ℕ) → a < 3 → b < 3 → same_section (code_section a) (code_section b) ≡ eqb a b
same_code a b u w =
    rw (may-code a b u w, may-code b a w u)
    (bool_same (leb a b && leb b a) (eqb a b)
    (λ e. eq-eqb a b (omega (arith, leb-true a b (and_left (leb a b) (leb b a) e), leb-true b a (and_right (leb a b) (leb b a) e))))
    (λ e. let same = eqb-true a b e in and_intro (le-leb a b (omega (arith, same))) (le-leb b a (omega (arith, same)))))

-- the sections of two rows, by their codes
module _ (sections : List ℕ) (known : all (λ code. ltb code 3) sections ≡ true) where
  code : (i : ℕ) → i < length sections → get_or sections i 0 < 3
  code i h = ltb-true (get_or sections i 0) 3 (all-mem (λ code. ltb code 3) sections known (get_or-mem sections i 0 h))

  pub same_rows : (i j : ℕ) → i < length sections → j < length sections
      → same_section (get_or (map code_section sections) i Body) (get_or (map code_section sections) j Body) ≡ eqb (get_or sections i 0) (get_or sections j 0)
  same_rows i j u w =
      rw (get_d_map code_section sections i Body 0 u, get_d_map code_section sections j Body 0 w)
      (same_code (get_or sections i 0) (get_or sections j 0) (code i u) (code j w))

module _ (columns n : ℕ) (sections cells : List ℕ) (laid : Laid columns n sections cells) (run : neighbours leb sections ≡ true) where
  -- a cell crosses none where its first and its last row agree, since those between lie between
  whole-told : (k : ℕ) → Within columns (length sections) cells k → stays_whole (grid_in columns n sections cells) (cell_in cells [] k)
      ≡ eqb (get_or sections (get_or cells (5 * k) 0) 0) (get_or sections (get_or cells (5 * k) 0 + get_or cells (5 * k + 3) 0 - 1) 0)
  whole-told k w =
      let row = get_or cells (5 * k) 0 in
      let span = get_or cells (5 * k + 3) 0 in
      let last = row + span - 1 in
      let test : ℕ → Bool = λ r. same_section (get_or (map code_section sections) row Body) (get_or (map code_section sections) r Body) in
      let tall : 0 < span = w.tall in
      let low : row + span ≤ length sections = w.low in
      bool_same (all test (range row span)) (eqb (get_or sections row 0) (get_or sections last 0))
      (λ e. sym (same_rows sections laid.placed.codes row last (omega arith) (omega arith)) ∙ all-range test row span e last (omega arith) (omega arith))
      (λ e. range_all test row span (λ r u v.
      same_rows sections laid.placed.codes row r (omega arith) (omega arith)
      ∙ eq-eqb (get_or sections row 0) (get_or sections r 0)
      (let ends = eqb-true (get_or sections row 0) (get_or sections last 0) e in
      omega (arith, ends, neighbours-rising sections run row r u (omega arith), neighbours-rising sections run r last (omega arith) (omega arith)))))

  module _ (k : ℕ)
      (passed : none_crosses (grid_in columns n sections cells) ≡ all (stays_whole (grid_in columns n sections cells)) (drop k (places_of n cells))) where
    told : k < n → stays_whole (grid_in columns n sections cells) (get_or (places_of n cells) k no_cell)
        ≡ eqb (get_or sections (get_or cells (5 * k) 0) 0) (get_or sections (get_or cells (5 * k) 0 + get_or cells (5 * k + 3) 0 - 1) 0)
    told h = rw (cells_at n cells [] k no_cell h) (whole-told k (laid.within k h))

    pub one-crosses : k < n → (get_or sections (get_or cells (5 * k) 0) 0 ≡ get_or sections (get_or cells (5 * k) 0 + get_or cells (5 * k + 3) 0 - 1) 0 → ⊥)
        → false ≡ none_crosses (grid_in columns n sections cells)
    one-crosses h e =
        all-fails (stays_whole (grid_in columns n sections cells)) (places_of n cells) k no_cell (none_crosses (grid_in columns n sections cells)) passed
        (omega (arith, cells-length n cells [])) (told h ∙ ne_eqb _ _ e)

    pub one-whole : k < n → get_or sections (get_or cells (5 * k) 0) 0 ≡ get_or sections (get_or cells (5 * k) 0 + get_or cells (5 * k + 3) 0 - 1) 0
        → none_crosses (grid_in columns n sections cells) ≡ all (stays_whole (grid_in columns n sections cells)) (drop (k + 1) (places_of n cells))
    one-whole h e =
        all-passes (stays_whole (grid_in columns n sections cells)) (places_of n cells) k no_cell (none_crosses (grid_in columns n sections cells)) passed
        (omega (arith, cells-length n cells [])) (told h ∙ eq-eqb _ _ e)

module _ (columns n : ℕ) (sections cells : List ℕ) where
  pub none_yet : none_crosses (grid_in columns n sections cells) ≡ all (stays_whole (grid_in columns n sections cells)) (drop 0 (places_of n cells))
  unfolding none_crosses
  none_yet = refl

  pub all_whole : (k : ℕ) → none_crosses (grid_in columns n sections cells) ≡ all (stays_whole (grid_in columns n sections cells)) (drop k (places_of n cells))
      → n ≤ k → true ≡ none_crosses (grid_in columns n sections cells)
  all_whole k passed h =
      all_done (stays_whole (grid_in columns n sections cells)) (places_of n cells) k no_cell (none_crosses (grid_in columns n sections cells)) passed
      (omega (arith, cells-length n cells []))
