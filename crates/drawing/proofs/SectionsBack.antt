-- Sections, read back: the separators that reading finds are the drawn rules, once each (`separators-back`), the alignment line is the
-- drawn one (`alignment_line-back`), and where a Foot has a Head (`headed`) the sections are the table's (`sections-back`).
use Prim.Native.Nat.{ℕ, zero, suc, ◌-◌, ◌≤◌, ◌<◌}
use mathlib.Core.Path.{◌≡◌, refl, sym, ap, ◌∙◌}
use mathlib.Core.Bool.{Bool, true, false, not, ◌&&◌, ◌||◌, cond}
use mathlib.Core.Logic.{⊎_elim}
use mathlib.Core.Option.{Option, some}
use mathlib.Core.List.{List, [], ◌∷◌, ◌++◌, Memᴰ}
use native.Mathlib.Omega.{arith}
use native.Mathlib.Nat.{le_refl, eq-or-lt_of_le}
use lib.Dec.{eqb, leb, ltb}
use borrow.Author.Tests.{eqb-true, eqb-false, eq-eqb, lt-ltb, le-ltb, le-leb, lt-leb}
use lib.ListN.{length, get_or}
use lib.Seq.{ext_get_or}
use Rattle.seq.specs.Lists.{up_to, any, select, count, or_default, neighbours}
use Rattle.seq.proofs.Tests.{true-not-false, and_intro, bool-refused, le-or-lt, bool_cases}
use Rattle.seq.proofs.Ranges.{mem-range, range-mem}
use Rattle.seq.proofs.Searches.{any-mem, mem-any, any-eqb, eqb-any, select-mem, mem-select, count-mem, count-pick, count-few}
use Rattle.seq.proofs.Sorted.{sorted-same}
use Rattle.seq.proofs.Rising.{rising-strict, range-rises, select-sorted}
use Rattle.text.specs.Rule.{is_rule}
use Rattle.grid.specs.Values.{Rect, Table}
use Rattle.grid.specs.Slots.{equals, is_separator, grid_of}
use Rattle.grid.specs.Layout.{first_of, last_but_one, is_above, is_from, section_at, alignment_line, row_lines, layout_of}
use Rattle.grid.specs.Cut.{table_of}
use Rattle.grid.specs.declared.GridTableSection.{GridTableSection}
use Rattle.grid.specs.declared.GridTableSection.TheVariants.{Head, Body, Foot}
use Rattle.drawing.specs.GridRules.{is_head, is_foot}
use Rattle.drawing.specs.Sizes.{heights}
use Rattle.drawing.specs.Plain.{Canvas, canvas_of, canvas_width, canvas_height, alignment_row}
use Rattle.drawing.specs.Redraw.{foot_without_head}
use Rattle.drawing.proofs.ReadRules.{table-rows, section-of}
use Rattle.drawing.proofs.OffsetLaws.{offsets-zero}
use Rattle.drawing.proofs.KeptLaws.{Kept}
use Rattle.drawing.proofs.SectionOrder.{head-is, body_is, foot-is, heads, foot_at, Parted, head-ends, foot-starts, head_first}
use Rattle.drawing.proofs.RowLaws.{flat}
use Rattle.drawing.proofs.RuleRows.{Lined, flat-rule, flat-no-rule}
use Rattle.drawing.proofs.CanvasLaws.{Fine, y_at, canvas-height, y_at-up, y_at-le, frames}
use Rattle.drawing.proofs.LinedLaws.{rules-are, rules-where, rules-low, canvas-lined}
use Rattle.drawing.proofs.GlyphRows.{canvas_lines-length, is_separator-flat, grid-height}
use Rattle.drawing.proofs.CellsBack.{lines, g, Unsplit, frames-cover, row_lines-back, ys-length}

-- the rules once each, in order: without a Head, without a Foot
seps : (a b : Bool) → ℕ → ℕ → ℕ → List ℕ
seps true true h f e = []
seps false true h f e = h ∷ []
seps true false h f e = f ∷ e ∷ []
seps false false h f e = cond (eqb h f) (h ∷ e ∷ []) (h ∷ f ∷ e ∷ [])

module _ {t : Table} (F : Fine t) (o : ℕ) where
  abbrev v : Canvas
  v = canvas_of t

  abbrev ss : List GridTableSection
  ss = t.sections

  abbrev R : ℕ
  R = length t.sections

  abbrev h : ℕ
  h = heads t.sections

  abbrev n : ℕ
  n = count is_foot t.sections

  abbrev e : ℕ
  e = foot_at t.sections

  L : Lined v
  L = canvas-lined F

  U : Kept t
  U = F.rules

  HE : Parted 1 ss h
  HE = head-ends ss U.run

  FS : Parted 2 ss e
  FS = foot-starts ss U.run

  abbrev seps_t : List ℕ
  seps_t = seps (eqb h 0) (eqb n 0) (y_at t h) (y_at t e) (y_at t R)

  foot-some : 0 < n → e < R
  foot-some q = omega (arith, count-few is_foot ss)

  seps-same : (y : ℕ) → any (eqb y) seps_t ≡ any (eqb y) v.rules
  unfolding seps any
  seps-same y = rw (rules-are t) (go (eqb h 0) (eqb n 0) (eqb (y_at t h) (y_at t e)) refl) where
    twice : (p q : Bool) → p || (q || false) ≡ p || (p || (q || false))
    twice true q = refl
    twice false q = refl

    go : (a b c : Bool) → eqb (y_at t h) (y_at t e) ≡ c
        → any (eqb y) (seps a b (y_at t h) (y_at t e) (y_at t R)) ≡ any (eqb y) (cond a [] (y_at t h ∷ []) ++ cond b [] (y_at t e ∷ y_at t R ∷ []))
    go true true c q = refl
    go false true c q = refl
    go true false c q = refl
    go false false true q = let z : y_at t e ≡ y_at t h = sym (eqb-true _ _ q) in rw (q, z) (twice (eqb y (y_at t h)) (eqb y (y_at t R)))
    go false false false q = rw q

  seps-rise : neighbours ltb seps_t ≡ true
  unfolding seps neighbours
  seps-rise = go (eqb h 0) (eqb n 0) (eqb (y_at t h) (y_at t e)) refl refl refl where
    last_up : eqb n 0 ≡ false → ltb (y_at t e) (y_at t R) ≡ true
    last_up q = lt-ltb (y_at t e) (y_at t R) (omega (arith, y_at-up F e R (foot-some (omega (arith, eqb-false n 0 q))) (le_refl _)))

    go : (a b c : Bool) → eqb h 0 ≡ a → eqb n 0 ≡ b → eqb (y_at t h) (y_at t e) ≡ c → neighbours ltb (seps a b (y_at t h) (y_at t e) (y_at t R)) ≡ true
    go true true c p q r = refl
    go false true c p q r = refl
    go true false c p q r = and_intro (last_up q) refl
    go false false true p q r = let z : y_at t h ≡ y_at t e = eqb-true _ _ r in rw (r, z) (and_intro (last_up q) refl)
    go false false false p q r =
        rw r
        (and_intro
        (lt-ltb (y_at t h) (y_at t e)
        (⊎_elim (λ (z : h ≡ e). absurd (eqb-false (y_at t h) (y_at t e) r (ap (y_at t) z))) (λ (z : h < e). omega (arith, y_at-up F h e z FS.within))
        (eq-or-lt_of_le (head_first ss U.run (foot-some (omega (arith, eqb-false n 0 q)))))))
        (and_intro (last_up q) refl))

  -- ---- separators
  is-separator : any (eqb 0) v.rules ≡ false → (y : ℕ) → y < canvas_height v → is_separator (lines F o) y ≡ any (eqb y) v.rules
  is-separator z y u = is_separator-flat L o y u ∙ go y refl where
    go : (k : ℕ) → y ≡ k → ltb 0 y && is_rule equals (flat o v y 0 (canvas_width v)) ≡ any (eqb y) v.rules
    go zero q = rw q (sym z)
    go (suc k) q =
        let below : ltb 0 y ≡ true = lt-ltb 0 y (omega arith) in
        rw below (⊎_elim (λ r. flat-rule L o y u r ∙ sym r) (λ r. flat-no-rule L o y u (λ w. omega arith) r ∙ sym r) (bool_cases (any (eqb y) v.rules)))

  separators-list : (g F o).separators ≡ select (is_separator (lines F o)) (up_to (length (lines F o)))
  unfolding grid_of
  separators-list = refl

  separators-back : any (eqb 0) v.rules ≡ false → (g F o).separators ≡ seps_t
  separators-back z =
      separators-list
      ∙ sorted-same ltb rising-strict (select (is_separator (lines F o)) (up_to (length (lines F o)))) seps_t
      (select-sorted ltb rising-strict (is_separator (lines F o)) (up_to (length (lines F o))) (range-rises 0 (length (lines F o)))) seps-rise there back where
        there : (y : ℕ) → Memᴰ y (select (is_separator (lines F o)) (up_to (length (lines F o)))) → Memᴰ y seps_t
        there y m =
            let (k, q) = select-mem (is_separator (lines F o)) (up_to (length (lines F o))) m in
            let low : y < canvas_height v = omega (arith, range-mem 0 (length (lines F o)) y k, canvas_lines-length o v) in
            any-eqb y seps_t (seps-same y ∙ sym (is-separator z y low) ∙ q)

        back : (y : ℕ) → Memᴰ y seps_t → Memᴰ y (select (is_separator (lines F o)) (up_to (length (lines F o))))
        back y m =
            let q : any (eqb y) v.rules ≡ true = sym (seps-same y) ∙ eqb-any m in
            let low : y < canvas_height v = rules-low F y q in
            mem-select (is_separator (lines F o)) (mem-range 0 (length (lines F o)) y (omega arith) (omega (arith, canvas_lines-length o v))) (is-separator z y low ∙ q)

  first-same : first_of seps_t ≡ first_of v.rules
  unfolding seps
  first-same = rw (rules-are t) (go (eqb h 0) (eqb n 0) (eqb (y_at t h) (y_at t e))) where
    go : (a b c : Bool) → first_of (seps a b (y_at t h) (y_at t e) (y_at t R)) ≡ first_of (cond a [] (y_at t h ∷ []) ++ cond b [] (y_at t e ∷ y_at t R ∷ []))
    go true true c = refl
    go false true c = refl
    go true false c = refl
    go false false c = both (eqb (y_at t h) (y_at t e)) where
      both : (c : Bool) → first_of (cond c (y_at t h ∷ y_at t R ∷ []) (y_at t h ∷ y_at t e ∷ y_at t R ∷ [])) ≡ some (y_at t h)
      both true = refl
      both false = refl

  -- the alignment line that reading finds is the one that was drawn
  pub alignment_line-back : any (eqb 0) v.rules ≡ false → alignment_line (g F o) ≡ alignment_row v
  alignment_line-back z = ap (λ (l : List ℕ). or_default 0 (first_of l)) (separators-back z) ∙ ap (or_default 0) first-same

  -- ---- Foot and Head
  abbrev pub Headed : Type 0
  Headed = 0 < n → 0 < h

  pub foot_without_head-headed : foot_without_head t ≡ false → Headed
  unfolding foot_without_head
  foot_without_head-headed q footed = ⊎_elim (λ (z : h ≤ 0). absurd (true-not-false (sym (and_intro foot (ap not (head z))) ∙ q))) (λ z. z) (le-or-lt h 0) where
    foot : any is_foot ss ≡ true
    foot = let (s, m, f) = count-pick is_foot ss footed in mem-any is_foot m f

    head : h ≤ 0 → any is_head ss ≡ false
    head z = bool-refused (any is_head ss) (λ k. let (s, m, f) = any-mem is_head ss k in omega (arith, count-mem is_head m f))

  -- line 0 bears no `=`
  pub rules-below : Headed → any (eqb 0) v.rules ≡ false
  rules-below k =
      bool-refused (any (eqb 0) v.rules)
      (λ r. ⊎_elim (λ p. up h p.0 HE.within p.1) (λ p. ⊎_elim (λ q. up e (later p.0) FS.within q) (λ q. up R F.some_row (le_refl _) q) p.1) (rules-where t 0 r)) where
        up : (i : ℕ) → 0 < i → i ≤ R → 0 ≡ y_at t i → ⊥
        up i a b q = omega (arith, y_at-up F 0 i a b)

        later : 0 < n → 0 < e
        later footed = omega (arith, k footed, head_first ss U.run (foot-some footed))

  -- ---- sections
  -- the section of a row by its place between Head's end and Foot's start
  by_place : (i : ℕ) → i < R → cond (ltb (y_at t i) (y_at t h)) Head (cond (leb (y_at t e) (y_at t i)) Foot Body) ≡ get_or ss i Body
  by_place i u =
      ⊎_elim
      (λ (p : h ≤ i).
      rw (le-ltb _ _ (y_at-le F h i p (omega arith)))
      (⊎_elim (λ (q : e ≤ i). rw (le-leb _ _ (y_at-le F e i q (omega arith))) (sym (foot-is (get_or ss i Body) (FS.under i q u))))
      (λ (q : i < e). rw (lt-leb (y_at t e) (y_at t i) (omega (arith, y_at-up F i e q FS.within))) (sym (body_is (get_or ss i Body) (HE.under i p u) (FS.above i q)))) (le-or-lt e i)))
      (λ (p : i < h). rw (lt-ltb (y_at t i) (y_at t h) (omega (arith, y_at-up F i h p HE.within))) (sym (head-is (get_or ss i Body) (HE.above i p)))) (le-or-lt h i)

  no-foot-test : eqb n 0 ≡ true → (i : ℕ) → i < R → leb (y_at t e) (y_at t i) ≡ false
  no-foot-test q i u =
      let z : e ≡ R = omega (arith, eqb-true n 0 q) in
      rw z (lt-leb (y_at t R) (y_at t i) (omega (arith, y_at-up F i R u (le_refl _))))

  no-head-test : eqb h 0 ≡ true → (i : ℕ) → ltb (y_at t i) (y_at t h) ≡ false
  no-head-test q i = let z : y_at t h ≡ 0 = ap (y_at t) (eqb-true h 0 q) ∙ offsets-zero 0 (heights t) in le-ltb (y_at t i) (y_at t h) (omega arith)

  last-is : (g F o).height - 1 ≡ y_at t R
  last-is = omega (arith, grid-height L o, canvas-height t)

  abbrev section_by : Option ℕ → Option ℕ → ℕ → GridTableSection
  section_by a b y = cond (is_above y a) Head (cond (is_from y b) Foot Body)

  section-by : Headed → (i : ℕ) → i < R → section_by (first_of seps_t) (last_but_one (y_at t R) seps_t) (y_at t i) ≡ get_or ss i Body
  unfolding seps last_but_one
  section-by k i u = go (eqb h 0) (eqb n 0) (eqb (y_at t h) (y_at t e)) refl refl refl ∙ by_place i u where
    go : (a b c : Bool) → eqb h 0 ≡ a → eqb n 0 ≡ b → eqb (y_at t h) (y_at t e) ≡ c
        → section_by (first_of (seps a b (y_at t h) (y_at t e) (y_at t R))) (last_but_one (y_at t R) (seps a b (y_at t h) (y_at t e) (y_at t R))) (y_at t i)
        ≡ cond (ltb (y_at t i) (y_at t h)) Head (cond (leb (y_at t e) (y_at t i)) Foot Body)
    go true true c p q r = rw (no-foot-test q i u, no-head-test p i)
    go false true c p q r = rw (no-foot-test q i u)
    go true false c p q r = absurd (omega (arith, k (omega (arith, eqb-false n 0 q)), eqb-true h 0 p))
    go false false true p q r = let z : y_at t e ≡ y_at t h = sym (eqb-true _ _ r) in rw (r, eq-eqb (y_at t R) (y_at t R) refl, z)
    go false false false p q r = rw (r, eq-eqb (y_at t R) (y_at t R) refl)

  row-section : Headed → (i : ℕ) → i < R → section_at (g F o) (y_at t i) ≡ get_or ss i Body
  unfolding section_at
  row-section k i u =
      let s = separators-back (rules-below k) in
      ap (λ (l : List ℕ). section_by (first_of l) (last_but_one ((g F o).height - 1) l) (y_at t i)) s
      ∙ ap (λ (m : ℕ). section_by (first_of seps_t) (last_but_one m seps_t) (y_at t i)) last-is
      ∙ section-by k i u

  module _ (unsplit : Unsplit F o) where
    abbrev fs : List Rect
    fs = frames F

    -- the sections read are the table's
    pub sections-back : Headed → (table_of (lines F o) (layout_of (lines F o) (g F o) fs)).sections ≡ ss
    sections-back k =
        let made = frames-cover F o unsplit in
        let rows = row_lines-back F o unsplit in
        let count-rows = table-rows (lines F o) (g F o) fs made in
        let long : length (row_lines (g F o) fs) ≡ suc R = ap length rows ∙ ys-length F o unsplit in
        ext_get_or Body (table_of (lines F o) (layout_of (lines F o) (g F o) fs)).sections ss (omega arith)
        (λ i u.
        section-of (lines F o) (g F o) fs made i (omega arith) ∙ ap (λ (l : List ℕ). section_at (g F o) (get_or l i 0)) rows ∙ row-section k i (omega arith))
