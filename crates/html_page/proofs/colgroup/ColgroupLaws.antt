-- The columns' shares on the page: the text of a share (`fraction-none`, `fraction-short`, `fraction-long`), a column's tag (`col-written`),
-- the tags of the first k columns (`cols-next`) and the group (`group-written`).
use Prim.Native.Nat.{ℕ, ◌+◌, ◌*◌, ◌/◌, ◌%◌, ◌≤◌, ◌<◌}
use mathlib.Core.Path.{◌≡◌, refl, sym, ap, ◌∙◌}
use mathlib.Core.Bool.{Bool, true, false, not}
use mathlib.Core.List.{List, [], ◌∷◌, append_assoc, map, flat_map}
use native.Mathlib.Omega.{arith}
use mir.Syntax.{w16, w32}
use mir.Val.{Fits}
use lib.ListN.{length, get_or, take}
use lib.Seq.{take_all}
use borrow.Author.Tests.{eq-eqb, ne_eqb}
use Rattle.seq.specs.Ascii.{ascii}
use Rattle.seq.specs.Decimal.{decimal}
use Rattle.seq.specs.Lists.{sum}
use Rattle.seq.proofs.Tests.{true-not-false}
use Rattle.seq.proofs.FlatMaps.{flat_map-map}
use Rattle.seq.proofs.Walks.{sum_more}
use Rattle.grid.specs.Values.{GridTableColumn}
use Rattle.grid.specs.Flat.{code_alignment, columns_of_array}
use Rattle.html.specs.declared.Share.{Share}
use Rattle.html.specs.Shares.{fraction, share_text, share_of, shares}
use Rattle.html.specs.Page.{col_tag, column_group}
use Rattle.representation.proofs.TableInLaws.{columns-length, columns-at}
use Rattle.writer.specs.Writing.{Wrote}
use Rattle.html_page.specs.Paged.{col_of}
use Rattle.writer.proofs.WritingLaws.{wrote_none, wrote_then, wrote_as, wrote-next}

-- ---- the text of a share
pub fraction-none : (d : List ℕ) (at n : ℕ) → n ≡ 0 → Wrote d at (fraction n) d at
unfolding fraction
fraction-none d at n h = wrote_as (wrote_none d at) (rw (eq-eqb n 0 h) refl)

module _ {d e f : List ℕ} {at mid r : ℕ} (n : ℕ) (some : n ≡ 0 → ⊥) (p : Wrote d at (0x2e ∷ []) e mid) (q : Wrote e mid ((48 + n / 10) ∷ []) f r) where
  pub fraction-short : n % 10 ≡ 0 → Wrote d at (fraction n) f r
  unfolding fraction
  fraction-short h = wrote_as (wrote_then p q) (rw (ne_eqb n 0 some, eq-eqb (n % 10) 0 h) refl)

  pub fraction-long : {g : List ℕ} {end : ℕ} → (n % 10 ≡ 0 → ⊥) → Wrote f r ((48 + n % 10) ∷ []) g end → Wrote d at (fraction n) g end
  unfolding fraction
  fraction-long h w = wrote_as (wrote_then (wrote_then p q) w) (rw (ne_eqb n 0 some, ne_eqb (n % 10) 0 h) refl)

-- ---- a column's tag
module _ {d e f g i : List ℕ} {at opened whole end r : ℕ} (s : Share) where
  pub col-written : Wrote d at (ascii "<col style=\"width:") e opened → Wrote e opened (decimal (s.hundredths / 100)) f whole
      → Wrote f whole (fraction (s.hundredths % 100)) g end → Wrote g end (ascii "%\" />\n") i r → Wrote d at (col_tag s) i r
  unfolding share_text ascii
  col-written p q u w = wrote_as (wrote_then p (wrote_then q (wrote_then u w))) (simp append_assoc)

-- ---- the widths of the first k columns, and their tags
-- a sum of 16-bit numbers
module _ {total a : ℕ} (k : ℕ) (few : total ≤ 65536 * k) (wide : Fits w16 a) where
  pub total-small : total + a ≤ 65536 * (k + 1)
  total-small = omega (arith, wide.fits)

  pub total-fits : k < 128 → Fits w32 (total + a)
  total-fits h = record { fits = omega (arith, wide.fits) }

-- the width of each column
abbrev pub widths_of : List GridTableColumn → List ℕ
widths_of columns = map (λ (c : GridTableColumn). c.width) columns

module _ (columns : ℕ) (cols : List ℕ) where
  width-at : (k : ℕ) → k < columns → (get_or (columns_of_array columns cols) k (record { alignment = code_alignment 0; width = 0 })).width ≡ get_or cols (2 * k + 1) 0
  width-at k h = ap (λ (c : GridTableColumn). c.width) (columns-at columns cols k _ h)

  pub cols-none : (d : List ℕ) (at total : ℕ) → Wrote d at (flat_map (col_of total) (take 0 (columns_of_array columns cols))) d at
  unfolding flat_map
  cols-none d at total = wrote_none d at

  pub total-none : 0 ≡ sum (widths_of (take 0 (columns_of_array columns cols)))
  unfolding sum
  total-none = refl

  module _ (k : ℕ) (h : k < columns) where
    inside : k < length (columns_of_array columns cols)
    inside = omega (arith, columns-length columns cols)

    pub total-next : (total : ℕ) → total ≡ sum (widths_of (take k (columns_of_array columns cols)))
        → total + get_or cols (2 * k + 1) 0 ≡ sum (widths_of (take (k + 1) (columns_of_array columns cols)))
    total-next total e =
        omega (arith, width-at k h, sum_more (λ (c : GridTableColumn). c.width) (columns_of_array columns cols) k (record { alignment = code_alignment 0; width = 0 }) inside)

    pub cols-next : {d e f : List ℕ} {at mid r : ℕ} (total : ℕ) {s : Share} → Wrote d at (flat_map (col_of total) (take k (columns_of_array columns cols))) e mid
        → s ≡ share_of (get_or cols (2 * k + 1) 0) total → Wrote e mid (col_tag s) f r
        → Wrote d at (flat_map (col_of total) (take (k + 1) (columns_of_array columns cols))) f r
    unfolding col_of
    cols-next total p e q =
        wrote-next (col_of total) (columns_of_array columns cols) k (record { alignment = code_alignment 0; width = 0 }) inside p
        (wrote_as q (ap col_tag (e ∙ ap (λ (w : ℕ). share_of w total) (sym (width-at k h)))))

  module _ (k : ℕ) (h : columns ≤ k) where
    columns-all : take k (columns_of_array columns cols) ≡ columns_of_array columns cols
    columns-all = take_all k (columns_of_array columns cols) (omega (arith, columns-length columns cols))

    pub total-all : (total : ℕ) → total ≡ sum (widths_of (take k (columns_of_array columns cols))) → total ≡ sum (widths_of (columns_of_array columns cols))
    total-all total e = e ∙ ap (λ (l : List GridTableColumn). sum (widths_of l)) columns-all

    pub cols-all : {d e : List ℕ} {at r : ℕ} (total : ℕ) → Wrote d at (flat_map (col_of total) (take k (columns_of_array columns cols))) e r
        → Wrote d at (flat_map (col_of total) (columns_of_array columns cols)) e r
    cols-all total p = wrote_as p (ap (flat_map (col_of total)) columns-all)

-- ---- the group
pub group-none : (d : List ℕ) (at : ℕ) (widths : Bool) (columns : List GridTableColumn) → not widths ≡ true → Wrote d at (column_group widths columns) d at
unfolding column_group
group-none d at false columns h = wrote_none d at
group-none d at true columns h = absurd (true-not-false (sym h))

pub group-written : {d e f g : List ℕ} {at opened end r : ℕ} (widths : Bool) (columns : List GridTableColumn) (total : ℕ) → not widths ≡ false
    → total ≡ sum (widths_of columns) → Wrote d at (ascii "<colgroup>\n") e opened
    → Wrote e opened (flat_map (col_of total) columns) f end → Wrote f end (ascii "</colgroup>\n") g r
    → Wrote d at (column_group widths columns) g r
unfolding column_group shares ascii col_of
group-written true columns total h e p q w =
    let tags : flat_map (col_of total) columns ≡ flat_map col_tag (shares columns) =
    ap (λ (n : ℕ). flat_map (col_of n) columns) e
    ∙ sym (flat_map-map col_tag (λ (c : GridTableColumn). share_of c.width (sum (widths_of columns))) columns) in
    wrote_as (wrote_then p (wrote_then (wrote_as q tags) w)) (simp append_assoc)
group-written false columns total h e p q w = absurd (true-not-false h)
