-- The drawn canvas bears each border's byte and each cell's number (`pictured`).
use Prim.Native.Nat.{ℕ, ◌+◌, ◌*◌, ◌-◌, ◌<◌}
use mathlib.Core.Path.{◌≡◌, refl, sym, ap, ◌∙◌}
use mathlib.Core.Bool.{Bool, true, false, ◌&&◌, ◌||◌, cond}
use mathlib.Core.Logic.{⊎_elim}
use mathlib.Core.List.{List, Memᴰ}
use native.Mathlib.Omega.{arith}
use lib.Dec.{eqb}
use lib.ListN.{length, get_or}
use borrow.Author.Tests.{eqb-true}
use Rattle.seq.specs.Lists.{up_to, any}
use Rattle.seq.proofs.Tests.{bool-refused, and_left, and_right}
use Rattle.seq.proofs.Ranges.{range-mem}
use Rattle.seq.proofs.Searches.{any-agree}
use Rattle.text.specs.Characters.{plus, colon}
use Rattle.grid.specs.Values.{Rect, GridTableColumn}
use Rattle.grid.specs.Slots.{pipe}
use Rattle.grid.specs.Flat.{code_alignment}
use Rattle.grid.specs.declared.TableAlignment.{TableAlignment}
use Rattle.grid.specs.declared.TableAlignment.TheVariants.{None}
use Rattle.drawing.specs.Plain.{Canvas, corner_at, horizontal_at, vertical_at, alignment_row, next_corner, has_left_colon, has_right_colon, column_alignment}
use Rattle.drawing.specs.Plain.{draws_colon, colon_at, border_byte}
use Rattle.drawing.proofs.RuleRows.{Colon, Lined}
use Rattle.representation.specs.Arrays.{code_at, rects_of, rect_in}
use Rattle.representation.specs.LayoutEntries.{Inside}
use Rattle.representation.proofs.TableInLaws.{columns-length, columns-at}
use Rattle.canvas.specs.declared.Rules.{Rules}
use Rattle.canvas.specs.Painting.{Drawn, rule_byte, bordered, corner_of, all_cornered, next_mark, colon_in, all_coloned}
use Rattle.canvas.specs.Picture.{Drawable, Pictured}
use Rattle.canvas.proofs.SlotLaws.{rect-inside}
use Rattle.canvas.proofs.PartLaws.{AtFirst, side-passed}
use Rattle.canvas.proofs.CellSlots.{true-false-clash, any-rects, side-number, box_in, box-mem, frame-of, first-no-corner}
use Rattle.canvas.proofs.CellSlots.{bordered-horizontal, bordered-vertical, bordered-first}

module _ {v : Canvas} {n : ℕ} {rects : List ℕ} {rules : Rules} {cols : List ℕ} {columns : ℕ} {xs marks : List ℕ} {row : ℕ}
    (D : Drawable v n rects rules cols columns xs marks row) where
  L : Lined v
  L = D.lined

  -- ---- colons
  alignment-is : (k : ℕ) → k < columns → column_alignment v k ≡ code_alignment (get_or cols (2 * k) 0)
  alignment-is k h =
      ap (λ (l : List GridTableColumn). (get_or l k (record { alignment = None; width = 0 })).alignment) D.columned
      ∙ ap (λ (c : GridTableColumn). c.alignment) (columns-at columns cols k (record { alignment = None; width = 0 }) h)

  draws_colon-is : (x k : ℕ) → k < columns → draws_colon v x k ≡ colon_in cols xs marks columns x k
  unfolding draws_colon
  draws_colon-is x k h =
      rw (← D.aligned, D.stand k (omega arith), D.marked k h, alignment-is k h)
      (go (code_alignment (get_or cols (2 * k) 0)) (eqb (get_or marks k 0) 1) refl) where
        go : (a : TableAlignment) (t : Bool) → eqb (get_or marks k 0) 1 ≡ t
            → t && (has_left_colon a && eqb x (get_or xs k 0 + 1) || has_right_colon a && eqb x (next_corner v row (get_or xs k 0) - 1))
            ≡ t && (has_left_colon a && eqb x (get_or xs k 0 + 1) || has_right_colon a && eqb x (get_or xs (next_mark marks columns (k + 1)) 0 - 1))
        go a true e = rw (D.next k h (eqb-true (get_or marks k 0) 1 e))
        go a false e = refl

  colon_at-is : (y x : ℕ) → colon_at v y x ≡ eqb y row && any (colon_in cols xs marks columns x) (up_to columns)
  unfolding colon_at
  colon_at-is y x =
      rw (← D.aligned, ap length D.columned, columns-length columns cols)
      (ap (λ (t : Bool). eqb y row && t)
      (any-agree (draws_colon v x) (colon_in cols xs marks columns x) (up_to columns) (λ k m. draws_colon-is x k (omega (arith, range-mem 0 columns k m)))))

  colon-on : (y x : ℕ) → colon_at v y x ≡ true → (y ≡ alignment_row v) × Colon v x
  unfolding colon_at
  colon-on y x e =
      let drawn = any (draws_colon v x) (up_to (length v.columns)) in
      (eqb-true y (alignment_row v) (and_left (eqb y (alignment_row v)) drawn e), L.colons x (and_right (eqb y (alignment_row v)) drawn e))

  -- no colon stands on a corner, nor on a line that runs through a cell
  corner-no-colon : (y x : ℕ) → corner_at v y x ≡ true → colon_at v y x ≡ false
  corner-no-colon y x h =
      bool-refused (colon_at v y x)
      (λ e.
      let (q, c) = colon-on y x e in
      true-false-clash (rw q at h)
      (⊎_elim (λ p. c.between x (omega arith) (omega (arith, c.roomy))) (λ p. c.between x (omega (arith, c.roomy)) (omega arith)) c.place))

  inner-no-colon : (k : ℕ) → k < n → (y x : ℕ) → (rect_in rects k).top < y → y < (rect_in rects k).bottom → colon_at v y x ≡ false
  inner-no-colon k h y x l low =
      bool-refused (colon_at v y x)
      (λ e.
      let (q, c) = colon-on y x e in
      let (top, bottom) = frame-of D k h (λ r. (r.top < y) × (y < r.bottom)) (l, low) in
      ⊎_elim (λ z. omega arith) (λ t. L.clear y (rw (← q) at t) (box_in D k) (box-mem D k h) top bottom) L.aligned)

  -- ---- the three passes
  module _ {canvas₀ one two canvas : List ℕ} (inside : (r : Rect) → Memᴰ r (rects_of n rects) → Inside 128 128 r)
      (b : Drawn (bordered rules rects n) canvas₀ one) (c : Drawn (all_cornered rects n) one two)
      (d : Drawn (all_coloned cols xs marks columns row) two canvas) where
    module _ (y x : ℕ) (hy : y < 128) (hx : x < 128) where
      corners-over : code_at two y x ≡ cond (corner_at v y x) plus (code_at one y x)
      unfolding all_cornered corner_at
      corners-over = c.slot y x hy hx ∙ ap (λ (t : Bool). cond t plus (code_at one y x)) (sym (any-rects D (λ r. corner_of r y x)))

      colons-over : code_at canvas y x ≡ cond (colon_at v y x) colon (code_at two y x)
      unfolding all_coloned
      colons-over = d.slot y x hy hx ∙ ap (λ (t : Bool). cond t colon (code_at two y x)) (sym (colon_at-is y x))

      -- where neither a corner nor a colon stands, the borders' pass shows
      under-both : corner_at v y x ≡ false → colon_at v y x ≡ false → code_at canvas y x ≡ bordered rules rects n y x (code_at canvas₀ y x)
      under-both h e = colons-over ∙ rw e (corners-over ∙ rw h (b.slot y x hy hx))

      corner : corner_at v y x ≡ true → code_at canvas y x ≡ plus
      corner h = colons-over ∙ rw (corner-no-colon y x h) (corners-over ∙ rw h)

      horizontal : corner_at v y x ≡ false → horizontal_at v y x ≡ true → code_at canvas y x ≡ border_byte v y x
      unfolding border_byte
      horizontal h e =
          let fill : code_at two y x ≡ rule_byte rules y = corners-over ∙ rw h (b.slot y x hy hx ∙ bordered-horizontal D y x (code_at canvas₀ y x) e) in
          colons-over ∙ rw (fill, D.ruled y hy)

      vertical : corner_at v y x ≡ false → horizontal_at v y x ≡ false → vertical_at v y x ≡ true → code_at canvas y x ≡ pipe
      vertical h e f =
          let (k, u, q) = side-number D y x f in
          let (_, l, low) = side-passed (rect_in rects k) y x q in
          under-both h (inner-no-colon k u y x l low) ∙ bordered-vertical D y x (code_at canvas₀ y x) e f

    first : (k y : ℕ) → k < n → (rect_in rects k).top < y → y < (rect_in rects k).bottom → code_at canvas y ((rect_in rects k).left + 1) ≡ 256 + k
    first k y h l low =
        let x = (rect_in rects k).left + 1 in
        let at : AtFirst (rect_in rects k) y x = (refl, l, low) in
        let r = rect-inside rects n k inside h in
        under-both y x (omega (arith, r.tall)) (omega (arith, r.across, r.wide)) (first-no-corner D k h y x at) (inner-no-colon k h y x l low)
        ∙ bordered-first D y x (code_at canvas₀ y x) k h at

    pub canvas-pictured : Pictured v n rects canvas
    canvas-pictured = record { frames = D.frames; corner = corner; horizontal = horizontal; vertical = vertical; first = first }
