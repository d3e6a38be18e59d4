-- A drawn line, from border to border. `flat o v y a n` is what n columns from a on put down: well formed, of as many columns
-- (`flat-spans`, `flat-left`), trimmed as it stands (`flat-trimmed`), with its slot at each border (`flat-border-slot`), and around a box
-- the box's inner line (`flat-around`).
use Prim.Native.Nat.{ℕ, zero, suc, ◌+◌, ◌-◌, ◌≤◌, ◌<◌}
use mathlib.Core.Path.{◌≡◌, refl, sym, ap, ◌∙◌}
use mathlib.Core.Bool.{Bool, true, false, ◌&&◌, ◌||◌, cond}
use mathlib.Core.Logic.{◌⊎◌, inl, inr, ⊎_elim}
use mathlib.Core.Option.{none, some}
use mathlib.Core.List.{List, [], ◌∷◌, ◌++◌, map, flat_map, append-nil, Memᴰ}
use native.Mathlib.Omega.{arith}
use native.Mathlib.Nat.{le_refl, eq-or-lt_of_le}
use lib.Dec.{eqb}
use borrow.Author.Tests.{eqb-true, eqb-false, eq-eqb, ne_eqb}
use lib.ListN.{length, get_or, replicate}
use Rattle.seq.specs.Lists.{range, sum, any}
use Rattle.seq.proofs.Tests.{true-not-false, cond_either, and_left, and_right, and_intro, bool-refused, le-or-lt}
use Rattle.seq.proofs.Ranges.{range_split}
use Rattle.seq.proofs.Finds.{find-only, find-nothing}
use Rattle.seq.proofs.FlatMaps.{flat_map-append}
use Rattle.text.specs.Characters.{space, plus}
use Rattle.text.specs.Utf8.{char_indices, well_formed}
use Rattle.text.specs.Columns.{columns_from}
use Rattle.text.specs.Trim.{blank, trim_end}
use Rattle.text.specs.Lines.{no_text}
use Rattle.text.proofs.TrimLaws.{trim-kept}
use Rattle.text.proofs.SpanLaws.{Spans, Single, spans-empty, spans-cast, spans-append, spans-single, spans-spaces, single-space}
use Rattle.grid.specs.Slots.{Slot, glyph_of, slots_from, pipe}
use Rattle.grid.proofs.SpanSlotLaws.{slot-head, slots-count}
use Rattle.drawing.specs.Sizes.{measure}
use Rattle.drawing.specs.Plain.{Box, Canvas, canvas_width, canvas_height, is_inside, corner_at, horizontal_at, vertical_at, colon_at, border_byte, starts_inside, inner_line, inner_of, put_down, drawn_line}
use Rattle.drawing.proofs.MeasureLaws.{columns-measure}
use Rattle.drawing.proofs.BoxLaws.{Within, Tiled, border, box-vertical_at, vertical_at-border, is_inside-between, between-is_inside, box-touched, inside-no-corner, inside-no-horizontal, inside-no-vertical, inside-no-border, border-or-inside}

-- ---- what a box's lines must be
pub record Fits (b : Box) (i : ℕ) : Type 0 where
  pub well : well_formed (get_or b.lines i no_text) ≡ true
  pub fits : sum (map measure (char_indices (get_or b.lines i no_text))) + b.frame.left + 2 ≤ b.frame.right

-- boxes that hold every square once, with lines that fit them
pub record Written (v : Canvas) : Type 0 where
  pub tiled : Tiled v
  pub texts : (b : Box) → Memᴰ b v.boxes → (i : ℕ) → Fits b i

-- the columns of the text that box b has on line y
abbrev pub text_columns : ℕ → Box → ℕ → ℕ
text_columns o b y = columns_from (o + b.frame.left + 2) (char_indices (get_or b.lines (y - b.frame.top - 1) no_text))

pub text-fits : (o : ℕ) (b : Box) (y : ℕ) → Fits b (y - b.frame.top - 1) → text_columns o b y + b.frame.left + 2 ≤ b.frame.right
text-fits o b y t = omega (arith, t.fits, columns-measure (o + b.frame.left + 2) (char_indices (get_or b.lines (y - b.frame.top - 1) no_text)))

pub text-spans : (o : ℕ) (b : Box) (y : ℕ) → Fits b (y - b.frame.top - 1) → Spans (o + (b.frame.left + 1) + 1) (get_or b.lines (y - b.frame.top - 1) no_text) (text_columns o b y)
text-spans o b y t = record { well = t.well; takes = ap (λ (c : ℕ). columns_from c (char_indices (get_or b.lines (y - b.frame.top - 1) no_text))) (omega arith) }

inner_line-spans : (o : ℕ) (b : Box) (y : ℕ) → Fits b (y - b.frame.top - 1) → Spans (o + (b.frame.left + 1)) (inner_line o b y) (b.frame.right - (b.frame.left + 1))
unfolding inner_line
inner_line-spans o b y t =
    let c : ℕ = o + (b.frame.left + 1) in
    let line : List ℕ = get_or b.lines (y - b.frame.top - 1) no_text in
    let n : ℕ = text_columns o b y in
    let k : ℕ = b.frame.right - b.frame.left - 2 - n in
    spans-cast {a = space ∷ line ++ replicate k space} (omega (arith, text-fits o b y t))
    (spans-append {a = space ∷ line} {b = replicate k space}
    (spans-append {a = space ∷ []} {b = line} (spans-single c single-space) (text-spans o b y t)) (spans-spaces (c + (1 + n)) k))

-- ---- what a border's column puts down
unfoldable pub edge_byte : Canvas → ℕ → ℕ → ℕ
edge_byte v y x = cond (corner_at v y x) plus (cond (horizontal_at v y x) (border_byte v y x) pipe)

pub edge_byte-single : (v : Canvas) (y x : ℕ) → Single (edge_byte v y x)
unfolding edge_byte border_byte
edge_byte-single v y x =
    cond_either Single (corner_at v y x) (record { low = omega arith; high = omega arith })
    (cond_either Single (horizontal_at v y x)
    (cond_either Single (colon_at v y x) (record { low = omega arith; high = omega arith }) (cond_either Single (any (eqb y) v.rules) (record { low = omega arith; high = omega arith }) (record { low = omega arith; high = omega arith })))
    (record { low = omega arith; high = omega arith }))

pub put_down-border : (o : ℕ) (v : Canvas) (y x : ℕ) → border v y x ≡ true → put_down o v y x ≡ edge_byte v y x ∷ []
unfolding put_down border edge_byte
put_down-border o v y x h = go (corner_at v y x) (horizontal_at v y x) (vertical_at v y x) h where
  go : (s t u : Bool) → s || t || u ≡ true
      → cond s (plus ∷ []) (cond t (border_byte v y x ∷ []) (cond u (pipe ∷ []) (inner_of o y (starts_inside v y x)))) ≡ cond s plus (cond t (border_byte v y x) pipe) ∷ []
  go true t u e = refl
  go false true u e = refl
  go false false true e = refl
  go false false false e = absurd (true-not-false (sym e))

-- ---- a part of a drawn line: what n columns from a on put down
unfoldable pub flat : ℕ → Canvas → ℕ → ℕ → ℕ → List ℕ
flat o v y a n = flat_map (put_down o v y) (range a n)

module _ (o : ℕ) (v : Canvas) (y : ℕ) where
  flat-split : (a n m : ℕ) → flat o v y a (n + m) ≡ flat o v y a n ++ flat o v y (a + n) m
  unfolding flat
  flat-split a n m = ap (flat_map (put_down o v y)) (range_split a n m) ∙ flat_map-append (put_down o v y) (range a n) (range (a + n) m)

  pub flat-cut : (a k c : ℕ) → a ≤ k → k ≤ c → flat o v y a (c - a) ≡ flat o v y a (k - a) ++ flat o v y k (c - k)
  flat-cut a k c h l =
      let e : c - a ≡ (k - a) + (c - k) = omega arith in
      let f : a + (k - a) ≡ k = omega arith in
      ap (flat o v y a) e ∙ flat-split a (k - a) (c - k) ∙ ap (λ (i : ℕ). flat o v y a (k - a) ++ flat o v y i (c - k)) f

  pub flat-next : (a n : ℕ) → flat o v y a (suc n) ≡ put_down o v y a ++ flat o v y (a + 1) n
  unfolding flat flat_map range
  flat-next a n = refl

  pub flat-zero : (a : ℕ) → flat o v y a 0 ≡ []
  unfolding flat flat_map range
  flat-zero a = refl

  flat-empty : (a n : ℕ) → ((k : ℕ) → a ≤ k → k < a + n → put_down o v y k ≡ []) → flat o v y a n ≡ []
  unfolding flat flat_map range
  flat-empty a zero h = refl
  flat-empty a (suc n) h = rw (h a (le_refl a) (omega arith)) (flat-empty (a + 1) n (λ k u w. h k (omega arith) (omega arith)))

  flat-one : (x : ℕ) → border v y x ≡ true → flat o v y x 1 ≡ edge_byte v y x ∷ []
  unfolding flat flat_map range
  flat-one x e = rw (put_down-border o v y x e)

  -- the drawn line is all of it
  pub drawn_line-text : (drawn_line o v y).text ≡ flat o v y 0 (canvas_width v)
  unfolding drawn_line flat
  drawn_line-text = refl

-- ---- a box's columns on a line that runs inside it
module _ {v : Canvas} (P : Tiled v) (o : ℕ) {b : Box} (m : Memᴰ b v.boxes) (y : ℕ) (u : b.frame.top < y) (w : y < b.frame.bottom) where
  starts_at : ℕ → Box → Bool
  starts_at x c = eqb x (c.frame.left + 1) && is_inside c.frame.top c.frame.bottom y

  starts-touch : (x : ℕ) (c : Box) → Memᴰ c v.boxes → Within b y x → starts_at x c ≡ true → c ≡ b
  unfolding starts_at
  starts-touch x c n i h =
      let q : x ≡ c.frame.left + 1 = eqb-true _ _ (and_left (eqb x (c.frame.left + 1)) (is_inside c.frame.top c.frame.bottom y) h) in
      let k = is_inside-between c.frame.top c.frame.bottom y (and_right (eqb x (c.frame.left + 1)) (is_inside c.frame.top c.frame.bottom y) h) in
      sym (box-touched P m n y x i (record { top = omega (arith, k); bottom = omega (arith, k); left = omega arith; right = omega (arith, (P.sized c n).broad) }))

  not-later : (x : ℕ) (c : Box) → b.frame.left + 1 < x → starts_at x c ≡ true → c ≡ b → ⊥
  unfolding starts_at
  not-later x c k h q =
      omega (arith, eqb-true x (c.frame.left + 1) (and_left (eqb x (c.frame.left + 1)) (is_inside c.frame.top c.frame.bottom y) h), ap (λ (z : Box). z.frame.left) q)

  starts_first : (x : ℕ) → Within b y x → (first : Bool) → eqb x (b.frame.left + 1) ≡ first → starts_inside v y x ≡ cond first (some b) none
  unfolding starts_inside starts_at
  starts_first x i true e = find-only (starts_at x) m (and_intro e (between-is_inside _ _ y u w)) (λ c n h. starts-touch x c n i h)
  starts_first x i false e =
      find-nothing (starts_at x) v.boxes
      (λ c n. bool-refused (starts_at x c) (λ h. not-later x c (omega (arith, i.left, eqb-false x (b.frame.left + 1) e)) h (starts-touch x c n i h)))

  -- Inside a box, what a column puts down depends on the box's lines only at the first inner column: that one puts down the whole inner
  -- line, the others nothing.
  pub put_down-inside : (x : ℕ) → b.frame.left < x → x < b.frame.right → put_down o v y x ≡ cond (eqb x (b.frame.left + 1)) (inner_line o b y) []
  unfolding put_down
  put_down-inside x k l =
      let i : Within b y x = record { top = u; bottom = w; left = k; right = l } in
      rw (inside-no-corner P m y x i, inside-no-horizontal P m y x i, inside-no-vertical P m y x i, starts_first x i (eqb x (b.frame.left + 1)) refl)
      (inner-of (eqb x (b.frame.left + 1))) where
        inner-of : (first : Bool) → inner_of o y (cond first (some b) none) ≡ cond first (inner_line o b y) []
        inner-of true = refl
        inner-of false = refl

  pub border-left : border v y b.frame.left ≡ true
  border-left = vertical_at-border v y _ (box-vertical_at v m y b.frame.left (inl refl) u w)

  pub border-right : border v y b.frame.right ≡ true
  border-right = vertical_at-border v y _ (box-vertical_at v m y b.frame.right (inr refl) u w)

  pub flat-inner : flat o v y (b.frame.left + 1) (b.frame.right - (b.frame.left + 1)) ≡ inner_line o b y
  flat-inner =
      let s = P.sized b m in
      let l : ℕ = b.frame.left in
      let n : ℕ = b.frame.right - l - 2 in
      let e : b.frame.right - (l + 1) ≡ suc n = omega (arith, s.broad) in
      let later : (k : ℕ) → l + 1 + 1 ≤ k → k < l + 1 + 1 + n → put_down o v y k ≡ [] =
      λ k i j. put_down-inside k (omega arith) (omega (arith, s.broad)) ∙ rw (ne_eqb k (l + 1) (λ q. omega arith)) refl in
      rw (e, flat-next, put_down-inside (l + 1) (omega arith) (omega (arith, s.broad)), eq-eqb (l + 1) (l + 1) refl, flat-empty o v y (l + 1 + 1) n later)
      (append-nil (inner_line o b y))

  flat-box : flat o v y b.frame.left (b.frame.right - b.frame.left) ≡ edge_byte v y b.frame.left ∷ inner_line o b y
  flat-box =
      let s = P.sized b m in
      let l : ℕ = b.frame.left in
      let e : b.frame.right - l ≡ suc (b.frame.right - (l + 1)) = omega (arith, s.broad) in
      rw (e, flat-next, put_down-border o v y l border-left, flat-inner)

-- ---- from a border to a border, or to the end
module _ {v : Canvas} (R : Written v) (o y : ℕ) (low : y < canvas_height v) where
  abbrev P : Tiled v
  P = R.tiled

  flat-box-spans : {b : Box} (m : Memᴰ b v.boxes) → b.frame.top < y → y < b.frame.bottom
      → Spans (o + b.frame.left) (flat o v y b.frame.left (b.frame.right - b.frame.left)) (b.frame.right - b.frame.left)
  flat-box-spans {b} m u w =
      let s = P.sized b m in
      let c : ℕ = o + b.frame.left in
      let e : o + (b.frame.left + 1) ≡ c + 1 = omega arith in
      rw (flat-box P o m y u w)
      (spans-cast {a = edge_byte v y b.frame.left ∷ inner_line o b y} (omega (arith, s.broad))
      (spans-append {a = edge_byte v y b.frame.left ∷ []} {b = inner_line o b y} (spans-single c (edge_byte-single v y b.frame.left)) (rw e at (inner_line-spans o b y (R.texts b m (y - b.frame.top - 1))))))

  here : (a c : ℕ) → a ≡ c → Spans (o + a) (flat o v y a (c - a)) (c - a)
  here a c e = let z : c - a ≡ 0 = omega arith in rw (z, flat-zero o v y a) (spans-empty (o + a))

  -- one part after another
  then : (a k c : ℕ) → a ≤ k → k ≤ c → Spans (o + a) (flat o v y a (k - a)) (k - a) → Spans (o + k) (flat o v y k (c - k)) (c - k)
      → Spans (o + a) (flat o v y a (c - a)) (c - a)
  then a k c u w p q =
      let e : o + k ≡ o + a + (k - a) = omega arith in
      rw (flat-cut o v y a k c u w)
      (spans-cast {a = flat o v y a (k - a) ++ flat o v y k (c - k)} (omega arith) (spans-append {a = flat o v y a (k - a)} {b = flat o v y k (c - k)} p (rw e at q)))

  one-border : (k : ℕ) → border v y k ≡ true → Spans (o + k) (flat o v y k (suc k - k)) (suc k - k)
  one-border k e = let z : suc k - k ≡ 1 = omega arith in rw (z, flat-one o v y k e) (spans-single (o + k) (edge_byte-single v y k))

  no-border : {b : Box} → Memᴰ b v.boxes → (x : ℕ) → Within b y x → border v y x ≡ true → ⊥
  no-border m x i e = true-not-false (sym e ∙ inside-no-border P m y x i)

  mid : (n a c : ℕ) → border v y a ≡ true → a ≤ c → c ≤ n → c ≤ canvas_width v → (c ≡ canvas_width v) ⊎ (border v y c ≡ true)
      → Spans (o + a) (flat o v y a (c - a)) (c - a)
  mid zero a c e u l w d = here a c (omega arith)
  mid (suc n) a c e u l w d = ⊎_elim (here a c) (λ k. step k (border-or-inside P y (c - 1) low (omega arith)) (mid n a)) (eq-or-lt_of_le u) where
    step : a < c → (border v y (c - 1) ≡ true) ⊎ ((b : Box) × Memᴰ b v.boxes × Within b y (c - 1))
        → ((k : ℕ) → border v y a ≡ true → a ≤ k → k ≤ n → k ≤ canvas_width v → (k ≡ canvas_width v) ⊎ (border v y k ≡ true) → Spans (o + a) (flat o v y a (k - a)) (k - a))
        → Spans (o + a) (flat o v y a (c - a)) (c - a)
    step k (inl h) ih =
        let z : suc (c - 1) ≡ c = omega arith in
        then a (c - 1) c (omega arith) (omega arith) (ih (c - 1) e (omega arith) (omega arith) (omega arith) (inr h)) (rw z at (one-border (c - 1) h))
    step k (inr (b, m, i)) ih =
        let s = P.sized b m in
        let r : b.frame.right ≡ c =
        ⊎_elim (λ (q : c ≡ b.frame.right). sym q)
        (λ j. absurd (⊎_elim (λ (q : c ≡ canvas_width v). omega (arith, s.near)) (no-border m c (record { top = i.top; bottom = i.bottom; left = omega (arith, i.left); right = j })) d))
        (eq-or-lt_of_le (omega (arith, i.right))) in
        let g : a ≤ b.frame.left =
        ⊎_elim (λ j. j) (λ j. absurd (no-border m a (record { top = i.top; bottom = i.bottom; left = j; right = omega (arith, i.right) }) e)) (le-or-lt a b.frame.left) in
        let h = border-left P o m y i.top i.bottom in
        then a b.frame.left c g (omega (arith, i.left)) (ih b.frame.left e g (omega (arith, i.left)) (omega (arith, i.left)) (inr h))
        (rw r at (flat-box-spans m i.top i.bottom))

  pub border-first : border v y 0 ≡ true
  border-first = ⊎_elim (λ h. h) (λ t. absurd (omega (arith, t.2.left))) (border-or-inside P y 0 low (omega (arith, P.two_columns)))

  border-last : border v y (canvas_width v - 1) ≡ true
  border-last =
      ⊎_elim (λ h. h) (λ t. absurd (omega (arith, t.2.right, (P.sized t.0 t.1).near))) (border-or-inside P y (canvas_width v - 1) low (omega (arith, P.two_columns)))

  flat-before : (x : ℕ) → x ≤ canvas_width v → (x ≡ canvas_width v) ⊎ (border v y x ≡ true) → Spans o (flat o v y 0 x) x
  flat-before x u d =
      let s = mid x 0 x border-first (omega arith) (le_refl x) u d in
      let z : x - 0 ≡ x = omega arith in
      let a : o + 0 ≡ o = omega arith in
      rw a at (rw z at s)

  pub flat-spans : Spans o (flat o v y 0 (canvas_width v)) (canvas_width v)
  flat-spans = flat-before (canvas_width v) (le_refl _) (inl refl)

  flat-parts : (x : ℕ) → x ≤ canvas_width v → flat o v y 0 (canvas_width v) ≡ flat o v y 0 x ++ flat o v y x (canvas_width v - x)
  flat-parts x u =
      let z : x - 0 ≡ x = omega arith in
      let a : canvas_width v - 0 ≡ canvas_width v = omega arith in
      rw a at (rw z at (flat-cut o v y 0 x (canvas_width v) (omega arith) u))

  border-tail : (x : ℕ) → x < canvas_width v → border v y x ≡ true → flat o v y x (canvas_width v - x) ≡ edge_byte v y x ∷ flat o v y (x + 1) (canvas_width v - (x + 1))
  border-tail x u e = let z : canvas_width v - x ≡ suc (canvas_width v - (x + 1)) = omega arith in rw (z, flat-next, put_down-border o v y x e)

  -- the slot at a border
  pub flat-border-slot : (rule : Bool) (x : ℕ) (d : Slot) → x < canvas_width v → border v y x ≡ true
      → get_or (slots_from rule o (char_indices (flat o v y 0 (canvas_width v)))) x d ≡ record { glyph = glyph_of rule (edge_byte v y x); byte = length (flat o v y 0 x) }
  flat-border-slot rule x d u e =
      rw (flat-parts x (omega arith), border-tail x u e)
      (slot-head rule (flat o v y (x + 1) (canvas_width v - (x + 1))) d (flat-before x (omega arith) (inr e)) (edge_byte-single v y x))

  -- the number of slots
  pub flat-slots : (rule : Bool) → length (slots_from rule o (char_indices (flat o v y 0 (canvas_width v)))) ≡ canvas_width v
  flat-slots rule = slots-count rule flat-spans

  -- a drawn line ends in a border, and is trimmed as it stands
  edge_byte-kept : (x : ℕ) → blank (edge_byte v y x) ≡ false
  unfolding edge_byte border_byte
  edge_byte-kept x =
      cond_either seen (corner_at v y x) refl
      (cond_either seen (horizontal_at v y x) (cond_either seen (colon_at v y x) refl (cond_either seen (any (eqb y) v.rules) refl refl)) refl) where
        seen : ℕ → Type 0
        seen b = blank b ≡ false

  pub flat-border : (x : ℕ) → border v y x ≡ true → flat o v y 0 (x + 1) ≡ flat o v y 0 x ++ edge_byte v y x ∷ []
  flat-border x e =
      let z : 0 + x ≡ x = omega arith in
      flat-split o v y 0 x 1 ∙ ap (λ (l : List ℕ). flat o v y 0 x ++ l) (ap (λ (k : ℕ). flat o v y k 1) z ∙ flat-one o v y x e)

  pub flat-trimmed : trim_end (flat o v y 0 (canvas_width v)) ≡ flat o v y 0 (canvas_width v)
  flat-trimmed =
      let e : canvas_width v - 1 + 1 ≡ canvas_width v = omega (arith, P.two_columns) in
      let l : flat o v y 0 (canvas_width v) ≡ flat o v y 0 (canvas_width v - 1) ++ edge_byte v y (canvas_width v - 1) ∷ [] = rw e at (flat-border (canvas_width v - 1) border-last) in
      rw l (trim-kept (flat o v y 0 (canvas_width v - 1)) (edge_byte v y (canvas_width v - 1)) (edge_byte-kept (canvas_width v - 1)))

  -- ---- around a box that the line runs through
  module _ {b : Box} (m : Memᴰ b v.boxes) (u : b.frame.top < y) (w : y < b.frame.bottom) where
    pub flat-left : Spans o (flat o v y 0 (b.frame.left + 1)) (b.frame.left + 1)
    flat-left =
        let s = P.sized b m in
        let l : ℕ = b.frame.left in
        rw (flat-border l (border-left P o m y u w))
        (spans-append {a = flat o v y 0 l} {b = edge_byte v y l ∷ []} (flat-before l (omega (arith, s.near, s.broad)) (inr (border-left P o m y u w))) (spans-single (o + l) (edge_byte-single v y l)))

    flat-from-inner : flat o v y (b.frame.left + 1) (canvas_width v - (b.frame.left + 1)) ≡ inner_line o b y ++ flat o v y b.frame.right (canvas_width v - b.frame.right)
    flat-from-inner =
        let s = P.sized b m in
        flat-cut o v y (b.frame.left + 1) b.frame.right (canvas_width v) (omega (arith, s.broad)) (omega (arith, s.near))
        ∙ ap (λ (r : List ℕ). r ++ flat o v y b.frame.right (canvas_width v - b.frame.right)) (flat-inner P o m y u w)

    -- the whole line: up to the box, its inner line, and what follows its right border
    pub flat-around : flat o v y 0 (canvas_width v) ≡ flat o v y 0 (b.frame.left + 1) ++ (inner_line o b y ++ flat o v y b.frame.right (canvas_width v - b.frame.right))
    flat-around =
        let s = P.sized b m in
        flat-parts (b.frame.left + 1) (omega (arith, s.near, s.broad)) ∙ ap (λ (r : List ℕ). flat o v y 0 (b.frame.left + 1) ++ r) flat-from-inner

    pub flat-gap-slot : (rule : Bool) (d : Slot)
        → get_or (slots_from rule o (char_indices (flat o v y 0 (canvas_width v)))) (b.frame.left + 1) d ≡ record { glyph = glyph_of rule space; byte = length (flat o v y 0 (b.frame.left + 1)) }
    unfolding inner_line
    flat-gap-slot rule d = rw flat-around (slot-head rule _ d flat-left single-space)
