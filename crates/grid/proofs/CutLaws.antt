-- Laws of cutting: what the first byte gives, and which bytes of its line a cut text is.
use Prim.Native.Nat.{ℕ, zero, suc, ◌+◌, ◌-◌, ◌≤◌, ◌<◌}
use mathlib.Core.Path.{◌≡◌, refl, ap, ◌∙◌}
use mathlib.Core.Bool.{Bool, true, false, cond, ◌&&◌, ◌||◌}
use mathlib.Core.List.{List, [], ◌∷◌}
use native.Mathlib.Omega.{arith}
use lib.Dec.{eqb, ltb}
use lib.ListN.{length, get_or, take, drop, length-take, length-drop}
use lib.Seq.{take-take, drop-drop, get_or-take, get_or-drop, ext_get_or}
use borrow.Author.Tests.{ne_eqb, ltb-false}
use Rattle.seq.proofs.Tests.{or-neither}
use Rattle.text.specs.Characters.{space, tab, tab_columns}
use Rattle.text.specs.Utf8.{continues}
use Rattle.text.specs.Trim.{trim_end}
use Rattle.text.proofs.TrimLaws.{trim-prefix, trim-shorter, trim-again, trim-rest}
use Rattle.grid.specs.Answer.{accept, refuse_if}
use Rattle.grid.specs.Values.{Line, Range, Fragment}
use Rattle.grid.specs.Cut.{part, after_first, cut}
use Rattle.grid.specs.CutCall.{bad_range, cut_too_large, cut_answer}

-- ---- the first byte
module _ (line byte column : ℕ) where
  pub first-none : after_first [] line byte column ≡ record { text = []; line = line; byte = byte; column = column }
  unfolding after_first
  first-none = refl

  pub first-space : (bs : List ℕ) → after_first (space ∷ bs) line byte column ≡ record { text = bs; line = line; byte = byte + 1; column = column + 1 }
  unfolding after_first
  first-space bs = refl

  pub first-narrow-tab : (bs : List ℕ) → tab_columns column ≡ 1
      → after_first (tab ∷ bs) line byte column ≡ record { text = bs; line = line; byte = byte + 1; column = column + 1 }
  unfolding after_first
  first-narrow-tab bs one = rw one

  pub first-wide-tab : (bs : List ℕ) → (tab_columns column ≡ 1 → ⊥)
      → after_first (tab ∷ bs) line byte column ≡ record { text = tab ∷ bs; line = line; byte = byte; column = column + 1 }
  unfolding after_first
  first-wide-tab bs more = rw (ne_eqb (tab_columns column) 1 more)

  pub first-other : (b : ℕ) (bs : List ℕ) → (b ≡ space → ⊥) → (b ≡ tab → ⊥)
      → after_first (b ∷ bs) line byte column ≡ record { text = b ∷ bs; line = line; byte = byte; column = column }
  unfolding after_first
  first-other b bs no-space no-tab = rw (ne_eqb b space no-space, ne_eqb b tab no-tab)

-- how a fragment starts in the trimmed part that it is cut from: `dropped` bytes later, with the column grown by `grown`
pub record Starts (t : List ℕ) (line byte column : ℕ) (f : Fragment) : Type 0 where
  pub dropped : ℕ
  pub grown : ℕ
  pub at_most_one : (dropped ≤ 1) × (grown ≤ 1)
  pub inside : dropped ≤ length t
  pub text_left : f.text ≡ drop dropped t
  pub line_kept : f.line ≡ line
  pub byte_moved : f.byte ≡ byte + dropped
  pub column_moved : f.column ≡ column + grown

pub first-starts : (t : List ℕ) (line byte column : ℕ) → Starts t line byte column (after_first t line byte column)
unfolding after_first
first-starts [] line byte column = record { dropped = 0; grown = 0; at_most_one = omega arith; inside = omega arith; text_left = refl; line_kept = refl; byte_moved = omega arith; column_moved = omega arith }
first-starts (b ∷ bs) line byte column = go (eqb b space || (eqb b tab && eqb (tab_columns column) 1)) (eqb b tab) where
  go : (gone wide : Bool) → Starts (b ∷ bs) line byte column
      (cond gone (record { text = bs; line = line; byte = byte + 1; column = column + 1 })
      (cond wide (record { text = b ∷ bs; line = line; byte = byte; column = column + 1 })
      (record { text = b ∷ bs; line = line; byte = byte; column = column })))
  go true wide = record { dropped = 1; grown = 1; at_most_one = omega arith; inside = omega arith; text_left = refl; line_kept = refl; byte_moved = refl; column_moved = refl }
  go false true = record { dropped = 0; grown = 1; at_most_one = omega arith; inside = omega arith; text_left = refl; line_kept = refl; byte_moved = omega arith; column_moved = refl }
  go false false = record { dropped = 0; grown = 0; at_most_one = omega arith; inside = omega arith; text_left = refl; line_kept = refl; byte_moved = omega arith; column_moved = omega arith }

-- a trimmed text stays so without its first byte
drop-trimmed : (n : ℕ) (t : List ℕ) → n ≤ 1 → trim_end t ≡ t → trim_end (drop n t) ≡ drop n t
drop-trimmed zero t h e = e
drop-trimmed (suc zero) [] h e = e
drop-trimmed (suc zero) (b ∷ bs) h e = trim-rest b bs e
drop-trimmed (suc (suc n)) t h e = absurd (omega arith)

-- a first part without its own first bytes is a part that starts later
pub drop-take : (m n : ℕ) (s : List ℕ) → m ≤ n → drop m (take n s) ≡ take (n - m) (drop m s)
drop-take m n s h =
    ext_get_or 0 (drop m (take n s)) (take (n - m) (drop m s)) (simp (length-drop, length-take) (omega arith))
    (λ i k. let l : i < n - m = omega (arith, simp (length-drop, length-take) at k) in
    rw (get_or-drop m (take n s) i 0, get_or-take n s (m + i) 0 (omega arith), get_or-take (n - m) (drop m s) i 0 l, get_or-drop m s i 0))

-- ---- a cut line
module _ (given : Line) (line table_byte : ℕ) (r : Range) (left : ℕ) where
  -- the part between the borders, trimmed
  abbrev trimmed : List ℕ
  trimmed = trim_end (part r given.text)

  abbrev fragment : Fragment
  fragment = cut given line table_byte r left

  starts : Starts trimmed line (table_byte + r.start) (given.column + left + 1) fragment
  unfolding cut
  starts = first-starts trimmed line (table_byte + r.start) (given.column + left + 1)

  pub cut_line : (cut given line table_byte r left).line ≡ line
  cut_line = starts.line_kept

  pub cut-byte : (table_byte + r.start ≤ (cut given line table_byte r left).byte) × ((cut given line table_byte r left).byte ≤ table_byte + r.start + 1)
  cut-byte = omega (arith, starts.byte_moved, starts.at_most_one)

  pub cut-column : (given.column + left + 1 ≤ (cut given line table_byte r left).column) × ((cut given line table_byte r left).column ≤ given.column + left + 2)
  cut-column = omega (arith, starts.column_moved, starts.at_most_one)

  trimmed-length : length trimmed ≤ r.end - r.start
  trimmed-length = omega (arith, trim-shorter (part r given.text), length-take (r.end - r.start) (drop r.start given.text))

  trimmed-first : trimmed ≡ take (length trimmed) (drop r.start given.text)
  trimmed-first =
      trim-prefix (part r given.text)
      ∙ take-take (length trimmed) (r.end - r.start) (drop r.start given.text) trimmed-length

  text-length : length fragment.text ≡ length trimmed - starts.dropped
  text-length = ap length starts.text_left ∙ length-drop starts.dropped trimmed

  -- a cut text is a part of its line
  pub cut-part : (cut given line table_byte r left).text ≡ take (length (cut given line table_byte r left).text) (drop ((cut given line table_byte r left).byte - table_byte) given.text)
  cut-part =
      let (n, d) : ℕ × ℕ = (length trimmed, starts.dropped) in
      let at : fragment.byte - table_byte ≡ r.start + d = omega (arith, starts.byte_moved) in
      starts.text_left
      ∙ ap (drop d) trimmed-first
      ∙ drop-take d n (drop r.start given.text) starts.inside
      ∙ rw (at, text-length, drop-drop d r.start given.text)

  -- and ends in its range
  pub cut-ends : r.start ≤ r.end → (cut given line table_byte r left).byte + length (cut given line table_byte r left).text ≤ table_byte + r.end
  cut-ends forward = omega (arith, starts.byte_moved, starts.inside, text-length, trimmed-length)

  pub cut-shorter : length (cut given line table_byte r left).text ≤ r.end - r.start
  cut-shorter = omega (arith, text-length, trimmed-length)

  -- no space or tab stands at its end
  pub cut-trimmed : trim_end (cut given line table_byte r left).text ≡ (cut given line table_byte r left).text
  cut-trimmed = rw starts.text_left (drop-trimmed starts.dropped trimmed starts.at_most_one.0 (trim-again (part r given.text)))

-- ---- a cut line depends on nothing outside its range
pub part_same : (r : Range) (s t : List ℕ) → r.end ≤ length s → r.end ≤ length t
    → ((i : ℕ) → r.start ≤ i → i < r.end → get_or s i 0 ≡ get_or t i 0) → part r s ≡ part r t
part_same r s t h k same =
    ext_get_or 0 (part r s) (part r t) (simp (length-take, length-drop) (omega arith))
    (λ i low. let l : i < r.end - r.start = omega (arith, simp (length-take, length-drop) at low) in
    rw (get_or-take (r.end - r.start) (drop r.start s) i 0 l, get_or-take (r.end - r.start) (drop r.start t) i 0 l, get_or-drop r.start s i 0, get_or-drop r.start t i 0)
    (same (r.start + i) (omega arith) (omega arith)))

pub cut-same : (a b : Line) (line table_byte : ℕ) (r : Range) (left : ℕ) → part r a.text ≡ part r b.text → a.column ≡ b.column
    → cut a line table_byte r left ≡ cut b line table_byte r left
unfolding cut
cut-same a b line table_byte r left e f = rw (e, f)

-- ---- the call
module _ (r : Range) (text : List ℕ) (fair : bad_range r text ≡ false) where
  ends : (ltb r.end r.start ≡ false) × (ltb (length text) r.end ≡ false)
  unfolding bad_range
  ends =
      let (s, t) : Bool × Bool = (ltb r.end r.start, ltb (length text) r.end) in
      let (u, v) : Bool × Bool = (continues (get_or text r.start 0), continues (get_or text r.end 0)) in
      or-neither s t (or-neither (s || t) u (or-neither (s || t || u) v fair).0).0

  pub range-forward : r.start ≤ r.end
  range-forward = ltb-false r.end r.start ends.0

  pub range_inside : r.end ≤ length text
  range_inside = ltb-false (length text) r.end ends.1

-- what an accepted cut passed, and what it is
pub accepted-cut : (given : Line) (line table_byte : ℕ) (r : Range) (left : ℕ) (f : Fragment) → cut_answer given line table_byte r left ≡ accept f
    → (bad_range r given.text ≡ false) × (f ≡ cut given line table_byte r left)
unfolding cut_answer
accepted-cut given line table_byte r left f e = go (bad_range r given.text) (cut_too_large given line table_byte left) e where
  go : (bad large : Bool) → refuse_if bad 13 (refuse_if large 2 (accept (cut given line table_byte r left))) ≡ accept f
      → (bad ≡ false) × (f ≡ cut given line table_byte r left)
  go true large e = let z : ◌≡◌ {A = ℕ} 0 1 = cc in absurd (omega arith)
  go false true e = let z : ◌≡◌ {A = ℕ} 0 1 = cc in absurd (omega arith)
  go false false e = (refl, cc)
