-- Laws of the checks' loops.
use Prim.Native.Nat.{ℕ, ◌+◌, ◌-◌, ◌≤◌, ◌<◌}
use mathlib.Core.Path.{◌≡◌, refl, sym, ap, ◌∙◌}
use mathlib.Core.Bool.{Bool, true, false, not, cond}
use mathlib.Core.Option.{Option, none, some}
use mathlib.Core.List.{List, [], ◌∷◌, ◌++◌}
use native.Mathlib.Omega.{arith}
use lib.Dec.{eqb}
use lib.ListN.{length, take, drop, get_or, length-append, length-drop, drop_of_length-le}
use lib.Seq.{drop-drop, take-append_seam, drop-append_seam}
use borrow.Author.Tests.{ne_eqb}
use Rattle.seq.specs.Lists.{sum, all, first_at}
use Rattle.seq.proofs.ListsLaws.{drop-step}
use Rattle.text.specs.Utf8.{well_formed, plain}
use Rattle.text.proofs.PlainLaws.{plain-take, plain-drop, plain_more, plain-well}
use Rattle.grid.specs.Flat.{split_text}
use Rattle.seq.proofs.Walks.{eqb_same, sum-after, sum-end}

-- ---- lengths that add up, counted down
module _ (lengths : List ℕ) (bytes i left : ℕ) (counted : eqb (sum lengths) bytes ≡ eqb (sum (drop i lengths)) left) where
  pub too_long : left < get_or lengths i 0 → false ≡ eqb (sum lengths) bytes
  too_long over = rw counted (sym (ne_eqb (sum (drop i lengths)) left (λ e. omega (arith, sum-after lengths i))))

  pub counts-down : get_or lengths i 0 ≤ left → eqb (sum lengths) bytes ≡ eqb (sum (drop (i + 1) lengths)) (left - get_or lengths i 0)
  counts-down fits =
      counted ∙ eqb_same (sum (drop i lengths)) left (sum (drop (i + 1) lengths)) (left - get_or lengths i 0)
      (λ e. omega (arith, sum-after lengths i)) (λ e. omega (arith, sum-after lengths i))

  pub counted-down : length lengths ≤ i → eqb left 0 ≡ eqb (sum lengths) bytes
  counted-down h = rw counted (eqb_same left 0 (sum (drop i lengths)) left (λ e. omega (arith, sum-end lengths i h)) (λ e. omega (arith, sum-end lengths i h)))

-- ---- the first line outside the set: of the lines from y on, whose bytes are rest
pub rest-room : (lengths rest : List ℕ) (y : ℕ) → sum (drop y lengths) ≡ length rest → get_or lengths y 0 ≤ length rest
rest-room lengths rest y e = omega (arith, sum-after lengths y)

pub rest-after : (lengths rest : List ℕ) (y : ℕ) → sum (drop y lengths) ≡ length rest → sum (drop (y + 1) lengths) ≡ length (drop (get_or lengths y 0) rest)
rest-after lengths rest y e = omega (arith, sum-after lengths y, length-drop (get_or lengths y 0) rest)

module _ (lengths rest : List ℕ) (y : ℕ) {whole : Option ℕ} (passed : whole ≡ first_at (λ line. not (well_formed line)) y (split_text (drop y lengths) rest)) where
  line_step : y < length lengths → whole ≡ cond (not (well_formed (take (get_or lengths y 0) rest))) (some y)
      (first_at (λ line. not (well_formed line)) (y + 1) (split_text (drop (y + 1) lengths) (drop (get_or lengths y 0) rest)))
  unfolding split_text first_at
  line_step h = passed ∙ rw (drop-step lengths y h)

  module _ (t : Bool) (h : y < length lengths) (e : t ≡ well_formed (take (get_or lengths y 0) rest)) where
    pub outside-here : not t ≡ true → some y ≡ whole
    outside-here f = rw (line_step h, ← e, f)

    pub inside-here : not t ≡ false → whole ≡ first_at (λ line. not (well_formed line)) (y + 1) (split_text (drop (y + 1) lengths) (drop (get_or lengths y 0) rest))
    inside-here f = line_step h ∙ rw (← e, f)

  pub none-outside : length lengths ≤ y → none ≡ whole
  unfolding split_text first_at
  none-outside h = rw (passed, drop_of_length-le lengths h)

-- ---- bytes from the start on that are plain: none, and a block more of those that are left
pub plain-none : (text : List ℕ) → plain (take 0 text) ≡ true
unfolding plain all
plain-none text = refl

module _ (text block after : List ℕ) (n k : ℕ) (sized : length block ≡ k) (cut : block ++ after ≡ drop n text) where
  pub block-inside : n ≤ length text → n + k ≤ length text
  block-inside h = omega (arith, length-append block after, length-drop n text, ap length cut)

  pub block-after : after ≡ drop (n + k) text
  block-after = rw (← sized) (sym (drop-append_seam block after) ∙ ap (drop (length block)) cut ∙ rw drop-drop)

  pub block-plain : plain (take n text) ≡ true → plain block ≡ true → plain (take (n + k) text) ≡ true
  block-plain front is = rw (← sized) (plain_more text n front (length block) true (sym (rw (← cut, take-append_seam) is)) refl)

pub plain-to : (text : List ℕ) (n end : ℕ) → n ≤ end → plain (take n text) ≡ true → (t : Bool) → t ≡ plain (take (end - n) (drop n text)) → t ≡ true → plain (take end text) ≡ true
plain-to text n end inside front t is taken = let e : n + (end - n) ≡ end = omega arith in rw e at (plain_more text n front (end - n) t is taken)

-- ---- a text that is plain has no line outside
pub plain-inside : (lengths text : List ℕ) (y : ℕ) → plain text ≡ true → none ≡ first_at (λ line. not (well_formed line)) y (split_text lengths text)
unfolding split_text first_at
plain-inside [] text y e = refl
plain-inside (n ∷ ns) text y e =
    let well = plain-well (take n text) true (sym (plain-take n text e)) refl in
    rw (← well) (plain-inside ns (drop n text) (y + 1) (plain-drop n text e))
