-- Laws of the search for the first bordered rectangle over arrays.
use Prim.Native.Nat.{ℕ, ◌≤◌, ◌<◌, min}
use mathlib.Core.Path.{◌≡◌, refl, sym, ap, ◌∙◌}
use mathlib.Core.Bool.{true}
use mathlib.Core.Logic.{⊎_elim, inl, inr}
use mathlib.Core.List.{List}
use mathlib.Core.Option.{Option, none, some}
use native.Mathlib.Nat.{eq-or-lt_of_le}
use native.Mathlib.Omega.{arith}
use Rattle.seq.proofs.Tests.{le-or-lt}
use Rattle.grid.specs.Values.{Rect}
use Rattle.grid.specs.Slots.{Plus, horizontal, vertical, glyph_at}
use Rattle.representation.specs.Arrays.{code_at, code_glyph, array_grid}
use Rattle.grid.specs.Rectangle.{first_rect}
use Rattle.grid.specs.Cover.{Bordered, First}
use Rattle.grid.proofs.RectangleLaws.{rect, both-plus, found_first, first_found}
use Rattle.representation.proofs.ArrayLaws.{array-glyph, plus-code}
use Rattle.std.specs.Prelude.{Some, None}
use Rattle.trace.specs.Ready.{Ready}
use Rattle.trace.specs.Search.{found_rect}

-- a bordered rectangle, by what the arrays say: the glyphs of three corners and how far all sides reach
pub record Drawn (height width : ℕ) (glyphs down right : List ℕ) (t l b r : ℕ) : Type 0 where
  pub tall : t < b
  pub wide : l < r
  pub bottom_inside : b < height
  pub right_inside : r < width
  pub top_left : code_at glyphs t l ≡ 3
  pub top_right : code_at glyphs t r ≡ 3
  pub bottom_left : code_at glyphs b l ≡ 3
  pub top_reach : r ≤ code_at right t l
  pub bottom_reach : r ≤ code_at right b l
  pub left_reach : b ≤ code_at down t l
  pub right_reach : b ≤ code_at down t r

module _ {height width : ℕ} {glyphs down right : List ℕ} (ready : Ready height width glyphs down right) where
  pub bordered-drawn : {q : Rect} → Bordered (array_grid height width glyphs) q → Drawn height width glyphs down right q.top q.left q.bottom q.right
  unfolding array_grid
  bordered-drawn {q} h =
      record {
        tall = h.top_above_bottom;
        wide = h.left_before_right;
        bottom_inside = h.bottom_inside;
        right_inside = h.right_inside;
        top_left = code q.top q.left th lw h.top_left;
        top_right = code q.top q.right th h.right_inside h.top_right;
        bottom_left = code q.bottom q.left h.bottom_inside lw h.bottom_left;
        top_reach = across q.top th h.top_side;
        bottom_reach = across q.bottom h.bottom_inside h.bottom_side;
        left_reach = along q.left lw h.left_side;
        right_reach = along q.right h.right_inside h.right_side;
      } where
        th : q.top < height
        th = omega (arith, h.top_above_bottom, h.bottom_inside)

        lw : q.left < width
        lw = omega (arith, h.left_before_right, h.right_inside)

        code : (y x : ℕ) → y < height → x < width → glyph_at (array_grid height width glyphs) y x ≡ Plus → code_at glyphs y x ≡ 3
        code y x yh xw e = plus-code (code_at glyphs y x) (sym (array-glyph height width glyphs y x yh xw) ∙ e)

        across : (y : ℕ) → y < height → ((x : ℕ) → q.left ≤ x → x ≤ q.right → horizontal (glyph_at (array_grid height width glyphs) y x) ≡ true)
            → q.right ≤ code_at right y q.left
        across y yh side =
            ready.reach_right.whole y q.left q.right yh h.right_inside h.left_before_right
            (λ k low high. rw (array-glyph height width glyphs y k yh (omega (arith, h.right_inside))) at (side k low high))

        along : (x : ℕ) → x < width → ((y : ℕ) → q.top ≤ y → y ≤ q.bottom → vertical (glyph_at (array_grid height width glyphs) y x) ≡ true)
            → q.bottom ≤ code_at down q.top x
        along x xw side =
            ready.reach_down.whole q.top x q.bottom xw h.bottom_inside h.top_above_bottom
            (λ k low high. rw (array-glyph height width glyphs k x (omega (arith, h.bottom_inside)) xw) at (side k low high))

  pub drawn-bordered : {t l b r : ℕ} → Drawn height width glyphs down right t l b r → Bordered (array_grid height width glyphs) (rect t l b r)
  unfolding array_grid
  drawn-bordered {t} {l} {b} {r} h =
      record {
        top_above_bottom = h.tall;
        bottom_inside = h.bottom_inside;
        left_before_right = h.wide;
        right_inside = h.right_inside;
        top_left = plus t l (omega arith) (omega arith) h.top_left;
        top_right = plus t r (omega arith) h.right_inside h.top_right;
        bottom_left = plus b l h.bottom_inside (omega arith) h.bottom_left;
        bottom_right = both-plus (glyph_at (array_grid height width glyphs) b r) (bottom r (omega arith) (omega arith)) (rightmost b (omega arith) (omega arith));
        top_side = across t (omega arith) h.top_reach;
        bottom_side = bottom;
        left_side = along l (omega arith) h.left_reach;
        right_side = rightmost;
      } where
        plus : (y x : ℕ) → y < height → x < width → code_at glyphs y x ≡ 3 → glyph_at (array_grid height width glyphs) y x ≡ Plus
        plus y x yh xw e = array-glyph height width glyphs y x yh xw ∙ ap code_glyph e

        across : (y : ℕ) → y < height → r ≤ code_at right y l
            → (x : ℕ) → l ≤ x → x ≤ r → horizontal (glyph_at (array_grid height width glyphs) y x) ≡ true
        across y yh reach x low high =
            rw (array-glyph height width glyphs y x yh (omega arith))
            (ready.reach_right.run y l r yh (omega arith) h.wide reach x low high)

        along : (x : ℕ) → x < width → b ≤ code_at down t x
            → (y : ℕ) → t ≤ y → y ≤ b → vertical (glyph_at (array_grid height width glyphs) y x) ≡ true
        along x xw reach y low high =
            rw (array-glyph height width glyphs y x (omega arith) xw)
            (ready.reach_down.run t x b (omega arith) xw h.tall reach y low high)

        bottom : (x : ℕ) → l ≤ x → x ≤ r → horizontal (glyph_at (array_grid height width glyphs) b x) ≡ true
        bottom = across b h.bottom_inside h.bottom_reach

        rightmost : (y : ℕ) → t ≤ y → y ≤ b → vertical (glyph_at (array_grid height width glyphs) y r) ≡ true
        rightmost = along r h.right_inside h.right_reach

  module _ (t l : ℕ) where
    none-drawn : ((b r : ℕ) → Drawn height width glyphs down right t l b r → ⊥) → first_rect (array_grid height width glyphs) t l ≡ none
    none-drawn not-any = go (first_rect (array_grid height width glyphs) t l) refl where
      go : (o : Option Rect) → first_rect (array_grid height width glyphs) t l ≡ o → first_rect (array_grid height width glyphs) t l ≡ none
      go none e = e
      go (some q) e =
          let (first, top, left) = found_first (array_grid height width glyphs) t l q e in
          absurd (not-any q.bottom q.right (rw (top, left) at (bordered-drawn first.bordered)))

-- ---- the search

-- at line b and column c: a column passed by fails for this line and all later ones, and no rectangle ends above this line
pub record Passed (height width : ℕ) (glyphs down right : List ℕ) (top left b c : ℕ) : Type 0 where
  pub below : top < b
  pub beside : left < c
  pub fails : (x : ℕ) → left < x → x < c → code_at glyphs top x ≡ 3 → code_at down top x < b
  pub above : (y x : ℕ) → Drawn height width glyphs down right top left y x → b ≤ y

module _ (height width : ℕ) (glyphs down right : List ℕ) (top left : ℕ) where
  module _ (b c : ℕ) (passed : Passed height width glyphs down right top left b c) where
    -- a rectangle that ends on this line ends at no column passed by
    passed-right : {r : ℕ} → Drawn height width glyphs down right top left b r → c ≤ r
    passed-right {r} d =
        ⊎_elim (λ (h : c ≤ r). h) (λ (h : r < c). absurd (omega (arith, passed.fails r d.wide h d.top_right, d.right_reach))) (le-or-lt c r)

    module _ (ready : Ready height width glyphs down right) where
      pub none_found : code_at down top left < b → found_rect top left None ≡ first_rect (array_grid height width glyphs) top left
      none_found past = sym (none-drawn ready top left (λ y x d. omega (arith, passed.above y x d, d.left_reach)))

      pub one_found : top < height → left < width → code_at glyphs top left ≡ 3 → b ≤ code_at down top left → code_at glyphs b left ≡ 3
          → c ≤ min (code_at right top left) (code_at right b left) → code_at glyphs top c ≡ 3 → b ≤ code_at down top c
          → found_rect top left (Some (record { bottom = b; right = c })) ≡ first_rect (array_grid height width glyphs) top left
      one_found th lw top_left left_reach bottom_left reach top_right right_reach = sym (first_found first) where
        drawn : Drawn height width glyphs down right top left b c
        drawn =
            record {
              tall = passed.below;
              wide = passed.beside;
              bottom_inside = omega (arith, ready.reach_down.inside top left th lw);
              right_inside = omega (arith, ready.reach_right.inside top left th lw);
              top_left = top_left;
              top_right = top_right;
              bottom_left = bottom_left;
              top_reach = omega arith;
              bottom_reach = omega arith;
              left_reach = left_reach;
              right_reach = right_reach;
            }

        first : First (array_grid height width glyphs) (rect top left b c)
        first =
            record {
              bordered = drawn-bordered ready drawn;
              least = λ q hq e f.
                  let d : Drawn height width glyphs down right top left q.bottom q.right = rw (e, f) at (bordered-drawn ready hq) in
                  ⊎_elim (λ (same : b ≡ q.bottom). inr (same, passed-right (rw same d))) inl (eq-or-lt_of_le (passed.above q.bottom q.right d));
            }

pub no-corner : (height width : ℕ) (glyphs down right : List ℕ) (top left : ℕ) → Ready height width glyphs down right → (code_at glyphs top left ≡ 3 → ⊥)
    → found_rect top left None ≡ first_rect (array_grid height width glyphs) top left
no-corner height width glyphs down right top left ready no_plus = sym (none-drawn ready top left (λ b r d. no_plus d.top_left))
