-- The colons of one column, and of the columns from k on.
use Prim.Native.Nat.{ℕ, suc, ◌+◌, ◌*◌, ◌-◌, ◌≤◌, ◌<◌}
use mathlib.Core.Path.{◌≡◌, refl, sym, ap, ◌∙◌}
use mathlib.Core.Bool.{Bool, true, false, ◌&&◌, ◌||◌, cond}
use mathlib.Core.Logic.{⊎_elim}
use mathlib.Core.List.{List}
use native.Mathlib.Omega.{arith}
use native.Mathlib.Nat.{eq-or-lt_of_le}
use lib.Dec.{eqb}
use lib.ListN.{length, get_or, set}
use borrow.Author.Tests.{eq-eqb, ne_eqb}
use Rattle.seq.specs.Lists.{range, any, find}
use Rattle.seq.proofs.Tests.{and-false}
use Rattle.text.specs.Characters.{colon}
use Rattle.grid.specs.LayoutCall.{slot_space}
use Rattle.grid.specs.Flat.{code_alignment}
use Rattle.drawing.specs.Plain.{has_left_colon, has_right_colon}
use Rattle.representation.specs.Arrays.{code_at}
use Rattle.canvas.specs.Painting.{Drawn, colon_if, colon_of, coloned, next_mark, colon_in, all_coloned}
use Rattle.canvas.proofs.SlotLaws.{code-set, put-twice}

-- ---- one colon, and the two of a column
module _ (line column : ℕ) (canvas : List ℕ) where
  pub colon-put : line < 128 → column < 128 → slot_space ≤ length canvas → (on : Bool) → on ≡ true
      → Drawn (colon_if on line column) canvas (set canvas (line * 128 + column) colon)
  unfolding colon_if
  colon-put h near room on e = record { slot = λ y x hy hx. rw e (code-set canvas (line * 128 + column) line column colon y x room refl h near hx) }

  pub colon-none : (on : Bool) → on ≡ false → Drawn (colon_if on line column) canvas canvas
  unfolding colon_if
  colon-none on e = record { slot = λ y x hy hx. rw e }

two-colons : (line l r p q : Bool) (old : ℕ)
    → cond (r && (line && q)) colon (cond (l && (line && p)) colon old) ≡ cond (line && (l && p || r && q)) colon old
two-colons true l r p q old = put-twice (l && p) (r && q) colon old
two-colons false l r p q old = rw (and-false l, and-false r)

pub colons-put : (code from to row : ℕ) (left right : Bool) (canvas one two : List ℕ)
    → left ≡ has_left_colon (code_alignment code) → right ≡ has_right_colon (code_alignment code)
    → Drawn (colon_if left row (from + 1)) canvas one → Drawn (colon_if right row (to - 1)) one two → Drawn (coloned code from to row) canvas two
unfolding colon_if coloned
colons-put code from to row left right canvas one two e f d g =
    record {
      slot = λ y x hy hx.
          g.slot y x hy hx ∙ ap (λ (o : ℕ). cond (right && (eqb y row && eqb x (to - 1))) colon o) (d.slot y x hy hx)
          ∙ rw (← e, ← f) (two-colons (eqb y row) left right (eqb x (from + 1)) (eqb x (to - 1)) (code_at canvas y x));
    }

-- ---- the next mark
module _ (marks : List ℕ) (columns : ℕ) where
  pub next_last : next_mark marks columns columns ≡ columns
  unfolding next_mark range find
  next_last = let e : columns - columns ≡ 0 = omega arith in rw e

  module _ (k : ℕ) (h : k < columns) where
    left_over : columns - k ≡ suc (columns - (k + 1))
    left_over = omega arith

    pub next_here : get_or marks k 0 ≡ 1 → next_mark marks columns k ≡ k
    unfolding next_mark range find
    next_here e = rw (left_over, eq-eqb (get_or marks k 0) 1 e)

    pub next-on : (get_or marks k 0 ≡ 1 → ⊥) → next_mark marks columns k ≡ next_mark marks columns (k + 1)
    unfolding next_mark range find
    next-on e = rw (left_over, ne_eqb (get_or marks k 0) 1 e)

-- ---- the columns from k on
unfoldable pub coloned_from : (cols xs marks : List ℕ) → ℕ → ℕ → ℕ → ℕ → ℕ → ℕ → ℕ
coloned_from cols xs marks columns row k y x old = cond (eqb y row && any (colon_in cols xs marks columns x) (range k (columns - k))) colon old

pub record ColonsSoFar (cols xs marks : List ℕ) (columns row : ℕ) (canvas₀ canvas : List ℕ) (next k : ℕ) : Type 0 where
  pub within : k ≤ columns
  pub next_is : next ≡ next_mark marks columns k
  pub next_after : k ≤ next
  pub next_within : next ≤ columns
  pub kept : length canvas ≡ length canvas₀
  pub drawn : Drawn (coloned_from cols xs marks columns row k) canvas₀ canvas

pub colons-start : (cols xs marks : List ℕ) (columns row : ℕ) (canvas : List ℕ) → ColonsSoFar cols xs marks columns row canvas canvas columns columns
unfolding coloned_from range any
colons-start cols xs marks columns row canvas =
    let e : columns - columns ≡ 0 = omega arith in
    record {
      within = omega arith;
      next_is = sym (next_last marks columns);
      next_after = omega arith;
      next_within = omega arith;
      kept = refl;
      drawn = record { slot = λ y x hy hx. rw (e, and-false (eqb y row)) };
    }

module _ (cols xs marks : List ℕ) (columns row : ℕ) (canvas₀ canvas : List ℕ) (next k : ℕ)
    (s : ColonsSoFar cols xs marks columns row canvas₀ canvas next k) (some : 0 < k) where
  again : k - 1 + 1 ≡ k
  again = omega arith

  rest : columns - (k - 1) ≡ suc (columns - k)
  rest = omega (arith, s.within)

  -- the colons stand between two corners
  pub colons-room : ((i j : ℕ) → i < j → j ≤ columns → get_or xs i 0 < get_or xs j 0) → get_or xs columns 0 < 128 → row < 128 → slot_space ≤ length canvas₀
      → (get_or xs (k - 1) 0 < get_or xs next 0) × (get_or xs next 0 < 128) × (row < 128) × (slot_space ≤ length canvas)
  colons-room up near low room = (
    up (k - 1) next (omega (arith, s.next_after)) s.next_within,
    ⊎_elim (λ (e : next ≡ columns). rw e near) (λ (h : next < columns). omega (arith, up next columns h (omega arith))) (eq-or-lt_of_le s.next_within),
    low,
    omega (arith, s.kept),
  )

  -- one column more, over the others
  put-over : (line s t : Bool) (old : ℕ) → cond (line && s) colon (cond (line && t) colon old) ≡ cond (line && (s || t)) colon old
  put-over true true t old = refl
  put-over true false t old = refl
  put-over false s t old = refl

  column-more : (y x old : ℕ) → coloned_from cols xs marks columns row (k - 1) y x old
      ≡ cond (eqb y row && (colon_in cols xs marks columns x (k - 1) || any (colon_in cols xs marks columns x) (range k (columns - k)))) colon old
  unfolding coloned_from range any
  column-more y x old = rw (rest, again)

  pub colons-drawn : (after : List ℕ) → get_or marks (k - 1) 0 ≡ 1 → length after ≡ length canvas
      → Drawn (coloned (get_or cols (2 * (k - 1)) 0) (get_or xs (k - 1) 0) (get_or xs next 0) row) canvas after
      → ColonsSoFar cols xs marks columns row canvas₀ after (k - 1) (k - 1)
  unfolding coloned coloned_from
  colons-drawn after e l d =
      record {
        within = omega (arith, s.within);
        next_is = sym (next_here marks columns (k - 1) (omega (arith, s.within)) e);
        next_after = omega arith;
        next_within = omega (arith, s.within);
        kept = l ∙ s.kept;
        drawn = record {
          slot = λ y x hy hx.
              let here = colon_of (get_or cols (2 * (k - 1)) 0) (get_or xs (k - 1) 0) (get_or xs next 0) x in
              let others = any (colon_in cols xs marks columns x) (range k (columns - k)) in
              d.slot y x hy hx ∙ ap (cond (eqb y row && here) colon) (s.drawn.slot y x hy hx)
              ∙ put-over (eqb y row) here others (code_at canvas₀ y x)
              ∙ sym (column-more y x (code_at canvas₀ y x) ∙ rw (again, ← s.next_is, eq-eqb (get_or marks (k - 1) 0) 1 e));
        };
      }

  pub colons-kept : (get_or marks (k - 1) 0 ≡ 1 → ⊥) → ColonsSoFar cols xs marks columns row canvas₀ canvas next (k - 1)
  unfolding coloned_from
  colons-kept e =
      record {
        within = omega (arith, s.within);
        next_is = s.next_is ∙ sym (next-on marks columns (k - 1) (omega (arith, s.within)) e ∙ ap (next_mark marks columns) again);
        next_after = omega (arith, s.next_after);
        next_within = s.next_within;
        kept = s.kept;
        drawn = record { slot = λ y x hy hx. s.drawn.slot y x hy hx ∙ sym (column-more y x (code_at canvas₀ y x) ∙ rw (ne_eqb (get_or marks (k - 1) 0) 1 e)) };
      }

pub colons-end : (cols xs marks : List ℕ) (columns row : ℕ) (canvas₀ canvas : List ℕ) (next k : ℕ)
    → ColonsSoFar cols xs marks columns row canvas₀ canvas next k → k ≤ 0 → Drawn (all_coloned cols xs marks columns row) canvas₀ canvas
unfolding coloned_from all_coloned
colons-end cols xs marks columns row canvas₀ canvas next k s h =
    let e : k ≡ 0 = omega arith in
    let z : columns - 0 ≡ columns = omega arith in
    record { slot = λ y x hy hx. s.drawn.slot y x hy hx ∙ rw (e, z) }
