-- The borders along the lines of a cell.
use Prim.Native.Nat.{ℕ, ◌+◌, ◌*◌, ◌-◌, ◌≤◌, ◌<◌}
use mathlib.Core.Path.{◌≡◌, refl, sym, ap, ◌∙◌}
use mathlib.Core.Bool.{Bool, true, false, ◌&&◌, ◌||◌, cond}
use mathlib.Core.Logic.{⊎_elim}
use mathlib.Core.List.{List}
use native.Mathlib.Omega.{arith}
use lib.Dec.{eqb, ltb}
use lib.ListN.{length, get_or, take, drop, replicate, length-append, length-drop, length-take, length-replicate}
use lib.Seq.{length-take-le}
use borrow.Author.Tests.{eqb-true, eqb-false, ltb-true, ltb-false}
use borrow.Rule.Slice.PartMut.{put_mid}
use Rattle.std.proofs.lemmas.List.{places}
use Rattle.std.proofs.Common.{rules}
use Rattle.seq.proofs.Tests.{and-false, or_right, le-or-lt}
use Rattle.grid.specs.LayoutCall.{slot_space}
use Rattle.drawing.specs.Plain.{is_inside}
use Rattle.representation.specs.Arrays.{code_at}
use Rattle.representation.specs.LayoutEntries.{Inside}
use Rattle.representation.specs.Lent.{rect_of}
use Rattle.representation.specs.declared.rect.Rect.{Rect}
use Rattle.canvas.specs.declared.Rules.{Rules}
use Rattle.canvas.specs.Painting.{Drawn, rule_byte, ended}

-- ---- a part that is filled
module _ (xs ys : List ℕ) (a k w : ℕ) (filled : ys ≡ replicate (length (take k (drop a xs))) w) (room : a + k ≤ length xs) where
  written : ys ≡ replicate k w
  written = let e : k ≤ length (drop a xs) = omega (arith, length-drop a xs) in rw (length-take-le k (drop a xs) e) at filled

  abbrev after : List ℕ
  after = put_mid a k xs ys

  kept-below : (n : ℕ) → n < a → get_or after n 0 ≡ get_or xs n 0
  kept-below n h = search (rules, places)

  put_within : (n : ℕ) → a ≤ n → n < a + k → get_or after n 0 ≡ w
  put_within n h u = rw written (let e : n - a < k = omega arith in search (rules, places))

  kept-above : (n : ℕ) → a + k ≤ n → get_or after n 0 ≡ get_or xs n 0
  kept-above n h = rw written (search (rules, places))

-- one line between two columns
abbrev inner_from : ℕ → ℕ → ℕ
inner_from y left = y * 128 + (left + 1)

abbrev inner_count : ℕ → ℕ → ℕ → ℕ
inner_count y left right = y * 128 + right - inner_from y left

-- its slots before they are filled, and the canvas with others in their place
abbrev inner_slots : List ℕ → ℕ → ℕ → ℕ → List ℕ
inner_slots xs y left right = take (inner_count y left right) (drop (inner_from y left) xs)

abbrev with_inner : List ℕ → ℕ → ℕ → ℕ → List ℕ → List ℕ
with_inner xs y left right ys = put_mid (inner_from y left) (inner_count y left right) xs ys

module _ (xs ys : List ℕ) (y left right w : ℕ) (space : slot_space ≤ length xs) (low : y < 128) (across : left < right) (near : right < 128)
    (filled : ys ≡ replicate (length (inner_slots xs y left right)) w) where
  abbrev from : ℕ
  from = inner_from y left

  abbrev count : ℕ
  count = inner_count y left right

  room : from + count ≤ length xs
  room = omega arith

  line-filled : (j i : ℕ) → j < 128 → i < 128 → code_at (with_inner xs y left right ys) j i ≡ cond (eqb j y && is_inside left right i) w (code_at xs j i)
  line-filled j i hj hi = go (eqb j y) (ltb left i) (ltb i right) refl refl refl where
    go : (a b c : Bool) → eqb j y ≡ a → ltb left i ≡ b → ltb i right ≡ c → code_at (with_inner xs y left right ys) j i ≡ cond (a && (b && c)) w (code_at xs j i)
    go true true true e f g =
        let q = eqb-true j y e in
        let l = ltb-true left i f in
        let r = ltb-true i right g in put_within xs ys from count w filled room (j * 128 + i) (omega arith) (omega arith)
    go true true false e f g =
        let q = eqb-true j y e in
        let r = ltb-false i right g in kept-above xs ys from count w filled room (j * 128 + i) (omega arith)
    go true false c e f g =
        let q = eqb-true j y e in
        let l = ltb-false left i f in kept-below xs ys from count w filled room (j * 128 + i) (omega arith)
    go false b c e f g = ⊎_elim
        (λ (h : y ≤ j). let ne = eqb-false j y e in kept-above xs ys from count w filled room (j * 128 + i) (omega arith))
        (λ (h : j < y). kept-below xs ys from count w filled room (j * 128 + i) (omega arith))
        (le-or-lt y j)

  line-kept : slot_space ≤ length (with_inner xs y left right ys)
  line-kept = let e = length-replicate count w in let f = written xs ys from count w filled room in simp (length-append, length-take, length-drop) (omega (arith, ap length f))

-- ---- both lines of a cell
module _ (rect : Rect) (rules : Rules) (canvas first second : List ℕ) (above below : ℕ) (space : slot_space ≤ length canvas) (r : Inside 128 128 (rect_of rect)) where
  abbrev one : List ℕ
  one = with_inner canvas rect.top rect.left.0 rect.right.0 first

  -- both bytes are those of their lines
  end-slot : above ≡ rule_byte rules rect.top → below ≡ rule_byte rules rect.bottom → (t : Bool) (j old : ℕ)
      → cond (eqb j rect.bottom && t) below (cond (eqb j rect.top && t) above old) ≡ cond ((eqb j rect.top || eqb j rect.bottom) && t) (rule_byte rules j) old
  end-slot e f t j old = go (eqb j rect.top) (eqb j rect.bottom) t refl refl where
    go : (a b t : Bool) → eqb j rect.top ≡ a → eqb j rect.bottom ≡ b → cond (b && t) below (cond (a && t) above old) ≡ cond ((a || b) && t) (rule_byte rules j) old
    go a true true p q = f ∙ ap (rule_byte rules) (sym (eqb-true j rect.bottom q)) ∙ rw (or_right a {u = true} refl)
    go true false true p q = e ∙ ap (rule_byte rules) (sym (eqb-true j rect.top p))
    go false false true p q = refl
    go a b false p q = rw (and-false (a || b), and-false a, and-false b)

  pub ends-drawn : above ≡ rule_byte rules rect.top → below ≡ rule_byte rules rect.bottom
      → first ≡ replicate (length (inner_slots canvas rect.top rect.left.0 rect.right.0)) above
      → second ≡ replicate (length (inner_slots one rect.bottom rect.left.0 rect.right.0)) below
      → Drawn (ended rules (rect_of rect)) canvas (with_inner one rect.bottom rect.left.0 rect.right.0 second)
  unfolding ended
  ends-drawn e f upper lower =
      let low : rect.top < 128 = omega (arith, r.down, r.tall) in
      let kept = line-kept canvas first rect.top rect.left.0 rect.right.0 above space low r.across r.wide upper in
      record {
        slot = λ j i hj hi.
            line-filled one second rect.bottom rect.left.0 rect.right.0 below kept r.tall r.across r.wide lower j i hj hi
            ∙ ap (cond (eqb j rect.bottom && is_inside rect.left.0 rect.right.0 i) below)
            (line-filled canvas first rect.top rect.left.0 rect.right.0 above space low r.across r.wide upper j i hj hi)
            ∙ end-slot e f (is_inside rect.left.0 rect.right.0 i) j (code_at canvas j i);
      }
