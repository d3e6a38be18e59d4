-- Laws of the register: what adding an end leaves in it.
use Prim.Native.Nat.{ℕ, ◌+◌, ◌≤◌, ◌<◌}
use mathlib.Core.Path.{◌≡◌, sym, ap, ◌∙◌}
use mathlib.Core.Bool.{Bool, false, ◌&&◌, ◌||◌}
use mathlib.Core.List.{List, [], ◌∷◌, ◌++◌, map, map-append}
use mathlib.Core.Logic.{⊎_elim}
use native.Mathlib.Omega.{arith}
use native.Mathlib.Nat.{eq-or-lt_of_le, zero-add}
use lib.Dec.{eqb, leb, ltb}
use lib.ListN.{length, set, length-set}
use lib.Seq.{get_or-set_same, get_or-set_other}
use borrow.Author.Tests.{eqb-true, eqb-false, leb-true, ltb-false, not-false, eq-eqb, le-leb}
use Rattle.seq.specs.Lists.{up_to}
use Rattle.seq.proofs.Tests.{and_left, and_right, or-neither}
use Rattle.seq.proofs.FlatMaps.{map_same}
use Rattle.seq.proofs.Ranges.{range-mem}
use Rattle.seq.proofs.Gathered.{range-step}
use Rattle.grid.specs.Answer.{accept}
use Rattle.grid.specs.Limits.{max_register}
use Rattle.grid.proofs.ReadLaws.{passed-if}
use Rattle.sourcepos.specs.declared.CellLineEnd.{CellLineEnd}
use Rattle.sourcepos.specs.LineEndCalls.{register_room, Register, register_contradicts, end_at, ends_of, bad_end, end_too_large, add_answer, add_afterwards}

-- ---- an end that passed the tests of its numbers
pub good-numbers : (e : CellLineEnd) → bad_end e ≡ false → (e.line ≡ 0 → ⊥) × (e.start ≡ 0 → ⊥)
unfolding bad_end
good-numbers e h =
    let two = or-neither (eqb e.line 0 || eqb e.start 0) (ltb e.eol e.start) h in
    let one = or-neither (eqb e.line 0) (eqb e.start 0) two.0 in
    (eqb-false e.line 0 one.0, eqb-false e.start 0 one.1)

pub small-numbers : (e : CellLineEnd) → end_too_large e ≡ false → (e.line ≤ max_register) × (e.start ≤ max_register) × (e.eol ≤ max_register)
unfolding end_too_large
small-numbers e h =
    let two = or-neither (ltb max_register e.line || ltb max_register e.start) (ltb max_register e.eol) h in
    let one = or-neither (ltb max_register e.line) (ltb max_register e.start) two.0 in
    (ltb-false max_register e.line one.0, ltb-false max_register e.start one.1, ltb-false max_register e.eol two.1)

-- ---- arrays of the register's size, and a count within it
pub record Sized (g : Register) : Type 0 where
  pub lines : length g.lines ≡ register_room
  pub starts : length g.starts ≡ register_room
  pub eols : length g.eols ≡ register_room
  pub count : g.count ≤ register_room

pub register_contradicts-sized : (g : Register) → register_contradicts g ≡ false → Sized g
unfolding register_contradicts
register_contradicts-sized g e =
    let (l, s) : Bool × Bool = (eqb (length g.lines) register_room, eqb (length g.starts) register_room) in
    let (o, c) : Bool × Bool = (eqb (length g.eols) register_room, leb g.count register_room) in
    let four = not-false (l && s && o && c) e in
    let three = and_left (l && s && o) c four in
    let two = and_left (l && s) o three in
    record {
      lines = eqb-true (length g.lines) register_room (and_left l s two);
      starts = eqb-true (length g.starts) register_room (and_right l s two);
      eols = eqb-true (length g.eols) register_room (and_right (l && s) o three);
      count = leb-true g.count register_room (and_right (l && s && o) c four);
    }

pub sized-agrees : (g : Register) → Sized g → register_contradicts g ≡ false
unfolding register_contradicts
sized-agrees g z =
    rw (
      eq-eqb (length g.lines) register_room z.lines,
      eq-eqb (length g.starts) register_room z.starts,
      eq-eqb (length g.eols) register_room z.eols,
      le-leb g.count register_room z.count,
    )

pub below-room : (g : Register) → Sized g → (g.count ≡ register_room → ⊥) → g.count < register_room
below-room g z apart = ⊎_elim (λ (h : g.count ≡ register_room). absurd (apart h)) (λ (h : g.count < register_room). h) (eq-or-lt_of_le z.count)

-- what an accepted end has passed
pub record Added (g : Register) (e : CellLineEnd) (n : ℕ) : Type 0 where
  pub agrees : register_contradicts g ≡ false
  pub good : bad_end e ≡ false
  pub small : end_too_large e ≡ false
  pub room : g.count < register_room
  pub next : n ≡ g.count + 1

pub add_answer-added : (g : Register) (e : CellLineEnd) (n : ℕ) → add_answer g e ≡ accept n → Added g e n
unfolding add_answer
add_answer-added g e n q =
    let first = passed-if (register_contradicts g || bad_end e) 13 _ n q in
    let second = passed-if (end_too_large e) 2 _ n first.1 in
    let third = passed-if (eqb g.count register_room) 14 _ n second.1 in
    let neither = or-neither (register_contradicts g) (bad_end e) first.0 in
    let room = below-room g (register_contradicts-sized g neither.0) (eqb-false g.count register_room third.0) in
    let same : g.count + 1 ≡ n = cc in
    record { agrees = neither.0; good = neither.1; small = second.0; room = room; next = sym same }

-- ---- the register after an accepted end
module _ (g : Register) (e : CellLineEnd) (n : ℕ) (q : add_answer g e ≡ accept n) where
  abbrev pub one : Register
  one =
      record {
        count = n;
        lines = set g.lines g.count e.line;
        starts = set g.starts g.count e.start;
        eols = set g.eols g.count e.eol;
      }

  pub added-register : add_afterwards g e ≡ one
  unfolding add_afterwards
  added-register = rw q

  pub added-sized : Sized one
  added-sized =
      let passed = add_answer-added g e n q in
      let z = register_contradicts-sized g passed.agrees in
      record {
        lines = length-set g.lines g.count e.line ∙ z.lines;
        starts = length-set g.starts g.count e.start ∙ z.starts;
        eols = length-set g.eols g.count e.eol ∙ z.eols;
        count = omega (arith, passed.room, passed.next);
      }

  earlier : (i : ℕ) → i < g.count → end_at one i ≡ end_at g i
  earlier i h =
      let other : (i ≡ g.count → ⊥) = λ same. omega (arith, same, h) in
      rw (
        get_or-set_other g.lines g.count i e.line 0 other,
        get_or-set_other g.starts g.count i e.start 0 other,
        get_or-set_other g.eols g.count i e.eol 0 other,
      )

  newest : end_at one g.count ≡ e
  newest =
      let passed = add_answer-added g e n q in
      let z = register_contradicts-sized g passed.agrees in
      rw (
        get_or-set_same g.lines g.count e.line 0 (omega (arith, passed.room, z.lines)),
        get_or-set_same g.starts g.count e.start 0 (omega (arith, passed.room, z.starts)),
        get_or-set_same g.eols g.count e.eol 0 (omega (arith, passed.room, z.eols)),
      )

  pub added-ends : ends_of one ≡ ends_of g ++ e ∷ []
  unfolding ends_of
  added-ends =
      ap (λ (m : ℕ). map (end_at one) (up_to m)) (add_answer-added g e n q).next
      ∙ ap (map (end_at one)) (range-step 0 g.count)
      ∙ map-append (end_at one) (up_to g.count) ((0 + g.count) ∷ [])
      ∙ rw (zero-add g.count, newest) (ap (λ (l : List CellLineEnd). l ++ e ∷ []) (map_same (end_at one) (end_at g) (up_to g.count) (λ i m. earlier i (omega (arith, (range-mem 0 g.count i m).1)))))
