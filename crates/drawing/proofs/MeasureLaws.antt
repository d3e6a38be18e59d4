-- Columns and the measure with each tab counted as 4: a text takes no more (`columns-measure`), and no line of a cell has more than
-- `widest` (`widest-measure`).
use Prim.Native.Nat.{ℕ, zero, suc, ◌+◌, ◌≤◌}
use mathlib.Core.Path.{◌≡◌, sym, ap, ◌∙◌}
use mathlib.Core.Bool.{true, false}
use mathlib.Core.Logic.{⊎_elim}
use mathlib.Core.List.{List, [], ◌∷◌, map}
use native.Mathlib.Omega.{arith}
use lib.Dec.{eqb}
use borrow.Author.Tests.{eqb-true, eqb-false, eq-eqb, ne_eqb}
use lib.ListN.{get_or}
use Rattle.seq.specs.Lists.{sum, largest}
use Rattle.seq.proofs.Tests.{bool_cases}
use Rattle.text.specs.Characters.{tab, span}
use Rattle.text.specs.Utf8.{CharIndex, chars_from, char_indices}
use Rattle.text.specs.Columns.{columns_from}
use Rattle.text.specs.Lines.{no_text}
use Rattle.text.proofs.CharactersLaws.{span-tab, span-other, tab-four-columns-at-most}
use Rattle.drawing.specs.Sizes.{measure, widest}

-- a tab measures 4, another character its columns
measure-tab : (x : CharIndex) → x.value ≡ tab → measure x ≡ 4
measure-tab x e = rw (eq-eqb x.value tab e)

measure-other : (c : ℕ) (x : CharIndex) → (x.value ≡ tab → ⊥) → measure x ≡ span c x.value
measure-other c x h = rw (ne_eqb x.value tab h) (sym (span-other c x.value h))

span-measure : (c : ℕ) (x : CharIndex) → span c x.value ≤ measure x
span-measure c x =
    ⊎_elim (λ (e : eqb x.value tab ≡ true). at-tab (eqb-true x.value tab e)) (λ (e : eqb x.value tab ≡ false). omega (arith, measure-other c x (eqb-false x.value tab e)))
    (bool_cases (eqb x.value tab)) where
      at-tab : x.value ≡ tab → span c x.value ≤ measure x
      at-tab e = omega (arith, measure-tab x e, ap (span c) e ∙ span-tab c, tab-four-columns-at-most c)

pub columns-measure : (c : ℕ) (cs : List CharIndex) → columns_from c cs ≤ sum (map measure cs)
unfolding columns_from sum
columns-measure c [] = omega arith
columns-measure c (x ∷ cs) = omega (arith, span-measure c x, columns-measure (c + span c x.value) cs)

pub widest-measure : (ls : List (List ℕ)) (i : ℕ) → sum (map measure (char_indices (get_or ls i no_text))) ≤ widest ls
unfolding widest largest sum chars_from
widest-measure [] i = omega arith
widest-measure (l ∷ ls) zero = omega arith
widest-measure (l ∷ ls) (suc i) = omega (arith, widest-measure ls i)
