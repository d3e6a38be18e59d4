-- Laws of marks at the rows or columns in which cells start.
use Prim.Native.Nat.{ℕ, zero, suc, ◌+◌, ◌-◌, ◌*◌, ◌≤◌, ◌<◌}
use mathlib.Core.Path.{◌≡◌, refl, sym, ap, ◌∙◌}
use mathlib.Core.Bool.{Bool, true, false, ◌&&◌, ◌||◌, cond}
use mathlib.Core.List.{List, [], ◌∷◌, ◌++◌, Memᴰ}
use native.Mathlib.Omega.{arith}
use native.Mathlib.Nat.{add-zero}
use native.Mathlib.Numerals.{add-one}
use lib.Dec.{eqb}
use lib.ListN.{length, get_or, drop, set, replicate, length-set, length-replicate, get_or-replicate, length-map}
use lib.Seq.{get_or-drop, drop-drop, get_or-set_same, get_or-set_other}
use borrow.Author.Tests.{eqb-true, eqb-false}
use Rattle.seq.specs.Lists.{up_to, all, any}
use Rattle.seq.proofs.Walks.{eqb_same, any_append, or-false}
use Rattle.seq.proofs.Ranges.{range-mem}
use Rattle.seq.proofs.Searches.{all-mem, mem-all}
use Rattle.seq.proofs.Tests.{bool_same}
use Rattle.grid.specs.Values.{TableCell}
use Rattle.grid.specs.Flat.{code_section, every_nth, cells_of_array}
use Rattle.drawing.specs.GridRules.{all_start}
use Rattle.representation.specs.Edges.{Marks}
use Rattle.representation.proofs.TableInLaws.{columns-length}
use Rattle.table_checks.specs.Entries.{entries}
use Rattle.table_checks.specs.Places.{places_of, grid_in, Laid}
use Rattle.table_checks.specs.Skyline.{all_at}

-- ---- marking
pub no-marks : (from : ℕ) (cells : List ℕ) → Marks (entries from 5 0 cells) (replicate 128 0)
unfolding every_nth any
no-marks from cells = record { room = length-replicate {A = ℕ} 128 0; marked = λ x h. get_or-replicate {A = ℕ} 128 x 0 0 h }

entries-more : (k : ℕ) (array : List ℕ) → every_nth 5 (suc k) array ≡ every_nth 5 k array ++ get_or array (5 * k) 0 ∷ []
unfolding every_nth
entries-more zero array = refl
entries-more (suc k) array =
    let e : 5 * suc k ≡ 5 + 5 * k = omega arith in
    rw (e, ← get_or-drop 5 array (5 * k) 0) (ap (λ (l : List ℕ). get_or array 0 0 ∷ l) (entries-more k (drop 5 array)))

any-more : (x k from : ℕ) (cells : List ℕ)
    → any (eqb x) (entries from 5 (k + 1) cells) ≡ any (eqb x) (entries from 5 k cells) || eqb x (get_or cells (5 * k + from) 0)
unfolding any
any-more x k from cells =
    let e : from + 5 * k ≡ 5 * k + from = omega arith in
    rw (add-one k, entries-more k (drop from cells), get_or-drop from cells (5 * k) 0, e)
    (any_append (eqb x) (entries from 5 k cells) (get_or cells (5 * k + from) 0 ∷ []) ∙ rw or-false)

mark-at : (marks : List ℕ) (a x : ℕ) → a < length marks → (t : Bool) → get_or marks x 0 ≡ cond t 1 0 → get_or (set marks a 1) x 0 ≡ cond (t || eqb x a) 1 0
mark-at marks a x h t e = go t e (eqb x a) refl where
  go : (t : Bool) → get_or marks x 0 ≡ cond t 1 0 → (u : Bool) → eqb x a ≡ u → get_or (set marks a 1) x 0 ≡ cond (t || eqb x a) 1 0
  go true e true f = rw (eqb-true x a f) (get_or-set_same marks a 1 0 h)
  go false e true f = rw f (ap (λ (x : ℕ). get_or (set marks a 1) x 0) (eqb-true x a f) ∙ get_or-set_same marks a 1 0 h)
  go true e false f = get_or-set_other marks a x 1 0 (eqb-false x a f) ∙ e
  go false e false f = rw f (get_or-set_other marks a x 1 0 (eqb-false x a f) ∙ e)

pub mark-more : (from k : ℕ) (cells marks : List ℕ) → Marks (entries from 5 k cells) marks → get_or cells (5 * k + from) 0 < 128
    → Marks (entries from 5 (k + 1) cells) (set marks (get_or cells (5 * k + from) 0) 1)
mark-more from k cells marks m h =
    let a = get_or cells (5 * k + from) 0 in
    record {
      room = length-set marks a 1 ∙ m.room;
      marked = λ x u. rw (any-more x k from cells) (mark-at marks a x (omega (arith, m.room)) (any (eqb x) (entries from 5 k cells)) (m.marked x u));
    }

pub start_small : (n k from : ℕ) (cells : List ℕ) → ((k : ℕ) → k < n → get_or cells (5 * k + from) 0 < 128) → k < n → get_or cells (5 * k + from) 0 < 128
start_small n k from cells small h = small k h

pub all-marked : (from n k : ℕ) (cells marks : List ℕ) → k ≤ n → n ≤ k → Marks (entries from 5 k cells) marks → Marks (entries from 5 n cells) marks
all-marked from n k cells marks low high m = let e : k ≡ n = omega arith in rw (← e) m

-- ---- a cell's row and column in the array
module _ (part : TableCell → ℕ) (i : ℕ)
    (part_at : (a : List ℕ) (lines : List (List ℕ)) →
    part (record { row = get_or a 0 0; column = get_or a 1 0; colspan = get_or a 2 0; rowspan = get_or a 3 0; lines = lines }) ≡ get_or a i 0) where
  any_part : (x n : ℕ) (cells : List ℕ) (lines : List (List ℕ))
      → any (eqb x) (entries i 5 n cells) ≡ any (λ (c : TableCell). eqb (part c) x) (cells_of_array n cells lines)
  unfolding cells_of_array every_nth any
  any_part x zero cells lines = refl
  any_part x (suc n) cells lines =
      let first : get_or (drop i cells) 0 0 ≡ get_or cells i 0 = get_or-drop i cells 0 0 ∙ rw (add-zero i) in
      let turned : eqb x (get_or cells i 0) ≡ eqb (get_or cells i 0) x = eqb_same x (get_or cells i 0) (get_or cells i 0) x sym sym in
      let swap : i + 5 ≡ 5 + i = omega arith in
      let next : drop 5 (drop i cells) ≡ drop i (drop 5 cells) = drop-drop 5 i cells ∙ rw swap (sym (drop-drop i 5 cells)) in
      rw (part_at cells _, first, next, turned, any_part x n (drop 5 cells) (drop (get_or cells 4 0) lines))

  -- all numbers below size are marked where a cell starts at each
  starts-told : (n size : ℕ) (cells marks : List ℕ) → size ≤ 128 → Marks (entries i 5 n cells) marks
      → all_at marks 0 size 1 ≡ all (λ x. any (λ (c : TableCell). eqb (part c) x) (places_of n cells)) (up_to size)
  unfolding all_at
  starts-told n size cells marks fits m =
      let e : size - 0 ≡ size = omega arith in
      rw e
      (all-agree (λ x. eqb (get_or marks x 0) 1) (λ x. any (λ (c : TableCell). eqb (part c) x) (places_of n cells)) (up_to size) (λ x l.
      marked-test (any (eqb x) (entries i 5 n cells)) (m.marked x (omega (arith, range-mem 0 size x l))) ∙ any_part x n cells [])) where
        all-agree : (test other : ℕ → Bool) (l : List ℕ) → ((x : ℕ) → Memᴰ x l → test x ≡ other x) → all test l ≡ all other l
        all-agree test other l same =
            bool_same (all test l) (all other l) (λ e. mem-all other l (λ x m. sym (same x m) ∙ all-mem test l e m))
            (λ e. mem-all test l (λ x m. same x m ∙ all-mem other l e m))

        marked-test : {n : ℕ} (t : Bool) → n ≡ cond t 1 0 → eqb n 1 ≡ t
        marked-test true e = rw e
        marked-test false e = rw e

module _ (columns n : ℕ) (sections cells : List ℕ) (laid : Laid columns n sections cells) where
  pub rows-small : (k : ℕ) → k < n → get_or cells (5 * k + 0) 0 < 128
  rows-small k h = rw (add-zero (5 * k)) (omega (arith, (laid.within k h).tall, (laid.within k h).low, laid.placed.low))

  pub start-told : (tops lefts : List ℕ) (a b : Bool) → Marks (entries 0 5 n cells) tops → Marks (entries 1 5 n cells) lefts
      → a ≡ all_at tops 0 (length sections) 1 → b ≡ all_at lefts 0 columns 1 → a && b ≡ all_start (grid_in columns n sections cells)
  unfolding all_start
  start-told tops lefts a b m l e f =
      rw (
        columns-length columns [],
        length-map sections code_section,
        e,
        f,
        starts-told (λ c. c.row) 0 (λ a lines. refl) n (length sections) cells tops (omega (arith, laid.placed.low)) m,
        starts-told (λ c. c.column) 1 (λ a lines. refl) n columns cells lefts (omega (arith, laid.placed.narrow)) l,
      )
