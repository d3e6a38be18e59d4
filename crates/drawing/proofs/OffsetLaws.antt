-- The offsets of sizes: one more than there are sizes, rising (`offsets-rise`, `offsets-step`), what lies between two of them
-- (`offsets-have`), a list that can only be they (`offsets-only`); of sizes that are at least 1, in which order places stand
-- (`offset_up` to `offset-ltb`).
use Prim.Native.Nat.{ℕ, zero, suc, ◌+◌, ◌-◌, ◌≤◌, ◌<◌}
use mathlib.Core.Path.{◌≡◌, refl, ap, subst, ◌∙◌}
use mathlib.Core.Bool.{true}
use mathlib.Core.Logic.{⊎_elim}
use mathlib.Core.List.{List, [], ◌∷◌, Memᴰ}
use native.Mathlib.Omega.{arith}
use native.Mathlib.Nat.{le_refl, le_of_suc-le-suc, eq-or-lt_of_le}
use lib.Dec.{leb, ltb}
use borrow.Author.Tests.{lt-ltb, le-leb, leb-true, ltb-true}
use lib.ListN.{length, get_or, take, drop}
use lib.Seq.{drop-cons}
use Rattle.seq.specs.Lists.{sum, count, last_or, neighbours}
use Rattle.seq.proofs.Tests.{bool_same, le-or-lt, and_intro}
use Rattle.seq.proofs.Sorted.{sorted-same}
use Rattle.seq.proofs.Rising.{rising-strict, rising-position, position_at}
use Rattle.grid.specs.Layout.{index_of}
use Rattle.drawing.specs.Sizes.{Need, have, offsets_from, offsets}

pub offsets-length : (a : ℕ) (ws : List ℕ) → length (offsets_from a ws) ≡ suc (length ws)
unfolding offsets_from
offsets-length a [] = refl
offsets-length a (w ∷ ws) = ap suc (offsets-length (a + w + 1) ws)

pub offsets-zero : (a : ℕ) (ws : List ℕ) → get_or (offsets_from a ws) 0 0 ≡ a
unfolding offsets_from
offsets-zero a [] = refl
offsets-zero a (w ∷ ws) = refl

pub offsets-step : (a : ℕ) (ws : List ℕ) (j : ℕ) → j < length ws → get_or (offsets_from a ws) (suc j) 0 ≡ get_or (offsets_from a ws) j 0 + get_or ws j 0 + 1
unfolding offsets_from
offsets-step a [] j h = absurd (omega arith)
offsets-step a (w ∷ ws) zero h = offsets-zero (a + w + 1) ws
offsets-step a (w ∷ ws) (suc j) h = offsets-step (a + w + 1) ws j (le_of_suc-le-suc h)

pub offsets-last : (a : ℕ) (ws : List ℕ) (d : ℕ) → last_or (offsets_from a ws) d ≡ get_or (offsets_from a ws) (length ws) 0
unfolding offsets_from last_or
offsets-last a [] d = refl
offsets-last a (w ∷ ws) d = offsets-last (a + w + 1) ws a

pub offsets-rise : (a : ℕ) (ws : List ℕ) → neighbours ltb (offsets_from a ws) ≡ true
unfolding offsets_from neighbours
offsets-rise a [] = refl
offsets-rise a (w ∷ ws) = go ws (offsets-rise (a + w + 1) ws) where
  go : (ws : List ℕ) → neighbours ltb (offsets_from (a + w + 1) ws) ≡ true → neighbours ltb (a ∷ offsets_from (a + w + 1) ws) ≡ true
  go [] later = and_intro (lt-ltb a (a + w + 1) (omega arith)) refl
  go (u ∷ ws) later = and_intro (lt-ltb a (a + w + 1) (omega arith)) later

-- from line lo to line lo + k: the sizes between, and one line each
offsets-span : (a : ℕ) (ws : List ℕ) (lo k : ℕ) → lo + k ≤ length ws
    → get_or (offsets_from a ws) (lo + k) 0 ≡ get_or (offsets_from a ws) lo 0 + sum (take k (drop lo ws)) + k
unfolding sum
offsets-span a ws lo zero h = let e : lo + 0 ≡ lo = omega arith in rw e (omega arith)
offsets-span a ws lo (suc k) h =
    let e : lo + suc k ≡ suc lo + k = omega arith in
    rw (e, drop-cons ws lo 0 (omega arith)) (omega (arith, offsets-span a ws (suc lo) k (omega arith), offsets-step a ws lo (omega arith)))

-- what lies between two lines is their distance less 1
pub offsets-have : (ws : List ℕ) (n : Need) → n.from < n.to → n.to ≤ length ws → get_or (offsets ws) n.to 0 ≡ suc (get_or (offsets ws) n.from 0 + have ws n)
offsets-have ws n u v =
    let e : n.from + (n.to - n.from) ≡ n.to = omega arith in
    let s = offsets-span 0 ws n.from (n.to - n.from) (omega arith) in
    omega (arith, rw e at s)

module _ (ws : List ℕ) (wide : (j : ℕ) → j < length ws → 1 ≤ get_or ws j 0) where
  abbrev offset : ℕ → ℕ
  offset j = get_or (offsets ws) j 0

  pub offset_up : (j i : ℕ) → i < j → j ≤ length ws → offset i + 2 ≤ offset j
  offset_up zero i u v = absurd (omega arith)
  offset_up (suc j) i u v =
      let s = offsets-step 0 ws j v in
      let w = wide j v in
      ⊎_elim (λ (e : i ≡ j). rw e (omega arith)) (λ k. omega (arith, offset_up j i k (omega arith))) (eq-or-lt_of_le (le_of_suc-le-suc u))

  pub offset-le : (i j : ℕ) → i ≤ j → j ≤ length ws → offset i ≤ offset j
  offset-le i j u v = ⊎_elim (λ (e : i ≡ j). rw e (le_refl _)) (λ k. omega (arith, offset_up j i k v)) (eq-or-lt_of_le u)

  -- lines in their order, backwards
  pub offset-lt : (i j : ℕ) → i ≤ length ws → offset i < offset j → i < j
  offset-lt i j u v = ⊎_elim (λ k. absurd (omega (arith, offset-le j i k u))) (λ k. k) (le-or-lt j i)

  pub offset-same : (i j : ℕ) → i ≤ length ws → j ≤ length ws → offset i ≡ offset j → i ≡ j
  offset-same i j u v e =
      ⊎_elim (λ k. ⊎_elim (λ (q : i ≡ j). q) (λ l. absurd (omega (arith, offset_up j i l v))) (eq-or-lt_of_le k)) (λ k. absurd (omega (arith, offset_up i j k u))) (le-or-lt i j)

  -- the column that a offset-place stands in
  pub offset-place : (n x : ℕ) → n ≤ length ws → x < offset n → (j : ℕ) × (j < n) × (offset j ≤ x) × (x < offset (suc j))
  offset-place zero x u v = absurd (omega (arith, offsets-zero 0 ws))
  offset-place (suc n) x u v = ⊎_elim (λ k. (n, le_refl _, k, v)) (λ k. let r = offset-place n x (omega arith) k in (r.0, omega (arith, r.1), r.2, r.3)) (le-or-lt (offset n) x)

  -- a offset-place between line r and the next is on the same side of line i as r is of i
  module _ (r y : ℕ) (inside : suc r ≤ length ws) (low : offset r ≤ y) (high : y < offset (suc r)) where
    pub offset-leb : (i : ℕ) → i ≤ length ws → leb (offset i) y ≡ leb i r
    offset-leb i u =
        bool_same (leb (offset i) y) (leb i r) (λ e. le-leb i r (omega (arith, offset-lt i (suc r) u (omega (arith, leb-true (offset i) y e)))))
        (λ e. le-leb (offset i) y (omega (arith, offset-le i r (leb-true i r e) (omega arith))))

    pub offset-ltb : (i : ℕ) → i ≤ length ws → ltb y (offset i) ≡ ltb r i
    offset-ltb i u =
        bool_same (ltb y (offset i)) (ltb r i) (λ e. lt-ltb r i (offset-lt r i (omega arith) (omega (arith, ltb-true y (offset i) e))))
        (λ e. lt-ltb y (offset i) (omega (arith, offset-le (suc r) i (ltb-true r i e) u)))

-- ---- lists that are the offsets

-- a rising list whose numbers are offsets, and that has them all
pub offsets-only : (ls ws : List ℕ) → neighbours ltb ls ≡ true → ((x : ℕ) → Memᴰ x ls → Memᴰ x (offsets ws))
    → ((j : ℕ) → j ≤ length ws → Memᴰ (get_or (offsets ws) j 0) ls) → ls ≡ offsets ws
offsets-only ls ws rise there all = sorted-same ltb rising-strict ls (offsets ws) rise (offsets-rise 0 ws) there back where
  back : (x : ℕ) → Memᴰ x (offsets ws) → Memᴰ x ls
  back x m =
      let p = rising-position (offsets ws) (offsets-rise 0 ws) m in
      subst (λ (z : ℕ). Memᴰ z ls) p.here (all (count (λ n. ltb n x) (offsets ws)) (omega (arith, p.inside, offsets-length 0 ws)))

-- the number of an offset
pub offsets-index : (ls ws : List ℕ) → ls ≡ offsets ws → (j : ℕ) → j ≤ length ws → index_of ls (get_or (offsets ws) j 0) ≡ j
unfolding index_of
offsets-index ls ws e j u = ap (λ (l : List ℕ). index_of l (get_or (offsets ws) j 0)) e ∙ position_at (offsets ws) (offsets-rise 0 ws) j (omega (arith, offsets-length 0 ws))
