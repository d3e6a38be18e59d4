-- Sections that run Head, Body, Foot: the Head's rows are the first (`head-ends`), the Foot's the last (`foot-starts`), and the Foot
-- starts where the Head ends or below it (`head_first`).
use Prim.Native.Nat.{ℕ, zero, suc, ◌+◌, ◌-◌, ◌≤◌, ◌<◌}
use mathlib.Core.Path.{◌≡◌, refl, sym, ap, ◌∙◌}
use mathlib.Core.Bool.{Bool, true, false}
use mathlib.Core.Logic.{⊎_elim}
use mathlib.Core.List.{List, [], ◌∷◌, Memᴰ}
use native.Mathlib.Omega.{arith}
use native.Mathlib.Nat.{le_refl, le_trans, le_of_suc-le-suc}
use lib.Dec.{ltb}
use borrow.Author.Tests.{ltb-true, ltb-false}
use lib.ListN.{length, get_or}
use Rattle.seq.specs.Lists.{select, count, neighbours}
use Rattle.seq.proofs.Tests.{true-not-false, and_left, and_right, le-or-lt, bit}
use Rattle.seq.proofs.Searches.{count-cons, count_none, count-agree}
use Rattle.seq.proofs.Positions.{get_or-mem}
use Rattle.seq.proofs.Sorted.{sorted_tail}
use Rattle.grid.specs.declared.GridTableSection.{GridTableSection}
use Rattle.grid.specs.declared.GridTableSection.TheVariants.{Head, Body, Foot}
use Rattle.drawing.specs.GridRules.{is_head, is_foot, may_follow, same_section}

pub rank : GridTableSection → ℕ
rank Head = 0
rank Body = 1
rank Foot = 2

may-rank : (a b : GridTableSection) → may_follow a b ≡ true → rank a ≤ rank b
unfolding rank
may-rank Head Head e = omega arith
may-rank Head Body e = omega arith
may-rank Head Foot e = omega arith
may-rank Body Head e = absurd (true-not-false (sym e))
may-rank Body Body e = omega arith
may-rank Body Foot e = omega arith
may-rank Foot Head e = absurd (true-not-false (sym e))
may-rank Foot Body e = absurd (true-not-false (sym e))
may-rank Foot Foot e = omega arith

pub same_rank : (a b : GridTableSection) → same_section a b ≡ true → rank a ≡ rank b
same_rank a b e = omega (arith, may-rank a b (and_left (may_follow a b) (may_follow b a) e), may-rank b a (and_right (may_follow a b) (may_follow b a) e))

pub head-is : (s : GridTableSection) → rank s < 1 → s ≡ Head
unfolding rank
head-is Head e = refl
head-is Body e = absurd (omega arith)
head-is Foot e = absurd (omega arith)

pub body_is : (s : GridTableSection) → 1 ≤ rank s → rank s < 2 → s ≡ Body
unfolding rank
body_is Head e f = absurd (omega arith)
body_is Body e f = refl
body_is Foot e f = absurd (omega arith)

pub foot-is : (s : GridTableSection) → 2 ≤ rank s → s ≡ Foot
unfolding rank
foot-is Head e = absurd (omega arith)
foot-is Body e = absurd (omega arith)
foot-is Foot e = refl

rank-after : (s : GridTableSection) (ss : List GridTableSection) → neighbours may_follow (s ∷ ss) ≡ true → {r : GridTableSection} → Memᴰ r ss → rank s ≤ rank r
unfolding neighbours
rank-after s [] e {r = r} x'' = elim x'' [ ]
rank-after s (b ∷ ss) e (Memᴰ.head q) = rw q (may-rank s b (and_left (may_follow s b) (neighbours may_follow (b ∷ ss)) e))
rank-after s (b ∷ ss) e {r} (Memᴰ.tail m) =
    le_trans (may-rank s b (and_left (may_follow s b) (neighbours may_follow (b ∷ ss)) e)) (rank-after b ss (and_right (may_follow s b) (neighbours may_follow (b ∷ ss)) e) m)

-- the first n sections rank below k, the others do not
pub record Parted (k : ℕ) (ss : List GridTableSection) (n : ℕ) : Type 0 where
  pub within : n ≤ length ss
  pub above : (i : ℕ) → i < n → rank (get_or ss i Body) < k
  pub under : (i : ℕ) → n ≤ i → i < length ss → k ≤ rank (get_or ss i Body)

abbrev below : ℕ → GridTableSection → Bool
below k s = ltb (rank s) k

parted : (k : ℕ) (ss : List GridTableSection) → neighbours may_follow ss ≡ true → Parted k ss (count (below k) ss)
unfolding select
parted k [] e = record { within = le_refl 0; above = λ i u. absurd (omega arith); under = λ i u w. absurd (omega arith) }
parted k (s ∷ ss) e = go (below k s) refl (parted k ss (sorted_tail may_follow s ss e)) where
  count-is : {t : Bool} → below k s ≡ t → count (below k) (s ∷ ss) ≡ bit t + count (below k) ss
  count-is q = count-cons (below k) s ss ∙ ap (λ (t : Bool). bit t + count (below k) ss) q

  go : (t : Bool) → below k s ≡ t → Parted k ss (count (below k) ss) → Parted k (s ∷ ss) (count (below k) (s ∷ ss))
  go true q a = rw one_more (record { within = omega (arith, a.within); above = up; under = down }) where
    one_more : count (below k) (s ∷ ss) ≡ suc (count (below k) ss)
    one_more = omega (arith, count-is q)

    up : (i : ℕ) → i < suc (count (below k) ss) → rank (get_or (s ∷ ss) i Body) < k
    up zero u = ltb-true (rank s) k q
    up (suc i) u = a.above i (le_of_suc-le-suc u)

    down : (i : ℕ) → suc (count (below k) ss) ≤ i → i < suc (length ss) → k ≤ rank (get_or (s ∷ ss) i Body)
    down zero u w = absurd (omega arith)
    down (suc i) u w = a.under i (le_of_suc-le-suc u) (le_of_suc-le-suc w)
  go false q a = rw none (record { within = omega arith; above = λ i u. absurd (omega arith); under = down }) where
    low : {r : GridTableSection} → Memᴰ r ss → k ≤ rank r
    low m = le_trans (ltb-false (rank s) k q) (rank-after s ss e m)

    none : count (below k) (s ∷ ss) ≡ 0
    none = omega (arith, count-is q, count_none (below k) ss (λ r m h. omega (arith, ltb-true (rank r) k h, low m)))

    down : (i : ℕ) → 0 ≤ i → i < suc (length ss) → k ≤ rank (get_or (s ∷ ss) i Body)
    down zero u w = ltb-false (rank s) k q
    down (suc i) u w = low (get_or-mem ss i Body (le_of_suc-le-suc w))

abbrev pub heads : List GridTableSection → ℕ
heads ss = count is_head ss

-- the first row of the Foot
abbrev pub foot_at : List GridTableSection → ℕ
foot_at ss = length ss - count is_foot ss

head-below : (s : GridTableSection) → is_head s ≡ below 1 s
unfolding rank
head-below Head = refl
head-below Body = refl
head-below Foot = refl

foot-below : (ss : List GridTableSection) → count (below 2) ss + count is_foot ss ≡ length ss
unfolding rank select
foot-below [] = refl
foot-below (Head ∷ ss) = omega (arith, foot-below ss)
foot-below (Body ∷ ss) = omega (arith, foot-below ss)
foot-below (Foot ∷ ss) = omega (arith, foot-below ss)

module _ (ss : List GridTableSection) (run : neighbours may_follow ss ≡ true) where
  -- the rows above the Head's end are Head, those from there on are not
  pub head-ends : Parted 1 ss (heads ss)
  head-ends = rw (count-agree is_head (below 1) ss (λ s m. head-below s)) (parted 1 ss run)

  -- the rows from the Foot's start on are Foot, those above are not
  pub foot-starts : Parted 2 ss (foot_at ss)
  foot-starts = let e : foot_at ss ≡ count (below 2) ss = omega (arith, foot-below ss) in rw e (parted 2 ss run)

  -- the Foot, where there is one, starts at the Head's end or below it
  pub head_first : foot_at ss < length ss → heads ss ≤ foot_at ss
  head_first u =
      ⊎_elim (λ z. z)
      (λ z. absurd (omega (arith, head-ends.above (foot_at ss) z, foot-starts.under (foot_at ss) (le_refl _) u))) (le-or-lt (heads ss) (foot_at ss))
