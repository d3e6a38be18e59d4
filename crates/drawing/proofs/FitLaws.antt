-- Widths and heights: `fit` is known by two laws, and no other file opens it. `fit-met`: after it no size is below its start and every
-- need has its room (`fit-grows`, `fit-meets`). `fit_stays`: it leaves alone sizes in which every need has its room. So `fit-again`.
use Prim.Native.Nat.{ℕ, ◌+◌, ◌-◌, ◌≤◌, ◌<◌, max}
use mathlib.Core.Path.{◌≡◌, refl, ap, ◌∙◌}
use mathlib.Core.Bool.{Bool, true, false, cond}
use mathlib.Core.List.{List, [], ◌∷◌, Memᴰ}
use native.Mathlib.Omega.{arith}
use native.Mathlib.Nat.{le_trans}
use lib.Dec.{eqb}
use borrow.Author.Tests.{eqb-true}
use lib.ListN.{length, get_or, set}
use lib.Seq.{drop-cons, set-get_or}
use Rattle.seq.specs.Lists.{sum}
use Rattle.seq.proofs.Pointwise.{◌≼◌, pointwise-refl, pointwise-trans, pointwise-set, pointwise-take, pointwise-drop, pointwise-sum, pointwise-length}
use Rattle.seq.proofs.Sums.{sum-part-set}
use Rattle.drawing.specs.Sizes.{Need, raise_single, have, add_lack, in_turn, fit}

-- ---- after it every need has its room
have-grows : (n : Need) {a b : List ℕ} → a ≼ b → have a n ≤ have b n
have-grows n p = omega (arith, pointwise-sum (pointwise-take (n.to - n.from) (pointwise-drop n.from p)))

raise-grows : (ws : List ℕ) (n : Need) → ws ≼ raise_single ws n
raise-grows ws n = go (eqb n.to (n.from + 1)) where
  go : (t : Bool) → ws ≼ cond t (set ws n.from (max (get_or ws n.from 0) n.size)) ws
  go true = pointwise-set ws n.from _ (omega arith)
  go false = pointwise-refl ws

lack-grows : (ws : List ℕ) (n : Need) → ws ≼ add_lack ws n
lack-grows ws n = pointwise-set ws (n.to - 1) _ (omega arith)

lack-meets : (ws : List ℕ) (n : Need) → n.from < n.to → n.to ≤ length ws → n.size ≤ have (add_lack ws n) n
lack-meets ws n h k =
    let e : n.from + (n.to - 1 - n.from) ≡ n.to - 1 = omega arith in
    let s = sum-part-set ws n.from (n.to - n.from) (n.to - 1 - n.from) (n.size - have ws n) (omega arith) (omega arith) in
    omega (arith, rw e at s)

turns-grow : (ws : List ℕ) (ns : List Need) (f : List ℕ → Need → List ℕ) → ((l : List ℕ) (n : Need) → l ≼ f l n) → ws ≼ in_turn f ws ns
unfolding in_turn
turns-grow ws [] f g = pointwise-refl ws
turns-grow ws (n ∷ ns) f g = pointwise-trans (g ws n) (turns-grow (f ws n) ns f g)

pub fit-grows : (ws : List ℕ) (ns : List Need) → ws ≼ fit ws ns
unfolding fit
fit-grows ws ns = pointwise-trans (turns-grow ws ns raise_single raise-grows) (turns-grow _ ns add_lack lack-grows)

lacks-meet : {n : Need} (ws : List ℕ) {ns : List Need} → Memᴰ n ns → n.from < n.to → n.to ≤ length ws → n.size ≤ have (in_turn add_lack ws ns) n
unfolding in_turn
lacks-meet {n} ws (Memᴰ.head {x} {xs} q) h k =
    le_trans (lack-meets ws n h k) (rw (← q) (have-grows n (turns-grow (add_lack ws n) xs add_lack lack-grows)))
lacks-meet {n} ws (Memᴰ.tail {x} {xs} m) h k = lacks-meet (add_lack ws x) m h (omega (arith, pointwise-length (lack-grows ws x)))

-- each need has its room
pub fit-meets : (ws : List ℕ) {ns : List Need} {n : Need} → Memᴰ n ns → n.from < n.to → n.to ≤ length ws → n.size ≤ have (fit ws ns) n
unfolding fit
fit-meets ws {ns} m h k = lacks-meet _ m h (omega (arith, pointwise-length (turns-grow ws ns raise_single raise-grows)))

-- ---- where every need has its room it changes nothing

-- a need of some of so many columns, or rows
pub record Asks (count : ℕ) (n : Need) : Type 0 where
  pub some : n.from < n.to
  pub inside : n.to ≤ count

-- one that has its room
pub record Met (ws : List ℕ) (n : Need) : Type 0 where
  pub asks : Asks (length ws) n
  pub enough : n.size ≤ have ws n

-- what one column has
have-single : (ws : List ℕ) (n : Need) → n.to ≡ n.from + 1 → n.to ≤ length ws → have ws n ≡ get_or ws n.from 0
unfolding sum
have-single ws n e h =
    let one : n.to - n.from ≡ 1 = omega arith in
    rw (one, drop-cons ws n.from 0 (omega arith)) (omega arith)

raise-stays : (ws : List ℕ) (n : Need) → Met ws n → raise_single ws n ≡ ws
raise-stays ws n m = go (eqb n.to (n.from + 1)) refl where
  go : (t : Bool) → eqb n.to (n.from + 1) ≡ t → cond t (set ws n.from (max (get_or ws n.from 0) n.size)) ws ≡ ws
  go true e =
      let enough : max (get_or ws n.from 0) n.size ≡ get_or ws n.from 0 = omega (arith, m.enough, have-single ws n (eqb-true n.to (n.from + 1) e) m.asks.inside) in
      ap (set ws n.from) enough ∙ set-get_or ws n.from 0
  go false e = refl

lack-stays : (ws : List ℕ) (n : Need) → Met ws n → add_lack ws n ≡ ws
lack-stays ws n m =
    let none : get_or ws (n.to - 1) 0 + (n.size - have ws n) ≡ get_or ws (n.to - 1) 0 = omega (arith, m.enough) in
    ap (set ws (n.to - 1)) none ∙ set-get_or ws (n.to - 1) 0

turns-stay : (ws : List ℕ) (ns : List Need) (f : List ℕ → Need → List ℕ) → ((n : Need) → Memᴰ n ns → f ws n ≡ ws) → in_turn f ws ns ≡ ws
unfolding in_turn
turns-stay ws [] f h = refl
turns-stay ws (n ∷ ns) f h = rw (h n (Memᴰ.head refl)) (turns-stay ws ns f (λ m i. h m (Memᴰ.tail i)))

-- Where every need has its room, `fit` leaves the sizes alone.
pub fit_stays : (ws : List ℕ) (ns : List Need) → ((n : Need) → Memᴰ n ns → Met ws n) → fit ws ns ≡ ws
unfolding fit
fit_stays ws ns h =
    ap (λ (l : List ℕ). in_turn add_lack l ns) (turns-stay ws ns raise_single (λ n m. raise-stays ws n (h n m))) ∙ turns-stay ws ns add_lack (λ n m. lack-stays ws n (h n m))

module _ (ws : List ℕ) (ns : List Need) (asked : (n : Need) → Memᴰ n ns → Asks (length ws) n) where
  -- After `fit` no size is below its start, and every need has its room.
  pub fit-met : (ws ≼ fit ws ns) × ((n : Need) → Memᴰ n ns → Met (fit ws ns) n)
  fit-met = (
    fit-grows ws ns,
    λ n m.
        let a = asked n m in
        record {
          asks = record { some = a.some; inside = omega (arith, a.inside, pointwise-length (fit-grows ws ns)) };
          enough = fit-meets ws m a.some a.inside;
        },
  )

  -- So a second time changes nothing.
  pub fit-again : fit (fit ws ns) ns ≡ fit ws ns
  fit-again = fit_stays (fit ws ns) ns fit-met.1
