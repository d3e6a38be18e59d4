-- The first sizes of an array, fitted to cells that lie in them (`fit-first`), and where their borders stand (`borders-stand`).
use Prim.Native.Nat.{ℕ, ◌+◌, ◌-◌, ◌≤◌, ◌<◌, max}
use mathlib.Core.Path.{◌≡◌, refl, ap, ◌∙◌}
use mathlib.Core.Bool.{Bool, true, false, cond}
use mathlib.Core.List.Memᴰ
use mathlib.Core.List.{List, [], ◌∷◌, Memᴰ}
use native.Mathlib.Omega.{arith}
use lib.Dec.{eqb}
use lib.ListN.{get_or, take, drop, set, replicate}
use lib.Seq.{take-take, take-set-lt, get_or-take}
use Rattle.seq.specs.Lists.{up_to}
use Rattle.seq.proofs.Prefixes.{take-replicate}
use Rattle.seq.proofs.Ranges.{range-mem}
use Rattle.grid.proofs.CutLaws.{drop-take}
use Rattle.drawing.specs.Sizes.{Need, raise_single, have, add_lack, in_turn, fit, offsets}
use Rattle.drawing.proofs.FitLaws.{Asks}
use Rattle.sizes.specs.Needs.{need_at, needs_in, Spanned}

module _ (count : ℕ) where
  raise-first : (sizes : List ℕ) (n : Need) → Asks count n → take count (raise_single sizes n) ≡ raise_single (take count sizes) n
  raise-first sizes n a = go (eqb n.to (n.from + 1)) where
    go : (t : Bool) → take count (cond t (set sizes n.from (max (get_or sizes n.from 0) n.size)) sizes)
        ≡ cond t (set (take count sizes) n.from (max (get_or (take count sizes) n.from 0) n.size)) (take count sizes)
    go true =
        rw (get_or-take count sizes n.from 0 (omega (arith, a.some, a.inside)))
        (take-set-lt count sizes n.from (max (get_or sizes n.from 0) n.size) (omega (arith, a.some, a.inside)))
    go false = refl

  have-first : (sizes : List ℕ) (n : Need) → Asks count n → have (take count sizes) n ≡ have sizes n
  have-first sizes n a =
      rw (drop-take n.from count sizes (omega (arith, a.some, a.inside)), take-take (n.to - n.from) (count - n.from) (drop n.from sizes) (omega (arith, a.inside))) refl

  lack-first : (sizes : List ℕ) (n : Need) → Asks count n → take count (add_lack sizes n) ≡ add_lack (take count sizes) n
  lack-first sizes n a =
      rw (have-first sizes n a, get_or-take count sizes (n.to - 1) 0 (omega (arith, a.some, a.inside)))
      (take-set-lt count sizes (n.to - 1) (get_or sizes (n.to - 1) 0 + (n.size - have sizes n)) (omega (arith, a.some, a.inside)))

  turns-first : (change : List ℕ → Need → List ℕ) → ((sizes : List ℕ) (n : Need) → Asks count n → take count (change sizes n) ≡ change (take count sizes) n)
      → (sizes : List ℕ) (ns : List Need) → ((n : Need) → Memᴰ n ns → Asks count n) → take count (in_turn change sizes ns) ≡ in_turn change (take count sizes) ns
  unfolding in_turn
  turns-first change first sizes [] asks = refl
  turns-first change first sizes (n ∷ ns) asks =
      turns-first change first (change sizes n) ns (λ m i. asks m (Memᴰ.tail i)) ∙ ap (λ (l : List ℕ). in_turn change l ns) (first sizes n (asks n (Memᴰ.head refl)))

  fit-first : (sizes : List ℕ) (ns : List Need) → ((n : Need) → Memᴰ n ns → Asks count n) → take count (fit sizes ns) ≡ fit (take count sizes) ns
  unfolding fit
  fit-first sizes ns asks =
      turns-first add_lack lack-first (in_turn raise_single sizes ns) ns asks ∙ ap (λ (l : List ℕ). in_turn add_lack l ns) (turns-first raise_single raise-first sizes ns asks)

-- ---- the borders of cells that lie in the first sizes
pub spanned-wider : {n from_at span_at : ℕ} {cells : List ℕ} {count : ℕ} → Spanned n from_at span_at cells count → count ≤ 127 → Spanned n from_at span_at cells 128
spanned-wider s few =
    record { few = s.few; room = s.room; early = s.early; some = s.some; inside = λ k h. omega (arith, s.inside k h) }

needs-ask : {n from_at span_at : ℕ} {cells : List ℕ} {count : ℕ} (sizes : List ℕ) → Spanned n from_at span_at cells count → (need : Need) → Memᴰ need (needs_in n from_at span_at cells sizes) → Asks count need
needs-ask {n} {from_at} {span_at} {cells} {count} sizes s need m =
    let (k, i, e) = Memᴰ.of_map (need_at from_at span_at cells sizes) (up_to n) m in
    let low : k < n = omega (arith, range-mem 0 n k i) in
    rw (← e) (record { some = omega (arith, s.some k low); inside = s.inside k low })

-- the offsets of the first sizes, after all were fitted
pub borders-stand : (n from_at span_at : ℕ) (cells sizes : List ℕ) (count : ℕ) (start first fitted at : List ℕ) → Spanned n from_at span_at cells count
    → take count start ≡ first → fitted ≡ fit start (needs_in n from_at span_at cells sizes) → take (count + 1) at ≡ offsets (take count fitted)
    → take (count + 1) at ≡ offsets (fit first (needs_in n from_at span_at cells sizes))
borders-stand n from_at span_at cells sizes count start first fitted at s f e g =
    g ∙ ap offsets (ap (take count) e ∙ fit-first count start (needs_in n from_at span_at cells sizes) (needs-ask sizes s) ∙ ap (λ (l : List ℕ). fit l (needs_in n from_at span_at cells sizes)) f)

-- heights start at 1
pub ones-first : (rows : ℕ) → rows ≤ 127 → take {A = ℕ} rows (replicate 128 1) ≡ replicate rows 1
ones-first rows few = take-replicate rows 128 1 (omega arith)
