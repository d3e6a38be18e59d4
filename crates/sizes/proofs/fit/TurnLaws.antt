-- Laws of one need after the other. `fit` is opened here; others cite `fit-turns` and `fit-first`.
use Prim.Native.Nat.{ℕ, zero, suc, ◌+◌, ◌*◌, ◌-◌, ◌≤◌, ◌<◌, max}
use mathlib.Core.Path.{◌≡◌, refl, sym, ap, ◌∙◌}
use mathlib.Core.Bool.{true, false}
use mathlib.Core.List.{List, [], ◌∷◌, ◌++◌, map-append}
use native.Mathlib.Nat.{zero-add}
use native.Mathlib.Omega.{arith}
use lib.Dec.{eqb}
use lib.ListN.{length, get_or, take, drop, set, length-set}
use lib.Seq.{set-get_or}
use borrow.Author.Tests.{eq-eqb, ne_eqb}
use mir.Syntax.{w16, w64}
use mir.Val.{Fits}
use mir.Facts.{Fits-lt-pow}
use borrow.Author.Rules.{Fits-under}
use Rattle.seq.specs.Lists.{range, sum, up_to}
use Rattle.seq.proofs.Gathered.{range-step}
use Rattle.drawing.specs.Sizes.{Need, raise_single, have, add_lack, in_turn, fit}
use Rattle.sizes.specs.Needs.{need_at, needs_in, Spanned, EachAtMost}

-- ---- one need more
turns_more : (change : List ℕ → Need → List ℕ) (sizes : List ℕ) (ns : List Need) (n : Need) → in_turn change sizes (ns ++ n ∷ []) ≡ change (in_turn change sizes ns) n
unfolding in_turn
turns_more change sizes [] n = refl
turns_more change sizes (m ∷ ns) n = turns_more change (change sizes m) ns n

pub small-set : (most : ℕ) (l : List ℕ) (i v : ℕ) → EachAtMost most l → v ≤ most → EachAtMost most (set l i v)
small-set most [] i v h k j = h j
small-set most (a ∷ l) zero v h k zero = k
small-set most (a ∷ l) zero v h k (suc j) = h (suc j)
small-set most (a ∷ l) (suc i) v h k zero = h zero
small-set most (a ∷ l) (suc i) v h k (suc j) = small-set most l i v (λ n. h (suc n)) k j

pub need-small : {need : ℕ} → Fits w16 need → need ≤ 65535
need-small fits = omega (arith, Fits-lt-pow fits)

module _ (cells : List ℕ) (n from_at span_at : ℕ) (needs sizes₀ : List ℕ) where
  abbrev need : ℕ → Need
  need k = need_at from_at span_at cells needs k

  needs-more : (k : ℕ) → needs_in (k + 1) from_at span_at cells needs ≡ needs_in k from_at span_at cells needs ++ need k ∷ []
  needs-more k = rw (range-step 0 k, zero-add k) (map-append need (up_to k) (k ∷ []))

  -- the first k needs had their turn
  pub record Turning (change : List ℕ → Need → List ℕ) (most : ℕ) (sizes : List ℕ) (k : ℕ) : Type 0 where
    pub spanned : Spanned n from_at span_at cells 128
    pub need_room : n ≤ length needs
    pub turned : sizes ≡ in_turn change sizes₀ (needs_in k from_at span_at cells needs)
    pub room : length sizes ≡ 128
    pub small : EachAtMost most sizes

  pub none-turned : {change : List ℕ → Need → List ℕ} → Spanned n from_at span_at cells 128 × (n ≤ length needs) → (length sizes₀ ≡ 128) × EachAtMost 65535 sizes₀ → Turning change 65535 sizes₀ 0
  unfolding in_turn range
  none-turned given start = record { spanned = given.0; need_room = given.1; turned = refl; room = start.0; small = start.1 }

  module _ {change : List ℕ → Need → List ℕ} {most : ℕ} {sizes : List ℕ} {k : ℕ} (t : Turning change most sizes k) where
    one-turned : {most' : ℕ} {sizes' : List ℕ} → sizes' ≡ change sizes (need k) → length sizes' ≡ length sizes → EachAtMost most' sizes' → Turning change most' sizes' (k + 1)
    one-turned e same small =
        record {
          spanned = t.spanned;
          need_room = t.need_room;
          turned = e ∙ ap (λ (l : List ℕ). change l (need k)) t.turned ∙ sym (ap (in_turn change sizes₀) (needs-more k) ∙ turns_more change sizes₀ (needs_in k from_at span_at cells needs) (need k));
          room = same ∙ t.room;
          small = small;
        }

    module _ (h : k < n) where
      pub first-inside : get_or cells (5 * k + from_at) 0 < 128
      first-inside = omega (arith, t.spanned.some k h, t.spanned.inside k h)

  -- ---- raised
  module _ {sizes : List ℕ} {k : ℕ} (t : Turning raise_single 65535 sizes k) where
    abbrev from : ℕ
    from = get_or cells (5 * k + from_at) 0

    pub single-raised : {sizes' : List ℕ} {size : ℕ} → get_or cells (5 * k + span_at) 0 ≡ 1 → Fits w16 (get_or needs k 0) → size ≡ max (get_or sizes from 0) (get_or needs k 0) → sizes' ≡ set sizes from size
        → Turning raise_single 65535 sizes' (k + 1)
    single-raised {size = size} one fits is e =
        let single : eqb (from + get_or cells (5 * k + span_at) 0) (from + 1) ≡ true = eq-eqb (from + get_or cells (5 * k + span_at) 0) (from + 1) (omega arith) in
        one-turned t (e ∙ rw (single, is)) (ap length e ∙ length-set sizes from size) (rw e (small-set 65535 sizes from size t.small (omega (arith, t.small from, need-small fits))))

    pub none-raised : {sizes' : List ℕ} → (get_or cells (5 * k + span_at) 0 ≡ 1 → ⊥) → sizes' ≡ sizes → Turning raise_single 65535 sizes' (k + 1)
    none-raised more e =
        let several : eqb (from + get_or cells (5 * k + span_at) 0) (from + 1) ≡ false = ne_eqb (from + get_or cells (5 * k + span_at) 0) (from + 1) (λ z. more (omega arith)) in
        one-turned t (e ∙ rw several) (ap length e) (rw e t.small)

  -- ---- grown
  module _ {sizes : List ℕ} {k : ℕ} (t : Turning add_lack (65535 * (k + 1)) sizes k) (h : k < n) where
    abbrev first : ℕ
    first = get_or cells (5 * k + from_at) 0

    abbrev span : ℕ
    span = get_or cells (5 * k + span_at) 0

    pub last-inside : first + span - 1 < 128
    last-inside = omega (arith, t.spanned.inside k h)

    module _ {total : ℕ} (told : (total ≡ sum (take span (drop first sizes))) × (total ≤ 65535 * 1025 * 128)) where
      has : have sizes (need k) ≡ total + span - 1
      has =
          let e : first + span - first ≡ span = omega arith in
          rw (e, ← told.0) (omega (arith, t.spanned.some k h))

      pub no-lack : {sizes' : List ℕ} → get_or needs k 0 ≤ total + span - 1 → sizes' ≡ sizes → Turning add_lack (65535 * (k + 1 + 1)) sizes' (k + 1)
      no-lack enough e =
          let none : get_or sizes (first + span - 1) 0 + (get_or needs k 0 - have sizes (need k)) ≡ get_or sizes (first + span - 1) 0 = omega (arith, has) in
          one-turned t (e ∙ sym (ap (set sizes (first + span - 1)) none ∙ set-get_or sizes (first + span - 1) 0)) (ap length e)
          (rw e (λ i. omega (arith, t.small i)))

      module _ (fits : Fits w16 (get_or needs k 0)) where
        pub some-lack : {sizes' : List ℕ} → sizes' ≡ set sizes (first + span - 1) (get_or sizes (first + span - 1) 0 + (get_or needs k 0 - (total + span - 1)))
            → Turning add_lack (65535 * (k + 1 + 1)) sizes' (k + 1)
        some-lack e =
            let last = first + span - 1 in
            let size = get_or sizes last 0 + (get_or needs k 0 - (total + span - 1)) in
            one-turned t (e ∙ ap (λ (n : ℕ). set sizes last (get_or sizes last 0 + (get_or needs k 0 - n))) (sym has)) (ap length e ∙ length-set sizes last size)
            (rw e (small-set (65535 * (k + 1 + 1)) sizes last size (λ i. omega (arith, t.small i)) (omega (arith, t.small last, need-small fits))))

-- ---- both loops
pub fit-turns : (sizes raised grown : List ℕ) (ns : List Need) → raised ≡ in_turn raise_single sizes ns → grown ≡ in_turn add_lack raised ns → grown ≡ fit sizes ns
unfolding fit
fit-turns sizes raised grown ns e f = f ∙ ap (λ (l : List ℕ). in_turn add_lack l ns) e
