-- The columns that all of a cell's lines show, line by line.
use Prim.Native.Nat.{ℕ, zero, suc, ◌+◌, ◌-◌, ◌≤◌, ◌<◌}
use mathlib.Core.Path.{◌≡◌, refl, sym, ap, ◌∙◌}
use mathlib.Core.Bool.{Bool, true, false, ◌&&◌, cond}
use mathlib.Core.Logic.{⊎_elim}
use mathlib.Core.List.{List}
use native.Mathlib.Omega.{arith}
use lib.Dec.{eqb}
use lib.ListN.{length, get_or, replicate, get_or-eq_default}
use borrow.Author.Tests.{eq-eqb, ne_eqb}
use Rattle.seq.specs.Lists.{range, up_to, all}
use Rattle.seq.proofs.Tests.{le-or-lt}
use Rattle.seq.proofs.Gathered.{all_more}
use Rattle.text.specs.Columns.{columns_from}
use Rattle.text.specs.Utf8.{char_indices, well_formed}
use Rattle.text.specs.Lines.{no_text}
use Rattle.drawing.specs.Plain.{Box}
use Rattle.cm.specs.Board.{lines_at}
use Rattle.cm.specs.Bears.{LettersOf}
use Rattle.cm.specs.declared.lettering.Lettering.{Lettering}
use Rattle.cm.specs.Hits.{shows_at, Hit, Hittable, HitLines}

-- on every list of boxes that the arrays hold
abbrev pub Counting : Lettering → (column from k i : ℕ) → List ℕ → Type 0
Counting l column from k i hits =
    (bs : List Box) → LettersOf l bs → k < length bs → HitLines column (lines_at bs k) from i hits

pub zeros-at : (n z : ℕ) → ◌≡◌ {A = ℕ} (get_or (replicate n 0) z 0) 0
zeros-at zero z = refl
zeros-at (suc n) zero = refl
zeros-at (suc n) (suc z) = zeros-at n z

module _ (l : Lettering) {column from k : ℕ} where
  pub hits-none : Counting l column from k 0 (replicate 128 0)
  unfolding all range
  hits-none bs L u =
      record {
        room = refl;
        few = λ z. omega (arith, zeros-at 128 z);
        left = λ z w. zeros-at 128 z;
        right = λ z w x. rw (zeros-at 128 z) refl;
      }

-- one more line
module _ (h i : ℕ) (few : h ≤ i) (shown : Bool) where
  counted-few : cond (eqb h i && shown) (i + 1) h ≤ i + 1
  counted-few = go (eqb h i && shown) where
    go : (t : Bool) → cond t (i + 1) h ≤ i + 1
    go true = omega arith
    go false = omega arith

  counted-all : eqb (cond (eqb h i && shown) (i + 1) h) (i + 1) ≡ eqb h i && shown
  counted-all = go (eqb h i && shown) where
    go : (t : Bool) → eqb (cond t (i + 1) h) (i + 1) ≡ t
    go true = eq-eqb (i + 1) (i + 1) refl
    go false = ne_eqb h (i + 1) (λ e. omega arith)

module _ (l : Lettering) {column from k i : ℕ} {hits : List ℕ} (s : Counting l column from k i hits)
    (line : List ℕ) (told : (bs : List Box) → LettersOf l bs → k < length bs → line ≡ get_or (lines_at bs k) i no_text) where
  pub hits_next : (hits' : List ℕ) → Hit column line from i hits hits' → Counting l column from k (i + 1) hits'
  hits_next hits' h bs L u =
      let t = s bs L u in
      record {
        room = h.room;
        few = few t;
        left = λ z w. h.left z w ∙ t.left z w;
        right = λ z w x.
            ap (λ (n : ℕ). eqb n (i + 1)) (h.right z w x) ∙ counted-all (get_or hits z 0) i (t.few z) (shows_at column line (z - from))
            ∙ ap (λ (b : Bool). b && shows_at column line (z - from)) (t.right z w x)
            ∙ ap (λ (l : List ℕ). all (λ j. shows_at column (get_or (lines_at bs k) j no_text) (z - from)) (up_to i) && shows_at column l (z - from)) (told bs L u)
            ∙ sym (all_more (λ j. shows_at column (get_or (lines_at bs k) j no_text) (z - from)) i);
      } where
        few : HitLines column (lines_at bs k) from i hits → (z : ℕ) → get_or hits' z 0 ≤ i + 1
        few t z =
            ⊎_elim (λ (w : 128 ≤ z). omega (arith, get_or-eq_default hits' 0 {n = z} (omega (arith, h.room))))
            (λ (w : z < 128).
            ⊎_elim (λ (x : from ≤ z). omega (arith, h.right z x w, counted-few (get_or hits z 0) i (t.few z) (shows_at column line (z - from))))
            (λ (x : z < from). omega (arith, h.left z x, t.few z)) (le-or-lt from z)) (le-or-lt 128 z)

  module _ (G : (bs : List Box) × LettersOf l bs × (k < length bs) × Hittable column from (lines_at bs k)) where
    pub line-short : length line ≤ 512
    line-short = rw (told G.0 G.1 G.2) (G.3.short i)

    pub line-well : well_formed line ≡ true
    line-well = rw (told G.0 G.1 G.2) (G.3.well i)

    pub line-ends : from + columns_from column (char_indices line) < 128
    line-ends = rw (told G.0 G.1 G.2) (G.3.inside i)
