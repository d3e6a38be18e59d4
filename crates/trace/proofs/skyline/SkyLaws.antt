-- Laws of the skyline over its array.
use Prim.Native.Nat.{ℕ, zero, suc, ◌+◌, ◌-◌, ◌≤◌, ◌<◌, min}
use mathlib.Core.Path.{◌≡◌, refl, sym, ap, ◌∙◌}
use mathlib.Core.Bool.{Bool, true, false, cond}
use mathlib.Core.Logic.{⊎_elim}
use mathlib.Core.List.{List, [], ◌∷◌, ◌++◌, append_assoc}
use native.Mathlib.Nat.{eq-or-lt_of_le}
use native.Mathlib.Omega.{arith}
use lib.Dec.{eqb, ltb}
use lib.ListN.{length, get_or, take, drop, replicate, length-append, length-take, length-replicate, length-drop}
use lib.Seq.{length-take-le, take-take, take-append-add, get_or-drop}
use Rattle.grid.proofs.CutLaws.{drop-take}
use borrow.Rule.Slice.PartMut.{mid_of, put_mid, mid_len, Post-is}
use borrow.Author.Tests.{eqb-true, eq-eqb, ltb-false}
use Rattle.std.specs.Prelude.{Some, None}
use Rattle.std.specs.List.{list_all, position, position_or_len, fold}
use Rattle.std.proofs.lemmas.List.Quantifiers.{position-Some}
use Rattle.std.proofs.lemmas.List.Sums.{fails_before_first}
use Rattle.seq.specs.Lists.{all, range, smallest}
use Rattle.seq.proofs.ListsLaws.{drop-step}
use Rattle.seq.proofs.Tests.{le-or-lt, true-not-false}
use Rattle.grid.specs.Trace.{lowest, leftmost, stands_level, raise}
use Rattle.grid.proofs.RectangleLaws.{rect}
use Rattle.grid.proofs.SkylineLaws.{Corner, leftmost-corner}
use Rattle.trace.specs.Skylines.{sky_of, FirstFrom}
use Rattle.trace.specs.declared.skyline.Skyline.{Skyline}

pub sky-length : (s : Skyline) → length (sky_of s) ≡ s.used
sky-length s = length-take-le s.used s.bottoms (omega (arith, s.room, s.few))

-- ---- level
part-level : (sky : List ℕ) (level left count : ℕ) → left + count ≤ length sky
    → list_all (λ bottom. eqb bottom level) (take count (drop left sky)) ≡ all (λ x. eqb (get_or sky x 0) level) (range left count)
unfolding all range
part-level sky level left zero room = refl
part-level sky level left (suc count) room = rw (drop-step sky left (omega arith), part-level sky level (left + 1) count (omega arith))

pub level-part : (sky : List ℕ) (left right level : ℕ) → left ≤ right → right ≤ length sky
    → list_all (λ bottom. eqb bottom level) (take (right - left) (drop left sky)) ≡ stands_level sky (rect level left 0 right)
unfolding stands_level
level-part sky left right level low high = part-level sky level left (right - left) (omega arith)

-- ---- raising: of all bottoms, or of those in use
pub raise-used : (s : List ℕ) (used left right bottom : ℕ) → left ≤ right → right ≤ used → used ≤ length s
    → take used (take left s ++ (replicate (right - left) bottom ++ drop right s)) ≡ raise (rect 0 left bottom right) (take used s)
unfolding raise
raise-used s used left right bottom low high room =
    let front = take left s ++ replicate (right - left) bottom in
    let long : length front ≡ right = simp (length-append, length-replicate, length-take) (omega arith) in
    let there : used ≡ length front + (used - right) = omega arith in
    let first : take left (take used s) ≡ take left s = take-take left used s (omega arith) in
    let last : drop right (take used s) ≡ take (used - right) (drop right s) = drop-take right used s high in
    ap (take used) (sym (append_assoc (take left s) (replicate (right - left) bottom) (drop right s)))
    ∙ ap (λ (n : ℕ). take n (front ++ drop right s)) there ∙ take-append-add front (drop right s) (used - right)
    ∙ rw (first, last) refl

pub put-raised : (s : List ℕ) (used left right bottom : ℕ) (part : List ℕ) → left ≤ right → right ≤ used → used ≤ length s
    → part ≡ replicate (length (mid_of left (right - left) s)) bottom → take used (put_mid left (right - left) s part) ≡ raise (rect 0 left bottom right) (take used s)
put-raised s used left right bottom part low high room filled =
    let long : length (mid_of left (right - left) s) ≡ right - left = mid_len left right s (omega arith) in
    rw (filled, long, Post-is left right s low) (raise-used s used left right bottom low high room)

-- ---- the lowest
fold-lowest : (low b : ℕ) (bs : List ℕ) → fold min low (b ∷ bs) ≡ min low (smallest (b ∷ bs))
unfolding smallest
fold-lowest low b [] = refl
fold-lowest low b (c ∷ bs) = omega (arith, fold-lowest (min low b) c bs)

pub lowest-folded : (sky : List ℕ) → 0 < length sky → fold min (get_or sky 0 0) sky ≡ lowest sky
unfolding smallest
lowest-folded [] some = absurd (omega arith)
lowest-folded (b ∷ []) some = omega arith
lowest-folded (b ∷ c ∷ bs) some = omega (arith, fold-lowest b b (c ∷ bs))

-- ---- the first column at a level
nowhere : (test : ℕ → Bool) (l : List ℕ) → position test l ≡ None → length l ≤ position_or_len test l
nowhere test l missing = ltb-false (position_or_len test l) (length l) (go (ltb (position_or_len test l) (length l)) missing) where
  go : (t : Bool) → cond t (Some (position_or_len test l)) None ≡ None → t ≡ false
  go true e = absurd (let z : ◌≡◌ {A = ℕ} 0 1 = cc in omega arith)
  go false e = refl

module _ (sky : List ℕ) (from level : ℕ) (inside : from ≤ length sky) where
  pub first-here : (n : ℕ) → position (λ bottom. eqb bottom level) (drop from sky) ≡ Some n → FirstFrom sky from level (from + n)
  first-here n found =
      let (low, here, before) = position-Some (λ bottom. eqb bottom level) (drop from sky) n 0 found in
      record {
        low = omega arith;
        high = omega (arith, length-drop from sky);
        found = λ h. eqb-true (get_or sky (from + n) 0) level (sym (ap (λ b. eqb b level) (get_or-drop from sky n 0)) ∙ here);
        before = λ x after h e.
            true-not-false (sym (eq-eqb (get_or sky x 0) level e) ∙ ap (λ (k : ℕ). eqb (get_or sky k 0) level) (let q : x ≡ from + (x - from) = omega arith in q)
            ∙ sym (ap (λ b. eqb b level) (get_or-drop from sky (x - from) 0)) ∙ before (x - from) (omega arith));
      }

  pub first-nowhere : (used : ℕ) → length sky ≡ used → position (λ bottom. eqb bottom level) (drop from sky) ≡ None → FirstFrom sky from level used
  first-nowhere used long missing =
      record {
        low = omega arith;
        high = omega arith;
        found = λ h. absurd (omega arith);
        before = λ x after h e.
            true-not-false (sym (eq-eqb (get_or sky x 0) level e) ∙ ap (λ (k : ℕ). eqb (get_or sky k 0) level) (let q : x ≡ from + (x - from) = omega arith in q)
            ∙ sym (ap (λ b. eqb b level) (get_or-drop from sky (x - from) 0))
            ∙ fails_before_first (λ bottom. eqb bottom level) (drop from sky) (x - from) 0
            (omega (arith, length-drop from sky, nowhere (λ bottom. eqb bottom level) (drop from sky) missing)));
      }

-- ---- the next leftmost corner
module _ (s : Skyline) (from level left : ℕ) where
  -- the first column at a level that none stands below
  pub corner-at-level : ((x : ℕ) → x < s.used → level ≤ get_or (sky_of s) x 0) → ((x : ℕ) → x < from → level < get_or (sky_of s) x 0)
      → FirstFrom (sky_of s) from level left → left < s.used → (level ≡ lowest (sky_of s)) × (left ≡ leftmost (sky_of s)) × (left < s.used)
  corner-at-level none_below before first h = (top, ⊎_elim (λ (k : left ≤ leftmost (sky_of s)). omega (arith, later k)) (λ k. absurd (earlier k)) (le-or-lt left (leftmost (sky_of s))), h) where
    there : Corner (sky_of s)
    there = leftmost-corner (sky_of s) (omega (arith, sky-length s))

    here : get_or (sky_of s) left 0 ≡ level
    here = first.found (omega (arith, sky-length s))

    top : level ≡ lowest (sky_of s)
    top =
        omega (
          arith,
          here,
          there.low,
          there.lowest-of left (omega (arith, sky-length s)),
          none_below (leftmost (sky_of s)) (omega (arith, there.inside, sky-length s)),
        )

    later : left ≤ leftmost (sky_of s) → leftmost (sky_of s) ≤ left
    later k =
        ⊎_elim (λ (e : left ≡ leftmost (sky_of s)). omega arith) (λ (j : left < leftmost (sky_of s)). absurd (omega (arith, there.first left j, here, top))) (eq-or-lt_of_le k)

    earlier : leftmost (sky_of s) < left → ⊥
    earlier k =
        ⊎_elim (λ (j : from ≤ leftmost (sky_of s)). first.before (leftmost (sky_of s)) j k (there.low ∙ sym top))
        (λ (j : leftmost (sky_of s) < from). omega (arith, before (leftmost (sky_of s)) j, there.low, top)) (le-or-lt from (leftmost (sky_of s)))

-- the first column at the lowest level
pub corner-lowest : (s : Skyline) (top left : ℕ) → top ≡ lowest (sky_of s) → FirstFrom (sky_of s) 0 top left
    → (top ≡ lowest (sky_of s)) × (left ≡ leftmost (sky_of s)) × (left < s.used)
corner-lowest s top left e first =
    let there = leftmost-corner (sky_of s) (omega (arith, sky-length s)) in
    let inside : left < s.used =
    ⊎_elim (λ (h : s.used ≤ left). absurd (first.before (leftmost (sky_of s)) (omega arith) (omega (arith, there.inside, sky-length s)) (there.low ∙ sym e)))
    (λ (h : left < s.used). h) (le-or-lt s.used left) in
    corner-at-level s 0 top left
    (λ x h. omega (arith, e, there.lowest-of x (omega (arith, sky-length s)))) (λ x h. absurd (omega arith)) first inside
