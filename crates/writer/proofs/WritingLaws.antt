-- Laws of writing. `wrote_then` puts two parts together, `wrote-more` one more to those of a list, `wrote_none` starts; `put_down-fits` is a part that fits, `put_down-over` one from the buffer's start.
use Prim.Native.Nat.{ℕ, zero, suc, ◌+◌, ◌-◌, ◌≤◌, ◌<◌, min}
use mathlib.Core.Path.{◌≡◌, refl, sym, ap, ap₂, subst, ◌∙◌}
use mathlib.Core.Logic.{⊎_elim}
use mathlib.Core.List.{List, [], ◌∷◌, ◌++◌, append-nil, append_assoc, flat_map}
use native.Mathlib.Numerals.{add-one}
use native.Mathlib.Omega.{arith}
use lib.ListN.{length, get_or, take, drop, set, replicate, length-replicate, length-append, length-drop, take-append-drop}
use lib.Seq.{take-suc, take_all, length-take-le, drop-drop}
use Rattle.seq.proofs.Tests.{le-or-lt}
use Rattle.seq.proofs.FlatMaps.{flat_map-append}
use Rattle.grid.specs.Answer.{over}
use Rattle.writer.specs.Writing.{put_down, Wrote}

pub put_down-length : (d : List ℕ) (at : ℕ) (s : List ℕ) → length (put_down d at s) ≡ length d
unfolding put_down
put_down-length [] at s = refl
put_down-length (b ∷ d) (suc at) s = ap suc (put_down-length d at s)
put_down-length (b ∷ d) zero [] = refl
put_down-length (b ∷ d) zero (p ∷ s) = ap suc (put_down-length d zero s)

pub put_down-none : (d : List ℕ) (at : ℕ) → put_down d at [] ≡ d
unfolding put_down
put_down-none [] at = refl
put_down-none (b ∷ d) (suc at) = ap (λ (l : List ℕ). b ∷ l) (put_down-none d at)
put_down-none (b ∷ d) zero = refl

-- one part after another
put_down-start : (d s t : List ℕ) → put_down (put_down d 0 s) (length s) t ≡ put_down d 0 (s ++ t)
unfolding put_down
put_down-start [] s t = refl
put_down-start (b ∷ d) [] t = refl
put_down-start (b ∷ d) (p ∷ s) t = ap (λ (l : List ℕ). p ∷ l) (put_down-start d s t)

pub put_down-then : (d : List ℕ) (at : ℕ) (s t : List ℕ) → put_down (put_down d at s) (at + length s) t ≡ put_down d at (s ++ t)
unfolding put_down
put_down-then [] at s t = refl
put_down-then (b ∷ d) (suc at) s t = let e : suc at + length s ≡ suc (at + length s) = omega arith in rw e (ap (λ (l : List ℕ). b ∷ l) (put_down-then d at s t))
put_down-then (b ∷ d) zero s t = let e : 0 + length s ≡ length s = omega arith in rw e (put_down-start (b ∷ d) s t)

-- past the buffer's end nothing is written
pub put_down-past : (d : List ℕ) (at : ℕ) (s : List ℕ) → length d ≤ at → put_down d at s ≡ d
unfolding put_down
put_down-past [] at s h = refl
put_down-past (b ∷ d) (suc at) s h = ap (λ (l : List ℕ). b ∷ l) (put_down-past d at s (omega arith))
put_down-past (b ∷ d) zero s h = absurd (omega arith)

pub put_down-one : (d : List ℕ) (at b : ℕ) → at < length d → set d at b ≡ put_down d at (b ∷ [])
unfolding put_down
put_down-one [] at b h = absurd (omega arith)
put_down-one (c ∷ d) (suc at) b h = ap (λ (l : List ℕ). c ∷ l) (put_down-one d at b (omega arith))
put_down-one (c ∷ d) zero b h = ap (λ (l : List ℕ). b ∷ l) (sym (put_down-none d zero))

-- what fits, from the buffer's start
pub put_down-over : (d s : List ℕ) → length s ≤ length d → put_down d 0 s ≡ over s d
unfolding put_down
put_down-over [] [] h = refl
put_down-over [] (p ∷ s) h = absurd (omega arith)
put_down-over (b ∷ d) [] h = refl
put_down-over (b ∷ d) (p ∷ s) h = ap (λ (l : List ℕ). p ∷ l) (put_down-over d s (omega arith))

-- what fits, from any place on
pub put_down-fits : (d : List ℕ) (at : ℕ) (s : List ℕ) → at + length s ≤ length d → put_down d at s ≡ take at d ++ s ++ drop (at + length s) d
unfolding put_down
put_down-fits d zero s h = let e : 0 + length s ≡ length s = omega arith in rw e (put_down-over d s (omega arith))
put_down-fits [] (suc at) s h = absurd (omega arith)
put_down-fits (b ∷ d) (suc at) s h =
    let e : suc at + length s ≡ suc (at + length s) = omega arith in rw e (ap (λ (l : List ℕ). b ∷ l) (put_down-fits d at s (omega arith)))

-- ---- the record
pub wrote_none : (d : List ℕ) (at : ℕ) → Wrote d at [] d at
wrote_none d at = record { bytes = sym (put_down-none d at); next = omega arith }

module _ {d e f : List ℕ} {at mid r : ℕ} {s t : List ℕ} where
  pub wrote_then : Wrote d at s e mid → Wrote e mid t f r → Wrote d at (s ++ t) f r
  wrote_then p q =
      record {
        bytes = q.bytes ∙ ap₂ (λ (l : List ℕ) (m : ℕ). put_down l m t) p.bytes p.next ∙ put_down-then d at s t;
        next = omega (arith, p.next, q.next, length-append s t);
      }

pub wrote_as : {d e : List ℕ} {at r : ℕ} {s t : List ℕ} → Wrote d at s e r → s ≡ t → Wrote d at t e r
wrote_as {d} {e} {at} {r} p h = subst (λ l. Wrote d at l e r) h p

-- one part more of those that f gives of a list
module _ {A : Type 0} (f : A → List ℕ) {d e g : List ℕ} {at mid r : ℕ} where
  pub wrote-more : (l : List A) (a : A) → Wrote d at (flat_map f l) e mid → Wrote e mid (f a) g r → Wrote d at (flat_map f (l ++ a ∷ [])) g r
  unfolding flat_map
  wrote-more l a p q =
      wrote_as (wrote_then p q) (sym (flat_map-append f l (a ∷ []) ∙ ap (λ (rest : List ℕ). flat_map f l ++ rest) (append-nil (f a))))

  pub wrote-next : (l : List A) (k : ℕ) (a : A) → k < length l → Wrote d at (flat_map f (take k l)) e mid → Wrote e mid (f (get_or l k a)) g r
      → Wrote d at (flat_map f (take (k + 1) l)) g r
  wrote-next l k a h p q = rw (add-one, take-suc l k a h) (wrote-more (take k l) (get_or l k a) p q)

-- ---- one byte
pub put_written : (d : List ℕ) (at b : ℕ) → at < length d → Wrote d at (b ∷ []) (set d at b) (at + 1)
put_written d at b h = record { bytes = put_down-one d at b h; next = refl }

pub put-counted : (d : List ℕ) (at b : ℕ) → length d ≤ at → Wrote d at (b ∷ []) d (at + 1)
put-counted d at b h = record { bytes = sym (put_down-past d at (b ∷ []) h); next = refl }

-- what does not fit is left out
put_down-rest : (d : List ℕ) (at : ℕ) (s t : List ℕ) → length d ≤ at + length s → put_down d at (s ++ t) ≡ put_down d at s
put_down-rest d at s t h = sym (put_down-then d at s t) ∙ put_down-past (put_down d at s) (at + length s) t (omega (arith, put_down-length d at s))

-- ---- several bytes one after the other, as many as fit from `at` on
pub written_none : (d : List ℕ) (at : ℕ) (s : List ℕ) → Wrote d at (take 0 s) d (at + 0)
written_none d at s = record { bytes = sym (put_down-none d at); next = refl }

module _ {d e : List ℕ} (s : List ℕ) (at : ℕ) where
  pub written_next : (i end : ℕ) → i < end → end ≡ min (length s) (length d - at) → Wrote d at (take i s) e (at + i)
      → Wrote d at (take (i + 1) s) (set e (at + i) (get_or s i 0)) (at + (i + 1))
  written_next i end h k p =
      let same : length e ≡ length d = ap length p.bytes ∙ put_down-length d at (take i s) in
      let next : at + (i + 1) ≡ at + i + 1 = omega arith in
      let more : take (i + 1) s ≡ take i s ++ get_or s i 0 ∷ [] = rw add-one (take-suc s i 0 (omega arith)) in
      rw (next, more) (wrote_then p (put_written e (at + i) (get_or s i 0) (omega arith)))

  pub written_all : (i end : ℕ) → i ≤ end → end ≤ i → end ≡ min (length s) (length d - at) → Wrote d at (take i s) e (at + i) → Wrote d at s e (at + length s)
  written_all i end h k f p = ⊎_elim all rest (le-or-lt (length s) i) where
    all : length s ≤ i → Wrote d at s e (at + length s)
    all u = record { bytes = p.bytes ∙ ap (put_down d at) (take_all i s u); next = refl }

    rest : i < length s → Wrote d at s e (at + length s)
    rest u =
        let few : length d ≤ at + length (take i s) = omega (arith, length-take-le i s (omega arith)) in
        record { bytes = p.bytes ∙ sym (put_down-rest d at (take i s) (drop i s) few) ∙ ap (put_down d at) (take-append-drop i s); next = refl }

-- ---- several bytes: as many as fit, from `at` on or at the buffer's end
module _ (d s : List ℕ) (at start count : ℕ) (begins : start ≡ min at (length d)) (fit : count ≡ min (length s) (length d - start)) where
  long : length (take count s) ≡ count
  long = length-take-le count s (omega arith)

  same : put_down d at s ≡ put_down d start (take count s)
  same = ⊎_elim past inside (le-or-lt (length d) at) where
    past : length d ≤ at → put_down d at s ≡ put_down d start (take count s)
    past h = put_down-past d at s h ∙ sym (put_down-past d start (take count s) (omega arith))

    all : at < length d → length s ≤ count → put_down d at s ≡ put_down d at (take count s)
    all h u = ap (put_down d at) (sym (take_all count s u))

    rest : at < length d → count < length s → put_down d at s ≡ put_down d at (take count s)
    rest h u =
        ap (put_down d at) (sym (take-append-drop count s)) ∙ put_down-rest d at (take count s) (drop count s) (omega (arith, long))

    inside : at < length d → put_down d at s ≡ put_down d start (take count s)
    inside h = let e : start ≡ at = omega arith in rw e (⊎_elim (all h) (rest h) (le-or-lt (length s) count))

  pub wrote_part : (part : List ℕ) → part ≡ take count s → Wrote d at s (take start d ++ (part ++ drop (start + count - start) (drop start d))) (at + length s)
  wrote_part part is =
      let middle : start + count - start ≡ count = omega arith in
      let fits : start + length (take count s) ≤ length d = omega (arith, long) in
      let laid : put_down d at s ≡ take start d ++ (take count s ++ drop (start + count) d) =
      rw long at (same ∙ put_down-fits d start (take count s) fits ∙ append_assoc (take start d) (take count s) (drop (start + length (take count s)) d))
      in
      record { bytes = rw (is, middle, drop-drop count start d) (sym laid); next = refl }

take-replicate : (k n b : ℕ) → k ≤ n → replicate k b ≡ take k (replicate n b)
take-replicate zero n b h = refl
take-replicate (suc k) zero b h = absurd (omega arith)
take-replicate (suc k) (suc n) b h = ap (λ (l : List ℕ). b ∷ l) (take-replicate k n b (omega arith))

module _ (d : List ℕ) (at start count b n : ℕ) (begins : start ≡ min at (length d)) (fit : n ≡ min count (length d - start)) where
  pub filled-part : (part : List ℕ) → part ≡ replicate (length (take (start + n - start) (drop start d))) b
      → Wrote d at (replicate count b) (take start d ++ (part ++ drop (start + n - start) (drop start d))) (at + count)
  filled-part part is =
      let middle : start + n - start ≡ n = omega arith in
      let ready : length (take n (drop start d)) ≡ n = length-take-le n (drop start d) (omega (arith, length-drop start d)) in
      let whole = length-replicate count b in
      rw whole at (wrote_part d (replicate count b) at start n begins (rw whole fit) part (rw (middle, ready) at is ∙ take-replicate n count b (omega arith)))
