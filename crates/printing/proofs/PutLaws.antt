-- Laws of what is written into a buffer, part after part.
use Prim.Native.Nat.{ℕ, ◌+◌, ◌*◌, ◌-◌, ◌≤◌, ◌<◌}
use mathlib.Core.Path.{◌≡◌, refl, ap, ap₂, sym, ◌∙◌}
use mathlib.Core.List.{List, [], ◌∷◌, ◌++◌, append-nil, append_assoc}
use native.Mathlib.Numerals.{add-one}
use native.Mathlib.Omega.{arith}
use lib.ListN.{length, take, drop, get_or, set, length-set, length-append}
use lib.Seq.{take-suc, take-suc-set, take_all, take-append_seam, length-take-le}
use Rattle.seq.specs.Decimal.{decimal}
use Rattle.text.specs.Characters.{space}
use Rattle.writer.specs.Writing.{Wrote}
use Rattle.writer.proofs.WritingLaws.{put_down-fits, put_down-length}
use Rattle.writer.proofs.decimals.DigitLaws.{decimal-whole, decimal-short}
use Rattle.printing.specs.Printing.{Put, Prints, spaced}

pub put-none : (d : List ℕ) (at : ℕ) → at ≤ length d → Put 0 d d at at []
put-none d at h = record { same = refl; room = h; few = omega arith; bytes = sym (append-nil (take at d)) }

pub put_byte : (d : List ℕ) (at b : ℕ) → at < length d → Put 1 d (set d at b) at (at + 1) (b ∷ [])
put_byte d at b h =
    record {
      same = length-set d at b;
      room = omega arith;
      few = omega arith;
      bytes = rw add-one (take-suc-set d at b h);
    }

module _ {m n : ℕ} {d e f : List ℕ} {at mid r : ℕ} {s t : List ℕ} where
  pub put_then : Put m d e at mid s → Put n e f mid r t → Put (m + n) d f at r (s ++ t)
  put_then p q =
      record {
        same = q.same ∙ p.same;
        room = omega (arith, q.room, p.same);
        few = omega (arith, q.few, p.few);
        bytes = q.bytes ∙ ap (λ (l : List ℕ). l ++ t) p.bytes ∙ append_assoc (take at d) s t;
      }

module _ {m : ℕ} {d e : List ℕ} {at r : ℕ} {s : List ℕ} where
  pub put_as : {t : List ℕ} → Put m d e at r s → s ≡ t → Put m d e at r t
  put_as p h =
      record { same = p.same; room = p.room; few = p.few; bytes = p.bytes ∙ ap (λ (l : List ℕ). take at d ++ l) h }

  pub put-most : {n : ℕ} → Put m d e at r s → m ≤ n → Put n d e at r s
  put-most p h = record { same = p.same; room = p.room; few = omega (arith, p.few); bytes = p.bytes }

  -- the place after a part
  pub put_next : Put m d e at r s → at ≤ length d → r ≡ at + length s
  put_next p h =
      let whole = simp length-append at (ap length p.bytes) in
      let here = length-take-le r e (omega (arith, p.room, p.same)) in
      let there = length-take-le at d h in
      omega (arith, whole, here, there)

-- all that was written, from the buffer's start
pub put-prints : {m : ℕ} {d e : List ℕ} {r : ℕ} {s : List ℕ} → Put m d e 0 r s → Prints e r s
put-prints p = record { within = omega (arith, p.room, p.same); start = p.bytes }

pub prints-as : {out : List ℕ} {r : ℕ} {s t : List ℕ} → Prints out r s → s ≡ t → Prints out r t
prints-as p e = record { within = p.within; start = p.start ∙ e }

-- what a writer puts down, where all of it fits
pub put-wrote : {d e s : List ℕ} {at r : ℕ} → at + length s ≤ length d → Wrote d at s e r → Put (length s) d e at r s
put-wrote {d} {e} {s} {at} {r} h p =
    let here = length-take-le at d (omega arith) in
    let end : r ≡ length (take at d ++ s) = omega (arith, p.next, here, length-append (take at d) s) in
    let whole : e ≡ take at d ++ s ++ drop (at + length s) d = p.bytes ∙ put_down-fits d at s h in
    record {
      same = ap length p.bytes ∙ put_down-length d at s;
      room = omega (arith, p.next);
      few = omega (arith, p.next);
      bytes = ap₂ (λ (n : ℕ) (l : List ℕ). take n l) end whole ∙ take-append_seam (take at d ++ s) (drop (at + length s) d);
    }

-- Decimal digits

pub decimal-put : {d e : List ℕ} {at r : ℕ} (b : List ℕ) (start n : ℕ) → length b ≡ 20 → start ≤ 20 → drop start b ≡ decimal n
    → Put (length (take (20 - start) (drop start b))) d e at r (take (20 - start) (drop start b)) → Put 20 d e at r (decimal n)
decimal-put b start n h k told p = put-most (put_as p (decimal-whole b start n h k told)) (decimal-short b start n h k told)

-- Numbers, each after a space

pub spaced-append : (ms ns : List ℕ) → spaced (ms ++ ns) ≡ spaced ms ++ spaced ns
unfolding spaced
spaced-append [] ns = refl
spaced-append (m ∷ ms) ns =
    ap (λ (l : List ℕ). space ∷ decimal m ++ l) (spaced-append ms ns) ∙ ap (λ (l : List ℕ). space ∷ l) (sym (append_assoc (decimal m) (spaced ms) (spaced ns)))

pub numbers-next : {d e f g : List ℕ} {at end mid r : ℕ} (values : List ℕ) (i : ℕ) → i < length values
    → Put (21 * i) d e at end (spaced (take i values)) → Put 1 e f end mid (space ∷ []) → Put 20 f g mid r (decimal (get_or values i 0))
    → Put (21 * (i + 1)) d g at r (spaced (take (i + 1) values))
unfolding spaced
numbers-next values i h p q w =
    let more : take (i + 1) values ≡ take i values ++ get_or values i 0 ∷ [] = rw add-one (take-suc values i 0 h) in
    let one : spaced (get_or values i 0 ∷ []) ≡ (space ∷ []) ++ decimal (get_or values i 0) = ap (λ (l : List ℕ). space ∷ l) (append-nil (decimal (get_or values i 0))) in
    let whole : spaced (take (i + 1) values) ≡ spaced (take i values) ++ ((space ∷ []) ++ decimal (get_or values i 0)) =
    rw (more, spaced-append (take i values) (get_or values i 0 ∷ []), one)
    in
    put-most (put_as (put_then p (put_then q w)) (sym whole)) (omega arith)

pub numbers-none : (d : List ℕ) (at : ℕ) (values : List ℕ) → at + 21 * length values ≤ length d → Put (21 * 0) d d at at (spaced (take 0 values))
unfolding spaced
numbers-none d at values h = put-none d at (omega arith)

pub numbers-all : {d e : List ℕ} {at r : ℕ} (values : List ℕ) (i : ℕ) → i ≤ length values → length values ≤ i
    → Put (21 * i) d e at r (spaced (take i values)) → Put (21 * length values) d e at r (spaced values)
numbers-all values i h k p = put-most (put_as p (ap spaced (take_all i values k))) (omega arith)
