-- Decimal digits, from the last: `digits-start`, `digits-again` and `digits-closed` are the turns of `digits`, `decimal-whole` is what they are.
use Prim.Native.Nat.{ℕ, zero, suc, ◌+◌, ◌-◌, ◌/◌, ◌%◌, ◌≤◌, ◌<◌}
use mathlib.Core.Path.{◌≡◌, sym, ap, ◌∙◌}
use mathlib.Core.List.{List, [], ◌∷◌}
use native.Mathlib.Omega.{arith}
use lib.ListN.{length, take, drop, set, length-set, length-take, length-drop}
use lib.Seq.{take_all, drop-cons, drop-set-lt, get_or-set_same, drop-length}
use borrow.Author.Tests.{lt-ltb, le-ltb}
use Rattle.seq.specs.Decimal.{decimal, digits_onto}
use Rattle.writer.specs.Writing.{Wrote}
use Rattle.writer.proofs.WritingLaws.{wrote_as}

module _ (d : List ℕ) (whole : List ℕ) (n : ℕ) where
  digits-front : (i : ℕ) → i < length d → drop i (set d i (48 + n % 10)) ≡ (48 + n % 10) ∷ drop (suc i) d
  digits-front i h =
      let there : i < length (set d i (48 + n % 10)) = omega (arith, length-set d i (48 + n % 10)) in
      rw (drop-cons (set d i (48 + n % 10)) i 0 there, get_or-set_same d i (48 + n % 10) 0 h, drop-set-lt (suc i) d i (48 + n % 10) (omega arith))

  pub digits_last : (i : ℕ) → i < length d → n < 10 → digits_onto (suc i) n (drop (suc i) d) ≡ whole → drop i (set d i (48 + n % 10)) ≡ whole
  unfolding digits_onto
  digits_last i h small e = digits-front i h ∙ (rw (lt-ltb n 10 small) at e)

  pub digits-next : (i : ℕ) → i < length d → 10 ≤ n → digits_onto (suc i) n (drop (suc i) d) ≡ whole
      → digits_onto i (n / 10) (drop i (set d i (48 + n % 10))) ≡ whole
  unfolding digits_onto
  digits-next i h large e = rw (digits-front i h) (rw (le-ltb n 10 large) at e)

pub digits-start : (n : ℕ) (d : List ℕ) → length d ≡ 20 → digits_onto 20 n (drop 20 d) ≡ decimal n
digits-start n d h =
    let none : drop 20 d ≡ [] = rw h at (drop-length d) in
    ap (λ (l : List ℕ). digits_onto 20 n l) none

module _ (d : List ℕ) (n : ℕ) {whole : List ℕ} (i : ℕ) (h : length d ≡ 20) (p : 0 < i) (k : i ≤ 20) (e : digits_onto i n (drop i d) ≡ whole) where
  before-one : suc (i - 1) ≡ i
  before-one = omega arith

  pub digits-closed : n < 10 → (length (set d (i - 1) (48 + n % 10)) ≡ 20) × (i - 1 ≤ 20) × (drop (i - 1) (set d (i - 1) (48 + n % 10)) ≡ whole)
  digits-closed small =
      let there : i - 1 < length d = omega arith in
      (length-set d (i - 1) (48 + n % 10) ∙ h, omega arith, digits_last d whole n (i - 1) there small (rw before-one e))

  pub digits-again : 10 ≤ n
      → (i - 1 ≤ 20) × (length (set d (i - 1) (48 + n % 10)) ≡ 20) × (digits_onto (i - 1) (n / 10) (drop (i - 1) (set d (i - 1) (48 + n % 10))) ≡ whole)
  digits-again large =
      let there : i - 1 < length d = omega arith in
      (omega arith, length-set d (i - 1) (48 + n % 10) ∙ h, digits-next d whole n (i - 1) there large (rw before-one e))

pub digits-none : (d : List ℕ) (n : ℕ) {whole : List ℕ} (i : ℕ) → i ≤ 0 → digits_onto i n (drop i d) ≡ whole → d ≡ whole
unfolding digits_onto
digits-none d n zero h e = e
digits-none d n (suc i) h e = absurd (omega arith)

pub set-kept : (d before : List ℕ) (i v : ℕ) → length d ≡ 20 → length before ≡ 20 → length (set d i v) ≡ length before
set-kept d before i v h k = length-set d i v ∙ h ∙ sym k

-- the digits that were put at a buffer's end
module _ (b : List ℕ) (start n : ℕ) (h : length b ≡ 20) (k : start ≤ 20) (told : drop start b ≡ decimal n) where
  pub decimal-whole : take (20 - start) (drop start b) ≡ decimal n
  decimal-whole = take_all (20 - start) (drop start b) (omega (arith, length-drop start b)) ∙ told

  pub decimal-short : length (take (20 - start) (drop start b)) ≤ 20
  decimal-short = omega (arith, length-take (20 - start) (drop start b))

  module _ {d e : List ℕ} {at r : ℕ} (p : Wrote d at (take (20 - start) (drop start b)) e r) where
    pub decimal-wrote : Wrote d at (decimal n) e r
    decimal-wrote = wrote_as p decimal-whole

    pub decimal-near : r ≤ at + 20
    decimal-near = omega (arith, p.next, decimal-short)
