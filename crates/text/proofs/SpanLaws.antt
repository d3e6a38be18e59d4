-- `Spans c bs n`: the bytes are well formed and take n columns from column c on. Others cite `spans-append`, `spans-single` and
-- `spans-spaces`; of one text after another `chars-append`, `well-append` and `columns-append`.
use Rattle.std.specs.Prelude.{Option, None, Some, unwrap_or}
use Rattle.text.specs.declared.Character.{Character}
use Prim.Native.Nat.{ℕ, zero, suc, ◌+◌, ◌-◌, ◌≤◌}
use mathlib.Core.Path.{◌≡◌, refl, sym, ap, ◌∙◌}
use mathlib.Core.Bool.{true}
use mathlib.Core.List.{List, [], ◌∷◌, ◌++◌}
use native.Mathlib.Omega.{arith}
use lib.ListN.{length, replicate, get_or-append}
use Rattle.seq.proofs.Tests.{true-not-false}
use Rattle.text.specs.Characters.{space, span}
use Rattle.text.specs.Utf8.{CharIndex, character, chars_step, chars_from, char_indices, well_step, well_from, well_formed}
use Rattle.text.specs.Columns.{columns_from}
use Rattle.text.proofs.CharactersLaws.{span-other, ascii-one-column}
use Rattle.text.proofs.Utf8Laws.{character-fits, character-kept, character-ascii}

-- ---- characters of one text after another
module _ (b : ℕ) (bs t : List ℕ) (c : Character) (e : character (b ∷ bs) ≡ Some c) where
  rest-fits : c.size - 1 ≤ length bs
  rest-fits = omega (arith, character-fits (b ∷ bs) c e)

  character-append : character (b ∷ (bs ++ t)) ≡ Some c
  character-append = character-kept (b ∷ bs) c e ((b ∷ bs) ++ t) (λ i h. get_or-append (b ∷ bs) t 0 i (omega (arith, character-fits (b ∷ bs) c e)))

pub chars-append : (at skip : ℕ) (a t : List ℕ) → skip ≤ length a → well_from skip a ≡ true → chars_from at skip (a ++ t) ≡ chars_from at skip a ++ chars_from (at + length a) 0 t
unfolding chars_from well_from
chars-append at zero [] t h w = ap (λ (k : ℕ). chars_from k 0 t) (omega arith)
chars-append at (suc skip) [] t h w = absurd (omega arith)
chars-append at (suc skip) (b ∷ bs) t h w =
    chars-append (at + 1) skip bs t (omega arith) w ∙ ap (λ (k : ℕ). chars_from (at + 1) skip bs ++ chars_from k 0 t) (omega arith)
chars-append at zero (b ∷ bs) t h w = go (character (b ∷ bs)) refl w (λ k i j. chars-append (at + 1) k bs t i j) where
  go : (d : Option Character) → character (b ∷ bs) ≡ d → well_step d (λ k. well_from k bs) ≡ true
      → ((k : ℕ) → k ≤ length bs → well_from k bs ≡ true → chars_from (at + 1) k (bs ++ t) ≡ chars_from (at + 1) k bs ++ chars_from (at + 1 + length bs) 0 t)
      → chars_step at (character (b ∷ (bs ++ t))) (λ k. chars_from (at + 1) k (bs ++ t)) ≡ chars_step at d (λ k. chars_from (at + 1) k bs) ++ chars_from (at + suc (length bs)) 0 t
  go (Some found) e w later =
      let c : CharIndex = record { byte = at; value = found.value } in
      rw (character-append b bs t found e)
      (ap (λ (l : List CharIndex). c ∷ l)
      (later (found.size - 1) (rest-fits b bs t found e) w ∙ ap (λ (n : ℕ). chars_from (at + 1) (found.size - 1) bs ++ chars_from n 0 t) (omega arith)))
  go None e w later = absurd (true-not-false (sym w))

pub well-append : (skip : ℕ) (a t : List ℕ) → skip ≤ length a → well_from skip a ≡ true → well_from skip (a ++ t) ≡ well_from 0 t
unfolding well_from
well-append zero [] t h w = refl
well-append (suc skip) [] t h w = absurd (omega arith)
well-append (suc skip) (b ∷ bs) t h w = well-append skip bs t (omega arith) w
well-append zero (b ∷ bs) t h w = go (character (b ∷ bs)) refl w (λ k i j. well-append k bs t i j) where
  go : (d : Option Character) → character (b ∷ bs) ≡ d → well_step d (λ k. well_from k bs) ≡ true
      → ((k : ℕ) → k ≤ length bs → well_from k bs ≡ true → well_from k (bs ++ t) ≡ well_from 0 t)
      → well_step (character (b ∷ (bs ++ t))) (λ k. well_from k (bs ++ t)) ≡ well_from 0 t
  go (Some found) e w later = rw (character-append b bs t found e) (later (found.size - 1) (rest-fits b bs t found e) w)
  go None e w later = absurd (true-not-false (sym w))

-- ---- columns
pub columns-append : (c : ℕ) (a b : List CharIndex) → columns_from c (a ++ b) ≡ columns_from c a + columns_from (c + columns_from c a) b
unfolding columns_from
columns-append c [] b = let e : columns_from (c + 0) b ≡ columns_from c b = ap (λ (k : ℕ). columns_from k b) (omega arith) in omega arith
columns-append c (x ∷ a) b =
    let s = span c x.value in
    let e : columns_from (c + s + columns_from (c + s) a) b ≡ columns_from (c + (s + columns_from (c + s) a)) b = ap (λ (k : ℕ). columns_from k b) (omega arith) in
    omega (arith, columns-append (c + s) a b)

-- columns do not depend on where the bytes start
columns-anywhere : (c at from skip : ℕ) (s : List ℕ) → columns_from c (chars_from at skip s) ≡ columns_from c (chars_from from skip s)
unfolding chars_from columns_from
columns-anywhere c at from skip [] = refl
columns-anywhere c at from (suc skip) (b ∷ bs) = columns-anywhere c (at + 1) (from + 1) skip bs
columns-anywhere c at from zero (b ∷ bs) = go (character (b ∷ bs)) (λ c k. columns-anywhere c (at + 1) (from + 1) k bs) where
  go : (d : Option Character) → ((c k : ℕ) → columns_from c (chars_from (at + 1) k bs) ≡ columns_from c (chars_from (from + 1) k bs))
      → columns_from c (chars_step at d (λ k. chars_from (at + 1) k bs)) ≡ columns_from c (chars_step from d (λ k. chars_from (from + 1) k bs))
  go (Some found) later = ap (λ (n : ℕ). span c found.value + n) (later (c + span c found.value) (found.size - 1))
  go None later = refl

-- ---- bytes that take n columns from column c on
pub record Spans (c : ℕ) (bs : List ℕ) (n : ℕ) : Type 0 where
  pub well : well_formed bs ≡ true
  pub takes : columns_from c (char_indices bs) ≡ n

pub spans-empty : (c : ℕ) → Spans c [] 0
unfolding well_from columns_from chars_from
spans-empty c = record { well = refl; takes = refl }

pub spans-cast : {c n m : ℕ} {a : List ℕ} → n ≡ m → Spans c a n → Spans c a m
spans-cast {c} {n} {m} {a} e p = record { well = p.well; takes = p.takes ∙ e }

pub spans-append : {c n m : ℕ} {a b : List ℕ} → Spans c a n → Spans (c + n) b m → Spans c (a ++ b) (n + m)
spans-append {c} {n} {m} {a} {b} p q =
    record {
      well = well-append 0 a b (omega arith) p.well ∙ q.well;
      takes =
          ap (columns_from c) (chars-append 0 0 a b (omega arith) p.well) ∙ columns-append c (char_indices a) (chars_from (0 + length a) 0 b)
          ∙ rw p.takes (ap (λ (k : ℕ). n + k) (columns-anywhere (c + n) (0 + length a) 0 0 b ∙ q.takes));
    }

-- ---- bytes of one column
pub record Single (b : ℕ) : Type 0 where
  pub low : 0x20 ≤ b
  pub high : b ≤ 0x7e

pub single-space : Single space
single-space = record { low = omega arith; high = omega arith }

pub single-span : {b : ℕ} (c : ℕ) → Single b → span c b ≡ 1
single-span {b} c s = span-other c b (λ e. omega (arith, s.low)) ∙ ap (λ (w : Option ℕ). unwrap_or w 0) (ascii-one-column b s.low s.high)

pub spans-single : (c : ℕ) {b : ℕ} → Single b → Spans c (b ∷ []) 1
unfolding well_from columns_from chars_from
spans-single c {b} s =
    record { well = rw (character-ascii b [] s.low s.high); takes = rw (character-ascii b [] s.low s.high, single-span c s) }

pub spans-spaces : (c k : ℕ) → Spans c (replicate k space) k
spans-spaces c zero = spans-empty c
spans-spaces c (suc k) =
    spans-cast {a = replicate (suc k) space} (omega arith) (spans-append {a = space ∷ []} {b = replicate k space} (spans-single c single-space) (spans-spaces (c + 1) k))
