-- The columns at which a text shows `|` or `+`, character by character.
use Rattle.std.specs.Prelude.{Some}
use Rattle.text.specs.declared.Character.{Character}
use Prim.Native.Nat.{ℕ, zero, suc, ◌+◌, ◌-◌, ◌≤◌, ◌<◌}
use mathlib.Core.Path.{◌≡◌, refl, sym, ap, ◌∙◌}
use mathlib.Core.Bool.{Bool, true, false, ◌&&◌, ◌||◌, cond}
use mathlib.Core.Logic.{⊎_elim}
use mathlib.Core.List.{List, [], ◌∷◌, ◌++◌, map, map-append}
use native.Mathlib.Omega.{arith}
use native.Mathlib.Nat.{add-zero, add_assoc, eq-or-lt_of_le}
use lib.Dec.{eqb}
use lib.ListN.{length, get_or, drop, set, replicate, length-append, length-drop, length-replicate, length-set, drop_of_length-le, get_or-eq_default, get_or-replicate, get_or-append}
use lib.Seq.{drop_at, drop-drop, get_or-drop, get_or-set_same, get_or-set_other}
use borrow.Author.Tests.{eqb-true}
use Rattle.seq.proofs.Tests.{le-or-lt, or_cases, bool-refused, cond-false}
use Rattle.text.specs.Characters.{plus, span}
use Rattle.text.specs.Columns.{columns_from}
use Rattle.text.specs.Utf8.{character, chars_from, char_indices, well_formed}
use Rattle.text.proofs.Utf8Laws.{chars-next}
use Rattle.text.proofs.SpanLaws.{Single, single-span}
use Rattle.grid.specs.Slots.{Glyph, Plus, Dash, Pipe, Other, Slot, dash, pipe, vertical, glyph_of, slots_from}
use Rattle.cm.specs.Hits.{text_glyphs, shows_at, Hit}
use Rattle.cm.proofs.columns.WalkLaws.{Walked, walked_none, walked_next}

pub vertical-is : (c : ℕ) → eqb c plus || eqb c pipe ≡ vertical (glyph_of false c)
unfolding glyph_of
vertical-is c = go (eqb c plus) (eqb c dash) (eqb c pipe) refl refl where
  go : (s t u : Bool) → eqb c dash ≡ t → eqb c pipe ≡ u → s || u ≡ vertical (cond s Plus (cond (false || t) Dash (cond u Pipe Other)))
  go true t u e f = refl
  go false true true e f = absurd (omega (arith, eqb-true c dash e, eqb-true c pipe f))
  go false true false e f = refl
  go false false true e f = refl
  go false false false e f = refl

-- `|` and `+` take one column
vertical-one : (column c : ℕ) → vertical (glyph_of false c) ≡ true → span column c ≡ 1
vertical-one column c e =
    ⊎_elim (λ (h : eqb c plus ≡ true). single-span column (single c plus (eqb-true c plus h) (omega arith) (omega arith)))
    (λ (h : eqb c pipe ≡ true). single-span column (single c pipe (eqb-true c pipe h) (omega arith) (omega arith))) (or_cases (eqb c plus) (eqb c pipe) (vertical-is c ∙ e)) where
      single : (c b : ℕ) → c ≡ b → 0x20 ≤ b → b ≤ 0x7e → Single c
      single c b e u w = record { low = omega arith; high = omega arith }

map-replicate : {A B : Type 0} (f : A → B) (n : ℕ) (a : A) → map f (replicate n a) ≡ replicate n (f a)
map-replicate f zero a = refl
map-replicate f (suc n) a = ap (λ (l : List _). f a ∷ l) (map-replicate f n a)

and-right-false : (t : Bool) {u : Bool} → u ≡ false → t && u ≡ false
and-right-false true e = e
and-right-false false e = refl

and-swap : (t u : Bool) → t && u ≡ u && t
and-swap true true = refl
and-swap true false = refl
and-swap false true = refl
and-swap false false = refl

-- the characters before `byte` are counted, in n columns
pub record HitSoFar (line : List ℕ) (first from i : ℕ) (before lines : List ℕ) (byte n : ℕ) : Type 0 where
  pub walked : Walked line first byte n
  pub room : length lines ≡ 128
  pub inside : n ≤ length (text_glyphs first line)
  pub ahead : drop n (text_glyphs first line) ≡ map (λ (s : Slot). s.glyph) (slots_from false (first + n) (chars_from byte 0 (drop byte line)))
  pub lower : (z : ℕ) → z < from → get_or lines z 0 ≡ get_or before z 0
  pub done : (z : ℕ) → from ≤ z → z < from + n → get_or lines z 0 ≡ cond (shows_at first line (z - from) && eqb (get_or before z 0) i) (i + 1) (get_or before z 0)
  pub upper : (z : ℕ) → from + n ≤ z → get_or lines z 0 ≡ get_or before z 0

pub hit-none : (line : List ℕ) (first from i : ℕ) (before : List ℕ) → well_formed line ≡ true → length before ≡ 128 → HitSoFar line first from i before before 0 0
hit-none line first from i before well room =
    record {
      walked = walked_none line first well;
      room = room;
      inside = omega arith;
      ahead = rw (add-zero first);
      lower = λ z u. refl;
      done = λ z u w. absurd (omega arith);
      upper = λ z u. refl;
    }

module _ {line : List ℕ} {first from i : ℕ} {before lines : List ℕ} {byte n : ℕ} (s : HitSoFar line first from i before lines byte n) where
  columns-left : n ≤ columns_from first (char_indices line)
  columns-left = omega (arith, s.walked.left)

  pub hit-room : from + columns_from first (char_indices line) < 128 → from + n < 128
  hit-room h = omega (arith, columns-left)

  pub hit-all : length line ≤ byte → Hit first line from i before lines
  unfolding chars_from slots_from
  hit-all h =
      let none : drop n (text_glyphs first line) ≡ [] = s.ahead ∙ rw (drop_of_length-le line h) in
      let short : length (text_glyphs first line) ≤ n = omega (arith, length-drop n (text_glyphs first line), ap length none) in
      record {
        room = s.room;
        left = s.lower;
        right = λ z u w. ⊎_elim
            (λ (k : from + n ≤ z). s.upper z k ∙ cond-false _ (i + 1) (get_or before z 0) (and-right-false (eqb (get_or before z 0) i) (ap vertical (get_or-eq_default (text_glyphs first line) Other (omega arith)))))
            (λ (k : z < from + n). s.done z u k ∙ ap (λ (t : Bool). cond t (i + 1) (get_or before z 0)) (and-swap (shows_at first line (z - from)) (eqb (get_or before z 0) i))) (le-or-lt (from + n) z);
      }

  module _ (c : Character) (count : ℕ) (is : character (drop byte line) ≡ Some c) (spans : count ≡ span (first + n) c.value) where
    abbrev rest : List Glyph
    rest = map (λ (s : Slot). s.glyph) (slots_from false (first + (n + count)) (chars_from (byte + c.size) 0 (drop (byte + c.size) line)))

    here : drop n (text_glyphs first line) ≡ replicate count (glyph_of false c.value) ++ rest
    unfolding slots_from
    here =
        s.ahead
        ∙ rw (chars-next line byte c is, ← spans, add_assoc)
        (map-append (λ (s : Slot). s.glyph) (replicate count (record { glyph = glyph_of false c.value; byte = byte })) _
        ∙ ap (λ (l : List Glyph). l ++ rest) (map-replicate (λ (s : Slot). s.glyph) count (record { glyph = glyph_of false c.value; byte = byte })))

    glyph-here : (z : ℕ) → n ≤ z → z < n + count → get_or (text_glyphs first line) z Other ≡ glyph_of false c.value
    glyph-here z u w =
        let e : z ≡ n + (z - n) = omega arith in
        ap (λ (k : ℕ). get_or (text_glyphs first line) k Other) e ∙ sym (get_or-drop n (text_glyphs first line) (z - n) Other) ∙ ap (λ (l : List Glyph). get_or l (z - n) Other) here
        ∙ get_or-append (replicate count (glyph_of false c.value)) rest Other (z - n) (omega (arith, length-replicate count (glyph_of false c.value))) ∙ get_or-replicate count (z - n) (glyph_of false c.value) Other (omega arith)

    pub hit-next : (shown : Bool) (more : ℕ) → from + n < 128 → shown ≡ vertical (glyph_of false c.value) → more ≡ cond (shown && eqb (get_or lines (from + n) 0) i) (i + 1) (get_or lines (from + n) 0)
        → HitSoFar line first from i before (set lines (from + n) more) (byte + c.size) (n + count)
    hit-next shown more low show is-more =
        record {
          walked = walked_next line first byte n s.walked c count is spans;
          room = length-set lines (from + n) more ∙ s.room;
          inside =
              let e : length (drop n (text_glyphs first line)) ≡ count + length rest = ap length here ∙ simp (length-append, length-replicate) in
              omega (arith, length-drop n (text_glyphs first line), s.inside);
          ahead = sym (drop-drop count n (text_glyphs first line)) ∙ ap (drop count) here ∙ drop_at (replicate count (glyph_of false c.value)) rest count (length-replicate count (glyph_of false c.value));
          lower = λ z u. get_or-set_other lines (from + n) z more 0 (λ e. omega arith) ∙ s.lower z u;
          done = λ z u w. ⊎_elim (λ (k : from + n ≤ z). new z k w) (λ (k : z < from + n). get_or-set_other lines (from + n) z more 0 (λ e. omega arith) ∙ s.done z u k) (le-or-lt (from + n) z);
          upper = λ z u. ⊎_elim (λ (e : from + n ≡ z). none z (sym e) (omega arith)) (λ (k : from + n < z). get_or-set_other lines (from + n) z more 0 (λ e. omega arith) ∙ s.upper z (omega arith)) (eq-or-lt_of_le (omega arith));
        } where
          same : get_or lines (from + n) 0 ≡ get_or before (from + n) 0
          same = s.upper (from + n) (omega arith)

          put : get_or (set lines (from + n) more) (from + n) 0 ≡ cond (shown && eqb (get_or before (from + n) 0) i) (i + 1) (get_or before (from + n) 0)
          put = get_or-set_same lines (from + n) more 0 (omega (arith, s.room)) ∙ is-more ∙ ap (λ (k : ℕ). cond (shown && eqb k i) (i + 1) k) same

          shows-here : (z : ℕ) → from + n ≤ z → z < from + (n + count) → shows_at first line (z - from) ≡ shown
          shows-here z u w = ap vertical (glyph-here (z - from) (omega arith) (omega arith)) ∙ sym show

          -- a character of another number of columns than one shows nothing
          hidden : (count ≡ 1 → ⊥) → shown ≡ false
          hidden h = bool-refused shown (λ e. h (spans ∙ vertical-one (first + n) c.value (sym show ∙ e)))

          new : (z : ℕ) → from + n ≤ z → z < from + (n + count)
              → get_or (set lines (from + n) more) z 0 ≡ cond (shows_at first line (z - from) && eqb (get_or before z 0) i) (i + 1) (get_or before z 0)
          new z u w = ⊎_elim at-it past-it (eq-or-lt_of_le u) where
            at-it : from + n ≡ z → get_or (set lines (from + n) more) z 0 ≡ cond (shows_at first line (z - from) && eqb (get_or before z 0) i) (i + 1) (get_or before z 0)
            at-it e =
                rw (shows-here z u w)
                (ap (λ (k : ℕ). get_or (set lines (from + n) more) k 0) (sym e) ∙ put ∙ ap (λ (k : ℕ). cond (shown && eqb (get_or before k 0) i) (i + 1) (get_or before k 0)) e)

            past-it : from + n < z → get_or (set lines (from + n) more) z 0 ≡ cond (shows_at first line (z - from) && eqb (get_or before z 0) i) (i + 1) (get_or before z 0)
            past-it k =
                let off : shown ≡ false = hidden (λ e. omega arith) in
                get_or-set_other lines (from + n) z more 0 (λ e. omega arith) ∙ s.upper z u
                ∙ cond-false _ (i + 1) (get_or before z 0) (ap (λ (t : Bool). t && eqb (get_or before z 0) i) (shows-here z u w ∙ off))

          none : (z : ℕ) → z ≡ from + n → count ≡ 0 → get_or (set lines (from + n) more) z 0 ≡ get_or before z 0
          none z e c =
              let off : shown ≡ false = hidden (λ f. omega arith) in
              ap (λ (k : ℕ). get_or (set lines (from + n) more) k 0) e ∙ put
              ∙ sym (cond-false _ (i + 1) (get_or before (from + n) 0) (ap (λ (t : Bool). t && eqb (get_or before (from + n) 0) i) off)) ∙ ap (λ (k : ℕ). get_or before k 0) (sym e)
