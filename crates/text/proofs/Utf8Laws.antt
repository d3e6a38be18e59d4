-- Laws of specs/Utf8.antt.
use Rattle.std.specs.Prelude.{Option, None, Some}
use Rattle.std.specs.Bool.{then_some}
use Rattle.std.proofs.lemmas.Option.{none-some, same_Some}
use Rattle.text.specs.declared.Character.{Character}
use Prim.Native.Nat.{ℕ, zero, suc, ◌+◌, ◌-◌, ◌^◌, ◌≤◌, ◌<◌}
use mathlib.Core.Path.{◌≡◌, refl, sym, ap, ◌∙◌}
use mathlib.Core.Logic.{◌⊎◌, inl, inr, ⊎_elim}
use mathlib.Core.Bool.{Bool, true, false, ◌&&◌, cond}
use mathlib.Core.List.{List, [], ◌∷◌, Memᴰ}
use native.Mathlib.Nat.{add-zero, eq-or-lt_of_le}
use native.Mathlib.Omega.{arith}
use lib.Dec.{leb, ltb}
use lib.ListN.{length, drop, get_or, length-drop, drop_of_length-le}
use lib.Seq.{get_or-drop, drop-drop}
use borrow.Author.Tests.{ltb-true, leb-true, lt-ltb, le-ltb}
use Rattle.seq.proofs.Tests.{true-not-false, both_true}
use Rattle.seq.specs.Lists.{within}
use Rattle.seq.proofs.ListsLaws.{within_low, read_some, drop-step}
use Rattle.text.proofs.CharactersLaws.{ascii-in-set}
use Rattle.text.specs.Characters.{in_set, width_of}
use Rattle.text.specs.Utf8.{character_of, continues, two_bytes, three_bytes, from_two, from_three, decoded, character, chars_from, well_from, well_formed}
use Rattle.text.specs.Lines.{no_text}

-- ---- from bytes, in the order of the code's tests
module _ (a b : ℕ) (t : Bool) (e : t ≡ continues b) where
  pub from-two-refused : t ≡ false → None ≡ from_two a b
  unfolding from_two
  from-two-refused f = rw (← e, f)

  pub from-two-is : (u : Bool) (r : Option Character) → t ≡ true → u ≡ (leb 0x80 (two_bytes a b) && in_set (two_bytes a b)) → r ≡ then_some u (character_of (two_bytes a b) 2) → r ≡ from_two a b
  unfolding from_two
  from-two-is u r f g h = h ∙ rw (← e, f, g)

module _ (b c : ℕ) (t u : Bool) (e : t ≡ continues b) (f : u ≡ continues c) (both : t && u ≡ true) where
  pub second-low : 0x80 ≤ b
  second-low = within_low 0x80 0xbf b (sym e ∙ (both_true t u both).0)

  pub third-low : 0x80 ≤ c
  third-low = within_low 0x80 0xbf c (sym f ∙ (both_true t u both).1)

module _ (a b c : ℕ) (t u : Bool) (e : t ≡ continues b) (f : u ≡ continues c) where
  pub from-three-refused : t && u ≡ false → None ≡ from_three a b c
  unfolding from_three
  from-three-refused = rw (← e, ← f) (go t u) where
    go : (t u : Bool) → t && u ≡ false → None ≡ then_some (t && (u && (leb 0x800 (three_bytes a b c) && in_set (three_bytes a b c)))) (character_of (three_bytes a b c) 3)
    go true u g = rw g
    go false u g = refl

  pub from-three-is : (v : Bool) (r : Option Character) → t && u ≡ true → v ≡ (leb 0x800 (three_bytes a b c) && in_set (three_bytes a b c)) → r ≡ then_some v (character_of (three_bytes a b c) 3) → r ≡ from_three a b c
  unfolding from_three
  from-three-is v r g h k = k ∙ rw (← e, ← f, ← h) (go t u g) where
    go : (t u : Bool) → t && u ≡ true → then_some v (character_of (three_bytes a b c) 3) ≡ then_some (t && (u && v)) (character_of (three_bytes a b c) 3)
    go true u g = rw g
    go false u g = absurd (true-not-false (sym g))

module _ (a b c : ℕ) where
  decoded-one : (t : Bool) (r : Option Character) → a < 0x80 → t ≡ in_set a → r ≡ then_some t (character_of a 1) → r ≡ decoded a b c
  unfolding decoded
  decoded-one t r low e h = h ∙ rw (lt-ltb a 0x80 low, e)

  module _ (t : Bool) (high : 0x80 ≤ a) (e : t ≡ within 0xc0 0xdf a) where
    decoded-two : (r : Option Character) → t ≡ true → r ≡ from_two a b → r ≡ decoded a b c
    unfolding decoded
    decoded-two r f h = h ∙ rw (le-ltb a 0x80 high, ← e, f)

    decoded-three : (u : Bool) (r : Option Character) → t ≡ false → u ≡ within 0xe0 0xef a → u ≡ true → r ≡ from_three a b c → r ≡ decoded a b c
    unfolding decoded
    decoded-three u r f g k h = h ∙ rw (le-ltb a 0x80 high, ← e, f, ← g, k)

    decoded-refused : (u : Bool) → t ≡ false → u ≡ within 0xe0 0xef a → u ≡ false → None ≡ decoded a b c
    unfolding decoded
    decoded-refused u f g k = rw (le-ltb a 0x80 high, ← e, f, ← g, k)

-- ---- at a place of a line
module _ (s : List ℕ) (at : ℕ) where
  pub character-past : length s ≤ at → None ≡ character (drop at s)
  unfolding character decoded in_set width_of
  character-past h = rw (drop_of_length-le s h)

  character-at : (a b c : ℕ) (r : Option Character) → a ≡ get_or s at 0 → b ≡ get_or s (at + 1) 0 → c ≡ get_or s (at + 2) 0 → r ≡ decoded a b c → r ≡ character (drop at s)
  unfolding character
  character-at a b c r e f g h = h ∙ simp (get_or-drop, add-zero, e, f, g)

  pub character-one : (a : ℕ) (t : Bool) (r : Option Character) → a ≡ get_or s at 0 → a < 0x80 → t ≡ in_set a → r ≡ then_some t (character_of a 1) → r ≡ character (drop at s)
  character-one a t r e low is h = character-at a _ _ r e refl refl (decoded-one a _ _ t r low is h)

  module _ (a b : ℕ) (t : Bool) (e : a ≡ get_or s at 0) (f : b ≡ get_or s (at + 1) 0) (high : 0x80 ≤ a) (two : t ≡ within 0xc0 0xdf a) where
    pub character-two : (r : Option Character) → t ≡ true → r ≡ from_two a b → r ≡ character (drop at s)
    character-two r is h = character-at a b _ r e f refl (decoded-two a b _ t high two r is h)

    module _ (u : Bool) (not-two : t ≡ false) (three : u ≡ within 0xe0 0xef a) where
      pub character-three : (c : ℕ) (r : Option Character) → c ≡ get_or s (at + 2) 0 → u ≡ true → r ≡ from_three a b c → r ≡ character (drop at s)
      character-three c r g is h = character-at a b c r e f g (decoded-three a b c t high two u r not-two three is h)

      pub character-none : u ≡ false → None ≡ character (drop at s)
      character-none is = character-at a b _ None e f refl (decoded-refused a b _ t high two u not-two three is)

-- ---- what a character is: in the set, of one to three bytes, the last of which is there
known : (t : Bool) (w n v k : ℕ) → then_some t (character_of w n) ≡ Some (character_of v k) → (t ≡ true) × (w ≡ v) × (n ≡ k)
known true w n v k e =
    let same = same_Some (character_of w n) (character_of v k) e in (refl, ap (λ (c : Character). c.value) same, ap (λ (c : Character). c.size) same)
known false w n v k e = absurd (none-some (character_of v k) e)

-- of the first three bytes and the character that they make: the first one's range says how many
abbrev pub OfOne : ℕ → ℕ → ℕ → Type 0
OfOne a v k = (k ≡ 1) × (a ≡ v) × (a < 0x80)

abbrev pub OfTwo : ℕ → ℕ → ℕ → ℕ → Type 0
OfTwo a b v k = (k ≡ 2) × (two_bytes a b ≡ v) × (within 0xc0 0xdf a ≡ true) × (continues b ≡ true) × (0x80 ≤ v)

abbrev pub OfThree : ℕ → ℕ → ℕ → ℕ → ℕ → Type 0
OfThree a b c v k = (k ≡ 3) × (three_bytes a b c ≡ v) × (within 0xe0 0xef a ≡ true) × (continues b ≡ true) × (continues c ≡ true) × (0x800 ≤ v)

pub record Made (a b c v k : ℕ) : Type 0 where
  pub in-set : in_set v ≡ true
  pub bytes : OfOne a v k ⊎ (OfTwo a b v k ⊎ OfThree a b c v k)

module _ (a b c v k : ℕ) where
  made-of-one : ltb a 0x80 ≡ true → then_some (in_set a) (character_of a 1) ≡ Some (character_of v k) → Made a b c v k
  made-of-one low e =
      let (t, w, n) = known (in_set a) a 1 v k e in
      record { in-set = rw w at t; bytes = inl (sym n, w, ltb-true a 0x80 low) }

  made-of-two : within 0xc0 0xdf a ≡ true → from_two a b ≡ Some (character_of v k) → Made a b c v k
  unfolding from_two
  made-of-two first e =
      let w = two_bytes a b in
      let (t, same, n) = known (continues b && (leb 0x80 w && in_set w)) w 2 v k e in
      let (second, rest) = both_true (continues b) (leb 0x80 w && in_set w) t in
      let (large, in-set) = both_true (leb 0x80 w) (in_set w) rest in
      record { in-set = rw same at in-set; bytes = inr (inl (sym n, same, first, second, omega (arith, leb-true 0x80 w large))) }

  made-of-three : within 0xe0 0xef a ≡ true → from_three a b c ≡ Some (character_of v k) → Made a b c v k
  unfolding from_three
  made-of-three first e =
      let w = three_bytes a b c in
      let (t, same, n) = known (continues b && (continues c && (leb 0x800 w && in_set w))) w 3 v k e in
      let (second, later) = both_true (continues b) (continues c && (leb 0x800 w && in_set w)) t in
      let (third, rest) = both_true (continues c) (leb 0x800 w && in_set w) later in
      let (large, in-set) = both_true (leb 0x800 w) (in_set w) rest in
      record { in-set = rw same at in-set; bytes = inr (inr (sym n, same, first, second, third, omega (arith, leb-true 0x800 w large))) }

  made : decoded a b c ≡ Some (character_of v k) → Made a b c v k
  unfolding decoded
  made = go (ltb a 0x80) refl (within 0xc0 0xdf a) refl (within 0xe0 0xef a) refl where
    go : (one : Bool) → ltb a 0x80 ≡ one → (two : Bool) → within 0xc0 0xdf a ≡ two → (three : Bool) → within 0xe0 0xef a ≡ three
        → cond one (then_some (in_set a) (character_of a 1)) (cond two (from_two a b) (cond three (from_three a b c) None)) ≡ Some (character_of v k) → Made a b c v k
    go true f two g three h e = made-of-one f e
    go false f true g three h e = made-of-two g e
    go false f false g true h e = made-of-three h e
    go false f false g false h e = absurd (none-some (character_of v k) e)

decoded-kept : (a b c b' c' v k : ℕ) → decoded a b c ≡ Some (character_of v k) → (1 < k → b' ≡ b) → (2 < k → c' ≡ c) → decoded a b' c' ≡ Some (character_of v k)
unfolding decoded from_two from_three
decoded-kept a b c b' c' v k e second third = go (ltb a 0x80) (within 0xc0 0xdf a) (within 0xe0 0xef a) e where
  go : (one two three : Bool) → cond one (then_some (in_set a) (character_of a 1)) (cond two (from_two a b) (cond three (from_three a b c) None)) ≡ Some (character_of v k)
      → cond one (then_some (in_set a) (character_of a 1)) (cond two (from_two a b') (cond three (from_three a b' c') None)) ≡ Some (character_of v k)
  go true two three e = e
  go false true three e =
      let w = two_bytes a b in
      let size = (known (continues b && (leb 0x80 w && in_set w)) w 2 v k e).2 in
      rw (second (omega arith)) e
  go false false true e =
      let w = three_bytes a b c in
      let size = (known (continues b && (continues c && (leb 0x800 w && in_set w))) w 3 v k e).2 in
      rw (second (omega arith), third (omega arith)) e
  go false false false e = e

goes-on-some : (b : ℕ) → continues b ≡ true → b ≡ 0 → ⊥
goes-on-some b e z = omega (arith, within_low 0x80 0xbf b e)

set-some : (v : ℕ) → in_set v ≡ true → v ≡ 0 → ⊥
unfolding in_set width_of
set-some v e z = true-not-false (sym e ∙ rw z)

module _ (s : List ℕ) (c : Character) (e : character s ≡ Some c) where
  pub of-bytes : Made (get_or s 0 0) (get_or s 1 0) (get_or s 2 0) c.value c.size
  unfolding character
  of-bytes = made (get_or s 0 0) (get_or s 1 0) (get_or s 2 0) c.value c.size e

  pub character-in-set : in_set c.value ≡ true
  character-in-set = of-bytes.in-set

  pub character-some-byte : 1 ≤ c.size
  character-some-byte = ⊎_elim (λ h. omega arith) (⊎_elim (λ h. omega arith) (λ h. omega arith)) of-bytes.bytes

  pub character-past-ascii : 2 ≤ c.size → 0x80 ≤ c.value
  character-past-ascii many = ⊎_elim (λ h. absurd (omega arith)) (⊎_elim (λ h. h.4) (λ h. omega arith)) of-bytes.bytes

  pub character-fits : c.size ≤ length s
  character-fits =
      ⊎_elim
      (λ h. omega (arith, read_some s 0 (λ z. set-some c.value character-in-set (sym h.1 ∙ z))))
      (⊎_elim
      (λ h. omega (arith, read_some s 1 (goes-on-some (get_or s 1 0) h.3)))
      (λ h. omega (arith, read_some s 2 (goes-on-some (get_or s 2 0) h.4))))
      of-bytes.bytes

  -- the bytes after its first go on with it
  pub character-goes-on : (i : ℕ) → 1 ≤ i → i < c.size → continues (get_or s i 0) ≡ true
  character-goes-on i low high =
      ⊎_elim (λ h. absurd (omega arith))
      (⊎_elim (λ h. let one : i ≡ 1 = omega arith in rw one h.3)
      (λ h. ⊎_elim (λ (one : 1 ≡ i). rw (← one) h.3) (λ (more : 1 < i). let two : i ≡ 2 = omega arith in rw two h.4) (eq-or-lt_of_le low)))
      of-bytes.bytes

  pub character-one-byte : c.value < 0x80 → get_or s 0 0 ≡ c.value
  character-one-byte low = ⊎_elim (λ h. h.1) (⊎_elim (λ h. absurd (omega arith)) (λ h. absurd (omega arith))) of-bytes.bytes

  -- and what follows them has no part in it
  pub character-kept : (t : List ℕ) → ((i : ℕ) → i < c.size → get_or t i 0 ≡ get_or s i 0) → character t ≡ Some c
  unfolding character
  character-kept t same =
      rw (same 0 character-some-byte)
      (decoded-kept (get_or s 0 0) (get_or s 1 0) (get_or s 2 0) (get_or t 1 0) (get_or t 2 0) c.value c.size e (same 1) (same 2))

pub character-ascii : (b : ℕ) (s : List ℕ) → 0x20 ≤ b → b ≤ 0x7e → character (b ∷ s) ≡ Some (character_of b 1)
unfolding character decoded
character-ascii b s low high = rw (lt-ltb b 0x80 (omega arith), ascii-in-set b low high)

-- ---- the characters of a line, one after the other
pub chars-skip : (at skip : ℕ) (s : List ℕ) → chars_from at skip s ≡ chars_from (at + skip) 0 (drop skip s)
unfolding chars_from
chars-skip at zero s = rw add-zero
chars-skip at (suc skip) [] = refl
chars-skip at (suc skip) (b ∷ bs) = chars-skip (at + 1) skip bs ∙ ap (λ (n : ℕ). chars_from n 0 (drop skip bs)) (omega arith)

pub well-skip : (skip : ℕ) (s : List ℕ) → well_from skip s ≡ well_from 0 (drop skip s)
unfolding well_from
well-skip zero s = refl
well-skip (suc skip) [] = refl
well-skip (suc skip) (b ∷ bs) = well-skip skip bs

module _ (s : List ℕ) (at : ℕ) where
  module _ (c : Character) (e : character (drop at s) ≡ Some c) where
    pub size_fits : (1 ≤ c.size) × (at + c.size ≤ length s)
    size_fits =
        let some = character-some-byte (drop at s) c e in
        (some, omega (arith, rw length-drop at (character-fits (drop at s) c e)))

    inside : at < length s
    inside = omega (arith, size_fits)

    here : character (get_or s at 0 ∷ drop (at + 1) s) ≡ Some c
    here = rw (drop-step s at inside) at e

    past : at + 1 + (c.size - 1) ≡ at + c.size
    past = omega (arith, size_fits)

    pub chars-next : chars_from at 0 (drop at s) ≡ record { byte = at; value = c.value } ∷ chars_from (at + c.size) 0 (drop (at + c.size) s)
    unfolding chars_from
    chars-next = rw (drop-step s at inside, here, chars-skip (at + 1) (c.size - 1) (drop (at + 1) s), drop-drop (c.size - 1) (at + 1) s, past)

    pub well-next : well_from 0 (drop at s) ≡ well_from 0 (drop (at + c.size) s)
    unfolding well_from
    well-next = rw (drop-step s at inside, here, well-skip (c.size - 1) (drop (at + 1) s), drop-drop (c.size - 1) (at + 1) s, past)

  pub well-not : character (drop at s) ≡ None → at < length s → well_from 0 (drop at s) ≡ false
  unfolding well_from
  well-not e h = rw (drop-step s at h, rw (drop-step s at h) at e)

-- what the code's loop over a line says
module _ (s : List ℕ) (at : ℕ) (d : Option Character) (is : d ≡ character (drop at s)) where
  module _ (c : Character) (e : d ≡ Some c) where
    fits : (1 ≤ c.size) × (at + c.size ≤ length s)
    fits = size_fits s at c (sym is ∙ e)

    pub well-on : well_formed s ≡ well_from 0 (drop at s) → well_formed s ≡ well_from 0 (drop (at + c.size) s)
    well-on so_far = so_far ∙ well-next s at c (sym is ∙ e)

    pub end-inside : at + c.size ≤ length s
    end-inside = fits.1

    pub end_fits : length s < 2 ^ 64 → at + c.size < 2 ^ 64
    end_fits short = omega (arith, fits)

    pub fewer-left : length s - (at + c.size) < length s - at
    fewer-left = omega (arith, fits)

  pub ill-formed : d ≡ None → at < length s → well_formed s ≡ well_from 0 (drop at s) → false ≡ well_formed s
  ill-formed e inside so_far = sym (so_far ∙ well-not s at (cc) inside)

pub well-to-the-end : (s : List ℕ) (at : ℕ) → at ≤ length s → length s ≤ at → well_formed s ≡ well_from 0 (drop at s) → true ≡ well_formed s
unfolding well_from
well-to-the-end s at low high so_far = sym (so_far ∙ rw (drop_of_length-le s high))

-- a line of lines that are well formed
pub well-line : (ls : List (List ℕ)) → ((l : List ℕ) → Memᴰ l ls → well_formed l ≡ true) → (i : ℕ) → well_formed (get_or ls i no_text) ≡ true
unfolding well_from
well-line [] h i = refl
well-line (l ∷ ls) h zero = h l (Memᴰ.head refl)
well-line (l ∷ ls) h (suc i) = well-line ls (λ k m. h k (Memᴰ.tail m)) i
