-- Laws of the reader of tags: a tree that can be read is given back from its bytes.
use Prim.Native.Nat.{ℕ, zero, suc, ◌+◌, ◌≤◌, ◌<◌}
use mathlib.Core.Path.{◌≡◌, refl, sym, ap, ◌∙◌}
use mathlib.Core.Bool.{true, false}
use mathlib.Core.Logic.{◌⊎◌, inl, inr}
use mathlib.Core.List.{List, [], ◌∷◌, ◌++◌, flat_map, append_assoc, append-nil, Memᴰ}
use mathlib.Core.Option.{Option, some}
use native.Mathlib.Omega.{arith}
use lib.Dec.{eqb}
use borrow.Author.Tests.{eq-eqb}
use lib.ListN.{length, get_or, get_or-append, length-append}
use Rattle.seq.specs.Lists.{any}
use Rattle.seq.specs.Ascii.{ascii}
use Rattle.seq.proofs.Tests.{or-neither, or-none}
use Rattle.seq.proofs.Searches.{any_none}
use Rattle.seq.proofs.Positions.{get_or-mem}
use Rattle.html.specs.Tags.{Attribute, Tag, Forest, nothing, text, single, element, attribute_text, tag_text, closing_text, render, before, from, after, read_attributes, read_tag, holds_nothing, Read, and_after, tagged, read_one, read_pieces, whole, read_tags}

-- ---- bytes without a byte
abbrev pub Lacks : ℕ → List ℕ → Type 0
Lacks stop bytes = any (λ b. eqb b stop) bytes ≡ false

module _ (stop : ℕ) where
  pub lacks-append : (a b : List ℕ) → Lacks stop a → Lacks stop b → Lacks stop (a ++ b)
  unfolding any
  lacks-append [] b h k = k
  lacks-append (x ∷ a) b h k =
      let both = or-neither (eqb x stop) (any (λ c. eqb c stop) a) h in
      or-none both.0 (lacks-append a b both.1 k)

  before-until : (a b : List ℕ) → Lacks stop a → before stop (a ++ stop ∷ b) ≡ a
  unfolding any before
  before-until [] b h = rw (eq-eqb stop stop refl)
  before-until (x ∷ a) b h =
      let both = or-neither (eqb x stop) (any (λ c. eqb c stop) a) h in
      rw both.0 (ap (λ (l : List ℕ). x ∷ l) (before-until a b both.1))

  before-all : (a : List ℕ) → Lacks stop a → before stop a ≡ a
  unfolding any before
  before-all [] h = refl
  before-all (x ∷ a) h =
      let both = or-neither (eqb x stop) (any (λ c. eqb c stop) a) h in
      rw both.0 (ap (λ (l : List ℕ). x ∷ l) (before-all a both.1))

  from-until : (a b : List ℕ) → Lacks stop a → from stop (a ++ stop ∷ b) ≡ stop ∷ b
  unfolding any from
  from-until [] b h = rw (eq-eqb stop stop refl)
  from-until (x ∷ a) b h =
      let both = or-neither (eqb x stop) (any (λ c. eqb c stop) a) h in
      rw both.0 (from-until a b both.1)

  from_all : (a : List ℕ) → Lacks stop a → from stop a ≡ []
  unfolding any from
  from_all [] h = refl
  from_all (x ∷ a) h =
      let both = or-neither (eqb x stop) (any (λ c. eqb c stop) a) h in
      rw both.0 (from_all a both.1)

  first-other : (a b : List ℕ) → 0 < length a → Lacks stop a → eqb (get_or (a ++ b) 0 0) stop ≡ false
  first-other a b h k = rw (get_or-append a b 0 0 h) (any_none (λ c. eqb c stop) k (get_or-mem a 0 0 h))

after-itself : (a b : List ℕ) → after a (a ++ b) ≡ some b
unfolding after
after-itself [] b = refl
after-itself (x ∷ a) b = rw (eq-eqb x x refl) (after-itself a b)

-- ---- tags
pub record ReadableAttribute (a : Attribute) : Type 0 where
  pub named : 0 < length a.name
  pub name_equals : Lacks 0x3d a.name
  pub name_slash : Lacks 0x2f a.name
  pub name_angle : Lacks 0x3e a.name
  pub value_quote : Lacks 0x22 a.value
  pub value_angle : Lacks 0x3e a.value

pub record ReadableTag (t : Tag) : Type 0 where
  pub named : 0 < length t.name
  pub name_space : Lacks 0x20 t.name
  pub name_slash : Lacks 0x2f t.name
  pub name_angle : Lacks 0x3e t.name
  pub each : (a : Attribute) → Memᴰ a t.attributes → ReadableAttribute a

attribute-bytes : (a : Attribute) (rest : List ℕ) → attribute_text a ++ rest ≡ 0x20 ∷ (a.name ++ 0x3d ∷ (0x22 ∷ (a.value ++ 0x22 ∷ rest)))
unfolding ascii
attribute-bytes a rest = simp append_assoc

-- what follows a name inside a tag: nothing, or something after a space
abbrev Spaced : List ℕ → Type 0
Spaced l = (l ≡ []) ⊎ ((more : List ℕ) × (l ≡ 0x20 ∷ more))

-- the end of a tag's text: nothing, or a slash after a space
abbrev Tail : List ℕ → Type 0
Tail l = (l ≡ []) ⊎ (l ≡ 0x20 ∷ 0x2f ∷ [])

attributes-spaced : (l : List Attribute) (tail : List ℕ) → Tail tail → Spaced (flat_map attribute_text l ++ tail)
unfolding flat_map
attributes-spaced [] tail (inl e) = inl e
attributes-spaced [] tail (inr e) = inr (0x2f ∷ [], e)
attributes-spaced (a ∷ l) tail h =
    inr (
      a.name ++ 0x3d ∷ (0x22 ∷ (a.value ++ 0x22 ∷ (flat_map attribute_text l ++ tail))),
      append_assoc (attribute_text a) (flat_map attribute_text l) tail ∙ attribute-bytes a (flat_map attribute_text l ++ tail),
    )

attributes-back : (l : List Attribute) (tail : List ℕ) (n : ℕ) → Tail tail → length l ≤ n → ((a : Attribute) → Memᴰ a l → ReadableAttribute a)
    → read_attributes n (flat_map attribute_text l ++ tail) ≡ l
unfolding flat_map read_attributes
attributes-back [] tail zero h p good = refl
attributes-back [] tail (suc n) (inl e) p good = rw e
attributes-back [] tail (suc n) (inr e) p good = rw e
attributes-back (a ∷ l) tail zero h p good = absurd (omega arith)
attributes-back (a ∷ l) tail (suc n) h p good =
    ap (read_attributes (suc n)) (append_assoc (attribute_text a) (flat_map attribute_text l) tail ∙ attribute-bytes a rest)
    ∙ rw (
      first-other 0x2f a.name (0x3d ∷ (0x22 ∷ (a.value ++ 0x22 ∷ rest))) fine.named fine.name_slash,
      before-until 0x3d a.name (0x22 ∷ (a.value ++ 0x22 ∷ rest)) fine.name_equals,
      from-until 0x3d a.name (0x22 ∷ (a.value ++ 0x22 ∷ rest)) fine.name_equals,
      before-until 0x22 a.value rest fine.value_quote,
      from-until 0x22 a.value rest fine.value_quote,
    )
    (ap (λ (k : List Attribute). a ∷ k) (attributes-back l tail n h (omega arith) (λ b m. good b (Memᴰ.tail m)))) where
      rest : List ℕ
      rest = flat_map attribute_text l ++ tail

      fine : ReadableAttribute a
      fine = good a (Memᴰ.head refl)

attributes-short : (l : List Attribute) → length l ≤ length (flat_map attribute_text l)
unfolding flat_map ascii
attributes-short [] = omega arith
attributes-short (a ∷ l) =
    let more : length (flat_map attribute_text (a ∷ l)) ≡ length (attribute_text a) + length (flat_map attribute_text l) = length-append (attribute_text a) (flat_map attribute_text l) in
    let some_bytes : 1 ≤ length (attribute_text a) = omega arith in
    omega (arith, attributes-short l, more, some_bytes)

spaced-before : (name r : List ℕ) → Lacks 0x20 name → Spaced r → before 0x20 (name ++ r) ≡ name
spaced-before name r h (inl e) = rw e (ap (before 0x20) (append-nil name) ∙ before-all 0x20 name h)
spaced-before name r h (inr (more, e)) = rw e (before-until 0x20 name more h)

spaced-from : (name r : List ℕ) → Lacks 0x20 name → Spaced r → from 0x20 (name ++ r) ≡ r
spaced-from name r h (inl e) = rw e (ap (from 0x20) (append-nil name) ∙ from_all 0x20 name h)
spaced-from name r h (inr (more, e)) = rw e (from-until 0x20 name more h)

tag_back : (t : Tag) (tail : List ℕ) → Tail tail → ReadableTag t → read_tag (tag_text t ++ tail) ≡ t
unfolding read_tag
tag_back t tail h good =
    let rest = flat_map attribute_text t.attributes ++ tail in
    let spaced = attributes-spaced t.attributes tail h in
    let short : length t.attributes ≤ length (t.name ++ rest) =
    omega (arith, attributes-short t.attributes, length-append t.name rest, length-append (flat_map attribute_text t.attributes) tail) in
    ap read_tag (append_assoc t.name (flat_map attribute_text t.attributes) tail)
    ∙ rw (spaced-before t.name rest good.name_space spaced, spaced-from t.name rest good.name_space spaced)
    (ap (λ (l : List Attribute). record { name = t.name; attributes = l }) (attributes-back t.attributes tail (length (t.name ++ rest)) h short good.each))

attributes-angle : (l : List Attribute) → ((a : Attribute) → Memᴰ a l → ReadableAttribute a) → Lacks 0x3e (flat_map attribute_text l)
unfolding flat_map any ascii
attributes-angle [] fine = refl
attributes-angle (a ∷ l) fine =
    let this = fine a (Memᴰ.head refl) in
    let value = lacks-append 0x3e a.value (0x22 ∷ []) this.value_angle refl in
    let name = lacks-append 0x3e a.name (0x3d ∷ 0x22 ∷ (a.value ++ 0x22 ∷ [])) this.name_angle value in
    let whole : Lacks 0x3e (attribute_text a) =
    ap (any (λ b. eqb b 0x3e)) (sym (append-nil (attribute_text a)) ∙ attribute-bytes a []) ∙ name in
    lacks-append 0x3e (attribute_text a) (flat_map attribute_text l) whole (attributes-angle l (λ b m. fine b (Memᴰ.tail m)))

tag-angle : (t : Tag) → ReadableTag t → Lacks 0x3e (tag_text t)
tag-angle t good = lacks-append 0x3e t.name (flat_map attribute_text t.attributes) good.name_angle (attributes-angle t.attributes good.each)

-- ---- trees
abbrev pub NoText : Forest → Type 0
NoText nothing = Unit
NoText (text bytes f) = ⊥
NoText (single t f) = Unit
NoText (element t inside f) = Unit

-- texts that are there, hold no `<` and stand apart; tags that can be read
unfoldable pub Readable : Forest → Type 0
Readable nothing = Unit
Readable (text bytes f) = (0 < length bytes) × Lacks 0x3c bytes × NoText f × Readable f
Readable (single t f) = ReadableTag t × (holds_nothing t ≡ true) × Readable f
Readable (element t inside f) = ReadableTag t × (holds_nothing t ≡ false) × Readable inside × Readable f

unfoldable size : Forest → ℕ
size nothing = 1
size (text bytes f) = 1 + size f
size (single t f) = 1 + size f
size (element t inside f) = 1 + (size inside + size f)

-- where reading stops: at the end, or before a closing tag
abbrev Stop : List ℕ → Type 0
Stop l = (l ≡ []) ⊎ ((more : List ℕ) × (l ≡ 0x3c ∷ 0x2f ∷ more))

single-bytes : (tag f rest : List ℕ) → (ascii "<" ++ tag ++ ascii " />" ++ f) ++ rest ≡ 0x3c ∷ ((tag ++ 0x20 ∷ 0x2f ∷ []) ++ 0x3e ∷ (f ++ rest))
unfolding ascii
single-bytes tag f rest = simp append_assoc

element-bytes : (tag inside close f rest : List ℕ)
    → (ascii "<" ++ tag ++ ascii ">" ++ inside ++ close ++ f) ++ rest ≡ 0x3c ∷ (tag ++ 0x3e ∷ (inside ++ (close ++ (f ++ rest))))
unfolding ascii
element-bytes tag inside close f rest = simp append_assoc

closing-stops : (t : Tag) (rest : List ℕ) → Stop (closing_text t ++ rest)
unfolding ascii
closing-stops t rest = inr (t.name ++ ascii ">" ++ rest, refl)

abbrev read_to : Forest → List ℕ → Option Read
read_to f rest = some (record { forest = f; rest = rest })

-- ---- one piece
module _ (next : List ℕ → Option Read) where
  one_end : (rest : List ℕ) → Stop rest → read_one next rest ≡ read_to nothing rest
  unfolding read_one
  one_end rest (inl e) = rw e
  one_end rest (inr (more, e)) = rw e

  one-text : (bytes rest : List ℕ) → 0 < length bytes → Lacks 0x3c bytes → (rest ≡ []) ⊎ ((more : List ℕ) × (rest ≡ 0x3c ∷ more))
      → read_one next (bytes ++ rest) ≡ and_after next (text bytes) (next rest)
  unfolding read_one any
  one-text [] rest h k to = absurd (omega arith)
  one-text (b ∷ bs) rest h k to =
      rw (or-neither (eqb b 0x3c) (any (λ c. eqb c 0x3c) bs) k).0
      (rw (text-before to, text-from to)) where
        text-before : (rest ≡ []) ⊎ ((more : List ℕ) × (rest ≡ 0x3c ∷ more)) → before 0x3c (b ∷ (bs ++ rest)) ≡ b ∷ bs
        text-before (inl e) = rw e (ap (before 0x3c) (append-nil (b ∷ bs)) ∙ before-all 0x3c (b ∷ bs) k)
        text-before (inr (more, e)) = rw e (before-until 0x3c (b ∷ bs) more k)

        text-from : (rest ≡ []) ⊎ ((more : List ℕ) × (rest ≡ 0x3c ∷ more)) → from 0x3c (b ∷ (bs ++ rest)) ≡ rest
        text-from (inl e) = rw e (ap (from 0x3c) (append-nil (b ∷ bs)) ∙ from_all 0x3c (b ∷ bs) k)
        text-from (inr (more, e)) = rw e (from-until 0x3c (b ∷ bs) more k)

  one_tag : (tag rest : List ℕ) → eqb (get_or (tag ++ 0x3e ∷ rest) 0 0) 0x2f ≡ false → Lacks 0x3e tag
      → read_one next (0x3c ∷ (tag ++ 0x3e ∷ rest)) ≡ tagged next (read_tag tag) rest
  unfolding read_one
  one_tag tag rest first h = rw (first, before-until 0x3e tag rest h, from-until 0x3e tag rest h)

tag-first : (t : Tag) (l : List ℕ) → ReadableTag t → eqb (get_or (tag_text t ++ l) 0 0) 0x2f ≡ false
tag-first t l good =
    rw (append_assoc t.name (flat_map attribute_text t.attributes) l) (first-other 0x2f t.name (flat_map attribute_text t.attributes ++ l) good.named good.name_slash)

-- after what is no text stands a tag, or nothing
starts-tag : (f : Forest) (rest : List ℕ) → NoText f → Stop rest → (render f ++ rest ≡ []) ⊎ ((more : List ℕ) × (render f ++ rest ≡ 0x3c ∷ more))
unfolding render
starts-tag nothing rest h (inl e) = inl e
starts-tag nothing rest h (inr (more, e)) = inr (0x2f ∷ more, e)
starts-tag (text bytes f) rest h stop = absurd h
starts-tag (single t f) rest h stop = inr (_, single-bytes (tag_text t) (render f) rest)
starts-tag (element t inside f) rest h stop = inr (_, element-bytes (tag_text t) (render inside) (closing_text t) (render f) rest)

trees-back : (f : Forest) (n : ℕ) (rest : List ℕ) → Readable f → size f ≤ n → Stop rest → read_pieces n (render f ++ rest) ≡ read_to f rest
unfolding read_pieces render Readable size any
trees-back nothing zero rest good p stop = absurd (omega arith)
trees-back nothing (suc n) rest good p stop = one_end (read_pieces n) rest stop
trees-back (text bytes f) zero rest good p stop = absurd (omega arith)
trees-back (text bytes f) (suc n) rest good p stop =
    ap (read_one (read_pieces n)) (append_assoc bytes (render f) rest)
    ∙ one-text (read_pieces n) bytes (render f ++ rest) good.0 good.1 (starts-tag f rest good.2 stop)
    ∙ ap (and_after (read_pieces n) (text bytes)) (trees-back f n rest good.3 (omega arith) stop)
trees-back (single t f) zero rest good p stop = absurd (omega arith)
trees-back (single t f) (suc n) rest good p stop =
    let slash : List ℕ = 0x20 ∷ 0x2f ∷ [] in
    let tag = tag_text t ++ slash in
    let first : eqb (get_or (tag ++ 0x3e ∷ (render f ++ rest)) 0 0) 0x2f ≡ false =
    ap (λ (l : List ℕ). eqb (get_or l 0 0) 0x2f) (append_assoc (tag_text t) slash (0x3e ∷ (render f ++ rest)))
    ∙ tag-first t (slash ++ 0x3e ∷ (render f ++ rest)) good.0 in
    ap (read_one (read_pieces n)) (single-bytes (tag_text t) (render f) rest)
    ∙ one_tag (read_pieces n) tag (render f ++ rest) first (lacks-append 0x3e (tag_text t) slash (tag-angle t good.0) refl)
    ∙ rw (tag_back t slash (inr refl) good.0, good.1) (ap (and_after (read_pieces n) (single t)) (trees-back f n rest good.2 (omega arith) stop))
trees-back (element t inside f) zero rest good p stop = absurd (omega arith)
trees-back (element t inside f) (suc n) rest good p stop =
    let behind = closing_text t ++ (render f ++ rest) in
    let read : read_tag (tag_text t) ≡ t = ap read_tag (sym (append-nil (tag_text t))) ∙ tag_back t [] (inl refl) good.0 in
    ap (read_one (read_pieces n)) (element-bytes (tag_text t) (render inside) (closing_text t) (render f) rest)
    ∙ one_tag (read_pieces n) (tag_text t) (render inside ++ behind) (tag-first t (0x3e ∷ (render inside ++ behind)) good.0) (tag-angle t good.0)
    ∙ rw (read, good.1, trees-back inside n behind good.2 (omega arith) (closing-stops t (render f ++ rest)), after-itself (closing_text t) (render f ++ rest))
    (ap (and_after (read_pieces n) (element t inside)) (trees-back f n rest good.3 (omega arith) stop))

sized : (f : Forest) → Readable f → size f ≤ length (render f) + 1
unfolding render Readable size ascii
sized nothing good = omega arith
sized (text bytes f) good = omega (arith, good.0, length-append bytes (render f), sized f good.3)
sized (single t f) good =
    let opened : 1 ≤ length (ascii "<" ++ tag_text t ++ ascii " />") = omega arith in
    omega (arith, opened, length-append (ascii "<" ++ tag_text t ++ ascii " />") (render f), sized f good.2)
sized (element t inside f) good =
    let opened = ascii "<" ++ tag_text t ++ ascii ">" in
    let first : 1 ≤ length opened = omega arith in
    let closed : 1 ≤ length (closing_text t) = omega arith in
    omega (
      arith,
      first,
      closed,
      length-append opened (render inside),
      length-append (opened ++ render inside) (closing_text t),
      length-append (opened ++ render inside ++ closing_text t) (render f),
      sized inside good.2,
      sized f good.3,
    )

-- a tree that can be read is given back from its bytes
pub tags-back : (f : Forest) → Readable f → read_tags (render f) ≡ some f
unfolding read_tags
tags-back f good =
    ap whole (ap (read_pieces (length (render f) + 1)) (sym (append-nil (render f))) ∙ trees-back f (length (render f) + 1) [] good (sized f good) (inl refl))
