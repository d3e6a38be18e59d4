-- Laws of an array with entries replaced.
use Prim.Native.Nat.{ℕ, ◌+◌, ◌-◌, ◌≤◌, ◌<◌}
use mathlib.Core.Path.{◌≡◌, sym, ap, ap₂, ◌∙◌}
use mathlib.Core.List.{List, [], ◌∷◌, ◌++◌, append-nil, append_assoc}
use native.Mathlib.Omega.{arith}
use native.Mathlib.Nat.{add-zero, add_assoc}
use native.Mathlib.Numerals.{add-one}
use lib.ListN.{length, take, drop, set, length-append, length-take, length-drop, take-append-drop}
use lib.Seq.{take_at, drop_at, drop-drop, take-add, set_split, length-take-le, take-append-le, take-take}
use borrow.Rule.Slice.PartMut.{put_mid, Post-is}
use Rattle.slots.specs.Replaced.{replaced}

module _ (array : List ℕ) (at : ℕ) where
  pub replaced-none : array ≡ replaced array at []
  replaced-none = rw (add-zero at, append-nil, take-append-drop at array)

  module _ (entries : List ℕ) (room : at + length entries ≤ length array) where
    pub length-replaced : length (replaced array at entries) ≡ length array
    length-replaced = simp (length-append, length-take, length-drop) (omega arith)

    head-length : length (take at array ++ entries) ≡ at + length entries
    head-length = simp (length-append, length-take) (omega arith)

    pub take-replaced : take (at + length entries) (replaced array at entries) ≡ take at array ++ entries
    take-replaced = take_at (take at array ++ entries) (drop (at + length entries) array) (at + length entries) head-length

    pub drop-replaced : drop (at + length entries) (replaced array at entries) ≡ drop (at + length entries) array
    drop-replaced = drop_at (take at array ++ entries) (drop (at + length entries) array) (at + length entries) head-length

    -- entries after entries
    pub replaced-more : (more : List ℕ) → replaced (replaced array at entries) (at + length entries) more ≡ replaced array at (entries ++ more)
    replaced-more more =
        rw (
          take-replaced,
          ← drop-drop (length more) (at + length entries) (replaced array at entries),
          drop-replaced,
          drop-drop (length more) (at + length entries) array,
          append_assoc (take at array) entries more,
          length-append entries more,
          add_assoc,
        )

-- writing one entry
pub set-replaces : (array : List ℕ) (i v : ℕ) → i < length array → set array i v ≡ replaced array i (v ∷ [])
set-replaces array i v h = rw (add-one, append_assoc) (set_split array i v h)

-- a part written
pub part-put : (array : List ℕ) (at n : ℕ) (part : List ℕ) → at + n ≤ length array → length part ≡ n → put_mid at (at + n - at) array part ≡ replaced array at part
part-put array at n part room long =
    ap (λ (l : List ℕ). take at array ++ (part ++ l)) (Post-is at (at + n) array (omega arith)) ∙ sym (append_assoc (take at array) part (drop (at + n) array))
    ∙ ap (λ (k : ℕ). take at array ++ part ++ drop (at + k) array) (sym long)

-- ---- parts of an array with entries replaced
part-taken : (l : List ℕ) (a n : ℕ) → a + n ≤ length l → take n (drop a l) ≡ drop a (take (a + n) l)
part-taken l a n h = sym (ap (drop a) (take-add a n l) ∙ drop_at (take a l) (take n (drop a l)) a (length-take-le a l (omega arith)))

pub part-kept : (array array' : List ℕ) (at a n : ℕ) → take at array' ≡ take at array → at ≤ length array → length array' ≡ length array → a + n ≤ at
    → take n (drop a array') ≡ take n (drop a array)
part-kept array array' at a n same room kept h =
    part-taken array' a n (omega arith)
    ∙ ap (drop a) (sym (take-take (a + n) at array' h) ∙ ap (take (a + n)) same ∙ take-take (a + n) at array h)
    ∙ sym (part-taken array a n (omega arith))

module _ (array : List ℕ) (at : ℕ) (entries : List ℕ) (room : at + length entries ≤ length array) where
  pub part-before : (a n : ℕ) → a + n ≤ at → take n (drop a (replaced array at entries)) ≡ take n (drop a array)
  part-before a n h =
      part-taken (replaced array at entries) a n (omega (arith, length-replaced array at entries room))
      ∙ ap (drop a) same ∙ sym (part-taken array a n (omega arith)) where
        first : length (take at array) ≡ at
        first = length-take-le at array (omega arith)

        same : take (a + n) (replaced array at entries) ≡ take (a + n) array
        same =
            take-append-le (a + n) (take at array ++ entries) (drop (at + length entries) array) (omega (arith, first, length-append (take at array) entries))
            ∙ take-append-le (a + n) (take at array) entries (omega (arith, first)) ∙ take-take (a + n) at array h

  pub part-replaced : (n : ℕ) → length entries ≡ n → take n (drop at (replaced array at entries)) ≡ entries
  part-replaced n e =
      rw (← e)
      (part-taken (replaced array at entries) at (length entries) (omega (arith, length-replaced array at entries room))
      ∙ ap (drop at) (take-replaced array at entries room) ∙ drop_at (take at array) entries at (length-take-le at array (omega arith)))

  pub part-after : (a n : ℕ) → at + length entries ≤ a → take n (drop a (replaced array at entries)) ≡ take n (drop a array)
  part-after a n h =
      let past : at + length entries + (a - (at + length entries)) ≡ a = omega arith in
      ap (take n)
      (ap (λ (k : ℕ). drop k (replaced array at entries)) (sym past) ∙ sym (drop-drop (a - (at + length entries)) (at + length entries) (replaced array at entries))
      ∙ ap (drop (a - (at + length entries))) (drop-replaced array at entries room) ∙ drop-drop (a - (at + length entries)) (at + length entries) array
      ∙ ap (λ (k : ℕ). drop k array) past)

-- entries that stand there already
pub replaced-same : (array : List ℕ) (at : ℕ) (entries : List ℕ) → at + length entries ≤ length array → take (length entries) (drop at array) ≡ entries → array ≡ replaced array at entries
replaced-same array at entries room there =
    sym (take-append-drop at array)
    ∙ ap (λ (l : List ℕ). take at array ++ l) (sym (take-append-drop (length entries) (drop at array)) ∙ ap₂ (λ (l m : List ℕ). l ++ m) there (drop-drop (length entries) at array))
    ∙ sym (append_assoc (take at array) entries (drop (at + length entries) array))
