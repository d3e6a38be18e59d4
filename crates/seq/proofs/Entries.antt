-- Laws of entries written to an array in turn, some for each element of a list.
use Prim.Native.Nat.{ℕ, ◌+◌, ◌*◌, ◌≤◌, ◌<◌}
use mathlib.Core.Path.{◌≡◌, refl, sym, ap, ◌∙◌}
use mathlib.Core.List.{List, [], ◌∷◌, ◌++◌, flat_map, append-nil, append_assoc}
use native.Mathlib.Omega.{arith}
use native.Mathlib.Nat.{add-zero, mul-suc, mul-le-mul_left}
use native.Mathlib.Numerals.{add-one}
use lib.ListN.{length, take, drop, get_or, length-append, length-drop, take-append-drop}
use Rattle.seq.proofs.FlatMaps.{flat_map-append, length-flat_map}
use lib.Seq.{sets, sets-eq, take_all, take_at, drop-append-add, drop-drop, take-suc, length-take-le}

-- a part written over what lies after the part before it
pasted : (done vs buffer out : List ℕ) (at : ℕ) → length done ≡ at → out ≡ done ++ drop at buffer
    → take at out ++ vs ++ drop (at + length vs) out ≡ done ++ vs ++ drop (at + length vs) buffer
pasted done vs buffer out at e g = rw (g, take_at done (drop at buffer) at e) (ap (λ (l : List ℕ). done ++ vs ++ l) rest) where
  rest : drop (at + length vs) (done ++ drop at buffer) ≡ drop (at + length vs) buffer
  rest = rw (← e) (drop-append-add done (drop (length done) buffer) (length vs) ∙ drop-drop (length vs) (length done) buffer)

module _ {B : Type 0} (f : B → List ℕ) where
  flat_map-more : (l : List B) (k : ℕ) (d : B) → k < length l → flat_map f (take (k + 1) l) ≡ flat_map f (take k l) ++ f (get_or l k d)
  unfolding flat_map
  flat_map-more l k d h =
      rw (add-one k, take-suc l k d h) (flat_map-append f (take k l) (get_or l k d ∷ []) ∙ rw (append-nil (f (get_or l k d))))

  pub length_more : (l : List B) (k : ℕ) (d : B) → k < length l → length (flat_map f (take (k + 1) l)) ≡ length (flat_map f (take k l)) + length (f (get_or l k d))
  length_more l k d h = rw (flat_map-more l k d h) (length-append (flat_map f (take k l)) (f (get_or l k d)))

  pub first-shorter : (l : List B) (k : ℕ) → length (flat_map f (take k l)) ≤ length (flat_map f l)
  first-shorter l k =
      let parts : flat_map f l ≡ flat_map f (take k l) ++ flat_map f (drop k l) = ap (flat_map f) (sym (take-append-drop k l)) ∙ flat_map-append f (take k l) (drop k l) in
      omega (arith, ap length parts, length-append (flat_map f (take k l)) (flat_map f (drop k l)))

  -- from an entry on, the entries of the first k
  pub record Written (l : List B) (from : ℕ) (buffer : List ℕ) (k : ℕ) (out : List ℕ) : Type 0 where
    pub kept : length out ≡ length buffer
    pub written : out ≡ take from buffer ++ flat_map f (take k l) ++ drop (from + length (flat_map f (take k l))) buffer

  pub none_written : (l : List B) (from : ℕ) (buffer : List ℕ) → Written l from buffer 0 buffer
  unfolding flat_map
  none_written l from buffer = record { kept = refl; written = rw (append-nil, add-zero from, take-append-drop) }

  pub all-written : (l : List B) (from : ℕ) (buffer out : List ℕ) (k : ℕ) → length l ≤ k → Written l from buffer k out
      → out ≡ take from buffer ++ flat_map f l ++ drop (from + length (flat_map f l)) buffer
  all-written l from buffer out k h w = w.written ∙ rw (take_all k l h)

  -- one turn: the entries of number k at their place
  module _ (l : List B) (from : ℕ) (buffer out : List ℕ) (k : ℕ) (d : B) (h : k < length l) (w : Written l from buffer k out) where
    pub write-more : (at : ℕ) (out' : List ℕ) → at ≡ from + length (flat_map f (take k l)) → at + length (f (get_or l k d)) ≤ length buffer
        → out' ≡ take at out ++ f (get_or l k d) ++ drop (at + length (f (get_or l k d))) out → Written l from buffer (k + 1) out'
    write-more at out' e room g =
        let (vs, before) : List ℕ × List ℕ = (f (get_or l k d), flat_map f (take k l)) in
        let long : length (take from buffer ++ before) ≡ at = length-append (take from buffer) before ∙ rw (length-take-le from buffer (omega arith)) (sym e) in
        let now : out' ≡ take from buffer ++ before ++ vs ++ drop (at + length vs) buffer =
        g ∙ pasted (take from buffer ++ before) vs buffer out at long (rw e w.written) in
        let end : from + (length before + length vs) ≡ at + length vs = omega arith in
        record {
          kept = ap length now ∙ simp (length-append, length-drop) (omega (arith, length-take-le from buffer (omega arith)));
          written = now ∙ rw (flat_map-more l k d h, length-append before vs, end, ← append_assoc (take from buffer) before vs);
        }

    -- the same by stores, c entries a turn
    pub write-sets : (c : ℕ) → ((b : B) → length (f b) ≡ c) → from + c * length l ≤ length buffer
        → Written l from buffer (k + 1) (sets out (from + c * k) (f (get_or l k d)))
    write-sets c each room =
        let before : length (flat_map f (take k l)) ≡ c * k = length-flat_map c f (take k l) each ∙ rw (length-take-le k l (omega arith)) in
        let next : c * k + c ≤ c * length l = rw mul-suc at (mul-le-mul_left c h) in
        let fits : from + c * k + length (f (get_or l k d)) ≤ length buffer = omega (arith, each (get_or l k d)) in
        write-more (from + c * k) (sets out (from + c * k) (f (get_or l k d))) (rw before) fits
        (sets-eq (f (get_or l k d)) out (from + c * k) (omega (arith, w.kept)))
