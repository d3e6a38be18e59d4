-- Laws of the alignments of segments and of columns.
use Prim.Native.Nat.{ℕ, suc, ◌+◌, ◌-◌, ◌<◌}
use mathlib.Core.Path.{◌≡◌, refl, ap}
use mathlib.Core.Bool.{Bool, true, false, cond}
use mathlib.Core.List.{List, [], ◌∷◌}
use native.Mathlib.Omega.{arith}
use lib.Dec.{eqb}
use native.Mathlib.Nat.{le_of_lt}
use lib.ListN.{length, take, drop, get_or, drop_of_length-le}
use borrow.Author.Tests.{eq-eqb, ne_eqb}
use Rattle.std.specs.List.{slice_range}
use Rattle.seq.specs.Lists.{last_or}
use Rattle.seq.proofs.ListsLaws.{part_to_end}
use Rattle.text.specs.Characters.{plus, colon}
use Rattle.grid.specs.declared.TableAlignment.{TableAlignment}
use Rattle.grid.specs.declared.TableAlignment.TheVariants.{None, Left, Right, Center}
use Rattle.text.specs.Rule.{to_plus}
use Rattle.grid.specs.Slots.{Pipe, Dash, Other, is_plus}
use Rattle.grid.specs.Layout.{segment_alignment}
use Rattle.grid.specs.Flat.{alignment_code}
use Rattle.representation.specs.Arrays.{code_glyph, code_at}
use Rattle.representation.specs.LayoutEntries.{alignment_from}

-- ---- the alignment of a segment
last-at : (s : List ℕ) (d : ℕ) → (length s ≡ 0 → ⊥) → last_or s d ≡ get_or s (length s - 1) 0
unfolding last_or
last-at [] d filled = absurd (filled refl)
last-at (a ∷ []) d filled = refl
last-at (a ∷ b ∷ s) d filled =
    let e : length (a ∷ b ∷ s) - 1 ≡ suc (length (b ∷ s) - 1) = omega arith in rw e (last-at (b ∷ s) a (λ z. omega arith))

pub segment_alignment-empty : (s : List ℕ) → length s ≡ 0 → None ≡ segment_alignment s
unfolding last_or
segment_alignment-empty [] e = refl
segment_alignment-empty (a ∷ s) e = absurd (omega arith)

module _ (s : List ℕ) (filled : length s ≡ 0 → ⊥) where
  pub segment_alignment-both : get_or s 0 0 ≡ colon → get_or s (length s - 1) 0 ≡ colon → Center ≡ segment_alignment s
  segment_alignment-both e f = rw (last-at s 0 filled, eq-eqb (get_or s 0 0) colon e, eq-eqb (get_or s (length s - 1) 0) colon f)

  pub segment_alignment-left : get_or s 0 0 ≡ colon → (get_or s (length s - 1) 0 ≡ colon → ⊥) → Left ≡ segment_alignment s
  segment_alignment-left e f = rw (last-at s 0 filled, eq-eqb (get_or s 0 0) colon e, ne_eqb (get_or s (length s - 1) 0) colon f)

  pub segment_alignment-right : (get_or s 0 0 ≡ colon → ⊥) → get_or s (length s - 1) 0 ≡ colon → Right ≡ segment_alignment s
  segment_alignment-right e f = rw (last-at s 0 filled, ne_eqb (get_or s 0 0) colon e, eq-eqb (get_or s (length s - 1) 0) colon f)

  pub segment_alignment-none : (get_or s 0 0 ≡ colon → ⊥) → (get_or s (length s - 1) 0 ≡ colon → ⊥) → None ≡ segment_alignment s
  segment_alignment-none e f = rw (last-at s 0 filled, ne_eqb (get_or s 0 0) colon e, ne_eqb (get_or s (length s - 1) 0) colon f)

-- ---- the alignment of a column
to_plus-first : (s : List ℕ) → take (length (to_plus s)) s ≡ to_plus s
unfolding to_plus
to_plus-first [] = refl
to_plus-first (b ∷ bs) = go (eqb b plus) (to_plus-first bs) where
  go : (t : Bool) → take (length (to_plus bs)) bs ≡ to_plus bs → take (length (cond t [] (b ∷ to_plus bs))) (b ∷ bs) ≡ cond t [] (b ∷ to_plus bs)
  go true later = refl
  go false later = ap (λ (l : List ℕ). b ∷ l) later

pub to_plus-length : (s : List ℕ) (end : ℕ) → end ≡ length (to_plus s) → end ≡ length (take end s)
to_plus-length s end e = rw (e, to_plus-first s)

module _ (glyphs offsets line : List ℕ) (a x : ℕ) where
  pub alignment_from-no-plus : (code_at glyphs a x ≡ 3 → ⊥) → 0 ≡ alignment_from glyphs offsets line a x
  alignment_from-no-plus h = rw (ne_eqb (code_at glyphs a x) 3 h) (go (eqb (code_at glyphs a x) 2) (eqb (code_at glyphs a x) 1)) where
    go : (t u : Bool) → 0 ≡ cond (is_plus (cond t Pipe (cond u Dash Other))) (alignment_code (segment_alignment (to_plus (drop (code_at offsets a x + 1) line)))) 0
    go true u = refl
    go false true = refl
    go false false = refl

  pub alignment_from-past-end : (byte : ℕ) → byte ≡ code_at offsets a x → length line < byte + 1 → 0 ≡ alignment_from glyphs offsets line a x
  unfolding to_plus last_or
  alignment_from-past-end byte e h = rw (drop_of_length-le line (le_of_lt (rw e at h))) (go (is_plus (code_glyph (code_at glyphs a x)))) where
    go : (t : Bool) → ◌≡◌ {A = ℕ} 0 (cond t 0 0)
    go true = refl
    go false = refl

  pub alignment_from-found : (byte end : ℕ) (rest : List ℕ) (r : TableAlignment) → code_at glyphs a x ≡ 3 → byte ≡ code_at offsets a x
      → rest ≡ slice_range line (byte + 1) (length line) → end ≡ length (to_plus rest) → r ≡ segment_alignment (take end rest)
      → alignment_code r ≡ alignment_from glyphs offsets line a x
  alignment_from-found byte end rest r g b d e f =
      rw (f, e, d, b, part_to_end line (code_at offsets a x + 1), to_plus-first, eq-eqb (code_at glyphs a x) 3 g)
