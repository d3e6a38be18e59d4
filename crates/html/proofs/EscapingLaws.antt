-- What is escaped has no `<`, and taken back it is the line that was given.
use Prim.Native.Nat.{ℕ, zero, suc, ◌≤◌}
use mathlib.Core.Path.{◌≡◌, refl, sym, ap, ◌∙◌}
use mathlib.Core.Bool.{Bool, true, false, cond}
use mathlib.Core.List.{List, [], ◌∷◌, ◌++◌, flat_map}
use native.Mathlib.Omega.{arith}
use lib.Dec.{eqb}
use lib.ListN.{length}
use borrow.Author.Tests.{eqb-true}
use Rattle.seq.specs.Lists.{any}
use Rattle.seq.specs.Ascii.{ascii}
use Rattle.html.specs.Tags.{after}
use Rattle.html.specs.Escaping.{escape_byte, escape, unescape}
use Rattle.html.proofs.TagLaws.{Lacks, lacks-append}

byte-lacks : (b : ℕ) → Lacks 0x3c (escape_byte b)
unfolding escape_byte ascii any
byte-lacks b = amp (eqb b 0x26) where
  amp : (t : Bool) → Lacks 0x3c (cond t (ascii "&amp;") (cond (eqb b 0x3c) (ascii "&lt;") (cond (eqb b 0x3e) (ascii "&gt;") (b ∷ []))))
  amp true = refl
  amp false = lt (eqb b 0x3c) refl where
    gt : eqb b 0x3c ≡ false → (t : Bool) → Lacks 0x3c (cond t (ascii "&gt;") (b ∷ []))
    gt e true = refl
    gt e false = rw e

    lt : (t : Bool) → eqb b 0x3c ≡ t → Lacks 0x3c (cond t (ascii "&lt;") (cond (eqb b 0x3e) (ascii "&gt;") (b ∷ [])))
    lt true e = refl
    lt false e = gt e (eqb b 0x3e)

-- what is escaped has no `<`
pub escape-lacks : (line : List ℕ) → Lacks 0x3c (escape line)
unfolding escape any flat_map
escape-lacks [] = refl
escape-lacks (b ∷ line) = lacks-append 0x3c (escape_byte b) (escape line) (byte-lacks b) (escape-lacks line)

-- one byte that is taken back
byte-back : (b n : ℕ) (rest : List ℕ) → unescape (suc n) (escape_byte b ++ rest) ≡ b ∷ unescape n rest
unfolding escape_byte unescape after ascii
byte-back b n rest = amp (eqb b 0x26) refl where
  gt : (t : Bool) → eqb b 0x3e ≡ t → eqb b 0x26 ≡ false → unescape (suc n) (cond t (ascii "&gt;") (b ∷ []) ++ rest) ≡ b ∷ unescape n rest
  gt true e other = ap (λ (c : ℕ). c ∷ unescape n rest) (sym (eqb-true b 0x3e e))
  gt false e other = rw other

  lt : (t : Bool) → eqb b 0x3c ≡ t → eqb b 0x26 ≡ false
      → unescape (suc n) (cond t (ascii "&lt;") (cond (eqb b 0x3e) (ascii "&gt;") (b ∷ [])) ++ rest) ≡ b ∷ unescape n rest
  lt true e other = ap (λ (c : ℕ). c ∷ unescape n rest) (sym (eqb-true b 0x3c e))
  lt false e other = gt (eqb b 0x3e) refl other

  amp : (t : Bool) → eqb b 0x26 ≡ t
      → unescape (suc n) (cond t (ascii "&amp;") (cond (eqb b 0x3c) (ascii "&lt;") (cond (eqb b 0x3e) (ascii "&gt;") (b ∷ []))) ++ rest) ≡ b ∷ unescape n rest
  amp true e = ap (λ (c : ℕ). c ∷ unescape n rest) (sym (eqb-true b 0x26 e))
  amp false e = lt (eqb b 0x3c) refl e

-- taken back it is the line
pub unescape-escape : (line : List ℕ) (n : ℕ) → length line ≤ n → unescape n (escape line) ≡ line
unfolding escape unescape flat_map
unescape-escape [] zero h = refl
unescape-escape [] (suc n) h = refl
unescape-escape (b ∷ line) zero h = absurd (omega arith)
unescape-escape (b ∷ line) (suc n) h = byte-back b n (escape line) ∙ ap (λ (l : List ℕ). b ∷ l) (unescape-escape line n (omega arith))
