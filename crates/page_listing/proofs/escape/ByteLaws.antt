-- One byte, escaped: `amp-escaped`, `lt-escaped`, `gt-escaped`, `byte-kept`; a line of them: `line-next`, `line-all`.
use Prim.Native.Nat.{ℕ, ◌+◌, ◌≤◌, ◌<◌}
use mathlib.Core.Path.{◌≡◌, ap}
use mathlib.Core.List.{List, [], ◌∷◌, flat_map}
use lib.ListN.{length, get_or, take}
use lib.Seq.{take_all}
use borrow.Author.Tests.{eq-eqb, ne_eqb}
use Rattle.seq.specs.Ascii.{ascii}
use Rattle.html.specs.Escaping.{escape_byte, escape}
use Rattle.writer.specs.Writing.{Wrote}
use Rattle.writer.proofs.WritingLaws.{wrote_as, wrote-next}

module _ {d e : List ℕ} {at r : ℕ} (b : ℕ) where
  pub amp-escaped : b ≡ 38 → Wrote d at (ascii "&amp;") e r → Wrote d at (escape_byte b) e r
  unfolding escape_byte
  amp-escaped h p = rw (eq-eqb b 38 h) p

  pub lt-escaped : (b ≡ 38 → ⊥) → b ≡ 60 → Wrote d at (ascii "&lt;") e r → Wrote d at (escape_byte b) e r
  unfolding escape_byte
  lt-escaped f h p = rw (ne_eqb b 38 f, eq-eqb b 60 h) p

  pub gt-escaped : (b ≡ 38 → ⊥) → (b ≡ 60 → ⊥) → b ≡ 62 → Wrote d at (ascii "&gt;") e r → Wrote d at (escape_byte b) e r
  unfolding escape_byte
  gt-escaped f g h p = rw (ne_eqb b 38 f, ne_eqb b 60 g, eq-eqb b 62 h) p

  pub byte-kept : (b ≡ 38 → ⊥) → (b ≡ 60 → ⊥) → (b ≡ 62 → ⊥) → Wrote d at (b ∷ []) e r → Wrote d at (escape_byte b) e r
  unfolding escape_byte
  byte-kept f g h p = rw (ne_eqb b 38 f, ne_eqb b 60 g, ne_eqb b 62 h) p

module _ {d e : List ℕ} {at mid : ℕ} (line : List ℕ) (i : ℕ) (p : Wrote d at (flat_map escape_byte (take i line)) e mid) where
  pub line-next : {f : List ℕ} {r : ℕ} → i < length line → Wrote e mid (escape_byte (get_or line i 0)) f r → Wrote d at (flat_map escape_byte (take (i + 1) line)) f r
  line-next h q = wrote-next escape_byte line i 0 h p q

  pub line-all : length line ≤ i → Wrote d at (escape line) e mid
  unfolding escape
  line-all h = wrote_as p (ap (flat_map escape_byte) (take_all i line h))
