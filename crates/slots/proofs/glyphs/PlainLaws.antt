-- Laws of a line of plain bytes, written byte by byte.
use Prim.Native.Nat.{ℕ, ◌+◌, ◌≤◌, ◌<◌}
use mathlib.Core.Path.{◌≡◌, refl, sym, ap, ◌∙◌}
use mathlib.Core.Bool.{Bool}
use mathlib.Core.List.{List, [], ◌∷◌, ◌++◌, map, map-append}
use native.Mathlib.Omega.{arith}
use native.Mathlib.Numerals.{add-one}
use lib.ListN.{length, take, set, get_or, length-map, length-set}
use lib.Seq.{take-suc, length-take-le}
use Rattle.seq.specs.Lists.{range, up_to}
use Rattle.seq.proofs.Ranges.{length-range}
use Rattle.seq.proofs.Gathered.{range-step}
use Rattle.grid.specs.Slots.{glyph_of}
use Rattle.representation.specs.Arrays.{glyph_code}
use Rattle.slots.specs.Replaced.{replaced, byte_codes}
use Rattle.slots.proofs.glyphs.ReplaceLaws.{replaced-none, replaced-more, set-replaces}

-- ---- one entry more
module _ (array₀ array entries : List ℕ) (at i v : ℕ) (long : length entries ≡ i) (room : at + i < length array₀)
    (kept : length array ≡ length array₀) (so_far : array ≡ replaced array₀ at entries) where
  entry_more : set array (at + i) v ≡ replaced array₀ at (entries ++ v ∷ [])
  entry_more =
      set-replaces array (at + i) v (omega arith) ∙ ap (λ (a : List ℕ). replaced a (at + i) (v ∷ [])) so_far
      ∙ ap (λ (n : ℕ). replaced (replaced array₀ at entries) (at + n) (v ∷ [])) (sym long)
      ∙ replaced-more array₀ at entries (omega arith) (v ∷ [])

up-to-next : (i : ℕ) → up_to (i + 1) ≡ up_to i ++ i ∷ []
up-to-next i = range-step 0 i ∙ ap (λ (n : ℕ). up_to i ++ n ∷ []) (omega arith)

-- the first n bytes are written
pub record PlainSoFar (line : List ℕ) (rule : Bool) (at : ℕ) (glyphs₀ offsets₀ glyphs offsets : List ℕ) (byte : ℕ) : Type 0 where
  pub in_line : byte ≤ length line
  pub glyphs_kept : length glyphs ≡ length glyphs₀
  pub offsets_kept : length offsets ≡ length offsets₀
  pub glyphs_hold : glyphs ≡ replaced glyphs₀ at (byte_codes rule (take byte line))
  pub offsets_hold : offsets ≡ replaced offsets₀ at (up_to byte)

pub bytes-start : (line : List ℕ) (rule : Bool) (at : ℕ) (glyphs offsets : List ℕ) → PlainSoFar line rule at glyphs offsets glyphs offsets 0
unfolding range
bytes-start line rule at glyphs offsets =
    record {
      in_line = omega arith;
      glyphs_kept = refl;
      offsets_kept = refl;
      glyphs_hold = replaced-none glyphs at;
      offsets_hold = replaced-none offsets at;
    }

module _ (line : List ℕ) (rule : Bool) (at : ℕ) (glyphs₀ offsets₀ glyphs offsets : List ℕ) (byte : ℕ)
    (so_far : PlainSoFar line rule at glyphs₀ offsets₀ glyphs offsets byte) where
  pub bytes_next : (value code : ℕ) → byte < length line → at + length line ≤ length glyphs₀ → at + length line ≤ length offsets₀
      → value ≡ get_or line byte 0 → code ≡ glyph_code (glyph_of rule value)
      → PlainSoFar line rule at glyphs₀ offsets₀ (set glyphs (at + byte) code) (set offsets (at + byte) byte) (byte + 1)
  bytes_next value code inside room room' is coded =
      let f : ℕ → ℕ = λ (b : ℕ). glyph_code (glyph_of rule b) in
      let more : byte_codes rule (take (byte + 1) line) ≡ byte_codes rule (take byte line) ++ code ∷ [] =
      ap (λ (n : ℕ). map f (take n line)) (add-one byte) ∙ ap (map f) (take-suc line byte 0 inside) ∙ map-append f (take byte line) (get_or line byte 0 ∷ [])
      ∙ ap (λ (v : ℕ). byte_codes rule (take byte line) ++ v ∷ []) (sym (coded ∙ ap f is)) in
      let long : length (byte_codes rule (take byte line)) ≡ byte = length-map (take byte line) f ∙ length-take-le byte line so_far.in_line in
      record {
        in_line = omega arith;
        glyphs_kept = simp length-set so_far.glyphs_kept;
        offsets_kept = simp length-set so_far.offsets_kept;
        glyphs_hold =
            entry_more glyphs₀ glyphs (byte_codes rule (take byte line)) at byte code long (omega arith) so_far.glyphs_kept so_far.glyphs_hold
            ∙ ap (replaced glyphs₀ at) (sym more);
        offsets_hold =
            entry_more offsets₀ offsets (up_to byte) at byte byte (length-range 0 byte) (omega arith) so_far.offsets_kept so_far.offsets_hold
            ∙ ap (replaced offsets₀ at) (sym (up-to-next byte));
      }
