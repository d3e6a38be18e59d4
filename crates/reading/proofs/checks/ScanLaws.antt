-- Laws of the lines of a drawing, scanned one after the other (`LinesSoFar`).
use Prim.Native.Nat.{ℕ, ◌+◌, ◌-◌, ◌*◌, ◌^◌, ◌≤◌, ◌<◌}
use mathlib.Core.Path.{◌≡◌, refl, sym, ap, subst, ◌∙◌}
use mathlib.Core.Logic.{⊎_elim}
use mathlib.Core.Bool.{Bool, true, false, not}
use mathlib.Core.List.{List, ◌++◌}
use native.Mathlib.Omega.{arith}
use native.Mathlib.Nat.{eq-or-lt_of_le}
use lib.Dec.{leb}
use lib.ListN.{length, get_or, take, drop, replicate, length-take}
use Rattle.std.proofs.Common.{length-take-le}
use Rattle.std.proofs.lemmas.Grind.{common_steps}
use lib.Seq.{take-length, drop-drop}
use borrow.Author.Tests.{not-false, leb-true}
use Rattle.std.proofs.Common.{Some, None}
use Rattle.seq.specs.Lists.{sum, first_at}
use Rattle.seq.proofs.Gathered.{sum_step, sum-within}
use Rattle.text.specs.Utf8.{well_formed, plain}
use Rattle.text.proofs.PlainLaws.{plain-take, plain-drop, plain-part}
use Rattle.grid.specs.Values.{Line, no_line}
use Rattle.grid.specs.Flat.{split_text, lines_from}
use Rattle.grid.specs.LayoutCall.{slot_space}
use Rattle.grid.proofs.SlotLaws.{lines-length, line_at}
use Rattle.slots.specs.Scan.{LineKnown, ScanRoom, NextScanned}
use Rattle.slots.proofs.scan.ScannedLaws.{known_kept}
use Rattle.reading.specs.Agreement.{WithinLimits}
use Rattle.reading.specs.Checks.{LinesScanned}
use Rattle.reading.proofs.checks.CheckLaws.{outside-here, inside-here, none-outside, plain-inside}

-- the lines before y are in the set and known
pub record LinesSoFar (lengths columns text glyphs₀ offsets₀ counts₀ glyphs offsets counts : List ℕ) (at y : ℕ) : Type 0 where
  pub bytes : at ≡ sum (take y lengths)
  pub passed : first_at (λ line. not (well_formed line)) 0 (split_text lengths text) ≡ first_at (λ line. not (well_formed line)) y (split_text (drop y lengths) (drop at text))
  pub glyphs_kept : length glyphs ≡ length glyphs₀
  pub offsets_kept : length offsets ≡ length offsets₀
  pub counts_kept : length counts ≡ length counts₀
  pub known : (k : ℕ) → k < y → LineKnown (get_or (lines_from lengths columns text) k no_line).text (get_or (lines_from lengths columns text) k no_line).column (k * 128) glyphs offsets (get_or counts k 0)

pub lines_start : (lengths columns text glyphs offsets counts : List ℕ) → LinesSoFar lengths columns text glyphs offsets counts glyphs offsets counts 0 0
unfolding sum
lines_start lengths columns text glyphs offsets counts =
    record {
      bytes = refl;
      passed = refl;
      glyphs_kept = refl;
      offsets_kept = refl;
      counts_kept = refl;
      known = λ k h. absurd (omega arith);
    }

module _ (lengths columns text glyphs₀ offsets₀ counts₀ glyphs offsets counts : List ℕ) (at y : ℕ) (limited : WithinLimits lengths columns text)
    (so_far : LinesSoFar lengths columns text glyphs₀ offsets₀ counts₀ glyphs offsets counts at y) where
  pub line-short : get_or lengths y 0 < 2 ^ 64
  line-short = omega (arith, limited.short_lines y)

  pub line-near : get_or columns y 0 < 2 ^ 64
  line-near = omega (arith, limited.near_columns y)

  pub line-within : at + get_or lengths y 0 ≤ length text
  line-within = omega (arith, sum-within lengths y, so_far.bytes, limited.agreed.bytes_agree)

  pub line-fits : at + get_or lengths y 0 < 2 ^ 64
  line-fits = omega (arith, line-within, limited.few_bytes)

  module _ (h : y < length lengths) where
    pub line_plain : (known : ℕ) (t : Bool) → plain (take known text) ≡ true → t ≡ leb (at + get_or lengths y 0) known → t ≡ true
        → plain (take (at + get_or lengths y 0 - at) (drop at text)) ≡ true
    line_plain known t front is taken = plain-part text known front at (at + get_or lengths y 0 - at) (omega (arith, leb-true (at + get_or lengths y 0) known (sym is ∙ taken)))

    pub line-scannable : slot_space ≤ length glyphs₀ → slot_space ≤ length offsets₀ → 128 ≤ length counts₀
        → ScanRoom (take (at + get_or lengths y 0 - at) (drop at text)) (get_or columns y 0) y glyphs offsets counts
    line-scannable room room' room'' =
        record {
          short_line = omega (arith, length-take (at + get_or lengths y 0 - at) (drop at text), limited.short_lines y);
          near_column = limited.near_columns y;
          few_lines = omega (arith, limited.few_lines);
          glyph_room = rw so_far.glyphs_kept room;
          offset_room = rw so_far.offsets_kept room';
          count_room = rw so_far.counts_kept room'';
        }

    the-line : record { text = take (at + get_or lengths y 0 - at) (drop at text); column = get_or columns y 0 } ≡ get_or (lines_from lengths columns text) y no_line
    the-line =
        let e : at + get_or lengths y 0 - at ≡ get_or lengths y 0 = omega arith in
        rw (e, so_far.bytes) (sym (line_at lengths columns text y no_line h))

    module _ (glyphs' offsets' counts' : List ℕ) (r : Bool)
        (next : NextScanned (take (at + get_or lengths y 0 - at) (drop at text)) (get_or columns y 0) y glyphs offsets counts glyphs' offsets' counts' r) where
      well-told : r ≡ well_formed (take (get_or lengths y 0) (drop at text))
      well-told = let k : at + get_or lengths y 0 - at ≡ get_or lengths y 0 = omega arith in rw k at next.told

      pub line-outside : not r ≡ true → LinesScanned lengths columns text glyphs' offsets' counts' (Some y)
      line-outside f =
          record { told = outside-here lengths (drop at text) y so_far.passed r h well-told f; known = λ e. absurd (let z : ◌≡◌ {A = ℕ} 0 1 = cc in omega arith) }

      pub line-next : not r ≡ false → slot_space ≤ length glyphs₀ → slot_space ≤ length offsets₀
          → LinesSoFar lengths columns text glyphs₀ offsets₀ counts₀ glyphs' offsets' counts' (at + get_or lengths y 0) (y + 1)
      line-next f room room' =
          record {
            bytes = sym (sum_step lengths y h ∙ rw so_far.bytes);
            passed = rw drop-drop at (inside-here lengths (drop at text) y so_far.passed r h well-told f);
            glyphs_kept = next.glyphs_kept ∙ so_far.glyphs_kept;
            offsets_kept = next.offsets_kept ∙ so_far.offsets_kept;
            counts_kept = next.counts_kept ∙ so_far.counts_kept;
            known = λ k low.
                ⊎_elim (λ (e : k ≡ y). rw e (subst (λ (l : Line). LineKnown l.text l.column (y * 128) glyphs' offsets' (get_or counts' y 0)) the-line (next.known (not-false r f))))
                (λ (before : k < y).
                rw (next.counts_before k before)
                (known_kept (get_or (lines_from lengths columns text) k no_line).text (get_or (lines_from lengths columns text) k no_line).column k y (get_or counts k 0)
                glyphs offsets glyphs' offsets' before (omega (arith, limited.few_lines)) (rw so_far.glyphs_kept room) (rw so_far.offsets_kept room')
                next.glyphs_kept next.offsets_kept next.glyphs_before next.offsets_before (so_far.known k before)))
                (eq-or-lt_of_le (let q : k ≤ y = omega arith in q));
          }

  pub lines-known : length lengths ≤ y → LinesScanned lengths columns text glyphs offsets counts None
  lines-known end =
      record {
        told = none-outside lengths (drop at text) y so_far.passed end;
        known = λ e k h. so_far.known k (omega (arith, lines-length lengths columns text));
      }

-- ---- a drawing that is plain throughout
pub plain_known : (lengths columns text glyphs offsets counts noted : List ℕ) (known : ℕ) → plain (take known text) ≡ true → known ≡ length text
    → noted ≡ replicate (length (take (length lengths) counts)) 255 → length lengths ≤ length counts
    → LinesScanned lengths columns text glyphs offsets (noted ++ drop (length lengths) counts) None
plain_known lengths columns text glyphs offsets counts noted known front all_Known filled room =
    record {
      told = plain-inside lengths text 0 whole;
      known = λ e y h.
          let inside : y < length lengths = omega (arith, lines-length lengths columns text) in
          record {
            plain_line = λ marked. rw (line_at lengths columns text y no_line inside) (plain-take (get_or lengths y 0) (drop (sum (take y lengths)) text) (plain-drop (sum (take y lengths)) text whole));
            other = λ unmarked. absurd (unmarked (marks y inside));
          };
    } where
      whole : plain text ≡ true
      whole = sym (ap plain (ap (λ (n : ℕ). take n text) all_Known ∙ take-length text)) ∙ front

      marks : (y : ℕ) → y < length lengths → get_or (noted ++ drop (length lengths) counts) y 0 ≡ 255
      marks y h =
          let all : noted ≡ replicate (length lengths) 255 = rw length-take-le at filled in
          rw all (grind (arith, common_steps))
