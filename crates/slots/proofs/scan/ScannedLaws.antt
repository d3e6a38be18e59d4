-- Laws of a line's slots put down where they fit, and of a line scanned (`NextScanned`).
use Prim.Native.Nat.{ℕ, ◌+◌, ◌*◌, ◌≤◌, ◌<◌}
use mathlib.Core.Path.{◌≡◌, refl, sym, ap, ◌∙◌}
use mathlib.Core.Bool.{Bool, true, false, cond}
use mathlib.Core.List.{List}
use native.Mathlib.Omega.{arith}
use lib.Dec.{ltb}
use lib.ListN.{length, take, set, length-set}
use lib.Seq.{get_or-set_same, get_or-set_other}
use borrow.Author.Tests.{ltb-false}
use Rattle.seq.proofs.Tests.{true-not-false}
use Rattle.text.specs.declared.Column.{Column}
use Rattle.text.specs.Trim.{trim_end}
use Rattle.text.specs.Utf8.{well_formed, plain}
use Rattle.text.proofs.PlainLaws.{plain-well}
use Rattle.text.proofs.TrimLaws.{trim-shorter}
use Rattle.text.proofs.TrimmedLaws.{well_formed-trim}
use Rattle.grid.specs.LayoutCall.{slot_space}
use Rattle.slots.specs.Scan.{scanned_slots, PutWithin, LineScanned, clipped, LineKnown, NextScanned}
use Rattle.std.specs.Prelude.{Option, Some, None}
use Rattle.slots.proofs.glyphs.ReplaceLaws.{part-kept}

-- ---- slots of one character
pub put-over : (at n count value byte : ℕ) (glyphs offsets : List ℕ) → 128 < n + count → PutWithin at n count value byte glyphs offsets glyphs offsets
put-over at n count value byte glyphs offsets over =
    record {
      glyphs_kept = refl;
      offsets_kept = refl;
      glyphs_before = refl;
      offsets_before = refl;
      glyphs_put = λ h. absurd (omega arith);
      offsets_put = λ h. absurd (omega arith);
    }

-- ---- a number of slots, more than 128 as 129
clipped-small : (n : ℕ) → clipped n ≡ 255 → ⊥
clipped-small n e = go (ltb 128 n) refl e where
  go : (t : Bool) → ltb 128 n ≡ t → cond t 129 n ≡ 255 → ⊥
  go true is e = omega arith
  go false is e = omega (arith, ltb-false 128 n is)

-- ---- a line
module _ (text : List ℕ) (column y : ℕ) (glyphs offsets counts : List ℕ) (low : y < 128) (room : 128 ≤ length counts) where
  inside : y < length counts
  inside = omega arith

  pub plain-scanned : (t : Bool) → t ≡ plain text → t ≡ true → NextScanned text column y glyphs offsets counts glyphs offsets (set counts y 255) true
  plain-scanned t told taken =
      record {
        glyphs_kept = refl;
        offsets_kept = refl;
        counts_kept = length-set counts y 255;
        glyphs_before = refl;
        offsets_before = refl;
        counts_before = λ k before. get_or-set_other counts y k 255 0 (λ e. omega arith);
        told = plain-well text t told taken;
        known = λ h. record {
          plain_line = λ e. sym told ∙ taken;
          other = λ other. absurd (other (get_or-set_same counts y 255 0 inside));
        };
      }

  module _ (line glyphs' offsets' : List ℕ) (r : Option Column) (trimmed : line ≡ trim_end text) (scanned : LineScanned line column (y * 128) glyphs offsets glyphs' offsets' r) where
    pub outside-scanned : r ≡ None → NextScanned text column y glyphs offsets counts glyphs' offsets' counts false
    outside-scanned e =
        record {
          glyphs_kept = scanned.glyphs_kept;
          offsets_kept = scanned.offsets_kept;
          counts_kept = refl;
          glyphs_before = scanned.glyphs_before;
          offsets_before = scanned.offsets_before;
          counts_before = λ k before. refl;
          told = sym (sym (well_formed-trim text) ∙ ap well_formed (sym trimmed) ∙ scanned.outside e);
          known = λ h. absurd (true-not-false (sym h));
        }

    pub columns-scanned : (n : Column) (count : ℕ) → r ≡ Some n → count ≡ clipped n.0 → NextScanned text column y glyphs offsets counts glyphs' offsets' (set counts y count) true
    columns-scanned n count e told =
        record {
          glyphs_kept = scanned.glyphs_kept;
          offsets_kept = scanned.offsets_kept;
          counts_kept = length-set counts y count;
          glyphs_before = scanned.glyphs_before;
          offsets_before = scanned.offsets_before;
          counts_before = λ k before. get_or-set_other counts y k count 0 (λ e. omega arith);
          told = sym (sym (well_formed-trim text) ∙ ap well_formed (sym trimmed) ∙ scanned.well n e);
          known = λ h. record {
            plain_line = λ is. absurd (clipped-small n.0 (sym told ∙ sym (get_or-set_same counts y count 0 inside) ∙ is));
            other = λ other. record {
              counted = get_or-set_same counts y count 0 inside ∙ told ∙ rw (← trimmed) (ap clipped (scanned.counted n e));
              left = rw (← trimmed) (scanned.left n e);
            };
          };
        }

pub trimmed-room : (text line : List ℕ) → line ≡ trim_end text → length text ≤ 512 → length line ≤ 512
trimmed-room text line trimmed short = omega (arith, ap length trimmed, trim-shorter text)

-- ---- a line above stays known
pub known_kept : (text : List ℕ) (column k y count : ℕ) (glyphs offsets glyphs' offsets' : List ℕ) → k < y → y ≤ 128 → slot_space ≤ length glyphs → slot_space ≤ length offsets
    → length glyphs' ≡ length glyphs → length offsets' ≡ length offsets → take (y * 128) glyphs' ≡ take (y * 128) glyphs → take (y * 128) offsets' ≡ take (y * 128) offsets
    → LineKnown text column (k * 128) glyphs offsets count → LineKnown text column (k * 128) glyphs' offsets' count
known_kept text column k y count glyphs offsets glyphs' offsets' above few room room' kept kept' same same' known =
    let slots = scanned_slots (trim_end text) column in
    record {
      plain_line = known.plain_line;
      other = λ n. record {
        counted = (known.other n).counted;
        left = record {
          glyphs_left = λ h. part-kept glyphs glyphs' (y * 128) (k * 128) (length slots) same (omega arith) kept (omega arith) ∙ (known.other n).left.glyphs_left h;
          offsets_left = λ h. part-kept offsets offsets' (y * 128) (k * 128) (length slots) same' (omega arith) kept' (omega arith) ∙ (known.other n).left.offsets_left h;
        };
      };
    }
