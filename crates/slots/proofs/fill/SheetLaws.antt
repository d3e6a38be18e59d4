-- Laws of the slots of all lines, one line after the other.
use Prim.Native.Nat.{ℕ, ◌+◌, ◌-◌, ◌*◌, ◌^◌, ◌≤◌, ◌<◌}
use mathlib.Core.Path.{◌≡◌, refl, sym, ap, ap₂, subst, ◌∙◌}
use mathlib.Core.Bool.{Bool, true, false, not, ◌&&◌, ◌||◌}
use mathlib.Core.Logic.{⊎_elim}
use mathlib.Core.List.{List, map}
use native.Mathlib.Omega.{arith}
use native.Mathlib.Nat.{eq-or-lt_of_le, le_refl}
use lib.Dec.{eqb, ltb}
use lib.ListN.{length, get_or, take, drop, length-map, length-take}
use borrow.Author.Tests.{eqb-true, not-true, not-false}
use Rattle.seq.specs.Lists.{sum, range, up_to, select}
use Rattle.seq.proofs.Gathered.{sum_step, sum-within, select-step}
use Rattle.text.specs.Utf8.{plain}
use Rattle.text.specs.Trim.{trim_end}
use Rattle.text.specs.Rule.{is_rule}
use Rattle.grid.specs.Flat.{lines_from}
use Rattle.grid.specs.Values.{Line, no_line}
use Rattle.grid.specs.Slots.{Slot, line_slots, is_separator, trimmed_at, grid_of}
use Rattle.representation.specs.Arrays.{glyph_code, glyph_codes, slot_bytes}
use Rattle.grid.proofs.SlotLaws.{lines-length, line_at, row_at, rows-length, row-at, wrong_row, no-wrong-row}
use Rattle.slots.specs.declared.Separators.{Separators}
use Rattle.std.specs.Prelude.{Ok, Err}
use Rattle.refusals.specs.declared.Refusal.TheVariants.{WrongWidth}
use Rattle.slots.specs.Filling.{separates, separator_lines, NextRoom, NextFilled, FilledNext, Fillable, AllFilled, FilledAll}
use Rattle.slots.specs.Scan.{LineLeft, LineKnown}
use Rattle.representation.specs.Sheet.{Sheet}
use Rattle.slots.specs.Replaced.{replaced}
use Rattle.slots.proofs.glyphs.ReplaceLaws.{part-before, part-after, part-replaced}

-- an array with rows of slots from each y * 128 on, and one row more
rows_more : (f : Slot → ℕ) (row : ℕ → List Slot) (width y : ℕ) (array array' : List ℕ) → width ≤ 128 → y * 128 + width ≤ length array
    → length (row y) ≡ width → array' ≡ replaced array (y * 128) (map f (row y)) → ((k : ℕ) → k < y → take width (drop (k * 128) array) ≡ map f (row k))
    → (k : ℕ) → k < y + 1 → take width (drop (k * 128) array') ≡ map f (row k)
rows_more f row width y array array' narrow room full put rows k h =
    ap (λ (a : List ℕ). take width (drop (k * 128) a)) put
    ∙ ⊎_elim (λ (e : k ≡ y). rw e (part-replaced array (y * 128) (map f (row y)) fits width long))
    (λ (low : k < y). part-before array (y * 128) (map f (row y)) fits (k * 128) width (omega arith) ∙ rows k low)
    (eq-or-lt_of_le (let q : k ≤ y = omega arith in q)) where
      long : length (map f (row y)) ≡ width
      long = length-map (row y) f ∙ full

      fits : y * 128 + length (map f (row y)) ≤ length array
      fits = omega (arith, long)

-- the lines before y are written, each of the width
pub record SheetSoFar (lengths columns text : List ℕ) (width : ℕ) (counts glyphs₀ offsets₀ glyphs offsets : List ℕ) (separators : Separators) (at y : ℕ) : Type 0 where
  pub wide : width ≡ length (trimmed_at (lines_from lengths columns text) 0)
  pub inside : y ≤ length lengths
  pub bytes : at ≡ sum (take y lengths)
  pub few_separators : separators.count ≤ y
  pub separated : separator_lines separators ≡ select (is_separator (lines_from lengths columns text)) (up_to y)
  pub glyphs_kept : length glyphs ≡ length glyphs₀
  pub offsets_kept : length offsets ≡ length offsets₀
  pub full : (k : ℕ) → k < y → length (row_at (lines_from lengths columns text) k) ≡ width
  pub glyph_rows : (k : ℕ) → k < y → take width (drop (k * 128) glyphs) ≡ glyph_codes (row_at (lines_from lengths columns text) k)
  pub offset_rows : (k : ℕ) → k < y → take width (drop (k * 128) offsets) ≡ slot_bytes (row_at (lines_from lengths columns text) k)
  pub later : (k : ℕ) → y ≤ k → k < length (lines_from lengths columns text)
      → LineKnown (get_or (lines_from lengths columns text) k no_line).text (get_or (lines_from lengths columns text) k no_line).column (k * 128) glyphs offsets (get_or counts k 0)

-- the same for every drawing that scanning left so
abbrev pub EachSoFar : (lengths text : List ℕ) → ℕ → (counts glyphs₀ offsets₀ glyphs offsets : List ℕ) → Separators → ℕ → ℕ → Type 0
EachSoFar lengths text width counts glyphs₀ offsets₀ glyphs offsets separators at y =
    (columns : List ℕ) → Fillable lengths columns text width counts glyphs₀ offsets₀ → SheetSoFar lengths columns text width counts glyphs₀ offsets₀ glyphs offsets separators at y

pub sheet-starts : (lengths text : List ℕ) (width : ℕ) (counts glyphs offsets : List ℕ) (separators : Separators) → separators.count ≡ 0
    → EachSoFar lengths text width counts glyphs offsets glyphs offsets separators 0 0
unfolding sum range select
sheet-starts lengths text width counts glyphs offsets separators none columns f =
    record {
      wide = f.wide;
      inside = omega arith;
      bytes = refl;
      few_separators = omega arith;
      separated = rw none;
      glyphs_kept = refl;
      offsets_kept = refl;
      full = λ k h. absurd (omega arith);
      glyph_rows = λ k h. absurd (omega arith);
      offset_rows = λ k h. absurd (omega arith);
      later = λ k low h. f.scanned k h;
    }

-- what is left of a line below is not touched
left_after : (slots : List Slot) (k y : ℕ) (glyphs offsets glyphs' offsets' codes bytes : List ℕ) → length codes ≤ 128 → length bytes ≤ 128 → y * 128 + length codes ≤ length glyphs → y * 128 + length bytes ≤ length offsets
    → y < k → glyphs' ≡ replaced glyphs (y * 128) codes → offsets' ≡ replaced offsets (y * 128) bytes → LineLeft slots (k * 128) glyphs offsets → LineLeft slots (k * 128) glyphs' offsets'
left_after slots k y glyphs offsets glyphs' offsets' codes bytes narrow narrow' room room' below put put' left =
    record {
      glyphs_left = λ h. ap (λ (l : List ℕ). take (length slots) (drop (k * 128) l)) put ∙ part-after glyphs (y * 128) codes room (k * 128) (length slots) (omega arith) ∙ left.glyphs_left h;
      offsets_left = λ h. ap (λ (l : List ℕ). take (length slots) (drop (k * 128) l)) put' ∙ part-after offsets (y * 128) bytes room' (k * 128) (length slots) (omega arith) ∙ left.offsets_left h;
    }

module _ (lengths columns text : List ℕ) (width : ℕ) (counts glyphs₀ offsets₀ glyphs offsets : List ℕ) (separators : Separators) (at y : ℕ)
    (f : Fillable lengths columns text width counts glyphs₀ offsets₀) (so_far : SheetSoFar lengths columns text width counts glyphs₀ offsets₀ glyphs offsets separators at y) where
  sheet : Sheet lengths columns text
  sheet = f.sheet

  line-inside : at + get_or lengths y 0 ≤ length text
  line-inside = omega (arith, sum-within lengths y, so_far.bytes, sheet.bytes_agree)

  module _ (h : y < length lengths) where
    the-part : take (at + get_or lengths y 0 - at) (drop at text) ≡ take (get_or lengths y 0) (drop (sum (take y lengths)) text)
    the-part = let e : at + get_or lengths y 0 - at ≡ get_or lengths y 0 = omega arith in rw (e, so_far.bytes)

    the-line : record { text = take (at + get_or lengths y 0 - at) (drop at text); column = get_or columns y 0 } ≡ get_or (lines_from lengths columns text) y no_line
    the-line = rw the-part (sym (line_at lengths columns text y no_line h))

    line_known : LineKnown (take (at + get_or lengths y 0 - at) (drop at text)) (get_or columns y 0) (y * 128) glyphs offsets (get_or counts y 0)
    line_known =
        subst (λ (l : Line). LineKnown l.text l.column (y * 128) glyphs offsets (get_or counts y 0)) (sym the-line)
        (so_far.later y (le_refl y) (omega (arith, lines-length lengths columns text)))

    next-room : NextRoom (take (at + get_or lengths y 0 - at) (drop at text)) y width (get_or counts y 0) separators glyphs offsets
    next-room =
        record {
          short_line = omega (arith, length-take (at + get_or lengths y 0 - at) (drop at text), sheet.short_lines y);
          plain_line = line_known.plain_line;
          plain_top = λ z. let top : plain (trim_end (get_or (lines_from lengths columns text) y no_line).text) ≡ true = rw z f.plain_top in
              ap (λ (l : Line). plain (trim_end l.text)) the-line ∙ top;
          narrow = f.roomy.width_fits;
          few_lines = omega (arith, f.roomy.height_fits);
          glyph_room = omega (arith, f.roomy.height_fits, f.roomy.width_fits, f.roomy.glyph_room, so_far.glyphs_kept);
          offset_room = omega (arith, f.roomy.height_fits, f.roomy.width_fits, f.roomy.offset_room, so_far.offsets_kept);
          few_separators = omega (arith, so_far.few_separators, f.roomy.height_fits);
        }

    separator-is : separates y (take (at + get_or lengths y 0 - at) (drop at text)) ≡ is_separator (lines_from lengths columns text) y
    unfolding is_separator
    separator-is = ap (λ (l : Line). ltb 0 y && is_rule 0x3d (trim_end l.text)) the-line

    row_is : line_slots (eqb y 0 || separates y (take (at + get_or lengths y 0 - at) (drop at text))) (record { text = take (at + get_or lengths y 0 - at) (drop at text); column = get_or columns y 0 })
        ≡ row_at (lines_from lengths columns text) y
    row_is = ap₂ (λ (t : Bool) (l : Line). line_slots (eqb y 0 || t) l) separator-is the-line

    -- after line y
    module _ (separators' : Separators) (glyphs' offsets' : List ℕ) (full : Bool)
        (next : NextFilled (take (at + get_or lengths y 0 - at) (drop at text)) (get_or columns y 0) y width separators glyphs offsets separators' glyphs' offsets' full) where
      answer-is : full ≡ eqb (length (row_at (lines_from lengths columns text) y)) width
      answer-is = next.line.answer ∙ ap (λ (l : List Slot). eqb (length l) width) row_is

      next-so-far : not full ≡ false → SheetSoFar lengths columns text width counts glyphs₀ offsets₀ glyphs' offsets' separators' (at + get_or lengths y 0) (y + 1)
      next-so-far ok =
          record {
            wide = so_far.wide;
            inside = omega arith;
            bytes = sym (sum_step lengths y h ∙ rw so_far.bytes);
            few_separators = omega (arith, next.few_separators);
            separated = next.noted ∙ rw (so_far.separated, separator-is, select-step);
            glyphs_kept = next.line.glyphs_kept ∙ so_far.glyphs_kept;
            offsets_kept = next.line.offsets_kept ∙ so_far.offsets_kept;
            full = λ k low.
                ⊎_elim (λ (e : k ≡ y). rw e wide) (λ (before : k < y). so_far.full k before) (eq-or-lt_of_le (let q : k ≤ y = omega arith in q));
            glyph_rows = rows_more (λ (s : Slot). glyph_code s.glyph) row width y glyphs glyphs' f.roomy.width_fits glyph-room wide glyphs-put so_far.glyph_rows;
            offset_rows = rows_more (λ (s : Slot). s.byte) row width y offsets offsets' f.roomy.width_fits offset-room wide offsets-put so_far.offset_rows;
            later = λ k low h. below k low h (so_far.later k (omega arith) h);
          } where
            row : ℕ → List Slot
            row k = row_at (lines_from lengths columns text) k

            passed : full ≡ true
            passed = not-false full ok

            wide : length (row_at (lines_from lengths columns text) y) ≡ width
            wide = eqb-true (length (row_at (lines_from lengths columns text) y)) width (sym answer-is ∙ passed)

            glyph-room : y * 128 + width ≤ length glyphs
            glyph-room = next-room.glyph_room

            offset-room : y * 128 + width ≤ length offsets
            offset-room = next-room.offset_room

            glyphs-put : glyphs' ≡ replaced glyphs (y * 128) (glyph_codes (row_at (lines_from lengths columns text) y))
            glyphs-put = rw row_is at (next.line.glyphs_hold passed)

            offsets-put : offsets' ≡ replaced offsets (y * 128) (slot_bytes (row_at (lines_from lengths columns text) y))
            offsets-put = rw row_is at (next.line.offsets_hold passed)

            below : (k : ℕ) → y + 1 ≤ k → k < length (lines_from lengths columns text)
                → LineKnown (get_or (lines_from lengths columns text) k no_line).text (get_or (lines_from lengths columns text) k no_line).column (k * 128) glyphs offsets (get_or counts k 0)
                → LineKnown (get_or (lines_from lengths columns text) k no_line).text (get_or (lines_from lengths columns text) k no_line).column (k * 128) glyphs' offsets' (get_or counts k 0)
            below k low h known =
                let now = row y in
                let codes = length-map now (λ (s : Slot). glyph_code s.glyph) in
                let bytes = length-map now (λ (s : Slot). s.byte) in
                record {
                  plain_line = known.plain_line;
                  other = λ n.
                      record {
                        counted = (known.other n).counted;
                        left =
                            left_after _ k y glyphs offsets glyphs' offsets' (glyph_codes now) (slot_bytes now) (omega (arith, codes, wide, f.roomy.width_fits))
                            (omega (arith, bytes, wide, f.roomy.width_fits)) (omega (arith, codes, wide, glyph-room)) (omega (arith, bytes, wide, offset-room)) (omega arith)
                            glyphs-put offsets-put (known.other n).left;
                      };
                }

      next-wrong : not full ≡ true → AllFilled (grid_of (lines_from lengths columns text)) glyphs₀ offsets₀ glyphs' offsets' (Err (WrongWidth y))
      unfolding grid_of
      next-wrong fails =
          record {
            glyphs_kept = next.line.glyphs_kept ∙ so_far.glyphs_kept;
            offsets_kept = next.line.offsets_kept ∙ so_far.offsets_kept;
            wrong = λ e is.
                wrong_row (lines_from lengths columns text) y (λ k low. so_far.full k low ∙ so_far.wide) (rw lines-length h)
                (rw (← so_far.wide) (sym answer-is ∙ wrong)) ∙ (let same : e ≡ WrongWidth y = cc in rw same refl);
            number = λ e is. (let same : e ≡ WrongWidth y = cc in rw same refl);
            right = λ s is. absurd (let z : ◌≡◌ {A = ℕ} 0 1 = cc in omega arith);
            holds = λ s is. absurd (let z : ◌≡◌ {A = ℕ} 0 1 = cc in omega arith);
            separated = λ s is. absurd (let z : ◌≡◌ {A = ℕ} 0 1 = cc in omega arith);
          } where
            wrong : full ≡ false
            wrong = not-true full fails

  all_done : length lengths ≤ y → AllFilled (grid_of (lines_from lengths columns text)) glyphs₀ offsets₀ glyphs offsets (Ok separators)
  unfolding grid_of
  all_done end =
      record {
        glyphs_kept = so_far.glyphs_kept;
        offsets_kept = so_far.offsets_kept;
        wrong = λ e is. absurd (let z : ◌≡◌ {A = ℕ} 0 1 = cc in omega arith);
        number = λ e is. absurd (let z : ◌≡◌ {A = ℕ} 0 1 = cc in omega arith);
        right = λ s is. no-wrong-row (lines_from lengths columns text) (λ k low. so_far.full k (below k low) ∙ so_far.wide);
        holds = λ s is.
            record {
              glyph_row = λ k low. rw (← so_far.wide) (so_far.glyph_rows k (inside k low) ∙ ap glyph_codes (sym (row-at (lines_from lengths columns text) k (rw rows-length at low))));
              offset_row = λ k low. rw (← so_far.wide) (so_far.offset_rows k (inside k low) ∙ ap slot_bytes (sym (row-at (lines_from lengths columns text) k (rw rows-length at low))));
            };
        separated = λ s is. (let same : s ≡ separators = cc in rw same so_far.separated) ∙ ap (λ (n : ℕ). select (is_separator (lines_from lengths columns text)) (up_to n)) (let q : y ≡ length (lines_from lengths columns text) = omega (arith, lines-length lengths columns text) in q);
      } where
        below : (k : ℕ) → k < length (lines_from lengths columns text) → k < y
        below k low = omega (arith, lines-length lengths columns text)

        inside : (k : ℕ) → k < length (grid_of (lines_from lengths columns text)).rows → k < y
        inside k low = below k (omega (arith, rows-length (lines_from lengths columns text)))

-- ---- of every drawing that scanning left so
module _ (lengths text : List ℕ) (width : ℕ) (counts glyphs₀ offsets₀ glyphs offsets : List ℕ) (separators : Separators) (at y : ℕ)
    (each : EachSoFar lengths text width counts glyphs₀ offsets₀ glyphs offsets separators at y) where
  module _ (h : y < length lengths) (separators' : Separators) (glyphs' offsets' : List ℕ) (full : Bool)
      (next : FilledNext (take (at + get_or lengths y 0 - at) (drop at text)) y width (get_or counts y 0) separators glyphs offsets separators' glyphs' offsets' full) where
    pub sheet-next : not full ≡ false → EachSoFar lengths text width counts glyphs₀ offsets₀ glyphs' offsets' separators' (at + get_or lengths y 0) (y + 1)
    sheet-next ok columns f =
        let so_far = each columns f in
        next-so-far lengths columns text width counts glyphs₀ offsets₀ glyphs offsets separators at y f so_far h separators' glyphs' offsets' full
        (next (get_or columns y 0) (line_known lengths columns text width counts glyphs₀ offsets₀ glyphs offsets separators at y f so_far h)) ok

    pub sheet-wrong : not full ≡ true → FilledAll lengths text width counts glyphs₀ offsets₀ glyphs' offsets' (Err (WrongWidth y))
    sheet-wrong fails columns f =
        let so_far = each columns f in
        next-wrong lengths columns text width counts glyphs₀ offsets₀ glyphs offsets separators at y f so_far h separators' glyphs' offsets' full
        (next (get_or columns y 0) (line_known lengths columns text width counts glyphs₀ offsets₀ glyphs offsets separators at y f so_far h)) fails

  pub sheet-done : length lengths ≤ y → FilledAll lengths text width counts glyphs₀ offsets₀ glyphs offsets (Ok separators)
  sheet-done end columns f = all_done lengths columns text width counts glyphs₀ offsets₀ glyphs offsets separators at y f (each columns f) end

  -- ---- what the loop needs of the drawing that there is
  module _ (columns : List ℕ) (f : Fillable lengths columns text width counts glyphs₀ offsets₀) where
    pub each-inside : at + get_or lengths y 0 ≤ length text
    each-inside = line-inside lengths columns text width counts glyphs₀ offsets₀ glyphs offsets separators at y f (each columns f)

    pub each_fits : length text * 1 < 2 ^ 63 → at + get_or lengths y 0 < 2 ^ 64
    each_fits small = omega (arith, each-inside)

    pub each-room : y < length lengths → NextRoom (take (at + get_or lengths y 0 - at) (drop at text)) y width (get_or counts y 0) separators glyphs offsets
    each-room = next-room lengths columns text width counts glyphs₀ offsets₀ glyphs offsets separators at y f (each columns f)
