-- All cells in turn: `Turned` is where they have come to; `cell-asked` what a turn needs, `cell-next` the turn, `cell-past` and `cells-all` the ends.
use Prim.Native.Nat.{ℕ, zero, suc, ◌+◌, ◌*◌, ◌-◌, ◌≤◌, ◌<◌}
use mathlib.Core.Path.{◌≡◌, refl, sym, ap, ◌∙◌}
use mathlib.Core.List.{List, [], ◌∷◌, ◌++◌, flat_map}
use native.Mathlib.Omega.{arith}
use lib.ListN.{length, get_or, take, drop, length-take, length-drop}
use lib.Seq.{take_all, drop-drop, length-take-le, take-append_seam}
use Rattle.seq.specs.Lists.{sum}
use Rattle.seq.proofs.ListsLaws.{part_to_end}
use Rattle.seq.proofs.FlatMaps.{length-flat_map}
use Rattle.seq.proofs.Entries.{Written, length_more, first-shorter, none_written, all-written, write-more}
use Rattle.grid.specs.Values.{TableCell}
use Rattle.grid.specs.Flat.{split_text, cells_of_array, every_nth}
use Rattle.grid.proofs.AnswerLaws.{over-taken}
use Rattle.html.specs.Escaping.{inner_of}
use Rattle.representation.specs.TableIn.{counts_in, cell_in, no_cell}
use Rattle.representation.proofs.TableInLaws.{cells-length, cells_at, counts_step, counts-within}
use Rattle.writer.specs.Writing.{Wrote}
use Rattle.writer.proofs.WritingLaws.{wrote_none, wrote_as, wrote-next, put_down-length, put_down-over}
use Rattle.page_listing.specs.Inner.{cell_inner, cell_entries, InnerTold}

-- ---- some lines of a text
split-drop : (j : ℕ) (lengths text : List ℕ) → drop j (split_text lengths text) ≡ split_text (drop j lengths) (drop (sum (take j lengths)) text)
unfolding split_text sum
split-drop zero lengths text = refl
split-drop (suc j) [] text = refl
split-drop (suc j) (n ∷ ns) text = split-drop j ns (drop n text) ∙ ap (λ (t : List ℕ). split_text (drop j ns) t) (drop-drop (sum (take j ns)) n text)

split-take : (j : ℕ) (lengths text : List ℕ) → take j (split_text lengths text) ≡ split_text (take j lengths) text
unfolding split_text
split-take zero lengths text = refl
split-take (suc j) [] text = refl
split-take (suc j) (n ∷ ns) text = ap (λ (l : List (List ℕ)). take n text ∷ l) (split-take j ns (drop n text))

sum-parts : (a b : ℕ) (l : List ℕ) → sum (take (a + b) l) ≡ sum (take a l) + sum (take b (drop a l))
unfolding sum
sum-parts zero b l = let e : 0 + b ≡ b = omega arith in rw e (omega arith)
sum-parts (suc a) b [] = let e : suc a + b ≡ suc (a + b) = omega arith in rw e (nothing b) where
  nothing : (b : ℕ) → 0 ≡ 0 + sum (take b [])
  nothing zero = refl
  nothing (suc b) = refl
sum-parts (suc a) b (n ∷ l) = let e : suc a + b ≡ suc (a + b) = omega arith in rw e (omega (arith, sum-parts a b l))

sum-front : (a : ℕ) (l : List ℕ) → sum (take a l) ≤ sum l
unfolding sum
sum-front zero l = omega arith
sum-front (suc a) [] = omega arith
sum-front (suc a) (n ∷ l) = omega (arith, sum-front a l)

module _ (n : ℕ) (cells lengths text entries₀ inner₀ : List ℕ) where
  abbrev lines : List (List ℕ)
  lines = split_text lengths text

  abbrev held : List TableCell
  held = cells_of_array n cells lines

  -- the first k cells are written, which have the first `line` lines and `used` bytes of the text
  pub record Turned (entries inner : List ℕ) (k line used end : ℕ) : Type 0 where
    pub cells_given : (n ≤ 1024) × (length cells ≡ 5 * n) × (sum (counts_in n cells) ≡ length lengths)
    pub lines_given : (length lengths ≤ 16384) × (length text ≤ 32768) × (sum lengths ≡ length text)
    pub room : (5 * n ≤ length entries₀) × (length inner₀ ≡ 32768)
    pub few : k ≤ n
    pub line_at : line ≡ sum (counts_in k cells)
    pub used_at : used ≡ sum (take line lengths)
    pub small : end ≤ 32768
    pub kept : length inner ≡ length inner₀
    pub numbers : Written cell_entries held 0 entries₀ k entries
    pub wrote : Wrote inner₀ 0 (flat_map cell_inner (take k held)) inner end

  pub cells-none : (n ≤ 1024) × (length cells ≡ 5 * n) × (sum (counts_in n cells) ≡ length lengths)
      → (length lengths ≤ 16384) × (length text ≤ 32768) × (sum lengths ≡ length text) → (5 * n ≤ length entries₀) × (length inner₀ ≡ 32768)
      → Turned entries₀ inner₀ 0 0 0 0
  unfolding every_nth sum flat_map
  cells-none a b c =
      record {
        cells_given = a;
        lines_given = b;
        room = c;
        few = omega arith;
        line_at = refl;
        used_at = refl;
        small = omega arith;
        kept = refl;
        numbers = none_written cell_entries held 0 entries₀;
        wrote = wrote_none inner₀ 0;
      }

  module _ {entries inner : List ℕ} {k line used end : ℕ} (p : Turned entries inner k line used end) (h : k < n) where
    abbrev count : ℕ
    count = get_or cells (5 * k + 4) 0

    abbrev own_lengths : List ℕ
    own_lengths = take (line + count - line) (drop line lengths)

    abbrev rest_text : List ℕ
    rest_text = take (length text - used) (drop used text)

    abbrev own : TableCell
    own = get_or held k no_cell

    pub lines-within : line + count ≤ length lengths
    lines-within = omega (arith, p.line_at, p.cells_given, counts-within n k cells h)

    pub text-within : used ≤ length text
    text-within = omega (arith, p.used_at, p.lines_given, sum-front line lengths)

    own-lengths : own_lengths ≡ take count (drop line lengths)
    own-lengths = let same : line + count - line ≡ count = omega arith in rw same

    own-sum : used + sum own_lengths ≡ sum (take (line + count) lengths)
    own-sum = omega (arith, p.used_at, sum-parts line count lengths, ap sum own-lengths)

    rest-text : rest_text ≡ drop used text
    rest-text = part_to_end text used

    pub cell-asked : (length own_lengths ≤ 16384) × (length rest_text ≤ 32768) × (sum own_lengths ≤ length rest_text) × (end ≤ 536870912)
    cell-asked = (
      omega (arith, lines-within, p.lines_given, length-take (line + count - line) (drop line lengths)),
      omega (arith, p.lines_given, ap length rest-text, length-drop used text),
      omega (arith, own-sum, text-within, p.lines_given, ap length rest-text, length-drop used text, sum-front (line + count) lengths),
      omega (arith, p.small),
    )

    own-cell : own ≡ cell_in cells lines k
    own-cell = cells_at n cells lines k no_cell h

    own-lines : split_text own_lengths rest_text ≡ own.lines
    own-lines =
        rw (own-lengths, rest-text, p.used_at, ← split-take count (drop line lengths) (drop (sum (take line lengths)) text), ← split-drop line lengths text)
        (rw p.line_at (sym (ap (λ (c : TableCell). c.lines) own-cell)))

    module _ {after : List ℕ} {r bytes : ℕ} (w : Wrote inner end (inner_of (split_text own_lengths rest_text)) after r × (r ≤ end + 278528) × (bytes ≡ sum own_lengths)) where
      own-wrote : Wrote inner end (cell_inner own) after r
      own-wrote = wrote_as w.0 (ap inner_of own-lines)

      own-size : r ≡ end + length (cell_inner own)
      own-size = own-wrote.next

      there : k < length held
      there = omega (arith, cells-length n cells lines)

      pub inner-kept : length after ≡ length inner₀
      inner-kept = ap length own-wrote.bytes ∙ put_down-length inner end (cell_inner own) ∙ p.kept

      pub cell-past : 32768 < r → InnerTold held entries after r
      cell-past large = (
        (λ u. omega (arith, own-size, p.wrote.next, length_more cell_inner held k no_cell there, first-shorter cell_inner held (k + 1))),
        (λ u. absurd (omega arith)),
      )

      pub text-next : used + bytes ≤ 32768
      text-next = omega (arith, w.2, own-sum, sum-front (line + count) lengths, p.lines_given)

      own-entries : r - end ≡ length (cell_inner own)
      own-entries = omega (arith, own-size)

      pub cell-next : {entries' : List ℕ} → r ≤ 32768
          → entries' ≡ take (5 * k) entries
          ++ (get_or cells (5 * k) 0 ∷ get_or cells (5 * k + 1) 0 ∷ get_or cells (5 * k + 2) 0 ∷ get_or cells (5 * k + 3) 0 ∷ (r - end) ∷ []) ++ drop (5 * k + 5) entries
          → Turned entries' after (k + 1) (line + count) (used + bytes) r
      cell-next {entries'} u e =
          let five : length (flat_map cell_entries (take k held)) ≡ 5 * k =
          length-flat_map 5 cell_entries (take k held) (λ c. refl) ∙ ap (λ (m : ℕ). 5 * m) (length-take-le k held (omega (arith, there))) in
          let same : get_or cells (5 * k) 0 ∷ get_or cells (5 * k + 1) 0 ∷ get_or cells (5 * k + 2) 0 ∷ get_or cells (5 * k + 3) 0 ∷ (r - end) ∷ [] ≡ cell_entries own = rw (own-entries, own-cell) in
          record {
            cells_given = p.cells_given;
            lines_given = p.lines_given;
            room = p.room;
            few = omega arith;
            line_at = omega (arith, p.line_at, counts_step k cells);
            used_at = omega (arith, w.2, own-sum);
            small = u;
            kept = inner-kept;
            numbers =
                write-more cell_entries held 0 entries₀ entries k no_cell there p.numbers (5 * k) entries' (omega (arith, five)) (omega (arith, p.room))
                (e ∙ ap (λ (vs : List ℕ). take (5 * k) entries ++ vs ++ drop (5 * k + 5) entries) same);
            wrote = wrote-next cell_inner held k no_cell there p.wrote own-wrote;
          }

  pub cells-all : {entries inner : List ℕ} {k line used end : ℕ} → Turned entries inner k line used end → n ≤ k → InnerTold held entries inner end
  cells-all {entries} {inner} {k} {line} {used} {end} p h =
      let all : take k held ≡ held = take_all k held (omega (arith, cells-length n cells lines)) in
      let done = wrote_as p.wrote (ap (flat_map cell_inner) all) in
      let fits : length (flat_map cell_inner held) ≤ length inner₀ = omega (arith, done.next, p.room, p.small) in
      let five : length (flat_map cell_entries held) ≡ 5 * length held = length-flat_map 5 cell_entries held (λ c. refl) in
      let numbers : entries ≡ flat_map cell_entries held ++ drop (0 + length (flat_map cell_entries held)) entries₀ =
      all-written cell_entries held 0 entries₀ entries k (omega (arith, cells-length n cells lines)) p.numbers in (
        (λ u. absurd (omega (arith, p.small))),
        (λ u. record {
          size = omega (arith, done.next);
          text = rw (done.bytes ∙ put_down-over inner₀ (flat_map cell_inner held) fits) (over-taken end (flat_map cell_inner held) inner₀ (omega (arith, done.next)));
          numbers = rw (numbers, ← five) (take-append_seam (flat_map cell_entries held) _);
        }),
      )
