-- A separator is a row line: it cuts through no rectangle of the cover.
use Prim.Native.Nat.{ℕ, ◌+◌, ◌-◌, ◌≤◌, ◌<◌}
use mathlib.Core.Path.{◌≡◌, refl, ◌∙◌, subst}
use mathlib.Core.Bool.{Bool, true, false, not, ◌||◌, cond}
use mathlib.Core.Logic.{⊎_elim}
use mathlib.Core.Option.{none}
use mathlib.Core.List.Memᴰ
use mathlib.Core.List.{List, [], ◌∷◌, Memᴰ}
use native.Mathlib.Nat.{eq-or-lt_of_le}
use native.Mathlib.Omega.{arith}
use lib.Dec.{eqb, ltb}
use lib.ListN.{length, get_or, replicate, length-map}
use borrow.Author.Tests.{eqb-true, ltb-true, not-false}
use Rattle.seq.specs.Lists.{up_to}
use Rattle.seq.proofs.Tests.{and_left, or_right, le-or-lt}
use Rattle.seq.proofs.Ranges.{range-mem, length-range}
use Rattle.seq.proofs.Searches.{select-mem, first_at-none}
use Rattle.seq.proofs.Positions.{get_or-mem, get_or-made, mem-replicate}
use Rattle.text.specs.Characters.{plus, span}
use Rattle.text.specs.Utf8.{CharIndex, char_indices}
use Rattle.text.specs.Trim.{trim_end}
use Rattle.text.specs.Rule.{is_rule}
use Rattle.grid.specs.Values.{Line, Rect, no_line}
use Rattle.grid.specs.Slots.{Grid, Slot, Plus, Dash, Pipe, Other, dash, equals, pipe, trimmed_at, glyph_of, glyph_at, horizontal, slots_from, line_slots, is_separator, slot_rows, grid_of, slot_at}
use Rattle.grid.specs.Layout.{row_lines}
use Rattle.grid.specs.Read.{wrong_width, read_rects}
use Rattle.grid.specs.Answer.{accept}
use Rattle.grid.specs.Cover.{Bordered, First, Cover}
use Rattle.grid.proofs.RectangleLaws.{both-plus, rect}
use Rattle.grid.proofs.CoverTheorems.{traced-covers}
use Rattle.grid.proofs.LayoutLaws.{cover-holder, top-line, bottom-line}
use Rattle.grid.proofs.ReadLaws.{Passed, read_rects-passed}

-- ---- a rule line is horizontal throughout

rule-glyph : (c : ℕ) → horizontal (glyph_of true c) ≡ true
unfolding glyph_of
rule-glyph c = go (eqb c plus) where
  go : (t : Bool) → horizontal (cond t Plus (cond (true || eqb c dash) Dash (cond (eqb c pipe) Pipe Other))) ≡ true
  go true = refl
  go false = refl

rule-slots : (column : ℕ) (cs : List CharIndex) {s : Slot} → Memᴰ s (slots_from true column cs) → horizontal s.glyph ≡ true
unfolding slots_from
rule-slots column [] m = elim m [ ]
rule-slots column (c ∷ cs) {s} m =
    let slot : Slot = record { glyph = glyph_of true c.value; byte = c.byte } in
    let run = replicate (span column c.value) slot in
    ⊎_elim (λ (n : Memᴰ s run). rw (mem-replicate (span column c.value) n) (rule-glyph c.value))
    (λ (n : Memᴰ s (slots_from true (column + span column c.value) cs)). rule-slots (column + span column c.value) cs n)
    (Memᴰ.append_cases run m)

-- a line that is horizontal throughout
abbrev Across : Grid → ℕ → Type 0
Across g s = (x : ℕ) → x < g.width → horizontal (glyph_at g s x) ≡ true

pub row-filled : (g : Grid) → wrong_width g ≡ none → (y : ℕ) → y < length g.rows → length (get_or g.rows y []) ≡ g.width
unfolding wrong_width
row-filled g e y h =
    let row = get_or g.rows y [] in
    eqb-true (length row) g.width
    (not-false (eqb (length row) g.width) (first_at-none (λ (row : List Slot). not (eqb (length row) g.width)) 0 g.rows e (get_or-mem g.rows y [] h)))

in-rule : (row : List Slot) (column : ℕ) (cs : List CharIndex) → row ≡ slots_from true column cs → (x : ℕ) (d : Slot) → x < length row
    → horizontal (get_or row x d).glyph ≡ true
in-rule row column cs e x d h = rule-slots column cs (subst (λ (l : List Slot). Memᴰ (get_or row x d) l) e (get_or-mem row x d h))

-- a separator's number: a later line, of those that are there
separator-inside : (lines : List Line) {s : ℕ} → Memᴰ s (grid_of lines).separators → (s < length lines) × (is_separator lines s ≡ true)
unfolding grid_of
separator-inside lines {s} m =
    let chosen = select-mem (is_separator lines) (up_to (length lines)) m in
    (omega (arith, range-mem 0 (length lines) s chosen.0), chosen.1)

pub separator-later : (lines : List Line) {s : ℕ} → Memᴰ s (grid_of lines).separators → 0 < s
unfolding is_separator
separator-later lines {s} m = ltb-true 0 s (and_left (ltb 0 s) (is_rule equals (trimmed_at lines s)) (separator-inside lines m).1)

separator-across : (lines : List Line) → wrong_width (grid_of lines) ≡ none → {s : ℕ} → Memᴰ s (grid_of lines).separators → Across (grid_of lines) s
unfolding grid_of slot_at line_slots
separator-across lines e {s} m x h =
    let inside = separator-inside lines m in
    let line : Line = get_or lines s no_line in
    let rule : eqb s 0 || is_separator lines s ≡ true = or_right (eqb s 0) inside.1 in
    let made = get_or-made (λ r. line_slots (eqb r 0 || is_separator lines r) (get_or lines r no_line)) (length lines) s [] inside.0 in
    let long : s < length (slot_rows lines) = simp (length-map, length-range) inside.0 in
    let wide = row-filled (grid_of lines) e s long in
    in-rule (get_or (slot_rows lines) s []) line.column (char_indices (trim_end line.text)) (made ∙ rw rule) x (record { glyph = Other; byte = 0 }) (omega arith)

-- ---- a line that is horizontal throughout cuts through no first bordered rectangle

-- inside one, its part above that line would be bordered too
none-cut : {g : Grid} {r : Rect} → First g r → {s : ℕ} → Across g s → r.top < s → s < r.bottom → ⊥
none-cut {g} {r} first {s} full below above =
    ⊎_elim (λ (h : r.bottom < s). omega arith) (λ (h : (r.bottom ≡ s) × (r.right ≤ r.right)). omega arith)
    (first.least (rect r.top r.left s r.right) part refl refl) where
      h : Bordered g r
      h = first.bordered

      line : (x : ℕ) → r.left ≤ x → x ≤ r.right → horizontal (glyph_at g s x) ≡ true
      line x low high = full x (omega (arith, h.right_inside))

      part : Bordered g (rect r.top r.left s r.right)
      part =
          record {
            top_above_bottom = below;
            bottom_inside = omega (arith, h.bottom_inside);
            left_before_right = h.left_before_right;
            right_inside = h.right_inside;
            top_left = h.top_left;
            top_right = h.top_right;
            bottom_left = both-plus (glyph_at g s r.left) (line r.left (omega arith) (omega (arith, h.left_before_right))) (h.left_side s (omega arith) (omega arith));
            bottom_right = both-plus (glyph_at g s r.right) (line r.right (omega (arith, h.left_before_right)) (omega arith)) (h.right_side s (omega arith) (omega arith));
            top_side = h.top_side;
            bottom_side = line;
            left_side = λ y low high. h.left_side y low (omega arith);
            right_side = λ y low high. h.right_side y low (omega arith);
          }

-- no separator cuts through a rectangle
abbrev pub Uncut : Grid → List Rect → Type 0
Uncut g rs = (r : Rect) → Memᴰ r rs → (s : ℕ) → Memᴰ s g.separators → r.top < s → s < r.bottom → ⊥

pub read-uncut : (lines : List Line) (rs : List Rect) → Passed lines rs → Uncut (grid_of lines) rs
read-uncut lines rs checks r m s n below above =
    none-cut ((traced-covers (grid_of lines) rs checks.traced).0.first r m) (separator-across lines checks.filled n) below above

across-line : {g : Grid} {rs : List Rect} → Cover g rs → (s : ℕ) → s < g.height → Across g s → Memᴰ s (row_lines g rs)
across-line {g} {rs} cover s inside full = ⊎_elim last higher (le-or-lt (g.height - 1) s) where
  last : g.height - 1 ≤ s → Memᴰ s (row_lines g rs)
  last h =
      let held = cover-holder cover (s - 1) 0 (omega (arith, cover.tall)) cover.wide in
      let e : s ≡ held.0.bottom = omega (arith, held.2.above, cover.tall, (cover.first held.0 held.1).bordered.bottom_inside) in
      rw e (bottom-line cover held.1)

  higher : s < g.height - 1 → Memᴰ s (row_lines g rs)
  higher h =
      let held = cover-holder cover s 0 (omega arith) cover.wide in
      ⊎_elim (λ (e : held.0.top ≡ s). rw (← e) (top-line cover held.1))
      (λ (k : held.0.top < s). absurd (none-cut (cover.first held.0 held.1) full k held.2.above)) (eq-or-lt_of_le held.2.below)

height-lines : (lines : List Line) {s : ℕ} → s < length lines → s < (grid_of lines).height
unfolding grid_of
height-lines lines h = h

-- Every separator of a drawing that is read is a row line.
pub separator-line : (lines : List Line) (rs : List Rect) → read_rects lines ≡ accept rs → (s : ℕ) → Memᴰ s (grid_of lines).separators
    → Memᴰ s (row_lines (grid_of lines) rs)
separator-line lines rs e s m =
    let checks = read_rects-passed lines rs e in
    let cover = (traced-covers (grid_of lines) rs checks.traced).0 in
    across-line cover s (height-lines lines (separator-inside lines m).0) (separator-across lines checks.filled m)
