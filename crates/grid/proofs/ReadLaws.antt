-- What a drawing that is read has read_rects-passed, and what a refusal with 6 or 7 says.
-- Others cite `passed` with the `read-` laws of its checks, `layout-read` and `table-read` for what is made of the rectangles,
-- and `read_rects-stopped` with `read_layout-refused` and `read_table-refused` for 6 and 7.
use Prim.Native.Nat.{ℕ, ◌≤◌, ◌<◌}
use mathlib.Core.Path.{◌≡◌, refl, ap, ◌∙◌}
use mathlib.Core.Bool.{Bool, true, false, ◌||◌}
use mathlib.Core.Option.{Option, none, some}
use mathlib.Core.List.{List, map, Memᴰ}
use native.Mathlib.Omega.{arith}
use lib.Dec.{ltb}
use lib.ListN.{length}
use borrow.Author.Tests.{ltb-false}
use Rattle.seq.specs.Lists.{any, sum, is_empty}
use Rattle.seq.proofs.Tests.{or-neither}
use Rattle.seq.proofs.Searches.{any_none}
use Rattle.grid.specs.Answer.{Answer, accept, refuse, refuse_if, refuse_at, and_then, afterwards}
use Rattle.grid.specs.Limits.{max_lines, max_line_bytes, max_bytes, max_width, max_origin}
use Rattle.grid.specs.Values.{Line, Rect, Layout, Table}
use Rattle.grid.specs.Slots.{grid_of}
use Rattle.grid.specs.Trace.{Traced, covered, stopped, trace}
use Rattle.grid.specs.Cover.{Cover}
use Rattle.grid.specs.Layout.{layout_of}
use Rattle.grid.specs.Cut.{table_of}
use Rattle.grid.specs.Read.{line_too_large, drawing_too_large, outside_set, no_rule, wrong_width, rectangles, read_grid, read_rects, read_layout, read_table}
use Rattle.grid.proofs.CoverTheorems.{traced-covers}

module _ {A : Type 0} where
  pub passed-if : (t : Bool) (number : ℕ) (next : Answer A) (a : A) → refuse_if t number next ≡ accept a → (t ≡ false) × (next ≡ accept a)
  passed-if true number next a e = absurd (let z : ◌≡◌ {A = ℕ} 0 1 = cc in omega arith)
  passed-if false number next a e = (refl, e)

  pub passed-at : (o : Option ℕ) (number : ℕ) (next : Answer A) (a : A) → refuse_at o number next ≡ accept a → (o ≡ none) × (next ≡ accept a)
  passed-at none number next a e = (refl, e)
  passed-at (some place) number next a e = absurd (let z : ◌≡◌ {A = ℕ} 0 1 = cc in omega arith)

  -- a refusal with another number than the check's own comes from the checks after it
  pub refuse_if-later : (t : Bool) (number : ℕ) (next : Answer A) (m p : ℕ) → (number ≡ m → ⊥)
      → refuse_if t number next ≡ refuse m p → next ≡ refuse m p
  refuse_if-later true number next m p other e = absurd (other (cc e))
  refuse_if-later false number next m p other e = e

  pub refuse_at-later : (o : Option ℕ) (number : ℕ) (next : Answer A) (m p : ℕ) → (number ≡ m → ⊥)
      → refuse_at o number next ≡ refuse m p → next ≡ refuse m p
  refuse_at-later none number next m p other e = e
  refuse_at-later (some place) number next m p other e = absurd (other (cc e))

  pub accept-not-refuse : (a : A) (m p : ℕ) → accept a ≡ refuse m p → ⊥
  accept-not-refuse a m p e = let z : ◌≡◌ {A = ℕ} 0 1 = cc e in omega arith

module _ {A B : Type 0} where
  -- a refusal that what follows never gives was there before
  pub and_then-refused : (a : Answer A) (next : A → Answer B) (m p : ℕ) → ((x : A) → next x ≡ refuse m p → ⊥)
      → and_then a next ≡ refuse m p → a ≡ refuse m p
  and_then-refused (accept x) next m p never e = absurd (never x e)
  and_then-refused (refuse number place) next m p never e =
      let same : number ≡ m = cc e in
      let there : place ≡ p = cc e in
      λ i. refuse (same i) (there i)

  -- the same, where what follows accepts
  pub and_then-accepting : (a : Answer A) (make : A → B) (m p : ℕ) → and_then a (λ x. accept (make x)) ≡ refuse m p → a ≡ refuse m p
  and_then-accepting a make m p e = and_then-refused a (λ x. accept (make x)) m p (λ x. accept-not-refuse (make x) m p) e

  -- what holds after an accepted call
  pub afterwards-accepted : (a : Answer A) (new : A → B) (old : B) (x : A) → a ≡ accept x → afterwards a new old ≡ new x
  afterwards-accepted a new old x e = ap (λ (b : Answer A). afterwards b new old) e

  pub passed_then : (a : Answer A) (next : A → Answer B) (b : B) → and_then a next ≡ accept b → (x : A) × (a ≡ accept x) × (next x ≡ accept b)
  passed_then (accept x) next b e = (x, refl, e)
  passed_then (refuse number place) next b e = absurd (let z : ◌≡◌ {A = ℕ} 0 1 = cc in omega arith)

-- a call that hands out what it reads: 13 before reading, 12 after it
module _ {A : Type 0} (contradicts : Bool) (read : Answer A) (short : A → Bool) where
  abbrev with_room : A → Answer A
  with_room x = refuse_if (short x) 12 (accept x)

  abbrev handed_out : Answer A
  handed_out = refuse_if contradicts 13 (and_then read with_room)

  pub handed_out-read : (a : A) → handed_out ≡ accept a → read ≡ accept a
  handed_out-read a e =
      let (x, f, room) = passed_then read with_room a (passed-if contradicts 13 (and_then read with_room) a e).1 in
      f ∙ (passed-if (short x) 12 (accept x) a room).1

  pub handed_out-refused : (m p : ℕ) → m < 12 → handed_out ≡ refuse m p → read ≡ refuse m p
  handed_out-refused m p few e =
      and_then-refused read with_room m p (λ x f. accept-not-refuse x m p (refuse_if-later (short x) 12 (accept x) m p (λ h. omega arith) f))
      (refuse_if-later contradicts 13 (and_then read with_room) m p (λ h. omega arith) e)

pub traced-rectangles : (t : Traced) (rs : List Rect) → rectangles t ≡ accept rs → t ≡ covered rs
traced-rectangles (covered qs) rs e = cc
traced-rectangles (stopped number) rs e = absurd (let z : ◌≡◌ {A = ℕ} 0 1 = cc in omega arith)

rectangles-stopped : (t : Traced) (m p : ℕ) → rectangles t ≡ refuse m p → t ≡ stopped m
rectangles-stopped (covered rs) m p e = absurd (accept-not-refuse rs m p e)
rectangles-stopped (stopped number) m p e = let same : number ≡ m = cc e in λ i. stopped (same i)

-- a drawing that read_rects-passed every check of reading, with its rectangles
pub record Passed (lines : List Line) (rs : List Rect) : Type 0 where
  pub not_empty : is_empty lines ≡ false
  pub not_too_large : drawing_too_large lines ≡ false
  pub in_set : outside_set lines ≡ none
  pub ruled : no_rule lines ≡ false
  pub not_too_wide : ltb max_width (grid_of lines).width ≡ false
  pub filled : wrong_width (grid_of lines) ≡ none
  pub traced : trace (grid_of lines) ≡ covered rs

pub read_rects-passed : (lines : List Line) (rs : List Rect) → read_rects lines ≡ accept rs → Passed lines rs
unfolding read_rects read_grid
read_rects-passed lines rs e =
    let g = grid_of lines in
    let six = rectangles (trace g) in
    let five = refuse_at (wrong_width g) 5 six in
    let wide = refuse_if (ltb max_width g.width) 2 five in
    let four = refuse_if (no_rule lines) 4 wide in
    let three = refuse_at (outside_set lines) 3 four in
    let two = refuse_if (drawing_too_large lines) 2 three in
    let p1 = passed-if (is_empty lines) 1 two rs e in
    let p2 = passed-if (drawing_too_large lines) 2 three rs p1.1 in
    let p3 = passed-at (outside_set lines) 3 four rs p2.1 in
    let p4 = passed-if (no_rule lines) 4 wide rs p3.1 in
    let pw = passed-if (ltb max_width g.width) 2 five rs p4.1 in
    let p5 = passed-at (wrong_width g) 5 six rs pw.1 in
    record {
      not_empty = p1.0;
      not_too_large = p2.0;
      in_set = p3.0;
      ruled = p4.0;
      not_too_wide = pw.0;
      filled = p5.0;
      traced = traced-rectangles (trace g) rs p5.1;
    }

-- the limits that a drawing keeps
pub record Limited (lines : List Line) : Type 0 where
  pub few_lines : length lines ≤ 128
  pub short_lines : {line : Line} → Memᴰ line lines → length line.text ≤ 512
  pub few_bytes : sum (map (λ (line : Line). length line.text) lines) ≤ 32768

pub drawing_too_large-limited : (lines : List Line) → drawing_too_large lines ≡ false → Limited lines
unfolding drawing_too_large
drawing_too_large-limited lines e =
    let bytes = sum (map (λ (line : Line). length line.text) lines) in
    let (lengths, few) = or-neither (ltb max_lines (length lines) || any line_too_large lines) (ltb max_bytes bytes) e in
    let (count, short) = or-neither (ltb max_lines (length lines)) (any line_too_large lines) lengths in
    record {
      few_lines = ltb-false max_lines (length lines) count;
      short_lines = λ {line} m.
          ltb-false max_line_bytes (length line.text) (or-neither (ltb max_line_bytes (length line.text)) (ltb max_origin line.column) (any_none line_too_large short m)).0;
      few_bytes = ltb-false max_bytes bytes few;
    }

pub height-of : (lines : List Line) → (grid_of lines).height ≡ length lines
unfolding grid_of
height-of lines = refl

-- what a drawing that is read is made of
module _ {lines : List Line} {rs : List Rect} (checks : Passed lines rs) where
  pub read-cover : Cover (grid_of lines) rs
  read-cover = (traced-covers (grid_of lines) rs checks.traced).0

  pub read-few : length rs ≤ 1024
  read-few = (traced-covers (grid_of lines) rs checks.traced).1

  pub read-limited : Limited lines
  read-limited = drawing_too_large-limited lines checks.not_too_large

  pub read-narrow : (grid_of lines).width ≤ 128
  read-narrow = ltb-false max_width (grid_of lines).width checks.not_too_wide

-- a layout, and a table, that is read is made of the rectangles that were traced
pub layout-read : (lines : List Line) (l : Layout) → read_layout lines ≡ accept l
    → (rs : List Rect) × (read_rects lines ≡ accept rs) × (l ≡ layout_of lines (grid_of lines) rs)
unfolding read_layout
layout-read lines l e =
    let (rs, f, made) = passed_then (read_rects lines) (λ rs. accept (layout_of lines (grid_of lines) rs)) l e in
    (rs, f, cc)

pub table-read : (lines : List Line) (t : Table) → read_table lines ≡ accept t
    → (rs : List Rect) × (read_rects lines ≡ accept rs) × (t ≡ table_of lines (layout_of lines (grid_of lines) rs))
unfolding read_table
table-read lines t e =
    let (l, f, made) = passed_then (read_layout lines) (λ l. accept (table_of lines l)) t e in
    let (rs, h, same) = layout-read lines l f in
    (rs, h, cc)

-- A drawing that is refused with a number past 5 was refused by tracing.
pub read_rects-stopped : (lines : List Line) (m p : ℕ) → 5 < m → read_rects lines ≡ refuse m p → trace (grid_of lines) ≡ stopped m
unfolding read_rects read_grid
read_rects-stopped lines m p later e =
    let g = grid_of lines in
    let six = rectangles (trace g) in
    let five = refuse_at (wrong_width g) 5 six in
    let wide = refuse_if (ltb max_width g.width) 2 five in
    let four = refuse_if (no_rule lines) 4 wide in
    let three = refuse_at (outside_set lines) 3 four in
    let two = refuse_if (drawing_too_large lines) 2 three in
    let p1 = refuse_if-later (is_empty lines) 1 two m p (λ h. omega arith) e in
    let p2 = refuse_if-later (drawing_too_large lines) 2 three m p (λ h. omega arith) p1 in
    let p3 = refuse_at-later (outside_set lines) 3 four m p (λ h. omega arith) p2 in
    let p4 = refuse_if-later (no_rule lines) 4 wide m p (λ h. omega arith) p3 in
    let pw = refuse_if-later (ltb max_width g.width) 2 five m p (λ h. omega arith) p4 in
    rectangles-stopped (trace g) m p (refuse_at-later (wrong_width g) 5 six m p (λ h. omega arith) pw)

-- a layout, and a table, is refused only where its rectangles are
pub read_layout-refused : (lines : List Line) (m p : ℕ) → read_layout lines ≡ refuse m p → read_rects lines ≡ refuse m p
unfolding read_layout
read_layout-refused lines m p e = and_then-accepting (read_rects lines) (λ rs. layout_of lines (grid_of lines) rs) m p e

pub read_table-refused : (lines : List Line) (m p : ℕ) → read_table lines ≡ refuse m p → read_rects lines ≡ refuse m p
unfolding read_table
read_table-refused lines m p e = read_layout-refused lines m p (and_then-accepting (read_layout lines) (λ l. table_of lines l) m p e)
