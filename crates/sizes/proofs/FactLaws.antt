-- What the code needs to know of a table in its arrays, as facts about the arrays: `tabled-facts`.
use Prim.Native.Nat.{ℕ, zero, suc, ◌+◌, ◌*◌, ◌≤◌, ◌<◌}
use mathlib.Core.Path.{◌≡◌, refl, ap}
use mathlib.Core.Bool.{Bool, true, not}
use mathlib.Core.List.{List, [], ◌∷◌, map, Memᴰ}
use native.Mathlib.Omega.{arith}
use lib.Dec.{ltb}
use lib.ListN.{length, get_or, drop, length-map}
use lib.Seq.{get_or-drop}
use borrow.Author.Tests.{ltb-true, not-false}
use Rattle.seq.specs.Lists.{sum, all}
use Rattle.seq.proofs.Tests.{both_true}
use Rattle.seq.proofs.Positions.{get_or-mem}
use Rattle.seq.proofs.Searches.{first_at-none}
use Rattle.text.specs.Utf8.{well_formed}
use Rattle.text.specs.Lines.{no_text}
use Rattle.text.proofs.Utf8Laws.{well-line}
use Rattle.grid.specs.Values.{Table}
use Rattle.grid.specs.Flat.{code_section, every_nth, split_text, table_lines}
use Rattle.grid.proofs.FlatLaws.{length-split, split-lengths}
use Rattle.drawing.specs.Redraw.{table_outside_set}
use Rattle.drawing.proofs.KeptLaws.{Lies, keeps_rules-kept}
use Rattle.drawing.proofs.LimitLaws.{shape-limits, lines-limits, table_too_large-parts}
use Rattle.representation.specs.TableIn.{table_in, counts_in, no_cell, cell_in, Tabled}
use Rattle.representation.proofs.TableInLaws.{columns-length, cells-length, cells_at, lines-whole}
use Rattle.sizes.specs.Needs.{Spanned}

pub record Facts (columns n : ℕ) (cols sections cells lengths text : List ℕ) : Type 0 where
  pub cols_room : length cols ≡ 2 * columns
  pub few_columns : columns ≤ 127
  pub few_rows : length sections ≤ 127
  pub few_cells : n ≤ 1024
  pub cells_room : 5 * n ≤ length cells
  pub codes : (k : ℕ) → k < columns → get_or cols (2 * k) 0 < 4
  pub across : Spanned n 1 2 cells columns
  pub down : Spanned n 0 3 cells (length sections)
  pub lines_agree : sum (counts_in n cells) ≡ length lengths
  pub few_lines : length lengths ≤ 16384
  pub bytes_agree : sum lengths ≡ length text
  pub few_bytes : length text ≤ 32768
  pub short : (i : ℕ) → length (get_or (split_text lengths text) i no_text) ≤ 512
  pub well : (i : ℕ) → well_formed (get_or (split_text lengths text) i no_text) ≡ true

-- ---- every nth
nth-all : (test : ℕ → Bool) (step n : ℕ) (l : List ℕ) → all test (every_nth step n l) ≡ true → (k : ℕ) → k < n → test (get_or l (step * k) 0) ≡ true
unfolding all every_nth
nth-all test step zero l h k low = absurd (omega arith)
nth-all test step (suc n) l h zero low = let e : step * 0 ≡ 0 = omega arith in rw e (both_true (test (get_or l 0 0)) (all test (every_nth step n (drop step l))) h).0
nth-all test step (suc n) l h (suc k) low =
    let e : step * suc k ≡ step + step * k = omega arith in
    rw (e, ← get_or-drop step l (step * k) 0) (nth-all test step n (drop step l) (both_true (test (get_or l 0 0)) (all test (every_nth step n (drop step l))) h).1 k (omega arith))

short-line : (ls : List (List ℕ)) (i : ℕ) → ((l : List ℕ) → Memᴰ l ls → length l ≤ 512) → length (get_or ls i no_text) ≤ 512
short-line [] i h = omega arith
short-line (l ∷ ls) zero h = h l (Memᴰ.head refl)
short-line (l ∷ ls) (suc i) h = short-line ls i (λ k m. h k (Memᴰ.tail m))

module _ {origin columns n : ℕ} {cols sections cells lengths text : List ℕ} (t : Tabled origin columns n cols sections cells lengths text) where
  abbrev table : Table
  table = table_in columns n cols sections cells lengths text

  abbrev lines : List (List ℕ)
  lines = split_text lengths text

  all_lines : table_lines table ≡ lines
  all_lines = lines-whole n cells lines (omega (arith, length-split lengths text, t.lines_agree))

  -- cell k lies in the grid
  lies : (k : ℕ) → k < n → Lies table (cell_in cells lines k)
  lies k h =
      rw (← cells_at n cells lines k no_cell h)
      ((keeps_rules-kept table t.keeps.rules).lies (get_or table.cells k no_cell) (get_or-mem table.cells k no_cell (rw cells-length h)))

  pub tabled-facts : Facts columns n cols sections cells lengths text
  unfolding table_outside_set
  tabled-facts =
      let (origin, shape, long) = table_too_large-parts _ table t.keeps.not_too_large in
      let s = shape-limits table shape in
      let l = lines-limits table long in
      let few : n ≤ 1024 = omega (arith, s.cells, cells-length n cells lines) in
      let room : 5 * n ≤ length cells = omega (arith, t.cells_room) in
      record {
        cols_room = t.cols_room;
        few_columns = omega (arith, s.columns, columns-length columns cols);
        few_rows = omega (arith, s.rows, length-map sections code_section);
        few_cells = few;
        cells_room = room;
        codes = λ k h. ltb-true (get_or cols (2 * k) 0) 4 (nth-all (λ code. ltb code 4) 2 columns cols t.alignments k h);
        across = record { few = few; room = room; early = (omega arith, omega arith); some = λ k h. (lies k h).broad; inside = λ k h. omega (arith, (lies k h).near, columns-length columns cols) };
        down =
            record {
              few = few;
              room = room;
              early = (omega arith, omega arith);
              some = λ k h. (lies k h).tall;
              inside = λ k h. let e : 5 * k + 0 ≡ 5 * k = omega arith in rw e (omega (arith, (lies k h).low, length-map sections code_section));
            };
        lines_agree = t.lines_agree;
        few_lines = omega (arith, l.lines, ap length all_lines, length-split lengths text);
        bytes_agree = t.bytes_agree;
        few_bytes = omega (arith, t.bytes_agree, l.bytes, ap (λ (k : List (List ℕ)). sum (map length k)) all_lines, ap sum (split-lengths lengths text (omega (arith, t.bytes_agree))));
        short = λ i. short-line lines i (λ k m. l.short k (rw all_lines m));
        well = well-line lines (λ k m. not-false (well_formed k) (first_at-none (λ line. not (well_formed line)) 0 (table_lines table) t.keeps.in_set {a = k} (rw all_lines m)));
      }
