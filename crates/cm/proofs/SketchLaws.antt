-- A checked and measured table is the canvas that drawing asks for: `table-planned`, `table-sketched`, `table-texted`.
use Prim.Native.Nat.{ℕ, ◌+◌, ◌-◌, ◌*◌, ◌≤◌, ◌<◌}
use mathlib.Core.Path.{◌≡◌, refl, sym, ap, subst, ◌∙◌}
use mathlib.Core.Bool.{Bool, true, false, ◌||◌, cond}
use mathlib.Core.List.{List, [], ◌∷◌, ◌++◌, map, Memᴰ}
use mathlib.Core.Logic.{⊎_elim}
use mathlib.Core.Option.{Option, none, some}
use native.Mathlib.Omega.{arith}
use native.Mathlib.Nat.{le_refl}
use lib.Dec.{eqb}
use lib.ListN.{length, get_or, take, length-map, length-take, get_or-eq_default}
use lib.Seq.{get_or-take}
use Rattle.seq.specs.Lists.{range, any, count, find, or_default}
use Rattle.seq.proofs.Tests.{le-or-lt}
use Rattle.seq.proofs.Walks.{or-false, or_assoc}
use Rattle.std.specs.Prelude.{Some as Just, None as Nothing}
use Rattle.seq.proofs.Finds.{find-in}
use Rattle.seq.proofs.FlatMaps.{map_same}
use Rattle.seq.proofs.Positions.{get_d_map, mem-get_or}
use Rattle.seq.proofs.Searches.{count-few}
use Rattle.text.specs.Trim.{trim_end}
use Rattle.text.specs.Lines.{no_text}
use Rattle.text.proofs.TrimLaws.{trim-prefix}
use Rattle.grid.specs.Values.{TableCell, Table}
use Rattle.grid.specs.Flat.{code_section, split_text}
use Rattle.grid.specs.Same.{drawn_lines}
use Rattle.grid.proofs.DrawnLineLaws.{dropped-at}
use Rattle.grid.proofs.CellLaws.{dropped-fewer}
use Rattle.grid.proofs.FlatLaws.{length-split}
use Rattle.representation.specs.TableIn.{table_in, no_cell, Tabled}
use Rattle.representation.proofs.TableInLaws.{columns-length}
use Rattle.drawing.specs.GridRules.{is_head, is_foot}
use Rattle.drawing.specs.Plain.{Box, box_of, canvas_at, canvas_of, corner_at, alignment_row, next_corner}
use Rattle.drawing.specs.Redraw.{foot_without_head}
use Rattle.drawing.proofs.CanvasLaws.{Fine, x_at, y_at, x_at-up, y_at-up, canvas-width, canvas-height, canvas-columns, cell_box, frames-cells}
use Rattle.drawing.proofs.LinedLaws.{rules-are, canvas-lined}
use Rattle.drawing.proofs.RoundTrip.{keeps-fine}
use Rattle.sizes.specs.Measured.{Measured}
use Rattle.sizes.specs.declared.Offsets.{Offsets}
use Rattle.sizes.proofs.FactLaws.{Facts, tabled-facts}
use Rattle.alignment.specs.Corners.{Cornered}
use Rattle.alignment.proofs.AlignmentLaws.{alignment-row, corner-told}
use Rattle.canvas.specs.Painting.{is_ruled, next_mark}
use Rattle.canvas.proofs.MarkLaws.{next-marked}
use Rattle.cm.specs.Board.{no_box, lines_at, LineAt}
use Rattle.cm.specs.Sketch.{Plan, plan, Planned, rules_at, Sketched, Texted}

-- an entry of an array's first part
first-at : (m : ℕ) (l : List ℕ) (k : ℕ) → k < m → get_or (take m l) k 0 ≡ get_or l k 0
first-at m l k u = get_or-take m l k 0 u

trim-shorter : (l : List ℕ) → length (trim_end l) ≤ length l
trim-shorter l = omega (arith, ap length (trim-prefix l), length-take (length (trim_end l)) l)

-- the next marked line is none past the last
next_mark-few : (marks : List ℕ) (columns k : ℕ) → next_mark marks columns k ≤ columns
unfolding next_mark
next_mark-few marks columns k = go (find (λ j. eqb (get_or marks j 0) 1) (range k (columns - k))) refl where
  go : (o : Option ℕ) → find (λ j. eqb (get_or marks j 0) 1) (range k (columns - k)) ≡ o → or_default columns o ≤ columns
  go none e = le_refl columns
  go (some j) e = let (f, same) = find-in (λ j. eqb (get_or marks j 0) 1) k (columns - k) j e in omega (arith, f.low, f.high)

-- a rule of `=` under Head, above Foot and on the last line, or none
ruled-is : (y : ℕ) (no_head no_foot : Bool) (h f l : ℕ)
    → any (eqb y) (cond no_head [] (h ∷ []) ++ cond no_foot [] (f ∷ l ∷ []))
    ≡ is_ruled (record { head = cond no_head Nothing (Just h); foot = cond no_foot Nothing (Just f); last = cond no_foot Nothing (Just l) }) y
unfolding any
ruled-is y true true h f l = refl
ruled-is y true false h f l = ap (λ (t : Bool). eqb y f || t) (or-false (eqb y l))
ruled-is y false true h f l = sym (or-false (eqb y h || false))
ruled-is y false false h f l = ap (λ (t : Bool). eqb y h || (eqb y f || t)) (or-false (eqb y l)) ∙ sym (or_assoc (eqb y h) (eqb y f) (eqb y l))

module _ {origin columns n : ℕ} {cols sections cells lengths text : List ℕ} (T : Tabled origin columns n cols sections cells lengths text)
    {starts ends firsts highs wides : List ℕ} {o : Offsets} (M : Measured columns n cols sections cells lengths text starts ends firsts highs wides o)
    {heads foots : ℕ} (told : (heads ≡ count is_head (map code_section sections)) × (foots ≡ count is_foot (map code_section sections))) where
  abbrev t : Table
  t = table_in columns n cols sections cells lengths text

  facts : Facts columns n cols sections cells lengths text
  facts = tabled-facts T

  F : Fine t
  F = keeps-fine T.keeps

  columns-are : length t.columns ≡ columns
  columns-are = columns-length columns cols

  rows_are : length t.sections ≡ length sections
  rows_are = length-map sections code_section

  x-at : (k : ℕ) → k ≤ columns → get_or o.xs k 0 ≡ x_at t k
  x-at k u = sym (first-at (columns + 1) o.xs k (omega arith)) ∙ ap (λ (l : List ℕ). get_or l k 0) M.across

  y-at : (k : ℕ) → k ≤ length sections → get_or o.ys k 0 ≡ y_at t k
  y-at k u = sym (first-at (length sections + 1) o.ys k (omega arith)) ∙ ap (λ (l : List ℕ). get_or l k 0) M.down

  heads-few : heads ≤ length sections
  heads-few = omega (arith, told.0, count-few is_head (map code_section sections), rows_are)

  foots-few : foots ≤ length sections
  foots-few = omega (arith, told.1, count-few is_foot (map code_section sections), rows_are)

  module _ {marks : List ℕ} (C : Cornered cells n heads marks) where
    abbrev p : Plan
    p = plan columns (length sections) n heads foots cols cells o.xs o.ys marks

    pub table-planned : Planned p
    table-planned =
        let at : (k : ℕ) → 5 * k + 0 ≡ 5 * k = λ k. omega arith in
        record {
          few_columns = facts.few_columns;
          few_rows = facts.few_rows;
          few_cells = facts.few_cells;
          few_heads = heads-few;
          few_foots = foots-few;
          col_room = omega (arith, facts.cols_room);
          cell_room = facts.cells_room;
          x_room = M.across_room;
          y_room = M.down_room;
          across = λ i j u w. omega (arith, x-at i (omega arith), x-at j w, x_at-up F i j u (omega (arith, columns-are)));
          down = λ i j u w. omega (arith, y-at i (omega arith), y-at j w, y_at-up F i j u (omega (arith, rows_are)));
          broad = facts.across.some;
          tall = facts.down.some;
          near = facts.across.inside;
          low = λ k u. rw (at k) at (facts.down.inside k u);
        }

    module _ (headed : foot_without_head t ≡ false) where
      frame_same : (c : TableCell) → Memᴰ c t.cells → (cell_box t c).frame ≡ (box_of o.xs o.ys c).frame
      unfolding box_of
      frame_same c m =
          let l = F.rules.lies c m in
          rw (
            x-at c.column (omega (arith, l.near, columns-are)),
            x-at (c.column + c.colspan) (omega (arith, l.near, columns-are)),
            y-at c.row (omega (arith, l.low, rows_are)),
            y-at (c.row + c.rowspan) (omega (arith, l.low, rows_are)),
          ) refl

      rules-here : (canvas_of t).rules
          ≡ cond (eqb heads 0) [] (get_or o.ys heads 0 ∷ []) ++ cond (eqb foots 0) [] (get_or o.ys (length sections - foots) 0 ∷ get_or o.ys (length sections) 0 ∷ [])
      rules-here =
          rw (y-at heads heads-few, y-at (length sections - foots) (omega arith), y-at (length sections) (omega arith), told.0, told.1)
          (rules-are t
          ∙ ap (λ (r : ℕ). cond (eqb (count is_head t.sections) 0) [] (y_at t (count is_head t.sections) ∷ []) ++ cond (eqb (count is_foot t.sections) 0) [] (y_at t (r - count is_foot t.sections) ∷ y_at t r ∷ [])) rows_are)

      ruled : (y : ℕ) → y < 128 → any (eqb y) (canvas_of t).rules ≡ is_ruled (rules_at heads foots (length sections) o.ys) y
      ruled y u =
          ap (any (eqb y)) rules-here ∙ ruled-is y (eqb heads 0) (eqb foots 0) (get_or o.ys heads 0) (get_or o.ys (length sections - foots) 0) (get_or o.ys (length sections) 0)

      pub table-sketched : Sketched (canvas_of t) p
      unfolding canvas_of canvas_at
      table-sketched =
          record {
            lined = canvas-lined F;
            wide = omega (arith, canvas-width t, x-at columns (omega arith), ap (x_at t) columns-are);
            tall = omega (arith, canvas-height t, y-at (length sections) (omega arith), ap (y_at t) rows_are);
            stand = λ k u. sym (x-at k u);
            columned = canvas-columns t;
            lines = split_text lengths text;
            framed = frames-cells F ∙ map_same (λ (c : TableCell). (cell_box t c).frame) (λ (c : TableCell). (box_of o.xs o.ys c).frame) t.cells frame_same;
            ruled = ruled;
            aligned = y-at heads heads-few ∙ sym (alignment-row T told headed);
            marked = λ k u. ap (λ (x : ℕ). corner_at (canvas_of t) (alignment_row (canvas_of t)) x) (x-at k (omega arith)) ∙ corner-told T told headed C k (omega arith);
            next = λ k u.
                ap (next_corner (canvas_of t) (alignment_row (canvas_of t))) (x-at k (omega arith)) ∙ next-marked F marks (λ j w. corner-told T told headed C j (omega (arith, columns-are))) k (omega (arith, columns-are))
                ∙ ap (λ (m : ℕ). x_at t (next_mark marks m (k + 1))) columns-are ∙ sym (x-at (next_mark marks columns (k + 1)) (next_mark-few marks columns (k + 1)));
          }

  -- ---- the text
  abbrev boxes : List Box
  boxes = map (cell_box t) t.cells

  module _ (k : ℕ) (u : k < length boxes) where
    few : k < length t.cells
    few = omega (arith, length-map t.cells (cell_box t))

    lines_are : lines_at boxes k ≡ drawn_lines (get_or t.cells k no_cell).lines
    unfolding box_of
    lines_are = ap (λ (b : Box). b.lines) (get_d_map (cell_box t) t.cells k no_box no_cell few)

    drawn-at : (i : ℕ) → i < length (get_or t.cells k no_cell).lines → get_or (lines_at boxes k) i no_text ≡ trim_end (get_or (get_or t.cells k no_cell).lines i no_text)
    unfolding drawn_lines
    drawn-at i w =
        ap (λ (l : List (List ℕ)). get_or l i no_text) lines_are ∙ dropped-at (map trim_end (get_or t.cells k no_cell).lines) i
        ∙ get_d_map trim_end (get_or t.cells k no_cell).lines i no_text no_text w

    drawn-fewer : length (lines_at boxes k) ≤ length (get_or t.cells k no_cell).lines
    unfolding drawn_lines
    drawn-fewer =
        omega (arith, ap length lines_are, dropped-fewer (map trim_end (get_or t.cells k no_cell).lines), length-map (get_or t.cells k no_cell).lines trim_end)

    line-stands : (i : ℕ) → i < length (lines_at boxes k) → LineAt text starts ends (get_or firsts k 0 + i) (get_or (lines_at boxes k) i no_text)
    line-stands i w =
        let inside : i < length (get_or t.cells k no_cell).lines = omega (arith, drawn-fewer) in
        let (there, same) = M.gathered.placed k i few inside in
        let j : get_or firsts k 0 + i < length lengths = omega (arith, length-split lengths text) in
        record {
          start_room = omega (arith, M.trimmed.start_room);
          end_room = omega (arith, M.trimmed.end_room);
          forward = M.trimmed.forward _ j;
          inside = M.trimmed.inside _ j;
          bytes = M.trimmed.trimmed _ j ∙ ap trim_end same ∙ sym (drawn-at i inside);
        }

    drawn-short : (i : ℕ) → length (get_or (lines_at boxes k) i no_text) ≤ 512
    drawn-short i = ⊎_elim past inside (le-or-lt (length (get_or t.cells k no_cell).lines) i) where
      past : length (get_or t.cells k no_cell).lines ≤ i → length (get_or (lines_at boxes k) i no_text) ≤ 512
      past w = omega (arith, ap length (get_or-eq_default (lines_at boxes k) no_text {n = i} (omega (arith, drawn-fewer))))

      inside : i < length (get_or t.cells k no_cell).lines → length (get_or (lines_at boxes k) i no_text) ≤ 512
      inside w =
          let (there, same) = M.gathered.placed k i few w in
          omega (arith, ap length (drawn-at i w), trim-shorter (get_or (get_or t.cells k no_cell).lines i no_text), ap length same, facts.short (get_or firsts k 0 + i))

  pub table-texted : Texted (canvas_of t) text starts ends firsts highs
  unfolding canvas_of canvas_at
  table-texted =
      record {
        lettered = record {
          first_room = omega (arith, length-map t.cells (cell_box t), M.gathered.first_room);
          height_room = omega (arith, length-map t.cells (cell_box t), M.gathered.height_room);
          tall = λ k u. M.gathered.tall k (few k u) ∙ ap length (sym (lines_are k u));
          line = λ k i u. line-stands k u i;
        };
        short = λ c m i. let (k, u, e) = mem-get_or no_box m in subst (λ (b : Box). length (get_or b.lines i no_text) ≤ 512) e (drawn-short k u i);
      }
