-- Where reading a drawing gives the same table again: no cell splits (`same-unsplit`), each aligned column has its corner
-- (`same-aligned`), the drawing keeps the limits (`same-small`). A cell that splits would be traced as its part up to the first column at
-- which it does, and its first line would be cut shorter.
use Prim.Native.Nat.{ℕ, ◌+◌, ◌-◌, ◌<◌}
use mathlib.Core.Path.{◌≡◌, refl, sym, ap, subst, ◌∙◌}
use mathlib.Core.Bool.{Bool, true, false, not, ◌&&◌, ◌||◌, cond}
use mathlib.Core.Option.{none}
use mathlib.Core.List.Memᴰ
use mathlib.Core.List.{List, [], ◌∷◌, ◌++◌, map, map-append, Memᴰ}
use native.Mathlib.Omega.{arith}
use native.Mathlib.Nat.{le_refl}
use lib.Dec.{ltb}
use lib.ListN.{length, get_or, length-map}
use Rattle.seq.specs.Lists.{any, all, neighbours}
use Rattle.seq.proofs.Tests.{and_right, and-false, or-none}
use Rattle.seq.proofs.Ranges.{length-range}
use Rattle.seq.proofs.Searches.{all-range}
use Rattle.seq.proofs.Finds.{FirstPass, nowhere, here, first-pass}
use Rattle.seq.proofs.Positions.{get_d_map, get_or-map-at, get_or-range}
use Rattle.text.specs.Trim.{trim_end}
use Rattle.text.specs.Lines.{no_text}
use Rattle.text.proofs.TrimLaws.{trim-shorter}
use Rattle.grid.specs.Limits.{max_width}
use Rattle.grid.specs.Values.{Rect, GridTableColumn, TableCell, Table}
use Rattle.grid.specs.Slots.{vertical, glyph_at}
use Rattle.grid.specs.Rectangle.{plus_at}
use Rattle.grid.specs.Layout.{inner_lines, columns_read, layout_of}
use Rattle.grid.specs.Cut.{table_of}
use Rattle.grid.specs.Same.{drawn_lines, normal_cell, normal, Same}
use Rattle.grid.specs.Cover.{First, Cover, precedes}
use Rattle.grid.specs.declared.TableAlignment.{TableAlignment}
use Rattle.grid.specs.declared.TableAlignment.TheVariants.{None, Left, Right, Center}
use Rattle.grid.proofs.RectangleLaws.{rect}
use Rattle.grid.proofs.CoverTheorems.{traced-covers}
use Rattle.grid.proofs.TileLaws.{tiles-first-traced, tiles-prefix}
use Rattle.grid.proofs.ReadLaws.{Passed}
use Rattle.grid.proofs.DrawnLineLaws.{dropped-at, drawn-line-at}
use Rattle.grid.proofs.CellLaws.{cut_at, cell-lines}
use Rattle.drawing.specs.GridRules.{is_head, is_foot}
use Rattle.drawing.specs.Plain.{Box, Canvas, box_of, canvas_of, canvas_at, corner_at, alignment_row, has_left_colon, has_right_colon, column_alignment}
use Rattle.drawing.specs.Redraw.{foot_without_head, colons_misplaced, misaligned, drawn_too_large, splits_at, splits, split_cell}
use Rattle.drawing.proofs.ReadRules.{cell, table-cells}
use Rattle.drawing.proofs.CanvasLaws.{Fine, alignment_in, x_at, cell_box, canvas-columns, box-cell, cell-box, cell-sized, frames, frames-cells}
use Rattle.drawing.proofs.CheckLaws.{misaligned-nowhere, split_cell-nowhere}
use Rattle.drawing.proofs.GlyphRows.{grid-width, glyph_at-gap}
use Rattle.drawing.proofs.FirstBoxes.{Part}
use Rattle.drawing.proofs.CutBoxes.{cut_at-shorter}
use Rattle.drawing.proofs.CellsBack.{lines, g, L, Unsplit, frames-tiles, cell-bordered, cell-first, cell-part, frames-traced}
use Rattle.drawing.proofs.SectionsBack.{Headed, rules-below}
use Rattle.drawing.proofs.AlignmentsBack.{colons_misplaced-is, columns-length, alignment-back}
use Rattle.drawing.proofs.SameDrawn.{bare_column}
use Rattle.drawing.proofs.ReadsBack.{AlignmentsKept}

module _ {t : Table} (F : Fine t) (o : ℕ) (rs : List Rect) (checks : Passed (lines F o) rs) (same : Same (table_of (lines F o) (layout_of (lines F o) (g F o) rs)) t) where
  abbrev v : Canvas
  v = canvas_of t

  cover : Cover (g F o) rs
  cover = (traced-covers (g F o) rs checks.traced).0

  order : neighbours precedes rs ≡ true
  order = (traced-covers (g F o) rs checks.traced).2

  -- ---- no cell splits
  module _ (pre : List TableCell) (k : TableCell) (post : List TableCell) (e : t.cells ≡ pre ++ k ∷ post)
      (h : (c : TableCell) → Memᴰ c pre → splits (g F o) (cell_box t c).frame ≡ false) (s : splits (g F o) (cell_box t k).frame ≡ true) where
    abbrev frame : TableCell → Rect
    frame c = (cell_box t c).frame

    k-in : Memᴰ k t.cells
    k-in = subst (λ (l : List TableCell). Memᴰ k l) (sym e) (Memᴰ.append_right pre (Memᴰ.head refl))

    pre_in : {c : TableCell} → Memᴰ c pre → Memᴰ c t.cells
    pre_in {c} m = subst (λ (l : List TableCell). Memᴰ c l) (sym e) (Memᴰ.append_left (k ∷ post) m)

    frames-split : frames F ≡ map frame pre ++ frame k ∷ map frame post
    frames-split = frames-cells F ∙ ap (map frame) e ∙ map-append frame pre (k ∷ post)

    pre-first : (q : Rect) → Memᴰ q (map frame pre) → First (g F o) q
    pre-first q m = let (c, n, made) = Memᴰ.of_map frame pre m in subst (First (g F o)) made (cell-first F o (pre_in n) (h c n))

    P : Part (cell-bordered F o k-in) (glyph_at-gap (L F o) o (cell-box F k-in))
    P = cell-part F o k-in s

    -- what is traced in the cell's place
    p : Rect
    p = rect (frame k).top (frame k).left (frame k).bottom P.column

    traced-so : (more : List Rect) × (rs ≡ map frame pre ++ p ∷ more)
    unfolding p
    traced-so =
        tiles-prefix (frames-tiles F o) cover (map frame pre) (map frame post) (frame k) frames-split
        (tiles-first-traced (frames-tiles F o) cover (map frame pre) (frame k ∷ map frame post) frames-split pre-first) P.first refl refl order

    p-in : Memᴰ p rs
    p-in = let (more, q) = traced-so in subst (λ (l : List Rect). Memᴰ p l) (sym q) (Memᴰ.append_right (map frame pre) (Memᴰ.head refl))

    dummy : TableCell
    dummy = record { row = 0; column = 0; colspan = 0; rowspan = 0; lines = [] }

    normals : map normal_cell (table_of (lines F o) (layout_of (lines F o) (g F o) rs)).cells ≡ map normal_cell t.cells
    unfolding normal
    normals = ap (λ (u : Table). u.cells) same

    cell_same : normal_cell (cell (lines F o) (g F o) rs cover p) ≡ normal_cell k
    cell_same =
        let (more, q) = traced-so in
        let read = cell (lines F o) (g F o) rs cover in
        let n = length pre in
        let mine : get_or (map normal_cell (map read rs)) n dummy ≡ normal_cell (read p) =
        ap (λ (l : List Rect). get_or (map normal_cell (map read l)) n dummy) q
        ∙ ap (λ (l : List TableCell). get_or (map normal_cell l) n dummy) (map-append read (map frame pre) (p ∷ more))
        ∙ get_or-map-at normal_cell (map read (map frame pre)) (read p) (map read more) n dummy (length-map (map frame pre) read ∙ length-map pre frame) in
        let theirs : get_or (map normal_cell t.cells) n dummy ≡ normal_cell k =
        ap (λ (l : List TableCell). get_or (map normal_cell l) n dummy) e ∙ get_or-map-at normal_cell pre k post n dummy refl in
        sym mine ∙ ap (λ (l : List TableCell). get_or (map normal_cell l) n dummy) (sym (table-cells (lines F o) (g F o) rs cover))
        ∙ ap (λ (l : List TableCell). get_or l n dummy) normals ∙ theirs

    lines_same : drawn_lines (cell (lines F o) (g F o) rs cover p).lines ≡ drawn_lines k.lines
    unfolding normal_cell
    lines_same = ap (λ (c : TableCell). c.lines) cell_same

    -- its first line as it is cut
    first-cut : List ℕ
    first-cut = (cut_at (lines F o) (g F o) p ((frame k).top + 1)).text

    some-inner : 0 < (frame k).bottom - (frame k).top - 1
    some-inner = omega (arith, (cell-sized F k-in).tall)

    first-line : get_or (cell (lines F o) (g F o) rs cover p).lines 0 no_text ≡ first-cut
    unfolding first-cut p
    first-line =
        let inner = inner_lines p in
        let made : ℕ → List ℕ = λ y. (cut_at (lines F o) (g F o) p y).text in
        ap (λ (l : List (List ℕ)). get_or l 0 no_text) (cell-lines (lines F o) (g F o) rs cover p-in)
        ∙ dropped-at (map made inner) 0
        ∙ get_d_map made inner 0 no_text 0 (omega (arith, some-inner, length-range ((frame k).top + 1) ((frame k).bottom - (frame k).top - 1)))
        ∙ ap made (get_or-range ((frame k).top + 1) ((frame k).bottom - (frame k).top - 1) 0 0 some-inner ∙ omega arith)

    -- the column at which the cell splits stands as a border in its first line
    upright : vertical (glyph_at (g F o) ((frame k).top + 1) P.column) ≡ true
    unfolding splits_at
    upright =
        let q = frame k in
        all-range (λ y. vertical (glyph_at (g F o) y P.column)) (q.top + 1) (q.bottom - q.top - 1)
        (and_right (plus_at (g F o) q.top P.column && plus_at (g F o) q.bottom P.column) (all (λ y. vertical (glyph_at (g F o) y P.column)) (inner_lines q)) P.split)
        (q.top + 1) (le_refl _) (omega (arith, some-inner))

    shorter : length first-cut < length (get_or (drawn_lines k.lines) 0 no_text)
    unfolding first-cut p box_of
    shorter =
        let q = frame k in
        let z : q.top + 1 - q.top - 1 ≡ 0 = omega arith in
        rw z at (cut_at-shorter (L F o) o (cell-box F k-in) (q.top + 1) (omega arith) (omega (arith, (cell-sized F k-in).tall)) P.column P.after P.before upright)

    differs : ⊥
    differs =
        let d : trim_end first-cut ≡ get_or (drawn_lines k.lines) 0 no_text =
        ap trim_end (sym first-line) ∙ sym (drawn-line-at (cell (lines F o) (g F o) rs cover p).lines 0) ∙ ap (λ (l : List (List ℕ)). get_or l 0 no_text) lines_same in
        omega (arith, ap length d, trim-shorter first-cut, shorter)

  unsplit : Unsplit F o
  unsplit = go (first-pass (λ (c : TableCell). splits (g F o) (cell_box t c).frame) t.cells) where
    go : FirstPass (λ (c : TableCell). splits (g F o) (cell_box t c).frame) t.cells → (c : TableCell) → Memᴰ c t.cells → splits (g F o) (cell_box t c).frame ≡ false
    go (nowhere h) = h
    go (here pre k post e h s) = absurd (differs pre k post e h s)

  -- so what is traced are the cells
  traced-frames : rs ≡ frames F
  traced-frames = let made = frames-traced F o unsplit in cc checks.traced

  -- ---- alignments
  module _ (k : Headed F o) where
    columns-same : map bare_column (columns_read (lines F o) (g F o) rs) ≡ map bare_column t.columns
    unfolding normal table_of layout_of
    columns-same = ap (λ (u : Table). u.columns) same

    alignment-same : AlignmentsKept t
    alignment-same c u =
        let d : GridTableColumn = record { alignment = None; width = 0 } in
        let read = columns_read (lines F o) (g F o) (frames F) in
        let all : map bare_column read ≡ map bare_column t.columns = ap (λ (q : List Rect). map bare_column (columns_read (lines F o) (g F o) q)) (sym traced-frames) ∙ columns-same in
        sym (alignment-back F o unsplit (rules-below F o k) c u d)
        ∙ ap (λ (a : GridTableColumn). a.alignment)
        (sym (get_d_map bare_column read c d d (omega (arith, columns-length F o unsplit))) ∙ ap (λ (l : List GridTableColumn). get_or l c d) all ∙ get_d_map bare_column t.columns c d d u)

    no-colons : (b : Bool) (a : TableAlignment) → cond b a None ≡ a → (has_left_colon a || has_right_colon a) && not b ≡ false
    no-colons true a e = and-false (has_left_colon a || has_right_colon a)
    no-colons false None e = refl
    no-colons false Left e = absurd (let z : ◌≡◌ {A = ℕ} 0 1 = cc in omega arith)
    no-colons false Right e = absurd (let z : ◌≡◌ {A = ℕ} 0 1 = cc in omega arith)
    no-colons false Center e = absurd (let z : ◌≡◌ {A = ℕ} 0 1 = cc in omega arith)

    not-misplaced : (c : ℕ) → c < length t.columns → colons_misplaced v c (column_alignment v c) ≡ false
    unfolding canvas_of canvas_at
    not-misplaced c u = colons_misplaced-is F o c u (alignment_in t c) ∙ no-colons (corner_at v (alignment_row v) (x_at t c)) (alignment_in t c) (alignment-same c u)

    pub same-aligned : misaligned v ≡ none
    same-aligned = misaligned-nowhere v (λ c u. not-misplaced c (rw (← (canvas-columns t)) u))

  pub same-small : drawn_too_large v (lines F o) ≡ false
  unfolding drawn_too_large
  same-small = or-none (ap (ltb max_width) (sym (grid-width (L F o) o)) ∙ checks.not_too_wide) checks.not_too_large

  pub same-unsplit : split_cell v (g F o) ≡ none
  same-unsplit =
      split_cell-nowhere v (g F o)
      (λ b n.
      let (c, m, e) = box-cell F n in
      ap (λ (b : Box). splits (g F o) b.frame) (sym e) ∙ unsplit c m)

-- no Foot without a Head, in one table and in another that is the same
pub same-headed : (u t : Table) → Same u t → foot_without_head u ≡ false → foot_without_head t ≡ false
unfolding foot_without_head normal
same-headed u t s h = ap (λ (x : Table). any is_foot x.sections && not (any is_head x.sections)) (sym s) ∙ h
