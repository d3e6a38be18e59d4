-- Drawn widths, read back: a column is read with the width that it was drawn with (`width_back`), and drawn widths, declared, are drawn
-- as they are (`widths-again`). So a table that reads back as the same one has the same drawing (`read_back-widths`, `read_back-drawn`).
use Prim.Native.Nat.{ℕ, suc, ◌+◌, ◌<◌, max}
use mathlib.Core.Path.{◌≡◌, sym, ap, ap₂, ◌∙◌}
use mathlib.Core.List.Memᴰ
use mathlib.Core.List.{List, map, Memᴰ}
use native.Mathlib.Omega.{arith}
use lib.ListN.{length, get_or, length-map}
use lib.Seq.{ext_get_or}
use Rattle.seq.proofs.Positions.{get_d_map}
use Rattle.grid.specs.Values.{GridTableColumn, Table}
use Rattle.grid.specs.Layout.{Between, between, column_lines, columns_read, layout_of}
use Rattle.grid.specs.Cut.{table_of}
use Rattle.grid.specs.Same.{normal}
use Rattle.grid.specs.declared.TableAlignment.{TableAlignment}
use Rattle.grid.specs.declared.TableAlignment.TheVariants.{None}
use Rattle.grid.proofs.LayoutLaws.{length-between, between-at}
use Rattle.drawing.specs.Sizes.{Need, least_width, start_width, width_need, fit, widths, offsets}
use Rattle.drawing.specs.Plain.{drawn}
use Rattle.drawing.proofs.FitLaws.{Asks, fit-again}
use Rattle.drawing.proofs.OffsetLaws.{offsets-step}
use Rattle.drawing.proofs.KeptLaws.{Kept}
use Rattle.drawing.proofs.CanvasLaws.{Fine, alignment_in, widths-length, widths-least, frames}
use Rattle.drawing.proofs.CellsBack.{lines, g, Unsplit, column_lines-back, xs-length}
use Rattle.drawing.proofs.SectionsBack.{Headed}
use Rattle.drawing.proofs.AlignmentsBack.{columns-length}
use Rattle.drawing.proofs.SameDrawn.{bare_column, same-needs, same-drawn}
use Rattle.drawing.proofs.ReadsBack.{read_back, AlignmentsKept, read_back-same}

module _ {t : Table} (U : Kept t) where
  width-asks : (n : Need) → Memᴰ n (map width_need t.cells) → Asks (length (map start_width t.columns)) n
  width-asks n m =
      let (c, k, e) = Memᴰ.of_map width_need t.cells m in
      let s = U.lies c k in
      let size = length-map t.columns start_width in
      let a : Asks (length (map start_width t.columns)) (width_need c) = record { some = omega (arith, s.broad); inside = omega (arith, s.near) } in
      rw (← e) a

  -- declared as drawn, they are drawn as declared
  pub widths-again : fit (widths t) (map width_need t.cells) ≡ widths t
  unfolding widths
  widths-again = fit-again (map start_width t.columns) (map width_need t.cells) width-asks

-- ---- the widths read
module _ {t : Table} (F : Fine t) (o : ℕ) (unsplit : Unsplit F o) where
  abbrev read : List GridTableColumn
  read = columns_read (lines F o) (g F o) (frames F)

  -- a column's declared width, read back, is the width that it was drawn with
  pub width_back : (c : ℕ) → c < length t.columns → (d : GridTableColumn) → (get_or read c d).width ≡ get_or (widths t) c 0
  unfolding columns_read
  width_back c u d =
      let nowhere : Between = record { from = 0; to = 0 } in
      let ls = column_lines (g F o) (frames F) in
      let are = column_lines-back F o unsplit in
      let long : length ls ≡ suc (length t.columns) = ap length are ∙ xs-length F o unsplit in
      let b = get_or (between ls) c nowhere in
      let here : b ≡ record { from = get_or ls c 0; to = get_or ls (c + 1) 0 } = between-at ls c nowhere (omega arith) in
      let from : b.from ≡ get_or (offsets (widths t)) c 0 = ap (λ (z : Between). z.from) here ∙ ap (λ (l : List ℕ). get_or l c 0) are in
      let to : b.to ≡ get_or (offsets (widths t)) (suc c) 0 = ap (λ (z : Between). z.to) here ∙ ap₂ (λ (l : List ℕ) (k : ℕ). get_or l k 0) are (omega arith) in
      ap (λ (k : GridTableColumn). k.width) (get_d_map _ (between ls) c d nowhere (omega (arith, length-between ls)))
      ∙ omega (arith, offsets-step 0 (widths t) c (omega (arith, widths-length t)))

  abbrev plain : GridTableColumn
  plain = record { alignment = None; width = 0 }

  module _ (aligned : map bare_column read ≡ map bare_column t.columns) where
    alignment-read : (c : ℕ) → c < length t.columns → (get_or read c plain).alignment ≡ alignment_in t c
    alignment-read c u =
        ap (λ (k : GridTableColumn). k.alignment)
        (sym (get_d_map bare_column read c plain plain (omega (arith, columns-length F o unsplit)))
        ∙ ap (λ (l : List GridTableColumn). get_or l c plain) aligned
        ∙ get_d_map bare_column t.columns c plain plain u)

    start_widths-back : map start_width read ≡ widths t
    start_widths-back =
        let n = columns-length F o unsplit in
        ext_get_or 0 (map start_width read) (widths t) (length-map read start_width ∙ n ∙ sym (widths-length t))
        (λ c h.
        let u : c < length t.columns = omega (arith, length-map read start_width) in
        get_d_map start_width read c 0 plain (omega arith)
        ∙ ap₂ (λ (w : ℕ) (a : TableAlignment). max w (least_width a)) (width_back c u plain) (alignment-read c u)
        ∙ omega (arith, widths-least t c u))

  -- ---- the table read back
  module _ (k : Headed F o) (keep : AlignmentsKept t) where
    abbrev u : Table
    u = read_back F o unsplit

    starts-same : map start_width u.columns ≡ widths t
    unfolding normal table_of layout_of
    starts-same = start_widths-back (ap (λ (x : Table). x.columns) (read_back-same F o unsplit k keep))

    pub read_back-widths : widths u ≡ widths t
    unfolding widths
    read_back-widths = ap₂ fit starts-same (same-needs u t (read_back-same F o unsplit k keep)) ∙ widths-again F.rules

    -- The table that reads back has the same drawing.
    pub read_back-drawn : drawn o u ≡ drawn o t
    read_back-drawn = same-drawn o u t (read_back-same F o unsplit k keep) read_back-widths
