-- The listing of a layout from the arrays that hold it.
use Prim.Native.Nat.{ℕ, zero, suc, ◌+◌, ◌*◌, ◌-◌, ◌<◌}
use mathlib.Core.Path.{◌≡◌, refl, ap, sym, ◌∙◌}
use mathlib.Core.List.{List, [], ◌∷◌, ◌++◌, map, flat_map, Memᴰ}
use native.Mathlib.Omega.{arith}
use lib.ListN.{length, get_or, length-map}
use Rattle.seq.proofs.Ranges.{length-range}
use Rattle.seq.proofs.Rising.{rising-position, position-lt}
use Rattle.grid.specs.Values.{Rect, GridTableColumn, Row, Cell}
use Rattle.grid.specs.Slots.{Grid}
use Rattle.grid.specs.Layout.{Between, between, row_lines, index_of, section_at, rows_read, inner_lines, content_at, cell_read}
use Rattle.grid.specs.Cover.{Cover}
use Rattle.grid.specs.Flat.{code_alignment, alignment_code, code_section, section_code, column_numbers, columns_of_array}
use Rattle.grid.specs.LayoutCall.{row_numbers, cell_numbers}
use Rattle.grid.specs.Listing.{cell_line}
use Rattle.grid.specs.declared.TableAlignment.{TableAlignment}
use Rattle.grid.specs.declared.TableAlignment.TheVariants.{None, Left, Right, Center}
use Rattle.grid.specs.declared.GridTableSection.{GridTableSection}
use Rattle.grid.specs.declared.GridTableSection.TheVariants.{Head, Body, Foot}
use Rattle.grid.proofs.LayoutLaws.{row_lines-rise, top-line, bottom-line}
use Rattle.layout_listing.specs.Printing.{rows_of_array, inner_height, cells_printed}

alignment-back : (a : TableAlignment) → code_alignment (alignment_code a) ≡ a
alignment-back None = refl
alignment-back Left = refl
alignment-back Right = refl
alignment-back Center = refl

section-back : (s : GridTableSection) → code_section (section_code s) ≡ s
section-back Head = refl
section-back Body = refl
section-back Foot = refl

pub columns-back : (cs : List GridTableColumn) (rest : List ℕ) → columns_of_array (length cs) (flat_map column_numbers cs ++ rest) ≡ cs
unfolding columns_of_array flat_map
columns-back [] rest = refl
columns-back (c ∷ cs) rest = rw (alignment-back c.alignment) (ap (λ (l : List GridTableColumn). c ∷ l) (columns-back cs rest))

pub rows_back : (rs : List Row) (rest : List ℕ) → rows_of_array (length rs) (flat_map row_numbers rs ++ rest) ≡ rs
unfolding rows_of_array flat_map
rows_back [] rest = refl
rows_back (r ∷ rs) rest = rw (section-back r.section) (ap (λ (l : List Row). r ∷ l) (rows_back rs rest))

pub cells-back : (cells : List Cell) (rows rest : List ℕ)
    → ((c : Cell) → Memᴰ c cells → inner_height rows c.row c.rowspan ≡ length c.content)
    → cells_printed (length cells) rows (flat_map cell_numbers cells ++ rest) ≡ flat_map cell_line cells
unfolding cells_printed flat_map
cells-back [] rows rest inner = refl
cells-back (c ∷ cells) rows rest inner =
    rw (inner c (Memᴰ.head refl)) (ap (λ (l : List ℕ). cell_line c ++ l) (cells-back cells rows rest (λ x m. inner x (Memᴰ.tail m))))

-- Inner lines, from the rows' tops and bottoms

module _ (g : Grid) where
  abbrev row_near : Between → Row
  row_near b = record { section = section_at g b.from; top = b.from; bottom = b.to }

  tops-at : (ls : List ℕ) (i : ℕ) (rest : List ℕ) → suc i < length ls → get_or (flat_map row_numbers (map row_near (between ls)) ++ rest) (3 * i + 1) 0 ≡ get_or ls i 0
  unfolding between flat_map
  tops-at [] i rest h = absurd (omega arith)
  tops-at (a ∷ []) i rest h = absurd (omega arith)
  tops-at (a ∷ b ∷ ls) zero rest h = refl
  tops-at (a ∷ b ∷ ls) (suc i) rest h =
      let e : 3 * suc i + 1 ≡ suc (suc (suc (3 * i + 1))) = omega arith in
      rw e (tops-at (b ∷ ls) i rest (omega arith))

  bottoms-at : (ls : List ℕ) (i : ℕ) (rest : List ℕ) → suc i < length ls → get_or (flat_map row_numbers (map row_near (between ls)) ++ rest) (3 * i + 2) 0 ≡ get_or ls (suc i) 0
  unfolding between flat_map
  bottoms-at [] i rest h = absurd (omega arith)
  bottoms-at (a ∷ []) i rest h = absurd (omega arith)
  bottoms-at (a ∷ b ∷ ls) zero rest h = refl
  bottoms-at (a ∷ b ∷ ls) (suc i) rest h =
      let e : 3 * suc i + 2 ≡ suc (suc (suc (3 * i + 2))) = omega arith in
      rw e (bottoms-at (b ∷ ls) i rest (omega arith))

  module _ (rs : List Rect) (cover : Cover g rs) (rest : List ℕ) where
    inner-rect : (r : Rect) → Memᴰ r rs
        → inner_height (flat_map row_numbers (rows_read g rs) ++ rest) (cell_read g rs r).row (cell_read g rs r).rowspan ≡ length (cell_read g rs r).content
    unfolding rows_read cell_read index_of
    inner-rect r m =
        let rise = row_lines-rise g rs in
        let top = rising-position (row_lines g rs) rise (top-line cover m) in
        let bottom = rising-position (row_lines g rs) rise (bottom-line cover m) in
        let deep = position-lt (row_lines g rs) rise (top-line cover m) (bottom-line cover m) (cover.first r m).bordered.top_above_bottom in
        let a = index_of (row_lines g rs) r.top in
        let b = index_of (row_lines g rs) r.bottom in
        let last : suc (b - 1) ≡ b = omega arith in
        let at : 3 * (a + (b - a)) - 1 ≡ 3 * (b - 1) + 2 = omega arith in
        let low = tops-at (row_lines g rs) a rest (omega (arith, bottom.inside)) in
        let high = bottoms-at (row_lines g rs) (b - 1) rest (omega (arith, bottom.inside)) in
        rw (at, low, high, last, top.here, bottom.here) (sym (length-map (inner_lines r) (content_at g r) ∙ length-range _ _))

    pub inner-cells : (c : Cell) → Memᴰ c (map (cell_read g rs) rs)
        → inner_height (flat_map row_numbers (rows_read g rs) ++ rest) c.row c.rowspan ≡ length c.content
    inner-cells c m = go rs (λ r n. inner-rect r n) m where
      go : (qs : List Rect) → ((r : Rect) → Memᴰ r qs → inner_height (flat_map row_numbers (rows_read g rs) ++ rest) (cell_read g rs r).row (cell_read g rs r).rowspan ≡ length (cell_read g rs r).content)
          → Memᴰ c (map (cell_read g rs) qs) → inner_height (flat_map row_numbers (rows_read g rs) ++ rest) c.row c.rowspan ≡ length c.content
      go [] all m' = elim m' [ ]
      go (q ∷ qs) all (Memᴰ.head e) = rw e (all q (Memᴰ.head refl))
      go (q ∷ qs) all (Memᴰ.tail n) = go qs (λ r k. all r (Memᴰ.tail k)) n
