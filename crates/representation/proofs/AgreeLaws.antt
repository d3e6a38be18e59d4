-- The entries that the call writes, from the arrays of slots and rectangles, are those of the layout.
use Prim.Native.Nat.{ℕ, ◌+◌, ◌-◌, ◌<◌, ◌≤◌}
use mathlib.Core.Path.{◌≡◌, refl, sym, ap, ◌∙◌}
use mathlib.Core.Bool.{Bool, true, false, cond}
use mathlib.Core.List.Memᴰ
use mathlib.Core.List.{List, [], ◌∷◌, map, flat_map, Memᴰ}
use mathlib.Core.Option.{Option, none, some}
use mathlib.Core.Logic.{⊎_elim}
use native.Mathlib.Omega.{arith}
use lib.Dec.{leb, ltb}
use lib.ListN.{length, get_or, drop}
use borrow.Author.Tests.{le-ltb, lt-leb}
use Rattle.seq.specs.Lists.{or_default}
use Rattle.seq.proofs.FlatMaps.{flat_map-same, flat_map-map, flat_map-flat_map}
use Rattle.seq.proofs.Ranges.{range-mem}
use Rattle.seq.proofs.Searches.{select-mem}
use Rattle.text.specs.Rule.{to_plus}
use Rattle.grid.specs.Values.{Line, Rect, Cell}
use Rattle.grid.specs.Slots.{Grid, glyph_at, byte_at, is_plus, trimmed_at}
use Rattle.grid.specs.Layout.{column_lines, row_lines, Between, between, alignment_line, alignment_at, segment_alignment, columns_read, rows_read, section_at, head_end, foot_start, is_above, is_from, cell_read, layout_of, inner_lines, content_at}
use Rattle.grid.specs.Flat.{alignment_code, section_code, column_numbers}
use Rattle.grid.specs.LayoutCall.{row_numbers, cell_numbers, range_numbers, layout_arrays}
use Rattle.representation.specs.Arrays.{code_at, code_glyph, Holds}
use Rattle.grid.specs.declared.TableAlignment.{TableAlignment}
use Rattle.grid.specs.declared.TableAlignment.TheVariants.{None}
use Rattle.grid.specs.declared.GridTableSection.TheVariants.{Head, Body, Foot}
use Rattle.representation.proofs.HoldsLaws.{held-glyph, held-byte}
use Rattle.representation.specs.declared.Parts.{Parts}
use Rattle.representation.specs.LayoutEntries.{alignment_from, column_entries, section_from, row_entries, cell_entries, range_entries, all_ranges, Inside}

-- arrays that hold a grid, and rectangles inside it
pub record Laid (g : Grid) (rs : List Rect) (glyphs offsets : List ℕ) : Type 0 where
  pub tall : length g.rows ≡ g.height
  pub full : (y : ℕ) → y < g.height → length (get_or g.rows y []) ≡ g.width
  pub held : Holds g.rows g.width glyphs offsets
  pub inside : (r : Rect) → Memᴰ r rs → Inside g.height g.width r
  pub aligned : alignment_line g < g.height

-- a column line or a row line is inside
between-from : (l : List ℕ) (b : Between) → Memᴰ b (between l) → Memᴰ b.from l
unfolding between
between-from [] b m = absurd (Memᴰ.not-nil m)
between-from (x ∷ []) b m = absurd (Memᴰ.not-nil m)
between-from (x ∷ y ∷ l) b m =
    ⊎_elim (λ (e : b ≡ record { from = x; to = y }). Memᴰ.head (ap (λ (b : Between). b.from) e))
    (λ (n : Memᴰ b (between (y ∷ l))). Memᴰ.tail (between-from (y ∷ l) b n)) (Memᴰ.cases_cons m)

column-inside : (g : Grid) (rs : List Rect) (b : Between) → Memᴰ b (between (column_lines g rs)) → b.from < g.width
unfolding column_lines
column-inside g rs b m = let h = range-mem 0 g.width b.from (select-mem _ _ (between-from _ b m)).0 in omega arith

pub row_inside : (g : Grid) (rs : List Rect) (b : Between) → Memᴰ b (between (row_lines g rs)) → b.from < g.height
unfolding row_lines
row_inside g rs b m = let h = range-mem 0 g.height b.from (select-mem _ _ (between-from _ b m)).0 in omega arith

module _ (lines : List Line) (g : Grid) (rs : List Rect) (glyphs offsets : List ℕ) (laid : Laid g rs glyphs offsets) where
  glyph-here : (y x : ℕ) → y < g.height → x < g.width → code_glyph (code_at glyphs y x) ≡ glyph_at g y x
  glyph-here y x yh xw = held-glyph g glyphs offsets laid.held y x (rw laid.tall yh) xw (laid.full y yh)

  pub byte-here : (y x : ℕ) → y < g.height → x < g.width → code_at offsets y x ≡ byte_at g y x
  byte-here y x yh xw = held-byte g glyphs offsets laid.held y x (rw laid.tall yh) xw (laid.full y yh)

  alignment-agrees : (x : ℕ) → x < g.width
      → alignment_from glyphs offsets (trimmed_at lines (alignment_line g)) (alignment_line g) x ≡ alignment_code (alignment_at lines g x)
  unfolding alignment_at
  alignment-agrees x xw =
      rw (glyph-here (alignment_line g) x laid.aligned xw, byte-here (alignment_line g) x laid.aligned xw)
      (go (is_plus (glyph_at g (alignment_line g) x)) (segment_alignment (to_plus (drop (byte_at g (alignment_line g) x + 1) (trimmed_at lines (alignment_line g)))))) where
        go : (t : Bool) (a : TableAlignment) → cond t (alignment_code a) 0 ≡ alignment_code (cond t a None)
        go true a = refl
        go false a = refl

  pub columns-agree : column_entries glyphs offsets (trimmed_at lines (alignment_line g)) (alignment_line g) (column_lines g rs) ≡ flat_map column_numbers (columns_read lines g rs)
  unfolding columns_read
  columns-agree =
      flat_map-same _ _ (between (column_lines g rs)) (λ b m. rw (alignment-agrees b.from (column-inside g rs b m)))
      ∙ sym (flat_map-map column_numbers (λ (b : Between). record { alignment = alignment_at lines g b.from; width = b.to - b.from - 1 }) (between (column_lines g rs)))

-- sections from the separators
pub section-agrees : (g : Grid) (p : Parts) (top : ℕ) → p.head ≡ or_default 0 (head_end g) → p.foot ≡ or_default 128 (foot_start g) → top < 128
    → section_from p top ≡ section_code (section_at g top)
unfolding section_at
section-agrees g p top head foot small =
    rw (head, foot, above (head_end g), from (foot_start g)) (go (is_above top (head_end g)) (is_from top (foot_start g))) where
      above : (h : Option ℕ) → ltb top (or_default 0 h) ≡ is_above top h
      above none = le-ltb top 0 (omega arith)
      above (some line) = refl

      from : (f : Option ℕ) → leb (or_default 128 f) top ≡ is_from top f
      from none = lt-leb 128 top small
      from (some line) = refl

      go : (s t : Bool) → cond s 0 (cond t 2 1) ≡ section_code (cond s Head (cond t Foot Body))
      go true t = refl
      go false true = refl
      go false false = refl

pub rows_agree : (g : Grid) (rs : List Rect) (p : Parts) → p.head ≡ or_default 0 (head_end g) → p.foot ≡ or_default 128 (foot_start g) → g.height ≤ 128
    → row_entries p (row_lines g rs) ≡ flat_map row_numbers (rows_read g rs)
unfolding rows_read
rows_agree g rs p head foot small =
    flat_map-same _ _ (between (row_lines g rs)) (λ b m. rw (section-agrees g p b.from head foot (let low = row_inside g rs b m in omega arith)))
    ∙ sym (flat_map-map row_numbers (λ (b : Between). record { section = section_at g b.from; top = b.from; bottom = b.to }) (between (row_lines g rs)))

pub cells_agree : (g : Grid) (rs : List Rect) → cell_entries (row_lines g rs) (column_lines g rs) rs ≡ flat_map cell_numbers (map (cell_read g rs) rs)
unfolding cell_read
cells_agree g rs = sym (flat_map-map cell_numbers (cell_read g rs) rs)

module _ (lines : List Line) (g : Grid) (rs : List Rect) (glyphs offsets : List ℕ) (laid : Laid g rs glyphs offsets) where
  range-agrees : (r : Rect) → Memᴰ r rs → range_entries offsets r ≡ flat_map range_numbers (map (content_at g r) (inner_lines r))
  range-agrees r m =
      let i = laid.inside r m in
      flat_map-same _ _ (inner_lines r)
      (λ y n.
      let b = range-mem (r.top + 1) (r.bottom - r.top - 1) y n in
      let yh : y < g.height = omega arith in
      let lw : r.left < g.width = omega arith in
      rw (byte-here lines g rs glyphs offsets laid y r.left yh lw, byte-here lines g rs glyphs offsets laid y r.right yh i.wide))
      ∙ sym (flat_map-map range_numbers (content_at g r) (inner_lines r))

  pub ranges-agree : all_ranges offsets rs ≡ flat_map range_numbers (flat_map (λ (c : Cell). c.content) (map (cell_read g rs) rs))
  unfolding cell_read
  ranges-agree =
      flat_map-same (range_entries offsets) (λ r. flat_map range_numbers (map (content_at g r) (inner_lines r))) rs range-agrees
      ∙ sym (flat_map-map (λ (c : Cell). flat_map range_numbers c.content) (cell_read g rs) rs)
      ∙ sym (flat_map-flat_map range_numbers (λ (c : Cell). c.content) (map (cell_read g rs) rs))

  -- the four arrays
  pub arrays-agree : (p : Parts) → p.head ≡ or_default 0 (head_end g) → p.foot ≡ or_default 128 (foot_start g) → g.height ≤ 128
      → layout_arrays (layout_of lines g rs) ≡ record {
        columns = column_entries glyphs offsets (trimmed_at lines (alignment_line g)) (alignment_line g) (column_lines g rs);
        rows = row_entries p (row_lines g rs);
        cells = cell_entries (row_lines g rs) (column_lines g rs) rs;
        ranges = all_ranges offsets rs;
      }
  unfolding layout_arrays layout_of
  arrays-agree p head foot small = rw (columns-agree lines g rs glyphs offsets laid, rows_agree g rs p head foot small, cells_agree g rs, ranges-agree)
