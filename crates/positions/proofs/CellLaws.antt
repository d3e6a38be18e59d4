-- The position of a cell of the table read is that of its rectangle.
use Prim.Native.Nat.{ℕ, suc, ◌+◌, ◌-◌, ◌<◌, ◌≤◌}
use mathlib.Core.Path.{◌≡◌, ◌∙◌}
use mathlib.Core.Logic.{⊎_elim}
use mathlib.Core.List.{List, map, Memᴰ}
use native.Mathlib.Omega.{arith}
use lib.ListN.{length, length-map}
use borrow.Author.Tests.{lt-ltb, le-ltb}
use Rattle.seq.specs.Lists.{range, last_or}
use Rattle.seq.proofs.Ranges.{length-range, last-of-range}
use Rattle.seq.proofs.Tests.{le-or-lt}
use Rattle.grid.specs.Values.{Rect, Range}
use Rattle.grid.specs.Slots.{Grid}
use Rattle.grid.specs.Layout.{inner_lines, content_at, cell_read, layout_of}
use Rattle.grid.specs.Cover.{Cover}
use Rattle.grid.proofs.CellLaws.{top-of}
use Rattle.representation.proofs.AgreeLaws.{Laid, byte-here}
use Rattle.sourcepos.specs.Positions.{Placed, number_at, table_byte_at, content_position, cell_position}
use Rattle.positions.specs.Spans.{rect_span}

-- ranges on lines one after the other
content-lined : (p : Placed) (f : ℕ → Range) (top n : ℕ) → content_position p top (map f (range (top + 1) (suc n)))
    ≡ record {
      start_line = number_at p (top + 1);
      start_column = table_byte_at p (top + 1) + (f (top + 1)).start + 1;
      end_line = number_at p (top + 1 + n);
      end_column = table_byte_at p (top + 1 + n) + (f (top + 1 + n)).end;
    }
unfolding range last_or
content-lined p f top n =
    let long : length (map f (range (top + 1 + 1) n)) ≡ n = length-map (range (top + 1 + 1) n) f ∙ length-range (top + 1 + 1) n in
    let last : last_or (map f (range (top + 1 + 1) n)) (f (top + 1)) ≡ f (top + 1 + n) = last-of-range f n (top + 1) (f (top + 1)) in
    rw (long, last)

module _ (p : Placed) (g : Grid) (rs : List Rect) (glyphs offsets : List ℕ) (cover : Cover g rs) (laid : Laid g rs glyphs offsets) {r : Rect} (m : Memᴰ r rs) where
  -- its ranges stand between its borders
  content-span : content_position p r.top (map (content_at g r) (inner_lines r)) ≡ rect_span p offsets r
  unfolding range
  content-span = ⊎_elim empty lined (le-or-lt r.bottom (r.top + 1)) where
    lined : r.top + 1 < r.bottom → content_position p r.top (map (content_at g r) (inner_lines r)) ≡ rect_span p offsets r
    lined h =
        let i = laid.inside r m in
        let k = r.bottom - r.top - 2 in
        let count : r.bottom - r.top - 1 ≡ suc k = omega arith in
        let last : r.top + 1 + k ≡ r.bottom - 1 = omega arith in
        let left = byte-here p.lines g rs glyphs offsets laid (r.top + 1) r.left (omega (arith, i.tall)) (omega (arith, i.across, i.wide)) in
        let right = byte-here p.lines g rs glyphs offsets laid (r.bottom - 1) r.right (omega (arith, i.tall)) i.wide in
        rw (count, lt-ltb (r.top + 1) r.bottom h, left, right) (rw last at (content-lined p (content_at g r) r.top k))

    empty : r.bottom ≤ r.top + 1 → content_position p r.top (map (content_at g r) (inner_lines r)) ≡ rect_span p offsets r
    empty h = let count : r.bottom - r.top - 1 ≡ 0 = omega arith in rw (count, le-ltb (r.top + 1) r.bottom h)

  pub cell_position-span : cell_position p (layout_of p.lines g rs) (cell_read g rs r) ≡ rect_span p offsets r
  unfolding cell_position cell_read
  cell_position-span = rw (top-of p.lines g rs cover m) content-span
