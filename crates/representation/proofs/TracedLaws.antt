-- What the column and row lines, and the ranges, of a traced drawing are.
use Prim.Native.Nat.{ℕ, ◌+◌, ◌≤◌, ◌<◌}
use mathlib.Core.Path.{◌≡◌, refl, sym, ◌∙◌}
use mathlib.Core.List.Memᴰ
use mathlib.Core.List.{List, [], ◌∷◌, Memᴰ}
use native.Mathlib.Omega.{arith}
use lib.ListN.{length, get_or}
use Rattle.seq.specs.Lists.{select, up_to, or_default}
use Rattle.seq.proofs.Ranges.{range-mem}
use Rattle.seq.proofs.Searches.{select-mem}
use Rattle.grid.specs.Answer.{accept}
use Rattle.grid.specs.Values.{Line, Rect, no_line}
use Rattle.grid.specs.Slots.{Grid, grid_of, byte_at, is_separator}
use Rattle.grid.specs.Layout.{first_of, alignment_line, column_lines, row_lines}
use Rattle.grid.specs.Cover.{Cover}
use Rattle.representation.specs.LayoutParts.{grid_answer}
use Rattle.representation.specs.Arrays.{code_at, Holds}
use Rattle.grid.proofs.ByteLaws.{slot-in-line}
use Rattle.grid.proofs.CoverTheorems.{traced-covers}
use Rattle.representation.proofs.HoldsLaws.{held-byte}
use Rattle.grid.proofs.LayoutLaws.{top-line}
use Rattle.representation.proofs.LayoutPartsLaws.{grid-accepted}
use Rattle.grid.proofs.SeparatorLaws.{row-filled}
use Rattle.grid.proofs.SlotLaws.{rows-length}
use Rattle.representation.specs.Edges.{Collected, row_lines_below, column_lines_below}
use Rattle.representation.specs.LayoutEntries.{lines_held, numbering_of, Inside, Numbered}
use Rattle.representation.specs.declared.Bounds.{Bounds}
use Rattle.representation.proofs.AgreeLaws.{Laid}

mem-some : {x : ℕ} (l : List ℕ) → Memᴰ x l → 1 ≤ length l
mem-some [] m = absurd (Memᴰ.not-nil m)
mem-some (y ∷ l) m = omega arith

-- a grid_answer-cover has a rectangle
cover-some : (g : Grid) (rs : List Rect) → Cover g rs → (r : Rect) × Memᴰ r rs
unfolding select
cover-some g [] c = let z : ◌≡◌ {A = ℕ} 0 1 = c.once 0 0 c.tall c.wide in absurd (omega arith)
cover-some g (r ∷ rs) c = (r, Memᴰ.head refl)

-- the alignment line is a line of the drawing
aligned : (lines : List Line) → 0 < length lines → alignment_line (grid_of lines) < length lines
unfolding grid_of
aligned lines some = go (select (is_separator lines) (up_to (length lines))) (λ s m. range-mem 0 (length lines) s (select-mem (is_separator lines) _ m).0) where
  go : (l : List ℕ) → ((s : ℕ) → Memᴰ s l → (0 ≤ s) × (s < 0 + length lines)) → or_default 0 (first_of l) < length lines
  go [] low = some
  go (s ∷ l) low = let h = low s (Memᴰ.head refl) in omega arith

module _ (lines : List Line) (rs : List Rect) (glyphs offsets : List ℕ) (e : grid_answer (grid_of lines) ≡ accept rs)
    (h : Holds (grid_of lines).rows (grid_of lines).width glyphs offsets) where
  filled : (y : ℕ) → y < length lines → length (get_or (grid_of lines).rows y []) ≡ (grid_of lines).width
  filled y low = row-filled (grid_of lines) (grid-accepted (grid_of lines) rs e).0 y (omega (arith, rows-length lines))

  pub grid_answer-cover : Cover (grid_of lines) rs
  grid_answer-cover = (traced-covers (grid_of lines) rs (grid-accepted (grid_of lines) rs e).1).0

  pub rows-some : 1 ≤ length (row_lines (grid_of lines) rs)
  rows-some = let r = cover-some (grid_of lines) rs grid_answer-cover in mem-some (row_lines (grid_of lines) rs) (top-line grid_answer-cover r.1)

  tall : (grid_of lines).height ≡ length lines
  unfolding grid_of
  tall = refl

  pub grid_answer-inside : (r : Rect) → Memᴰ r rs → Inside (grid_of lines).height (grid_of lines).width r
  grid_answer-inside r m =
      let b = (grid_answer-cover.first r m).bordered in
      record { down = b.top_above_bottom; across = b.left_before_right; tall = b.bottom_inside; wide = b.right_inside }

  pub grid_answer-laid : Laid (grid_of lines) rs glyphs offsets
  grid_answer-laid =
      record {
        tall = rows-length lines ∙ sym tall;
        full = λ y low. filled y (rw tall at low);
        held = h;
        inside = grid_answer-inside;
        aligned = rw tall (aligned lines (let c = grid_answer-cover.tall in omega (arith, tall)));
      }

  -- a range starts within its line
  pub small_bytes : ((y : ℕ) → y < length lines → length (get_or lines y no_line).text ≤ 512)
      → (r : Rect) → Memᴰ r rs → (y : ℕ) → r.top < y → y < r.bottom → code_at offsets y r.left < 512
  small_bytes short r m y above below = rw (held-byte (grid_of lines) glyphs offsets h y r.left low left (filled y line)) byte where
    i : Inside (grid_of lines).height (grid_of lines).width r
    i = grid_answer-inside r m

    line : y < length lines
    line = omega (arith, tall, i.tall)

    low : y < length (grid_of lines).rows
    low = omega (arith, rows-length lines, line)

    left : r.left < (grid_of lines).width
    left = omega (arith, i.across, i.wide)

    byte : byte_at (grid_of lines) y r.left < 512
    byte = omega (arith, short y line, slot-in-line lines y r.left line (rw (filled y line) left))

  -- the lines that were collected
  module _ (low : length lines ≤ 128) (narrow : (grid_of lines).width ≤ 128) (tops lefts : Bounds) (c : Collected (row_lines_below (length lines) rs) (length lines) tops)
      (d : Collected (column_lines_below (grid_of lines).width rs) (grid_of lines).width lefts) where
    pub tops-held : lines_held tops ≡ row_lines (grid_of lines) rs
    unfolding row_lines grid_of
    tops-held = c.listed

    pub lefts-held : lines_held lefts ≡ column_lines (grid_of lines) rs
    unfolding column_lines
    lefts-held = d.listed

    pub grid_answer-numbered : (r : Rect) → Memᴰ r rs → Numbered (numbering_of tops) (numbering_of lefts) r
    grid_answer-numbered r m =
        let i = grid_answer-inside r m in
        record {
          inside = record { down = i.down; across = i.across; tall = omega (arith, tall, i.tall); wide = omega (arith, i.wide) };
          top_number = rw c.listed (c.indexed r.top (omega (arith, tall, i.down, i.tall)));
          bottom_number = rw c.listed (c.indexed r.bottom (omega (arith, tall, i.tall)));
          left_number = rw d.listed (d.indexed r.left (omega (arith, i.across, i.wide)));
          right_number = rw d.listed (d.indexed r.right i.wide);
        }
