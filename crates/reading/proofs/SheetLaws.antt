-- What a traced drawing's arrays say: its lines, its grid, and the rectangles, each grid_answer-inside it and grid_answer-laid in its borders.
use Prim.Native.Nat.{ℕ, zero, suc, ◌+◌, ◌*◌, ◌≤◌, ◌<◌}
use mathlib.Core.Path.{◌≡◌, refl, sym}
use mathlib.Core.List.{List, Memᴰ}
use native.Mathlib.Nat.{mul-suc}
use native.Mathlib.Omega.{arith}
use lib.ListN.{length, get_or, take, drop, length-take}
use lib.Seq.{get_or-drop}
use Rattle.seq.specs.Lists.{sum}
use Rattle.grid.specs.Answer.{accept}
use Rattle.grid.specs.Values.{Rect, no_line}
use Rattle.grid.specs.Slots.{grid_of, trimmed_at}
use Rattle.representation.specs.LayoutParts.{grid_answer}
use Rattle.representation.specs.Arrays.{rects_of, Holds}
use Rattle.grid.proofs.SlotLaws.{lines-length, line_at}
use Rattle.slots.specs.Filling.{separator_lines}
use Rattle.representation.specs.LayoutEntries.{Inside}
use Rattle.grid.specs.Cover.{Cover}
use Rattle.representation.proofs.AgreeLaws.{Laid}
use Rattle.representation.proofs.TracedLaws.{grid_answer-inside, grid_answer-laid, grid_answer-cover}
use Rattle.reading.specs.Call.{SheetArrays, lines_in, rects_in, TracedSheet}
use Rattle.reading.specs.declared.Reading.{Reading}

-- rectangles grid_answer-inside 128 by 128 have entries below 128
rects-small : (n : ℕ) (rects : List ℕ) → ((r : Rect) → Memᴰ r (rects_of n rects) → Inside 128 128 r) → (i : ℕ) → i < 4 * n → get_or rects i 0 < 128
unfolding rects_of
rects-small zero rects all i h = absurd (omega arith)
rects-small (suc n) rects all zero h = let r = all _ (Memᴰ.head refl) in omega (arith, r.down, r.tall)
rects-small (suc n) rects all (suc zero) h = let r = all _ (Memᴰ.head refl) in omega (arith, r.across, r.wide)
rects-small (suc n) rects all (suc (suc zero)) h = (all _ (Memᴰ.head refl)).tall
rects-small (suc n) rects all (suc (suc (suc zero))) h = (all _ (Memᴰ.head refl)).wide
rects-small (suc n) rects all (suc (suc (suc (suc i)))) h =
    let at : 4 + i ≡ suc (suc (suc (suc i))) = omega arith in
    rw at at (rw get_or-drop at (rects-small n (drop 4 rects) (λ r m. all r (Memᴰ.tail m)) i (omega (arith, mul-suc 4 n))))

-- ---- a traced drawing
module _ (a : SheetArrays) (o : Reading) (t : TracedSheet a o) where
  pub traced-accepted : grid_answer (grid_of (lines_in a)) ≡ accept (rects_in a o.cells)
  traced-accepted = t.through.accepted

  pub traced-holds : Holds (grid_of (lines_in a)).rows (grid_of (lines_in a)).width a.glyphs a.offsets
  traced-holds = t.through.held

  pub traced_lines : length (lines_in a) ≡ length a.lengths
  traced_lines = lines-length a.lengths a.columns a.text

  pub traced-height : (grid_of (lines_in a)).height ≡ length a.lengths
  unfolding grid_of
  traced-height = traced_lines

  pub traced-width : (grid_of (lines_in a)).width ≡ o.width.0
  traced-width = sym t.through.wide

  pub traced-rule : o.width.0 ≡ length (trimmed_at (lines_in a) 0)
  unfolding grid_of
  traced-rule = t.through.wide

  pub traced-separators : separator_lines o.separators ≡ (grid_of (lines_in a)).separators
  traced-separators = t.through.separated

  pub traced-short : (y : ℕ) → y < length (lines_in a) → length (get_or (lines_in a) y no_line).text ≤ 512
  traced-short y h =
      rw (line_at a.lengths a.columns a.text y no_line (rw traced_lines at h))
      (omega (arith, length-take (get_or a.lengths y 0) (drop (sum (take y a.lengths)) a.text), t.sheet.short_lines y))

  pub traced-inside : (r : Rect) → Memᴰ r (rects_in a o.cells) → Inside 128 128 r
  traced-inside r m =
      let i = grid_answer-inside (lines_in a) (rects_in a o.cells) a.glyphs a.offsets traced-accepted traced-holds r m in
      record { down = i.down; across = i.across; tall = omega (arith, traced-height, i.tall, t.roomy.height_fits); wide = omega (arith, traced-width, i.wide, t.roomy.width_fits) }

  pub traced-edges : (i : ℕ) → i < 4 * o.cells → get_or a.rects i 0 < 128
  traced-edges = rects-small o.cells a.rects traced-inside

  pub traced-room : 4 * o.cells ≤ length a.rects
  traced-room = omega (arith, t.through.few, t.rect_room)

  pub traced-laid : Laid (grid_of (lines_in a)) (rects_in a o.cells) a.glyphs a.offsets
  traced-laid = grid_answer-laid (lines_in a) (rects_in a o.cells) a.glyphs a.offsets traced-accepted traced-holds

  pub traced-cover : Cover (grid_of (lines_in a)) (rects_in a o.cells)
  traced-cover = grid_answer-cover (lines_in a) (rects_in a o.cells) a.glyphs a.offsets traced-accepted traced-holds

  pub traced-some : 0 < length a.lengths
  traced-some = omega (arith, traced-height, traced-cover.tall)
