-- Laws of the loop that writes the lines of all cells.
use Prim.Native.Nat.{ℕ, ◌+◌, ◌*◌, ◌≤◌, ◌<◌}
use mathlib.Core.Path.{◌≡◌, refl, sym, ap, ◌∙◌, subst}
use mathlib.Core.List.{List, [], ◌∷◌, ◌++◌, map, flat_map, map-append}
use native.Mathlib.Omega.{arith}
use native.Mathlib.Nat.{zero-add}
use lib.ListN.{length, take, drop, get_or, length-map}
use mir.Syntax.{w64}
use mir.Val.{Fits}
use Rattle.seq.proofs.FlatMaps.{flat_map-flat_map}
use Rattle.seq.proofs.Entries.{Written, length_more, first-shorter, none_written, all-written, write-more}
use Rattle.grid.specs.Answer.{over}
use Rattle.grid.specs.Values.{Rect}
use Rattle.grid.specs.Flat.{join_text}
use Rattle.representation.specs.Arrays.{rects_of, rect_in}
use Rattle.representation.proofs.RectsLaws.{length-rects, get_or-rects}
use Rattle.representation.proofs.HeldLaws.{no_rect, rect-holds}
use Rattle.cell.specs.Text.{Source, kept_lines, all_lines, Cuttable, Framed, AllFramed, CountedBy, most_text}
use Rattle.cell.proofs.pieces.LineLaws.{kept-inner, kept-cuts}
use Rattle.cell.proofs.pieces.TotalLaws.{counted-here}
use Rattle.cell.proofs.lines.WriteLaws.{pieces}

-- entries of entries
map-flat_map : {A B C : Type 0} (f : B → C) (g : A → List B) (l : List A) → flat_map (λ a. map f (g a)) l ≡ map f (flat_map g l)
unfolding flat_map
map-flat_map f g [] = refl
map-flat_map f g (a ∷ l) = rw (map-flat_map f g l) (sym (map-append f (g a) (flat_map g l)))

pub record TextWritten (s : Source) (rects : List ℕ) (n : ℕ) (counts lengths text : List ℕ) (k line byte : ℕ) (lengths' text' : List ℕ) : Type 0 where
  pub framed : AllFramed s (rects_of n rects)
  pub counted : CountedBy (λ r. length (kept_lines s r)) (rects_of n rects) counts
  pub line_room : length (all_lines s (rects_of n rects)) ≤ length lengths
  pub byte_room : length (join_text (all_lines s (rects_of n rects))) ≤ length text
  pub few_bytes : length (join_text (all_lines s (rects_of n rects))) ≤ most_text
  pub few : line ≤ 128 * k
  pub line_place : line ≡ length (flat_map (λ r. map length (kept_lines s r)) (take k (rects_of n rects)))
  pub byte_place : byte ≡ length (flat_map (λ r. join_text (kept_lines s r)) (take k (rects_of n rects)))
  pub lengths_written : Written (λ r. map length (kept_lines s r)) (rects_of n rects) 0 lengths k lengths'
  pub text_written : Written (λ r. join_text (kept_lines s r)) (rects_of n rects) 0 text k text'

module _ (s : Source) (rects : List ℕ) (n : ℕ) (counts lengths text : List ℕ) where
  abbrev lengths_of : Rect → List ℕ
  lengths_of r = map length (kept_lines s r)

  abbrev text_of : Rect → List ℕ
  text_of r = join_text (kept_lines s r)

  all-lengths : flat_map lengths_of (rects_of n rects) ≡ map length (all_lines s (rects_of n rects))
  all-lengths = map-flat_map length (kept_lines s) (rects_of n rects)

  all-text : flat_map text_of (rects_of n rects) ≡ join_text (all_lines s (rects_of n rects))
  all-text = sym (flat_map-flat_map (λ (t : List ℕ). t) (kept_lines s) (rects_of n rects))

  pub no-cell-lines : AllFramed s (rects_of n rects) → CountedBy (λ r. length (kept_lines s r)) (rects_of n rects) counts
      → length (all_lines s (rects_of n rects)) ≤ length lengths → length (join_text (all_lines s (rects_of n rects))) ≤ length text
      → length (join_text (all_lines s (rects_of n rects))) ≤ most_text → TextWritten s rects n counts lengths text 0 0 0 lengths text
  unfolding flat_map
  no-cell-lines framed counted line_room byte_room few_bytes =
      record {
        framed = framed;
        counted = counted;
        line_room = line_room;
        byte_room = byte_room;
        few_bytes = few_bytes;
        few = omega arith;
        line_place = refl;
        byte_place = refl;
        lengths_written = none_written lengths_of (rects_of n rects) 0 lengths;
        text_written = none_written text_of (rects_of n rects) 0 text;
      }

  module _ (k line byte : ℕ) (lengths' text' : List ℕ) (w : TextWritten s rects n counts lengths text k line byte lengths' text') where
    pub count-inside : k < n → k < length counts
    count-inside h = omega (arith, w.counted.0, length-rects n rects)

    module _ (h : k < n) {cell : Rect} (held : cell ≡ rect_in rects k) where
      abbrev cell_pieces : List (List ℕ)
      cell_pieces = pieces s cell (get_or counts k 0)

      rect-here : get_or (rects_of n rects) k no_rect ≡ cell
      rect-here = get_or-rects n k rects no_rect h ∙ sym held

      cell-framed : Framed s cell
      cell-framed = subst (Framed s) (sym held) (rect-holds (Framed s) rects n k h w.framed)

      cell-count : get_or counts k 0 ≡ length (kept_lines s cell)
      cell-count = counted-here (λ r. length (kept_lines s r)) rects n counts k w.counted h ∙ ap (λ r. length (kept_lines s r)) (sym held)

      -- the lines that are written are those that are kept
      cell-pieces : cell_pieces ≡ kept_lines s cell
      cell-pieces = rw cell-count (sym (kept-cuts s cell))

      lengths-here : lengths_of (get_or (rects_of n rects) k no_rect) ≡ map length cell_pieces
      lengths-here = rw (rect-here, cell-pieces)

      text-here : text_of (get_or (rects_of n rects) k no_rect) ≡ join_text cell_pieces
      text-here = rw (rect-here, cell-pieces)

      length-here : length (lengths_of (get_or (rects_of n rects) k no_rect)) ≡ get_or counts k 0
      length-here = rw (rect-here, cell-count) (length-map (kept_lines s cell) length)

      pub cell-cuttable : (y : ℕ) → cell.top < y → y ≤ cell.top + get_or counts k 0 → Cuttable s cell.left cell.right y
      cell-cuttable y low high = cell-framed.borders y low (omega (arith, cell-count, kept-inner s cell, cell-framed.inside.down))

      line-place : line + get_or counts k 0 ≡ length (flat_map lengths_of (take (k + 1) (rects_of n rects)))
      line-place = omega (arith, w.line_place, length_more lengths_of (rects_of n rects) k no_rect (rw length-rects h), length-here)

      byte-place : byte + length (join_text cell_pieces) ≡ length (flat_map text_of (take (k + 1) (rects_of n rects)))
      byte-place = omega (arith, w.byte_place, length_more text_of (rects_of n rects) k no_rect (rw length-rects h), ap length text-here)

      count_small : line + get_or counts k 0 ≤ 128 * (k + 1)
      count_small = omega (arith, w.few, cell-count, kept-inner s cell, cell-framed.inside.tall)

      pub line-count-fits : n ≤ 1024 → Fits w64 (line + get_or counts k 0)
      line-count-fits small = record { fits = omega (arith, count_small) }

      pub cell-line-room : line + get_or counts k 0 ≤ length lengths'
      cell-line-room =
          omega (arith, line-place, first-shorter lengths_of (rects_of n rects) (k + 1), w.line_room, ap length all-lengths, length-map (all_lines s (rects_of n rects)) length, w.lengths_written.kept)

      pub cell-byte-room : byte + length (join_text cell_pieces) ≤ length text'
      cell-byte-room = omega (arith, byte-place, first-shorter text_of (rects_of n rects) (k + 1), w.byte_room, ap length all-text, w.text_written.kept)

      pub cell-byte-few : byte + length (join_text cell_pieces) ≤ most_text
      cell-byte-few = omega (arith, byte-place, first-shorter text_of (rects_of n rects) (k + 1), w.few_bytes, ap length all-text)

      pub cell-lines : (end : ℕ) (lengths'' text'' : List ℕ)
          → end ≡ byte + length (join_text cell_pieces)
          → lengths'' ≡ take line lengths' ++ map length cell_pieces ++ drop (line + get_or counts k 0) lengths'
          → text'' ≡ take byte text' ++ join_text cell_pieces ++ drop end text'
          → TextWritten s rects n counts lengths text (k + 1) (line + get_or counts k 0) end lengths'' text''
      cell-lines end lengths'' text'' e f g =
          record {
            framed = w.framed;
            counted = w.counted;
            line_room = w.line_room;
            byte_room = w.byte_room;
            few_bytes = w.few_bytes;
            few = count_small;
            line_place = line-place;
            byte_place = e ∙ byte-place;
            lengths_written =
                write-more lengths_of (rects_of n rects) 0 lengths lengths' k no_rect (rw length-rects h) w.lengths_written line lengths''
                (rw zero-add w.line_place) (rw length-here (omega (arith, cell-line-room, w.lengths_written.kept))) (rw (length-here, lengths-here) f);
            text_written =
                write-more text_of (rects_of n rects) 0 text text' k no_rect (rw length-rects h) w.text_written byte text'' (rw zero-add w.byte_place)
                (rw text-here (omega (arith, cell-byte-room, w.text_written.kept))) (rw text-here (rw e at g));
          }

    pub all-lengths-written : n ≤ k → lengths' ≡ over (map length (all_lines s (rects_of n rects))) lengths
    all-lengths-written h = all-written lengths_of (rects_of n rects) 0 lengths lengths' k (rw length-rects h) w.lengths_written ∙ rw (zero-add, all-lengths)

    pub all-text-written : n ≤ k → text' ≡ over (join_text (all_lines s (rects_of n rects))) text
    all-text-written h = all-written text_of (rects_of n rects) 0 text text' k (rw length-rects h) w.text_written ∙ rw (zero-add, all-text)
