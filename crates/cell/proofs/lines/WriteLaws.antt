-- Laws of the loop that writes the lines of a cell.
use Prim.Native.Nat.{ℕ, ◌+◌, ◌*◌, ◌≤◌, ◌<◌}
use mathlib.Core.Path.{◌≡◌, refl, sym, ap, ◌∙◌}
use mathlib.Core.List.{List, [], ◌∷◌, ◌++◌, map, flat_map}
use native.Mathlib.Omega.{arith}
use lib.ListN.{length, take, drop, get_or, set, length-map, get_or-map}
use lib.Seq.{take_all}
use mir.Syntax.{w16, w64}
use mir.Val.{Fits}
use Rattle.seq.specs.Lists.{range}
use Rattle.seq.proofs.Positions.{get_or-range}
use Rattle.seq.proofs.Ranges.{length-range}
use Rattle.seq.proofs.FlatMaps.{flat_map-ones}
use Rattle.seq.proofs.Entries.{Written, length_more, first-shorter, none_written, all-written, write-more, write-sets}
use Rattle.grid.specs.Flat.{join_text, lines_from}
use Rattle.grid.specs.Values.{Rect, no_line}
use Rattle.representation.specs.Arrays.{code_at}
use Rattle.grid.proofs.CutLaws.{cut-shorter}
use Rattle.writer.specs.Writing.{Wrote}
use Rattle.writer.proofs.WritingLaws.{put_down-fits}
use Rattle.cell.specs.Text.{Source, cut_between, SourceReady, Cuttable, most_text}

-- its cut lines below `top`
abbrev pub pieces : Source → Rect → ℕ → List (List ℕ)
pieces s r count = map (cut_between s r.left r.right) (range (r.top + 1) count)

length-pieces : (s : Source) (r : Rect) (count : ℕ) → length (pieces s r count) ≡ count
length-pieces s r count = length-map (range (r.top + 1) count) (cut_between s r.left r.right) ∙ length-range (r.top + 1) count

module _ (s : Source) (r : Rect) (count i : ℕ) (h : i < count) where
  piece-at : get_or (pieces s r count) i (cut_between s r.left r.right 0) ≡ cut_between s r.left r.right (r.top + 1 + i)
  piece-at = get_or-map (cut_between s r.left r.right) (range (r.top + 1) count) i 0 ∙ ap (cut_between s r.left r.right) (get_or-range (r.top + 1) count i 0 h)

  module _ (ready : SourceReady s) (all : (y : ℕ) → r.top < y → y ≤ r.top + count → Cuttable s r.left r.right y) where
    pub pieces-cuttable : Cuttable s r.left r.right (r.top + 1 + i)
    pieces-cuttable = all (r.top + 1 + i) (omega arith) (omega arith)

    line_small : r.top + 1 + i < 128
    line_small = omega (arith, pieces-cuttable.line, ready.sheet.few_lines)

    pieces-short : (piece : List ℕ) → piece ≡ cut_between s r.left r.right (r.top + 1 + i) → length piece ≤ 512
    pieces-short piece e =
        let y : ℕ = r.top + 1 + i in
        let shorter =
        cut-shorter (get_or (lines_from s.lengths s.columns s.text) y no_line) y 0
        (record { start = code_at s.offsets y r.left + 1; end = code_at s.offsets y r.right }) r.left in
        rw e (omega (arith, shorter, pieces-cuttable.inside, ready.sheet.short_lines y))

    pub pieces-fit : (piece : List ℕ) → piece ≡ cut_between s r.left r.right (r.top + 1 + i) → Fits w16 (length piece)
    pieces-fit piece e = record { fits = omega (arith, pieces-short piece e) }

-- the first i lines of a cell, up to byte `end`
pub record LinesWritten (s : Source) (r : Rect) (count at byte : ℕ) (lengths text : List ℕ) (i end : ℕ) (lengths' text' : List ℕ) : Type 0 where
  pub cuttable : (y : ℕ) → r.top < y → y ≤ r.top + count → Cuttable s r.left r.right y
  pub place : end ≡ byte + length (join_text (take i (pieces s r count)))
  pub lengths_written : Written (λ t. length t ∷ []) (pieces s r count) at lengths i lengths'
  pub text_written : Written (λ t. t) (pieces s r count) byte text i text'

module _ (s : Source) (r : Rect) (count at byte : ℕ) (lengths text : List ℕ) where
  pub lines_written-none : ((y : ℕ) → r.top < y → y ≤ r.top + count → Cuttable s r.left r.right y)
      → LinesWritten s r count at byte lengths text 0 byte lengths text
  unfolding flat_map
  lines_written-none all =
      record {
        cuttable = all;
        place = omega arith;
        lengths_written = none_written (λ t. length t ∷ []) (pieces s r count) at lengths;
        text_written = none_written (λ t. t) (pieces s r count) byte text;
      }

  module _ (i end : ℕ) (lengths' text' : List ℕ) (w : LinesWritten s r count at byte lengths text i end lengths' text') where
    pub lines_written-first-fits : SourceReady s → i < count → Fits w64 (r.top + 1)
    lines_written-first-fits ready h = record { fits = omega (arith, line_small s r count i h ready w.cuttable) }

    pub lines_written-line-fits : SourceReady s → i < count → Fits w64 (r.top + 1 + i)
    lines_written-line-fits ready h = record { fits = omega (arith, line_small s r count i h ready w.cuttable) }

    module _ (h : i < count) (piece : List ℕ) (e : piece ≡ cut_between s r.left r.right (r.top + 1 + i)) where
      pub lines_written-place-fits : SourceReady s → byte + length (join_text (pieces s r count)) ≤ most_text
          → end + length piece ≤ 18446744073709551615
      lines_written-place-fits ready few =
          let short = pieces-short s r count i h ready w.cuttable piece e in
          omega (arith, w.place, first-shorter (λ t. t) (pieces s r count) i, short)

      here : get_or (pieces s r count) i (cut_between s r.left r.right 0) ≡ piece
      here = piece-at s r count i h ∙ sym e

      inside : i < length (pieces s r count)
      inside = rw (length-pieces s r count) h

      place-next : end + length piece ≡ byte + length (join_text (take (i + 1) (pieces s r count)))
      place-next = omega (arith, w.place, length_more (λ t. t) (pieces s r count) i (cut_between s r.left r.right 0) inside, ap length here)

      pub lines_written-next : (text'' : List ℕ) (next : ℕ) → byte + length (join_text (pieces s r count)) ≤ length text → at + count ≤ length lengths
          → Wrote text' end piece text'' next
          → LinesWritten s r count at byte lengths text (i + 1) next (set lengths' (at + i) (length piece)) text''
      lines_written-next text'' next room length_room wrote =
          let fits : end + length piece ≤ length text = omega (arith, place-next, first-shorter (λ t. t) (pieces s r count) (i + 1)) in
          let one : at + 1 * i ≡ at + i = omega arith in
          let step =
          write-sets (λ t. length t ∷ []) (pieces s r count) at lengths lengths' i (cut_between s r.left r.right 0) inside w.lengths_written 1
          (λ t. refl) (rw (length-pieces s r count) (omega arith)) in
          record {
            cuttable = w.cuttable;
            place = wrote.next ∙ place-next;
            lengths_written = rw (here, one) at step;
            text_written =
                write-more (λ t. t) (pieces s r count) byte text text' i (cut_between s r.left r.right 0) inside w.text_written end text'' w.place
                (rw here fits) (rw here (wrote.bytes ∙ put_down-fits text' end piece (omega (arith, fits, w.text_written.kept))));
          }

    all-pieces : count ≤ i → length (pieces s r count) ≤ i
    all-pieces h = omega (arith, length-pieces s r count)

    pub lines_written-end : count ≤ i → end ≡ byte + length (join_text (pieces s r count))
    lines_written-end h = w.place ∙ rw (take_all i (pieces s r count) (all-pieces h))

    pub lines_written-lengths : count ≤ i → lengths' ≡ take at lengths ++ map length (pieces s r count) ++ drop (at + count) lengths
    lines_written-lengths h =
        all-written (λ t. length t ∷ []) (pieces s r count) at lengths lengths' i (all-pieces h) w.lengths_written
        ∙ rw (flat_map-ones length (pieces s r count), length-map (pieces s r count) length, length-pieces s r count)

    pub lines_written-text : count ≤ i → text' ≡ take byte text ++ join_text (pieces s r count) ++ drop end text
    lines_written-text h = all-written (λ t. t) (pieces s r count) byte text text' i (all-pieces h) w.text_written ∙ rw (lines_written-end h)
