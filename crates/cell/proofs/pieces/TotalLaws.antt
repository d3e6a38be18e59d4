-- Laws of counting the lines and bytes of all cells.
use Prim.Native.Nat.{ℕ, ◌+◌, ◌*◌, ◌≤◌, ◌<◌}
use mathlib.Core.Path.{◌≡◌, refl, sym, ap, ◌∙◌}
use mathlib.Core.Logic.{⊎_elim}
use mathlib.Core.List.{List, map}
use native.Mathlib.Nat.{eq-or-lt_of_le}
use native.Mathlib.Omega.{arith}
use lib.ListN.{length, get_or, take, set, length-set}
use lib.Seq.{take_all, get_or-set_same, get_or-set_other}
use mir.Syntax.{w64}
use mir.Val.{Fits}
use borrow.Author.Rules.{Fits-under}
use Rattle.seq.specs.Lists.{sum}
use Rattle.seq.proofs.FlatMaps.{length-flat_map-sum, flat_map-flat_map}
use Rattle.seq.proofs.Walks.{sum_more}
use Rattle.grid.specs.Values.{Rect}
use Rattle.grid.specs.Flat.{join_text}
use Rattle.representation.specs.Arrays.{rects_of, rect_in}
use Rattle.representation.proofs.RectsLaws.{length-rects, get_or-rects}
use Rattle.seq.proofs.Positions.{get_or-mem}
use Rattle.cell.specs.Text.{Source, source, kept_lines, all_lines, no_rect, SourceReady, Framed, AllFramed, CountedBy, Preparable, Prepared, most_text}
use Rattle.cell.specs.declared.pieces.TextSize.{TextSize}

-- a text's bytes, line by line
pub length-join : (l : List (List ℕ)) → length (join_text l) ≡ sum (map length l)
length-join l = length-flat_map-sum (λ t. t) l

module _ (s : Source) (rects : List ℕ) (n : ℕ) (counts₀ : List ℕ) where
  abbrev kept : Rect → List (List ℕ)
  kept r = kept_lines s r

  pub record Totalling (counts : List ℕ) (lines bytes k : ℕ) : Type 0 where
    pub framed : AllFramed s (rects_of n rects)
    pub same : length counts ≡ length counts₀
    pub room : n ≤ length counts₀
    pub noted : (i : ℕ) → i < k → get_or counts i 0 ≡ length (kept (get_or (rects_of n rects) i no_rect))
    pub counted : lines ≡ sum (map (λ r. length (kept r)) (take k (rects_of n rects)))
    pub summed : bytes ≡ sum (map (λ r. sum (map length (kept r))) (take k (rects_of n rects)))
    pub few_lines : lines ≤ 128 * k
    pub few_bytes : bytes ≤ 65536 * k

  pub totalling-none : AllFramed s (rects_of n rects) → n ≤ length counts₀ → Totalling counts₀ 0 0 0
  unfolding sum
  totalling-none framed room =
      record { framed = framed; same = refl; room = room; noted = λ i low. absurd (omega arith); counted = refl; summed = refl; few_lines = omega arith; few_bytes = omega arith }

  module _ {counts : List ℕ} {lines bytes k : ℕ} (t : Totalling counts lines bytes k) where
    module _ (h : k < n) where
      pub totalling-room : k < length counts
      totalling-room = omega (arith, t.same, t.room)

      module _ {r : Rect} (held : r ≡ rect_in rects k) where
        here : get_or (rects_of n rects) k no_rect ≡ r
        here = get_or-rects n k rects no_rect h ∙ sym held

        pub totalling-framed : Framed s r
        totalling-framed = rw here at (t.framed (get_or (rects_of n rects) k no_rect) (get_or-mem (rects_of n rects) k no_rect (rw length-rects h)))

        module _ {more extra : ℕ} (size : (more ≡ length (kept r)) × (more < 128)) (weight : (extra ≡ sum (map length (kept r))) × (extra ≤ 65536)) where
          pub totalling-lines-fit : n ≤ 1024 → Fits w64 (lines + more)
          totalling-lines-fit few = Fits-under w64 (lines + more) 1000000 (omega (arith, t.few_lines, size.1)) tt

          pub totalling-bytes-fit : n ≤ 1024 → Fits w64 (bytes + extra)
          totalling-bytes-fit few = Fits-under w64 (bytes + extra) 100000000 (omega (arith, t.few_bytes, weight.1)) tt

          pub totalling-next : Totalling (set counts k more) (lines + more) (bytes + extra) (k + 1)
          totalling-next =
              record {
                framed = t.framed;
                same = length-set counts k more ∙ t.same;
                room = t.room;
                noted = λ i low.
                    ⊎_elim (λ (is : i ≡ k). rw is (get_or-set_same counts k more 0 totalling-room ∙ size.0 ∙ ap (λ r. length (kept r)) (sym here)))
                    (λ (before : i < k). get_or-set_other counts k i more 0 (λ e. omega arith) ∙ t.noted i before) (eq-or-lt_of_le (omega arith));
                counted = omega (arith, t.counted, size.0, ap (λ r. length (kept r)) here, sum_more (λ r. length (kept r)) (rects_of n rects) k no_rect (rw length-rects h));
                summed = omega (arith, t.summed, weight.0, ap (λ r. sum (map length (kept r))) here, sum_more (λ r. sum (map length (kept r))) (rects_of n rects) k no_rect (rw length-rects h));
                few_lines = omega (arith, t.few_lines, size.1);
                few_bytes = omega (arith, t.few_bytes, weight.1);
              }

    pub totalling-all : k ≤ n → n ≤ 1024 → n ≤ k
        → (lines ≡ length (all_lines s (rects_of n rects)))
        × (bytes ≡ length (join_text (all_lines s (rects_of n rects))))
        × CountedBy (λ r. length (kept r)) (rects_of n rects) counts × (bytes ≤ most_text)
    totalling-all low few done = (
      t.counted ∙ rw (take_all k (rects_of n rects) (rw length-rects done)) (sym (length-flat_map-sum kept (rects_of n rects))),
      t.summed ∙ rw (take_all k (rects_of n rects) (rw length-rects done)) all-bytes,
      (omega (arith, length-rects n rects, t.same, t.room), λ i low. t.noted i (omega (arith, length-rects n rects))),
      omega (arith, t.few_bytes),
    ) where
      all-bytes : sum (map (λ r. sum (map length (kept r))) (rects_of n rects)) ≡ length (join_text (all_lines s (rects_of n rects)))
      all-bytes =
          sym (ap length (flat_map-flat_map (λ t. t) kept (rects_of n rects)) ∙ length-flat_map-sum (λ r. join_text (kept r)) (rects_of n rects)
          ∙ ap (λ (f : Rect → ℕ). sum (map f (rects_of n rects))) (λ i r. length-join (kept r) i))

-- the number that an array has for rectangle k
pub counted-here : (f : Rect → ℕ) (rects : List ℕ) (n : ℕ) (counts : List ℕ) (k : ℕ) → CountedBy f (rects_of n rects) counts → k < n
    → get_or counts k 0 ≡ f (rect_in rects k)
counted-here f rects n counts k counted h =
    counted.1 k (rw length-rects h) ∙ ap f (get_or-rects n k rects no_rect h)

-- ---- with where lines start
module _ (lengths columns text offsets rects : List ℕ) (n : ℕ) (starts₀ counts₀ : List ℕ) (p : Preparable lengths columns text offsets rects n starts₀ counts₀) (starts : List ℕ) where
  pub preparable-ready : length lengths ≤ length starts → ((y : ℕ) → y < length lengths → get_or starts y 0 ≡ sum (take y lengths)) → SourceReady (source lengths columns text starts offsets)
  preparable-ready room started = record { sheet = p.sheet; few_bytes = p.few_bytes; start_room = room; started = started; offset_room = p.offset_room }

  pub preparable-prepared : (length starts ≡ length starts₀) × ((y : ℕ) → y < length lengths → get_or starts y 0 ≡ sum (take y lengths)) → (counts : List ℕ) (size : TextSize)
      → (size.lines ≡ length (all_lines (source lengths columns text starts offsets) (rects_of n rects)))
      × (size.bytes ≡ length (join_text (all_lines (source lengths columns text starts offsets) (rects_of n rects))))
      × CountedBy (λ r. length (kept_lines (source lengths columns text starts offsets) r)) (rects_of n rects) counts × (size.bytes ≤ most_text)
      → Prepared (source lengths columns text starts offsets) (rects_of n rects) counts size
  preparable-prepared started counts size m =
      record { ready = preparable-ready (omega (arith, p.start_room, started.0)) started.1; lines = m.0; bytes = m.1; counted = m.2; few_bytes = m.3 }
