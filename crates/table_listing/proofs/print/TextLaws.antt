-- Laws of the lines of a cell, written one after another.
use Prim.Native.Nat.{ℕ, ◌+◌, ◌*◌, ◌-◌, ◌≤◌, ◌<◌, min}
use mathlib.Core.Path.{◌≡◌, refl, ap, sym, ◌∙◌}
use mathlib.Core.Logic.{⊎_elim}
use mathlib.Core.List.{List, [], ◌∷◌, ◌++◌, flat_map, append-nil}
use native.Mathlib.Numerals.{add-one}
use native.Mathlib.Omega.{arith}
use lib.ListN.{length, take, drop, get_or, length-drop, drop_of_length-le}
use lib.Seq.{take_all, take-suc, drop-drop, length-take-le}
use Rattle.seq.specs.Lists.{sum}
use Rattle.seq.proofs.Tests.{le-or-lt}
use Rattle.seq.proofs.FlatMaps.{flat_map-append}
use Rattle.seq.proofs.Gathered.{sum_step}
use Rattle.text.specs.Characters.{space}
use Rattle.grid.specs.Flat.{split_text}
use Rattle.grid.specs.Listing.{line_feed}
use Rattle.grid.specs.CellListing.{text_line}
use Rattle.printing.specs.Printing.{Put}
use Rattle.printing.proofs.PutLaws.{put-none, put_then, put_as, put-most}
use Rattle.table_listing.specs.Printing.{TextPut}

pub line-put : {d e f g : List ℕ} {at mid end r : ℕ} (text : List ℕ) → Put 2 d e at mid (space ∷ space ∷ []) → Put (length text) e f mid end text
    → Put 1 f g end r (line_feed ∷ []) → Put (length text + 3) d g at r (text_line text)
line-put text p q w = put-most (put_then p (put_then q w)) (omega arith)

-- A number of entries, at most those that are there

module _ {A : Type 0} (s : List A) (n r : ℕ) (e : r ≡ min n (length s)) where
  within : n < length s → r ≡ n
  within h = omega arith

  pub take-least : take r s ≡ take n s
  take-least = ⊎_elim (λ (h : length s ≤ n). take_all r s (omega arith) ∙ sym (take_all n s h)) (λ (h : n < length s). rw (within h)) (le-or-lt (length s) n)

  pub drop-least : drop r s ≡ drop n s
  drop-least =
      ⊎_elim (λ (h : length s ≤ n). let past : length s ≤ r = omega arith in drop_of_length-le s past ∙ sym (drop_of_length-le s h)) (λ (h : n < length s). rw (within h))
      (le-or-lt (length s) n)

-- The lines of a text, one more

split-more : (ns : List ℕ) (n : ℕ) (text : List ℕ) → split_text (ns ++ n ∷ []) text ≡ split_text ns text ++ take n (drop (sum ns) text) ∷ []
unfolding split_text sum
split-more [] n text = refl
split-more (m ∷ ns) n text =
    rw (← drop-drop (sum ns) m text) (ap (λ (l : List (List ℕ)). take m text ∷ l) (split-more ns n (drop m text)))

texts-more : (ls : List (List ℕ)) (t : List ℕ) → flat_map text_line (ls ++ t ∷ []) ≡ flat_map text_line ls ++ text_line t
unfolding flat_map
texts-more ls t = flat_map-append text_line ls (t ∷ []) ∙ ap (λ (l : List ℕ). flat_map text_line ls ++ l) (append-nil (text_line t))

module _ (lengths text d : List ℕ) (at : ℕ) where
  -- the first i lines are written, with `used` bytes of the text
  pub record Texts (e : List ℕ) (i used end : ℕ) : Type 0 where
    pub few : i ≤ length lengths
    pub within : used ≤ length text
    pub room : at + (3 * length lengths + length text) ≤ length d
    pub left : drop used text ≡ drop (sum (take i lengths)) text
    pub put : Put (3 * i + used) d e at end (flat_map text_line (split_text (take i lengths) text))

  pub texts-none : at + (3 * length lengths + length text) ≤ length d → Texts d 0 0 at
  unfolding sum split_text flat_map
  texts-none h = record { few = omega arith; within = omega arith; room = h; left = refl; put = put-none d at (omega arith) }

  module _ {e : List ℕ} {i used end : ℕ} (t : Texts e i used end) where
    pub texts-next : {f : List ℕ} {r : ℕ} (n size : ℕ) → i < length lengths → (n ≡ get_or lengths i 0) × (n < 65536) → size ≡ min n (length text - used)
        → Put (length (take (used + size - used) (drop used text)) + 3) e f end r (text_line (take (used + size - used) (drop used text)))
        → Texts f (i + 1) (used + size) r
    texts-next n size h told least p =
        let long : length (drop used text) ≡ length text - used = length-drop used text in
        let same : used + size - used ≡ size = omega arith in
        let clipped : size ≡ min n (length (drop used text)) = rw long least in
        let total : sum (take (i + 1) lengths) ≡ sum (take i lengths) + n = sum_step lengths i h ∙ rw told.0 in
        let more : take (i + 1) lengths ≡ take i lengths ++ n ∷ [] = rw (add-one, told.0) (take-suc lengths i 0 h) in
        let line : take (used + size - used) (drop used text) ≡ take n (drop (sum (take i lengths)) text) =
        rw same (take-least (drop used text) n size clipped ∙ ap (take n) t.left)
        in
        let short : length (take (used + size - used) (drop used text)) ≡ size = rw same (length-take-le size (drop used text) (omega arith)) in
        let whole : flat_map text_line (split_text (take (i + 1) lengths) text) ≡ flat_map text_line (split_text (take i lengths) text) ++ text_line (take (used + size - used) (drop used text)) =
        rw (more, split-more (take i lengths) n text, line) (texts-more (split_text (take i lengths) text) (take n (drop (sum (take i lengths)) text)))
        in
        record {
          few = omega arith;
          within = omega (arith, t.within);
          room = t.room;
          left =
              sym (drop-drop size used text) ∙ drop-least (drop used text) n size clipped ∙ ap (drop n) t.left ∙ drop-drop n (sum (take i lengths)) text
              ∙ ap (λ (k : ℕ). drop k text) (sym total);
          put = put-most (put_as (put_then t.put p) (sym whole)) (omega (arith, short));
        }

    pub texts-all : length lengths ≤ i → TextPut lengths text d e at (record { at = end; bytes = used })
    texts-all h =
        let whole : take i lengths ≡ lengths = take_all i lengths h in
        record {
          within = t.within;
          left = rw whole at t.left;
          put = put-most (rw whole at t.put) (omega (arith, t.few));
        }
