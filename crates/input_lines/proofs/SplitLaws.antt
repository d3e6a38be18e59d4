-- Laws of splitting an input into lines.
use Prim.Native.Nat.{ℕ, zero, suc, ◌+◌, ◌-◌, ◌≤◌, ◌<◌}
use mathlib.Core.Path.{◌≡◌, refl, ap, sym, ◌∙◌}
use mathlib.Core.Bool.{Bool, true, false, ◌||◌, cond}
use mathlib.Core.List.{List, [], ◌∷◌, ◌++◌, map, append_assoc}
use mathlib.Core.Logic.{⊎_elim}
use native.Mathlib.Numerals.{add-one}
use native.Mathlib.Omega.{arith}
use lib.ListN.{length, take, drop, get_or, set, length-set, length-append, length-drop}
use lib.Seq.{take_all, take-suc, take-suc-set, take-append-le, drop-append-le, get_or-drop, length-take-le}
use lib.Dec.{eqb, ltb}
use borrow.Author.Tests.{eq-eqb, ne_eqb, lt-ltb}
use Rattle.seq.specs.Lists.{sum, any}
use Rattle.seq.proofs.ListsLaws.{drop-step}
use Rattle.seq.proofs.Tests.{le-or-lt}
use Rattle.text.specs.Rule.{onto_first}
use Rattle.grid.specs.Values.{Line}
use Rattle.grid.specs.Flat.{split_text}
use Rattle.grid.specs.Read.{drawing_too_large, line_too_large}
use Rattle.grid.specs.Listing.{line_feed, split_lines, lines_read}
use Rattle.grid.proofs.FlatLaws.{length-split, split-lengths}
use Rattle.printing.specs.Printing.{Put}
use Rattle.input_lines.specs.Splitting.{Held, Splitting, onto}
use Rattle.printing.proofs.PutLaws.{put_next}

-- The next line

onto-more : (bs : List ℕ) (b : ℕ) (lines : List (List ℕ)) → onto (bs ++ b ∷ []) lines ≡ onto bs (onto_first b lines)
unfolding onto
onto-more [] b lines = refl
onto-more (a ∷ bs) b lines = ap (onto_first a) (onto-more bs b lines)

onto-closed : (bs : List ℕ) (lines : List (List ℕ)) → onto bs ([] ∷ lines) ≡ bs ∷ lines
unfolding onto
onto-closed [] lines = refl
onto-closed (a ∷ bs) lines = ap (onto_first a) (onto-closed bs lines)

onto-last : (bs : List ℕ) → 0 < length bs → onto bs [] ≡ bs ∷ []
unfolding onto
onto-last [] h = absurd (omega arith)
onto-last (a ∷ []) h = refl
onto-last (a ∷ b ∷ bs) h = ap (onto_first a) (onto-last (b ∷ bs) (omega arith))

feed-step : (s : List ℕ) (i : ℕ) → i < length s → get_or s i 0 ≡ line_feed → split_lines (drop i s) ≡ [] ∷ split_lines (drop (i + 1) s)
unfolding split_lines
feed-step s i h e = rw (drop-step s i h, eq-eqb (get_or s i 0) line_feed e)

other_step : (s : List ℕ) (i : ℕ) → i < length s → (get_or s i 0 ≡ line_feed → ⊥) → split_lines (drop i s) ≡ onto_first (get_or s i 0) (split_lines (drop (i + 1) s))
unfolding split_lines
other_step s i h e = rw (drop-step s i h, ne_eqb (get_or s i 0) line_feed e)

drop_past : (s : List ℕ) (i : ℕ) → length s ≤ i → drop i s ≡ []
drop_past [] zero h = refl
drop_past [] (suc i) h = refl
drop_past (a ∷ s) zero h = absurd (omega arith)
drop_past (a ∷ s) (suc i) h = drop_past s i (omega arith)

end_step : (s : List ℕ) (i : ℕ) → length s ≤ i → split_lines (drop i s) ≡ []
unfolding split_lines
end_step s i h = rw (drop_past s i h)

module _ (s : List ℕ) (from i : ℕ) (low : from ≤ i) (e : split_lines (drop from s) ≡ onto (take (i - from) (drop from s)) (split_lines (drop i s))) where
  pub feed-found : i < length s → get_or s i 0 ≡ line_feed → split_lines (drop from s) ≡ take (i - from) (drop from s) ∷ split_lines (drop (i + 1) s)
  feed-found h f = e ∙ ap (onto (take (i - from) (drop from s))) (feed-step s i h f) ∙ onto-closed _ _

  pub feed-later : i < length s → (get_or s i 0 ≡ line_feed → ⊥)
      → split_lines (drop from s) ≡ onto (take (i + 1 - from) (drop from s)) (split_lines (drop (i + 1) s))
  feed-later h f =
      let at : from + (i - from) ≡ i = omega arith in
      let long : i - from < length (drop from s) = omega (arith, length-drop from s) in
      let here : get_or (drop from s) (i - from) 0 ≡ get_or s i 0 = get_or-drop from s (i - from) 0 ∙ rw at in
      let next : i + 1 - from ≡ suc (i - from) = omega arith in
      let more : take (i + 1 - from) (drop from s) ≡ take (i - from) (drop from s) ++ get_or s i 0 ∷ [] =
      rw next (take-suc (drop from s) (i - from) 0 long ∙ rw here)
      in
      rw more (e ∙ ap (onto (take (i - from) (drop from s))) (other_step s i h f) ∙ sym (onto-more (take (i - from) (drop from s)) (get_or s i 0) (split_lines (drop (i + 1) s))))

  pub feed-none : i ≤ length s → length s ≤ i → from < length s
      → split_lines (drop from s) ≡ take (length s - from) (drop from s) ∷ split_lines (drop (length s + 1) s)
  feed-none h k some =
      let at : length s ≡ i = omega arith in
      let long : 0 < length (take (i - from) (drop from s)) = omega (arith, length-take-le (i - from) (drop from s) (omega (arith, length-drop from s))) in
      rw (at, end_step s (i + 1) (omega arith)) (e ∙ ap (onto (take (i - from) (drop from s))) (end_step s i k) ∙ onto-last _ long)

pub feed-start : (s : List ℕ) (from : ℕ) → split_lines (drop from s) ≡ onto (take (from - from) (drop from s)) (split_lines (drop from s))
unfolding onto
feed-start s from =
    let none : from - from ≡ 0 = omega arith in
    rw none

-- All lines

append-none : (l : List (List ℕ)) → l ++ [] ≡ l
append-none [] = refl
append-none (a ∷ l) = ap (λ (k : List (List ℕ)). a ∷ k) (append-none l)

sum-snoc : (ns : List ℕ) (n : ℕ) → sum (ns ++ n ∷ []) ≡ sum ns + n
unfolding sum
sum-snoc [] n = omega arith
sum-snoc (m ∷ ns) n = rw (sum-snoc ns n) (omega arith)

split-snoc : (ns : List ℕ) (n : ℕ) (t u : List ℕ) → sum ns ≡ length t → n ≡ length u → split_text (ns ++ n ∷ []) (t ++ u) ≡ split_text ns t ++ u ∷ []
unfolding split_text sum
split-snoc [] n [] u h k = ap (λ (l : List ℕ). l ∷ []) (take_all n u (omega arith))
split-snoc [] n (a ∷ t) u h k = absurd (omega arith)
split-snoc (m ∷ ns) n t u h k =
    let fits : m ≤ length t = omega arith in
    let left : sum ns ≡ length (drop m t) = omega (arith, length-drop m t) in
    rw (take-append-le m t u fits, drop-append-le m t u fits) (ap (λ (l : List (List ℕ)). take m t ∷ l) (split-snoc ns n (drop m t) u left k))

-- the bytes of lines
abbrev bytes_in : List (List ℕ) → ℕ
bytes_in lines = sum (map length lines)

bytes-append : (ls ms : List (List ℕ)) → bytes_in (ls ++ ms) ≡ bytes_in ls + bytes_in ms
unfolding sum
bytes-append [] ms = omega arith
bytes-append (l ∷ ls) ms = rw (bytes-append ls ms) (omega arith)

bytes-split : (ns t : List ℕ) → sum ns ≤ length t → bytes_in (split_text ns t) ≡ sum ns
bytes-split ns t h = ap sum (split-lengths ns t h)

abbrev line_of : List ℕ → Line
line_of t = record { text = t; column = 0 }

length-lines : (ls : List (List ℕ)) → length (map line_of ls) ≡ length ls
length-lines [] = refl
length-lines (l ∷ ls) = ap suc (length-lines ls)

bytes-lines : (ls : List (List ℕ)) → sum (map (λ (line : Line). length line.text) (map line_of ls)) ≡ bytes_in ls
unfolding sum
bytes-lines [] = refl
bytes-lines (l ∷ ls) = ap (λ (n : ℕ). length l + n) (bytes-lines ls)

or-last : (a b : Bool) → a || b || true ≡ true
or-last true b = refl
or-last false true = refl
or-last false false = refl

pub too_many : (input : List ℕ) → 128 < length (split_lines input) → drawing_too_large (lines_read input) ≡ true
unfolding drawing_too_large lines_read
too_many input h = rw (length-lines (split_lines input), lt-ltb 128 (length (split_lines input)) h)

pub too_long : (input : List ℕ) → 32768 < bytes_in (split_lines input) → drawing_too_large (lines_read input) ≡ true
unfolding drawing_too_large lines_read
too_long input h = rw (bytes-lines (split_lines input), lt-ltb 32768 (bytes_in (split_lines input)) h) (or-last (ltb 128 (length (map line_of (split_lines input)))) (any line_too_large (map line_of (split_lines input))))

-- what a byte adds: a line, or a byte of one
split-grows : (b : ℕ) (lines : List (List ℕ)) → length lines + bytes_in lines + 1 ≤ length (onto_first b lines) + bytes_in (onto_first b lines)
unfolding sum
split-grows b [] = omega arith
split-grows b (l ∷ lines) = omega arith

split-covers : (input : List ℕ) → length input ≤ length (split_lines input) + bytes_in (split_lines input)
unfolding split_lines sum
split-covers [] = omega arith
split-covers (b ∷ bs) = go (eqb b line_feed) (split-covers bs) where
  go : (t : Bool) → length bs ≤ length (split_lines bs) + bytes_in (split_lines bs)
      → suc (length bs) ≤ length (cond t ([] ∷ split_lines bs) (onto_first b (split_lines bs))) + bytes_in (cond t ([] ∷ split_lines bs) (onto_first b (split_lines bs)))
  go true h = omega arith
  go false h = omega (arith, split-grows b (split_lines bs))

-- more than 32,768 bytes and 128 line feeds pass a limit
pub long-input : (input : List ℕ) → 32896 < length input → drawing_too_large (lines_read input) ≡ true
long-input input h =
    ⊎_elim (λ (few : length (split_lines input) ≤ 128). too_long input (omega (arith, split-covers input)))
    (λ (many : 128 < length (split_lines input)). too_many input many) (le-or-lt (length (split_lines input)) 128)

module _ (input lengths text : List ℕ) (lines bytes at : ℕ) (s : Splitting input lengths text lines bytes at) where
  pub lines_next : (after : List ℕ) (end r : ℕ) → lines < length lengths → end - at ≤ length text - bytes → at ≤ end → end ≤ length input
      → split_lines (drop at input) ≡ take (end - at) (drop at input) ∷ split_lines (drop (end + 1) input)
      → Put (length (take (end - at) (drop at input))) text after bytes r (take (end - at) (drop at input))
      → Splitting input (set lengths lines (end - at)) after (lines + 1) r (end + 1)
  lines_next after end r room fits low high next p =
      let long : length (take (end - at) (drop at input)) ≡ end - at = length-take-le (end - at) (drop at input) (omega (arith, length-drop at input)) in
      let place : r ≡ bytes + (end - at) = put_next p (omega (arith, s.few_bytes, s.text_room)) ∙ rw long in
      let more : take (lines + 1) (set lengths lines (end - at)) ≡ take lines lengths ++ (end - at) ∷ [] = rw add-one (take-suc-set lengths lines (end - at) room) in
      let total : sum (take lines lengths ++ (end - at) ∷ []) ≡ sum (take lines lengths) + (end - at) = sum-snoc (take lines lengths) (end - at) in
      let kept : length (take bytes text) ≡ bytes = length-take-le bytes text (omega (arith, s.few_bytes, s.text_room)) in
      let held : split_text (take (lines + 1) (set lengths lines (end - at))) (take r after) ≡ split_text (take lines lengths) (take bytes text) ++ take (end - at) (drop at input) ∷ [] =
      rw (more, p.bytes) (split-snoc (take lines lengths) (end - at) (take bytes text) (take (end - at) (drop at input)) (s.whole ∙ sym kept) (sym long))
      in
      record {
        few_lines = omega (arith, s.lengths_room);
        few_bytes = omega (arith, place, s.text_room);
        lengths_room = length-set lengths lines (end - at) ∙ s.lengths_room;
        text_room = p.same ∙ s.text_room;
        whole = rw more (omega (arith, total, s.whole, place));
        rest = rw held (append_assoc (split_text (take lines lengths) (take bytes text)) _ _ ∙ rw (← next) s.rest);
      }

  pub lines-held : length input ≤ at → Held input lengths text lines bytes
  lines-held past =
      record {
        few_lines = s.few_lines;
        few_bytes = s.few_bytes;
        whole = s.whole;
        split = sym (append-none (split_text (take lines lengths) (take bytes text))) ∙ rw (end_step input at past) at s.rest;
      }

  pub lines-many : (end : ℕ) → length lengths ≤ lines → split_lines (drop at input) ≡ take (end - at) (drop at input) ∷ split_lines (drop (end + 1) input)
      → drawing_too_large (lines_read input) ≡ true
  lines-many end full next =
      let all : length (split_text (take lines lengths) (take bytes text) ++ split_lines (drop at input)) ≡ length (split_lines input) = ap length s.rest in
      let known = simp length-append at all in
      let rest = ap length next in
      let first = length-split (take lines lengths) (take bytes text) in
      let count = length-take-le lines lengths (omega (arith, s.few_lines, s.lengths_room)) in
      too_many input (omega (arith, known, rest, first, count, s.lengths_room))

  pub lines_long : (end : ℕ) → length text - bytes < end - at → at ≤ end → end ≤ length input
      → split_lines (drop at input) ≡ take (end - at) (drop at input) ∷ split_lines (drop (end + 1) input) → drawing_too_large (lines_read input) ≡ true
  unfolding sum
  lines_long end large low high next =
      let all : bytes_in (split_text (take lines lengths) (take bytes text) ++ split_lines (drop at input)) ≡ bytes_in (split_lines input) = ap bytes_in s.rest in
      let parts = bytes-append (split_text (take lines lengths) (take bytes text)) (split_lines (drop at input)) in
      let rest : bytes_in (split_lines (drop at input)) ≡ length (take (end - at) (drop at input)) + bytes_in (split_lines (drop (end + 1) input)) = ap bytes_in next in
      let line = length-take-le (end - at) (drop at input) (omega (arith, length-drop at input)) in
      let kept = length-take-le bytes text (omega (arith, s.few_bytes, s.text_room)) in
      let before = bytes-split (take lines lengths) (take bytes text) (omega (arith, kept, s.whole)) in
      too_long input (omega (arith, all, parts, rest, line, before, s.whole, s.text_room, s.few_bytes))

pub lines_none : (input lengths text : List ℕ) → (length lengths ≡ 128) × (length text ≡ 32768) → Splitting input lengths text 0 0 0
unfolding split_text sum
lines_none input lengths text h =
    record {
      few_lines = omega arith;
      few_bytes = omega arith;
      lengths_room = h.0;
      text_room = h.1;
      whole = refl;
      rest = refl;
    }
