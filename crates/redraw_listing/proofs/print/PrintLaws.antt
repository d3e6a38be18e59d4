-- Laws of a drawing's lines, printed one after another.
use Prim.Native.Nat.{ℕ, ◌+◌, ◌-◌, ◌≤◌, ◌<◌}
use mathlib.Core.Path.{◌≡◌, refl, ap, sym, ◌∙◌}
use mathlib.Core.List.{List, [], ◌∷◌, ◌++◌, flat_map, append-nil, append_assoc}
use native.Mathlib.Numerals.{add-one}
use native.Mathlib.Omega.{arith}
use lib.ListN.{length, take, drop, get_or, drop_of_length-le, length-drop}
use lib.Seq.{drop-cons, length-take-le}
use Rattle.seq.specs.Lists.{sum}
use Rattle.grid.specs.Flat.{split_text}
use Rattle.grid.specs.Listing.{line_feed}
use Rattle.drawing.specs.Listing.{ended_line}
use Rattle.printing.specs.Printing.{Put, Prints}
use Rattle.printing.proofs.PutLaws.{put_then}

module _ (lengths text d : List ℕ) where
  abbrev ended : List ℕ → List ℕ → List ℕ
  ended ns t = flat_map ended_line (split_text ns t)

  -- the first i lines are printed, and the rest is of the others
  pub record Printed (out : List ℕ) (i : ℕ) (rest : List ℕ) (end : ℕ) : Type 0 where
    pub same : length out ≡ length d
    pub few : i ≤ length lengths
    pub left : sum (drop i lengths) ≡ length rest
    pub room : end + (length lengths - i) + sum (drop i lengths) ≤ length out
    pub whole : take end out ++ ended (drop i lengths) rest ≡ ended lengths text

  pub printed-none : (sum lengths ≡ length text) × (length lengths + length text ≤ length d) → Printed d 0 text 0
  printed-none (total, room) = record { same = refl; few = omega arith; left = total; room = omega arith; whole = refl }

  module _ {out : List ℕ} {i : ℕ} {rest : List ℕ} {end : ℕ} (p : Printed out i rest end) (h : i < length lengths) where
    abbrev n : ℕ
    n = get_or lengths i 0

    more : drop i lengths ≡ n ∷ drop (i + 1) lengths
    more = rw add-one (drop-cons lengths i 0 h)

    total : sum (drop i lengths) ≡ n + sum (drop (i + 1) lengths)
    unfolding sum
    total = ap sum more

    pub line-within : n ≤ length rest
    line-within = omega (arith, p.left, total)

    line-size : length (take n rest) ≡ n
    line-size = length-take-le n rest line-within

    pub line-room : end + length (take n rest) ≤ length out
    line-room = omega (arith, p.room, total, line-size)

    pub feed-room : {mid : List ℕ} {next : ℕ} → Put (length (take n rest)) out mid end next (take n rest) → next < length mid
    feed-room copied = omega (arith, p.room, total, line-size, copied.few, copied.same)

    pub printed-next : {mid after : List ℕ} {next r : ℕ} → Put (length (take n rest)) out mid end next (take n rest)
        → Put 1 mid after next r (line_feed ∷ []) → Printed after (i + 1) (drop n rest) r
    unfolding split_text flat_map
    printed-next {mid} {after} {next} {r} copied fed =
        let line = take n rest in
        let others = ended (drop (i + 1) lengths) (drop n rest) in
        let both = put_then copied fed in
        let split : ended (drop i lengths) rest ≡ ended_line line ++ others = rw more refl in
        record {
          same = both.same ∙ p.same;
          few = omega arith;
          left = omega (arith, p.left, total, length-drop n rest);
          room = omega (arith, p.room, total, both.few, both.same, line-size);
          whole = rw both.bytes (append_assoc (take end out) (ended_line line) others) ∙ ap (λ (l : List ℕ). take end out ++ l) (sym split) ∙ p.whole;
        }

  pub printed-all : {out : List ℕ} {i : ℕ} {rest : List ℕ} {end : ℕ} → Printed out i rest end → i ≡ length lengths → Prints out end (ended lengths text)
  unfolding split_text flat_map
  printed-all {out} {i} {rest} {end} p e =
      record { within = omega (arith, p.room); start = sym (append-nil (take end out)) ∙ rw (let past : length lengths ≤ i = omega arith in drop_of_length-le lengths past) at p.whole }
