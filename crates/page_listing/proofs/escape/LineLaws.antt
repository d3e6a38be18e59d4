-- The lines of a cell: `inner-next` is one line more, `Escaping` where they have come to.
use Prim.Native.Nat.{ℕ, suc, ◌+◌, ◌-◌, ◌*◌, ◌≤◌, ◌<◌}
use mathlib.Core.Path.{◌≡◌, refl, sym, ap, ◌∙◌}
use mathlib.Core.Bool.{cond}
use mathlib.Core.List.{List, [], ◌∷◌, ◌++◌, append_assoc}
use native.Mathlib.Numerals.{add-one}
use native.Mathlib.Omega.{arith}
use lib.Dec.{eqb}
use lib.ListN.{length, get_or, take, drop, length-take}
use lib.Seq.{take-suc, take_all, length-take-le}
use borrow.Author.Tests.{eq-eqb, ne_eqb}
use Rattle.seq.specs.Lists.{sum}
use Rattle.seq.specs.Ascii.{ascii}
use Rattle.seq.proofs.Gathered.{sum_step, sum-within}
use Rattle.text.specs.Lines.{no_text}
use Rattle.grid.specs.Flat.{split_text}
use Rattle.grid.proofs.FlatLaws.{length-split, split_at}
use Rattle.html.specs.Escaping.{escape, inner_of}
use Rattle.writer.specs.Writing.{Wrote}
use Rattle.writer.proofs.WritingLaws.{wrote_none, wrote_then, wrote_as}

abbrev line_break : ℕ → List ℕ
line_break i = cond (eqb i 0) [] (ascii "<br />\n")

inner_last : (ls : List (List ℕ)) (line : List ℕ) → inner_of (ls ++ line ∷ []) ≡ inner_of ls ++ (line_break (length ls) ++ escape line)
unfolding inner_of
inner_last [] line = refl
inner_last (l ∷ []) line = append_assoc (escape l) (ascii "<br />\n") (escape line)
inner_last (l ∷ m ∷ ls) line =
    let front = escape l ++ ascii "<br />\n" in
    let more = line_break (length (m ∷ ls)) ++ escape line in
    let again : line_break (length (l ∷ m ∷ ls)) ≡ line_break (length (m ∷ ls)) = rw (ne_eqb (suc (suc (length ls))) 0 (λ e. omega arith), ne_eqb (suc (length ls)) 0 (λ e. omega arith)) in
    rw again (ap (λ (rest : List ℕ). front ++ rest) (inner_last (m ∷ ls) line) ∙ sym (append_assoc front (inner_of (m ∷ ls)) more))

-- ---- before a line
pub no-break : (d : List ℕ) (at i : ℕ) → i ≡ 0 → Wrote d at (cond (eqb i 0) [] (ascii "<br />\n")) d at
no-break d at i h = rw (eq-eqb i 0 h) (wrote_none d at)

pub break-written : {d e : List ℕ} {at r : ℕ} (i : ℕ) → (i ≡ 0 → ⊥) → Wrote d at (ascii "<br />\n") e r → Wrote d at (cond (eqb i 0) [] (ascii "<br />\n")) e r
break-written i h p = rw (ne_eqb i 0 h) p

-- ---- line after line
inner-next : (ls : List (List ℕ)) (i : ℕ) → i < length ls → inner_of (take (i + 1) ls) ≡ inner_of (take i ls) ++ (line_break i ++ escape (get_or ls i no_text))
inner-next ls i h =
    let last = inner_last (take i ls) (get_or ls i no_text) in
    rw (add-one i, take-suc ls i no_text h) (rw (length-take-le i ls (omega arith)) at last)

module _ (lengths text d : List ℕ) (at : ℕ) where
  -- the first i lines are written, which are the first `used` bytes of the text
  pub record Escaping (out : List ℕ) (i used end : ℕ) : Type 0 where
    pub given : (length lengths ≤ 16384) × (length text ≤ 32768) × (sum lengths ≤ length text) × (at ≤ 536870912)
    pub same : length out ≡ length d
    pub few : i ≤ length lengths
    pub sofar : used ≡ sum (take i lengths)
    pub near : end ≤ at + 5 * used + 7 * i
    pub wrote : Wrote d at (inner_of (take i (split_text lengths text))) out end

  pub lines_none : (length lengths ≤ 16384) × (length text ≤ 32768) × (sum lengths ≤ length text) × (at ≤ 536870912) → Escaping d 0 0 at
  unfolding inner_of sum
  lines_none given = record { given = given; same = refl; few = omega arith; sofar = refl; near = omega arith; wrote = wrote_none d at }

  module _ {out : List ℕ} {i used end : ℕ} (p : Escaping out i used end) (h : i < length lengths) where
    pub line-within : used + get_or lengths i 0 ≤ length text
    line-within = omega (arith, p.given, p.sofar, sum-within lengths i)

    pub line_small : used + get_or lengths i 0 ≤ 32768
    line_small = omega (arith, p.given, line-within)

    pub break-low : end ≤ 1073741824
    break-low = omega (arith, p.given, p.near, line_small, p.few)

    abbrev part : List ℕ
    part = take (used + get_or lengths i 0 - used) (drop used text)

    part-size : length part ≤ get_or lengths i 0
    part-size = let same : used + get_or lengths i 0 - used ≡ get_or lengths i 0 = omega arith in rw same (omega (arith, length-take (get_or lengths i 0) (drop used text)))

    pub line-asked : {mid : List ℕ} {parted : ℕ} → Wrote out end (line_break i) mid parted × (parted ≤ end + 7) → (length part ≤ 32768) × (parted ≤ 1073741824)
    line-asked b = (omega (arith, part-size, line_small), omega (arith, b.1, p.given, p.near, line_small, p.few))

    pub lines_next : {mid after : List ℕ} {parted r : ℕ} → Wrote out end (line_break i) mid parted × (parted ≤ end + 7)
        → Wrote mid parted (escape part) after r × (r ≤ parted + 5 * length part) → length after ≡ length d → Escaping after (i + 1) (used + get_or lengths i 0) r
    lines_next b w kept =
        let n = get_or lengths i 0 in
        let same : used + n - used ≡ n = omega arith in
        let line : part ≡ get_or (split_text lengths text) i no_text = rw (same, p.sofar) (sym (split_at lengths text i h)) in
        let here : i < length (split_text lengths text) = omega (arith, length-split lengths text) in
        record {
          given = p.given;
          same = kept;
          few = omega arith;
          sofar = omega (arith, p.sofar, sum_step lengths i h);
          near = omega (arith, p.near, b.1, w.1, part-size);
          wrote = wrote_as (wrote_then p.wrote (wrote_then b.0 w.0)) (rw line (sym (inner-next (split_text lengths text) i here)));
        }

  pub lines-all : {out : List ℕ} {i used end : ℕ} → Escaping out i used end → length lengths ≤ i
      → Wrote d at (inner_of (split_text lengths text)) out end × (end ≤ at + 278528) × (used ≡ sum lengths)
  lines-all {out} {i} {used} {end} p h =
      let all : used ≡ sum lengths = p.sofar ∙ ap sum (take_all i lengths h) in (
        wrote_as p.wrote (ap inner_of (take_all i (split_text lengths text) (omega (arith, length-split lengths text)))),
        omega (arith, p.near, p.given, p.few, all),
        all,
      )
