-- Laws of the cut text, from the answer in numbers.
use Prim.Native.Nat.{ℕ, ◌+◌, ◌-◌, ◌≤◌}
use mathlib.Core.Path.{◌≡◌, refl, sym, ap, ◌∙◌}
use mathlib.Core.Bool.{false}
use mathlib.Core.List.{[]}
use native.Mathlib.Omega.{arith}
use lib.ListN.{length, take, drop}
use Rattle.grid.specs.Answer.{Answer, accept, refuse, and_then, afterwards}
use Rattle.grid.specs.Values.{Line, Fragment, Range}
use Rattle.grid.specs.Cut.{cut}
use Rattle.grid.specs.CutCall.{bad_range, cut_answer, CutNumbers, cut_numbers, cut_numbers_answer, cut_text, cut_start}
use Rattle.grid.proofs.CutLaws.{range-forward, range_inside, accepted-cut, cut-byte, cut-part, cut-ends}

module _ (given : Line) (line table_byte : ℕ) (r : Range) (left : ℕ) where
  abbrev answer : Answer Fragment
  answer = cut_answer given line table_byte r left

  abbrev fragment : Fragment
  fragment = cut given line table_byte r left

  module _ (number place : ℕ) (told : refuse number place ≡ cut_numbers_answer given line table_byte r left) where
    pub refused-empty : [] ≡ cut_text given line table_byte r left
    unfolding cut_text cut_numbers_answer
    refused-empty = go answer told where
      go : (x : Answer Fragment) → refuse number place ≡ and_then x (λ f. accept (cut_numbers table_byte f)) → [] ≡ afterwards x (λ (f : Fragment). f.text) []
      go (accept f) e = cc
      go (refuse n p) e = refl

    -- the part handed back starts at an offset o of memory
    pub refused-placed : (o : ℕ) → 0 + o ≡ o + cut_start given line table_byte r left
    unfolding cut_start
    refused-placed o =
        let none : 0 ≡ cut_start given line table_byte r left = ap (λ (x : Answer CutNumbers). afterwards x (λ (c : CutNumbers). c.start) 0) told in
        omega (arith, none)

  module _ (c : CutNumbers) (told : accept c ≡ cut_numbers_answer given line table_byte r left) where
    -- what the answer says of the fragment
    record Told : Type 0 where
      fair : bad_range r given.text ≡ false
      answered : answer ≡ accept fragment
      starts : c.start ≡ fragment.byte - table_byte
      stops : c.end ≡ fragment.byte - table_byte + length fragment.text

    numbers : Told
    unfolding cut_numbers_answer cut_numbers
    numbers = go answer refl told where
      go : (x : Answer Fragment) → answer ≡ x → accept c ≡ and_then x (λ f. accept (cut_numbers table_byte f)) → Told
      go (accept f) e q =
          let (fair, same) = accepted-cut given line table_byte r left f e in
          let n : c ≡ cut_numbers table_byte fragment = cc in
          record { fair = fair; answered = e ∙ ap accept same; starts = ap (λ (m : CutNumbers). m.start) n; stops = ap (λ (m : CutNumbers). m.end) n }
      go (refuse n p) e q = cc

    pub part-forward : c.start ≤ c.end
    part-forward = omega (arith, numbers.starts, numbers.stops)

    pub part-inside : c.end ≤ length given.text
    part-inside =
        let fair = numbers.fair in
        omega
        (arith, numbers.stops, range_inside r given.text fair, cut-byte given line table_byte r left, cut-ends given line table_byte r left (range-forward r given.text fair))

    pub part_cut : take (c.end - c.start) (drop c.start given.text) ≡ cut_text given line table_byte r left
    unfolding cut_text
    part_cut =
        let long : c.end - c.start ≡ length fragment.text = omega (arith, numbers.starts, numbers.stops) in
        rw (numbers.answered, long, numbers.starts) (sym (cut-part given line table_byte r left))

    pub part_placed : (o : ℕ) → c.start + o ≡ o + cut_start given line table_byte r left
    unfolding cut_start
    part_placed o =
        let same : c.start ≡ cut_start given line table_byte r left = ap (λ (x : Answer CutNumbers). afterwards x (λ (c : CutNumbers). c.start) 0) told in
        omega (arith, same)
