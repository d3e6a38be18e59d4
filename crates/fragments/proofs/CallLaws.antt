-- Laws of the call in numbers: its checks in their order, and what it accepts.
use Prim.Native.Nat.{ℕ, ◌+◌, ◌≤◌}
use mathlib.Core.Path.{◌≡◌, sym, ◌∙◌}
use mathlib.Core.Bool.{Bool, true, false, ◌||◌}
use mathlib.Core.List.{List}
use native.Mathlib.Omega.{arith}
use lib.Dec.{ltb}
use lib.ListN.{length}
use mir.Syntax.{w64}
use mir.Val.{Fits}
use borrow.Author.Rules.{Fits-under}
use borrow.Author.Tests.{ltb-false}
use Rattle.seq.proofs.Tests.{or-neither}
use Rattle.text.specs.declared.ByteAt.{ByteAt}
use Rattle.text.specs.declared.Column.{Column}
use Rattle.grid.specs.Answer.{accept, refuse}
use Rattle.grid.specs.Limits.{max_line_bytes, max_origin, max_left, max_register}
use Rattle.grid.specs.CutCall.{bad_range, cut_too_large, cut_answer, cut_numbers_answer}
use Rattle.grid.proofs.CutLaws.{range-forward, range_inside}
use Rattle.fragments.specs.declared.part.Piece.{Piece}
use Rattle.fragments.specs.Part.{line_of, range, Checked, Pieced}

module _ (text : List ℕ) (column : Column) (line : ℕ) (table_byte start end : ByteAt) (left : Column) where
  -- ---- the checks
  module _ (bad : Bool) (bad-told : bad ≡ bad_range (range start end) text) where
    pub refused-13 : bad ≡ true → refuse 13 0 ≡ cut_numbers_answer (line_of text column) line table_byte.0 (range start end) left.0
    unfolding cut_numbers_answer cut_answer
    refused-13 t = rw (← bad-told, t)

    module _ (good : bad ≡ false) (large : Bool) (large-told : large ≡ cut_too_large (line_of text column) line table_byte.0 left.0) where
      pub refused-2 : large ≡ true → refuse 2 0 ≡ cut_numbers_answer (line_of text column) line table_byte.0 (range start end) left.0
      unfolding cut_numbers_answer cut_answer
      refused-2 t = rw (← bad-told, good, ← large-told, t)

      module _ (small : large ≡ false) where
        limits : (length text ≤ max_line_bytes) × (column.0 ≤ max_origin) × (left.0 ≤ max_left) × (table_byte.0 ≤ max_register)
        unfolding cut_too_large
        limits =
            let (s, t) : Bool × Bool = (ltb max_line_bytes (length text), ltb max_origin column.0) in
            let (u, v, w) : Bool × Bool × Bool = (ltb max_left left.0, ltb max_register line, ltb max_register table_byte.0) in
            let four = or-neither (s || t || u || v) w (sym large-told ∙ small) in
            let three = or-neither (s || t || u) v four.0 in
            let two = or-neither (s || t) u three.0 in
            let one = or-neither s t two.0 in
            (ltb-false max_line_bytes (length text) one.0, ltb-false max_origin column.0 one.1, ltb-false max_left left.0 two.1, ltb-false max_register table_byte.0 four.1)

        pub cut_numbers_answer-checked : Checked text column start end left
        cut_numbers_answer-checked =
            record {
              forward = range-forward (range start end) text (sym bad-told ∙ good);
              inside = range_inside (range start end) text (sym bad-told ∙ good);
              short = limits.0;
              low_column = limits.1;
              low_left = limits.2;
            }

        pub low_byte : (r : Piece) → Pieced text column start end left r → Fits w64 (table_byte.0 + r.start.0)
        low_byte r p = Fits-under w64 (table_byte.0 + r.start.0) 66560 (omega (arith, limits.3, limits.0, cut_numbers_answer-checked.inside, p.within)) tt

        pub cut_numbers_answer-accepted : (r : Piece) → Pieced text column start end left r
            → accept (record { start = r.start.0; end = r.end.0; line = line; byte = table_byte.0 + r.start.0; column = r.column.0 })
            ≡ cut_numbers_answer (line_of text column) line table_byte.0 (range start end) left.0
        unfolding cut_numbers_answer cut_answer
        cut_numbers_answer-accepted r p = rw (← bad-told, good, ← large-told, small, p.numbers line table_byte.0)
