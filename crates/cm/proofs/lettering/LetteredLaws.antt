-- Where a box's lines stand in the text.
use Prim.Native.Nat.{ℕ, ◌+◌, ◌-◌, ◌≤◌, ◌<◌}
use mathlib.Core.Path.{◌≡◌, sym}
use mathlib.Core.List.{List}
use native.Mathlib.Omega.{arith}
use lib.ListN.{length, get_or, take, drop, get_or-eq_default}
use Rattle.text.specs.Lines.{no_text}
use Rattle.drawing.specs.Plain.{Box}
use Rattle.cm.specs.Board.{LineAt, lines_at, Lettered}

module _ {bs : List Box} {text starts ends firsts heights : List ℕ} (L : Lettered bs text starts ends firsts heights) (k i : ℕ) (u : k < length bs) where
  pub height-room : k < length heights
  height-room = omega (arith, L.height_room)

  pub first-room : k < length firsts
  first-room = omega (arith, L.first_room)

  module _ (h : ℕ) (tall : h ≡ get_or heights k 0) where
    pub line-none : h ≤ i → no_text ≡ get_or (lines_at bs k) i no_text
    line-none w = sym (get_or-eq_default (lines_at bs k) no_text (omega (arith, L.tall k u)))

    module _ (w : i < h) (f : ℕ) (first : f ≡ get_or firsts k 0) where
      there : LineAt text starts ends (get_or firsts k 0 + i) (get_or (lines_at bs k) i no_text)
      there = L.line k i u (omega (arith, L.tall k u))

      pub start-room : f + i < length starts
      start-room = omega (arith, there.start_room)

      pub end-room : f + i < length ends
      end-room = omega (arith, there.end_room)

      module _ (from to : ℕ) (start : from ≡ get_or starts (f + i) 0) (end : to ≡ get_or ends (f + i) 0) where
        pub line-forward : from ≤ to
        line-forward = rw (start, end, first) there.forward

        pub line-inside : to ≤ length text
        line-inside = rw (end, first) there.inside

        pub line-bytes : take (to - from) (drop from text) ≡ get_or (lines_at bs k) i no_text
        line-bytes = rw (start, end, first) there.bytes
