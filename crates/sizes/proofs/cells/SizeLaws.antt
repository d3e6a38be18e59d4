-- Laws of one cell: how many of its lines are drawn, and the columns of the widest.
use Prim.Native.Nat.{ℕ, ◌+◌, ◌*◌, ◌-◌, ◌≤◌, ◌<◌, max}
use mathlib.Core.Path.{◌≡◌, refl, sym, ap, ◌∙◌}
use mathlib.Core.Bool.{true}
use mathlib.Core.List.{List, [], ◌∷◌, ◌++◌, map-append}
use native.Mathlib.Omega.{arith}
use lib.ListN.{length, get_or, take, drop, length-append, length-map, length-take, length-drop}
use Rattle.seq.specs.Lists.{range, sum, largest}
use Rattle.seq.proofs.Gathered.{range-step}
use Rattle.seq.proofs.Ranges.{length-range}
use Rattle.text.specs.Utf8.{chars_from, well_formed}
use Rattle.grid.specs.Cut.{before_dropped, drop_empty_last}
use Rattle.drawing.specs.Sizes.{widest}
use Rattle.sizes.specs.Lines.{line_columns, line_at, lines_at, Measurable}

-- ---- a line more
dropped-empty : (l : List (List ℕ)) → drop_empty_last (l ++ [] ∷ []) ≡ drop_empty_last l
unfolding drop_empty_last
dropped-empty [] = refl
dropped-empty (t ∷ l) = ap (before_dropped t) (dropped-empty l)

dropped-filled : (l : List (List ℕ)) (t : List ℕ) → 0 < length t → drop_empty_last (l ++ t ∷ []) ≡ l ++ t ∷ []
unfolding drop_empty_last
dropped-filled l [] some = absurd (omega arith)
dropped-filled [] (b ∷ bs) some = refl
dropped-filled (t ∷ []) (b ∷ bs) some = refl
dropped-filled (t ∷ u ∷ l) (b ∷ bs) some = ap (before_dropped t) (dropped-filled (u ∷ l) (b ∷ bs) some)

widest-more : (l : List (List ℕ)) (t : List ℕ) → widest (l ++ t ∷ []) ≡ max (widest l) (line_columns t)
unfolding widest largest line_columns
widest-more [] t = omega arith
widest-more (u ∷ l) t = omega (arith, widest-more l t)

empty-columns : line_columns [] ≡ 0
unfolding line_columns sum chars_from
empty-columns = refl

-- empty lines take no columns
widest-dropped : (l : List (List ℕ)) → widest (drop_empty_last l) ≡ widest l
unfolding drop_empty_last widest largest line_columns
widest-dropped [] = refl
widest-dropped (t ∷ l) = go t (drop_empty_last l) (widest-dropped l) where
  go : (t : List ℕ) (k : List (List ℕ)) → widest k ≡ widest l → widest (before_dropped t k) ≡ max (line_columns t) (widest l)
  go [] [] e = omega (arith, e, empty-columns)
  go (b ∷ bs) [] e = omega (arith, e)
  go t (u ∷ k) e = omega (arith, e)

module _ (text starts ends : List ℕ) (first : ℕ) where
  lines_more : (i : ℕ) → lines_at text starts ends first (i + 1) ≡ lines_at text starts ends first i ++ line_at text starts ends (first + i) ∷ []
  lines_more i = rw (range-step first i) (map-append (line_at text starts ends) (range first i) ((first + i) ∷ []))

  lines-length : (i : ℕ) → length (lines_at text starts ends first i) ≡ i
  lines-length i = length-map (range first i) (line_at text starts ends) ∙ length-range first i

  -- ---- the first i lines are measured
  pub record Sizing (lines columns i : ℕ) : Type 0 where
    pub counted : lines ≡ length (drop_empty_last (lines_at text starts ends first i))
    pub across : columns ≡ widest (lines_at text starts ends first i)
    pub few : lines ≤ i
    pub narrow : columns ≤ 2048

  pub none-sized : Sizing 0 0 0
  unfolding drop_empty_last widest largest range
  none-sized = record { counted = refl; across = refl; few = omega arith; narrow = omega arith }

  module _ {count i : ℕ} (m : Measurable text starts ends (first + count)) (h : i < count) where
    pub end-inside : first + i < length ends
    end-inside = omega (arith, m.end_room)

    pub line-inside : get_or ends (first + i) 0 ≤ length text
    line-inside = m.inside (first + i) (omega arith)

    pub line-forward : get_or starts (first + i) 0 ≤ get_or ends (first + i) 0
    line-forward = m.forward (first + i) (omega arith)

    pub line-short : length (line_at text starts ends (first + i)) ≤ 512
    line-short = m.short (first + i) (omega arith)

    pub line-well : well_formed (line_at text starts ends (first + i)) ≡ true
    line-well = m.well (first + i) (omega arith)

    module _ {lines columns columns' wide : ℕ} (s : Sizing lines columns i) (widened : columns' ≡ max columns wide)
        (told : (wide ≡ line_columns (line_at text starts ends (first + i))) × (wide ≤ 4 * length (line_at text starts ends (first + i)))) where
      across-more : columns' ≡ widest (lines_at text starts ends first (i + 1))
      across-more = rw (lines_more i) (omega (arith, s.across, widened, told.0, widest-more (lines_at text starts ends first i) (line_at text starts ends (first + i))))

      narrow-still : columns' ≤ 2048
      narrow-still = omega (arith, s.narrow, widened, told.1, line-short)

      pub empty-sized : {lines' : ℕ} → get_or ends (first + i) 0 ≤ get_or starts (first + i) 0 → lines' ≡ lines → Sizing lines' columns' (i + 1)
      empty-sized none e =
          let zero : get_or ends (first + i) 0 - get_or starts (first + i) 0 ≡ 0 = omega arith in
          let gone : line_at text starts ends (first + i) ≡ [] = ap (λ (n : ℕ). take n (drop (get_or starts (first + i) 0) text)) zero in
          rw e (record {
            counted = rw (lines_more i, gone, dropped-empty (lines_at text starts ends first i)) s.counted;
            across = across-more;
            few = omega (arith, s.few);
            narrow = narrow-still;
          })

      pub filled-sized : {lines' : ℕ} → get_or starts (first + i) 0 < get_or ends (first + i) 0 → lines' ≡ i + 1 → Sizing lines' columns' (i + 1)
      filled-sized some e =
          let line = line_at text starts ends (first + i) in
          let long : 0 < length line = omega (arith, length-take (get_or ends (first + i) 0 - get_or starts (first + i) 0) (drop (get_or starts (first + i) 0) text), length-drop (get_or starts (first + i) 0) text, line-inside) in
          rw e (record {
            counted = rw (lines_more i, dropped-filled (lines_at text starts ends first i) line long) (omega (arith, length-append (lines_at text starts ends first i) (line ∷ []), lines-length i));
            across = across-more;
            few = omega arith;
            narrow = narrow-still;
          })

  module _ {lines columns count i : ℕ} (s : Sizing lines columns i) (low : i ≤ count) (high : count ≤ i) where
    done : i ≡ count
    done = omega arith

    pub all-counted : lines ≡ length (drop_empty_last (lines_at text starts ends first count))
    all-counted = rw done at s.counted

    pub all-across : columns ≡ widest (drop_empty_last (lines_at text starts ends first count))
    all-across = rw done at s.across ∙ sym (widest-dropped (lines_at text starts ends first count))
