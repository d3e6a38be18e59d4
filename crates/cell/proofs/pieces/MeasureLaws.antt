-- Laws of counting the lines that are kept, and their bytes.
use Prim.Native.Nat.{ℕ, ◌+◌, ◌*◌, ◌-◌, ◌≤◌, ◌<◌}
use mathlib.Core.Path.{◌≡◌, refl, sym, ap, ◌∙◌}
use mathlib.Core.List.{List, [], ◌∷◌, ◌++◌, map}
use native.Mathlib.Omega.{arith}
use lib.ListN.{length, get_or, length-map}
use mir.Syntax.{w64}
use mir.Val.{Fits}
use borrow.Author.Rules.{Fits-under}
use Rattle.seq.specs.Lists.{sum, range}
use Rattle.seq.proofs.Gathered.{range-step}
use Rattle.seq.proofs.Ranges.{length-range}
use Rattle.grid.specs.Cut.{drop_empty_last, before_dropped}
use Rattle.grid.specs.Flat.{lines_from}
use Rattle.grid.specs.Values.{Rect, no_line}
use Rattle.representation.specs.Arrays.{code_at}
use Rattle.grid.proofs.CellLaws.{dropped-bytes}
use Rattle.grid.proofs.CutLaws.{cut-shorter}
use Rattle.cell.specs.Text.{Source, cut_between, kept_lines, SourceReady, Cuttable, Framed}

-- ---- empty last lines
kept-empty : (l : List (List ℕ)) → drop_empty_last (l ++ [] ∷ []) ≡ drop_empty_last l
unfolding drop_empty_last
kept-empty [] = refl
kept-empty (t ∷ l) = ap (before_dropped t) (kept-empty l)

kept-filled : (l : List (List ℕ)) (t : List ℕ) → (length t ≡ 0 → ⊥) → drop_empty_last (l ++ t ∷ []) ≡ l ++ t ∷ []
unfolding drop_empty_last
kept-filled l [] some = absurd (some refl)
kept-filled [] (b ∷ bs) some = refl
kept-filled (t ∷ []) (b ∷ bs) some = refl
kept-filled (t ∷ u ∷ l) (b ∷ bs) some = ap (before_dropped t) (kept-filled (u ∷ l) (b ∷ bs) some)

sum-end : (l : List (List ℕ)) (t : List ℕ) → sum (map length (l ++ t ∷ [])) ≡ sum (map length l) + length t
unfolding sum
sum-end [] t = omega arith
sum-end (u ∷ l) t = rw (sum-end l t) (omega arith)

map-end : (f : ℕ → List ℕ) (l : List ℕ) (y : ℕ) → map f (l ++ y ∷ []) ≡ map f l ++ f y ∷ []
map-end f [] y = refl
map-end f (x ∷ l) y = ap (λ k. f x ∷ k) (map-end f l y)

length-end : (l : List (List ℕ)) (t : List ℕ) → length (l ++ t ∷ []) ≡ length l + 1
length-end [] t = refl
length-end (u ∷ l) t = rw (length-end l t) (omega arith)

module _ (s : Source) (r : Rect) where
  -- the cut lines above line y
  abbrev above : ℕ → List (List ℕ)
  above y = map (cut_between s r.left r.right) (range (r.top + 1) (y - r.top - 1))

  pub record Measuring (lines bytes y : ℕ) : Type 0 where
    pub counted : lines ≡ length (drop_empty_last (above y))
    pub summed : bytes ≡ sum (map length (above y))
    pub few_lines : lines ≤ y - r.top - 1
    pub few_bytes : bytes ≤ 512 * (y - r.top - 1)

  pub measuring-all : (lines bytes y : ℕ) → Measuring lines bytes y → Framed s r → y ≤ r.bottom → r.bottom ≤ y
      → ((lines ≡ length (kept_lines s r)) × (lines < 128))
      × ((bytes ≡ sum (map length (kept_lines s r))) × (bytes ≤ 65536))
  measuring-all lines bytes y m framed below past =
      let done : y ≡ r.bottom = omega arith in (
        (rw done at m.counted, omega (arith, m.few_lines, framed.inside.tall)),
        (rw done at m.summed ∙ sym (dropped-bytes (above r.bottom)), omega (arith, m.few_bytes, framed.inside.tall)),
      )

  pub measuring-none : Measuring 0 0 (r.top + 1)
  unfolding drop_empty_last sum range
  measuring-none =
      let none : r.top + 1 - r.top - 1 ≡ 0 = omega arith in
      record { counted = rw none; summed = rw none; few_lines = omega arith; few_bytes = omega arith }

  module _ (framed : Framed s r) where
    pub framed-cuttable : (y : ℕ) → r.top < y → y < r.bottom → Cuttable s r.left r.right y
    framed-cuttable = framed.borders

    module _ (ready : SourceReady s) (y : ℕ) (low : r.top < y) (high : y < r.bottom) (t : List ℕ)
        (told : t ≡ cut_between s r.left r.right y) where
      pub cut_short : length t ≤ 512
      cut_short =
          rw told
          (let c = framed.borders y low high in
          omega (arith, cut-shorter (get_or (lines_from s.lengths s.columns s.text) y no_line) y 0 (record { start = code_at s.offsets y r.left + 1; end = code_at s.offsets y r.right }) r.left, c.inside, ready.sheet.short_lines y))

      next : above (y + 1) ≡ above y ++ t ∷ []
      next =
          let more : y + 1 - r.top - 1 ≡ y - r.top - 1 + 1 = omega arith in
          let here : r.top + 1 + (y - r.top - 1) ≡ y = omega arith in
          rw (more, range-step (r.top + 1) (y - r.top - 1), map-end (cut_between s r.left r.right) (range (r.top + 1) (y - r.top - 1)) (r.top + 1 + (y - r.top - 1)), here, told)

      module _ {lines bytes : ℕ} (m : Measuring lines bytes y) where
        pub measuring-fits : Fits w64 (bytes + length t)
        measuring-fits = Fits-under w64 (bytes + length t) 131072 (omega (arith, m.few_bytes, cut_short, framed.inside.tall)) tt

        summed-more : bytes + length t ≡ sum (map length (above (y + 1)))
        summed-more = rw (m.summed, next) (sym (sum-end (above y) t))

        pub measuring-empty : length t ≡ 0 → {lines' : ℕ} → lines' ≡ lines → Measuring lines' (bytes + length t) (y + 1)
        measuring-empty none is =
            record {
              counted = is ∙ m.counted ∙ rw (next, none_left t none) (ap length (sym (kept-empty (above y))));
              summed = summed-more;
              few_lines = omega (arith, is, m.few_lines);
              few_bytes = omega (arith, m.few_bytes, cut_short);
            } where
              none_left : (t : List ℕ) → length t ≡ 0 → t ≡ []
              none_left [] e = refl
              none_left (b ∷ bs) e = absurd (omega arith)

        pub measuring-filled : (length t ≡ 0 → ⊥) → {lines' : ℕ} → lines' ≡ y - r.top → Measuring lines' (bytes + length t) (y + 1)
        measuring-filled some is =
            rw is (record {
              counted = rw (next, kept-filled (above y) t some, length-end (above y) t, length-map (range (r.top + 1) (y - r.top - 1)) (cut_between s r.left r.right), length-range (r.top + 1) (y - r.top - 1)) (omega arith);
              summed = summed-more;
              few_lines = omega arith;
              few_bytes = omega (arith, m.few_bytes, cut_short);
            })
