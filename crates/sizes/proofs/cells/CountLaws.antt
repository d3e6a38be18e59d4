-- Laws of all cells: where the lines of each begin, how many are drawn, and the columns of the widest.
use Prim.Native.Nat.{ℕ, ◌+◌, ◌*◌, ◌≤◌, ◌<◌}
use mathlib.Core.Path.{◌≡◌, refl, ap, ◌∙◌}
use mathlib.Core.List.{List}
use native.Mathlib.Omega.{arith}
use lib.ListN.{length, get_or, set, length-set}
use mir.Syntax.{w16, w64}
use mir.Val.{Fits}
use borrow.Author.Rules.{Fits-under}
use Rattle.seq.specs.Lists.{sum}
use Rattle.grid.specs.Cut.{drop_empty_last}
use Rattle.grid.specs.Flat.{every_nth}
use Rattle.drawing.specs.Sizes.{widest}
use Rattle.representation.specs.TableIn.{counts_in}
use Rattle.representation.proofs.TableInLaws.{counts_step, counts-within}
use Rattle.sizes.specs.Lines.{lines_at, Measurable}
use Rattle.sizes.specs.Cells.{cell_lines, Counted}
use Rattle.sizes.proofs.EachLaws.{each_set}

-- fewer lines can be measured too
measurable-first : {text starts ends : List ℕ} {n m : ℕ} → m ≤ n → Measurable text starts ends n → Measurable text starts ends m
measurable-first low all =
    record {
      start_room = omega (arith, all.start_room);
      end_room = omega (arith, all.end_room);
      forward = λ i h. all.forward i (omega arith);
      inside = λ i h. all.inside i (omega arith);
      short = λ i h. all.short i (omega arith);
      well = λ i h. all.well i (omega arith);
    }

-- ---- the first k cells are counted, and line `first` is the first of cell k
module _ (cells text starts ends : List ℕ) (n : ℕ) (firsts₀ heights₀ wides₀ : List ℕ) where
  pub record Counting (firsts heights wides : List ℕ) (first k : ℕ) : Type 0 where
    pub few : sum (counts_in n cells) ≤ 16384
    pub all : Measurable text starts ends (sum (counts_in n cells))
    pub first_same : length firsts ≡ length firsts₀
    pub height_same : length heights ≡ length heights₀
    pub wide_same : length wides ≡ length wides₀
    pub room : (n ≤ length firsts₀) × (n ≤ length heights₀) × (n ≤ length wides₀)
    pub passed : first ≡ sum (counts_in k cells)
    pub begins : (j : ℕ) → j < k → get_or firsts j 0 ≡ sum (counts_in j cells)
    pub tall : (j : ℕ) → j < k → get_or heights j 0 ≡ length (cell_lines cells text starts ends j)
    pub wide : (j : ℕ) → j < k → get_or wides j 0 ≡ widest (cell_lines cells text starts ends j) + 1

  pub none-counted : (n ≤ 1024) × (5 * n ≤ length cells) × (sum (counts_in n cells) ≤ 16384) → Measurable text starts ends (sum (counts_in n cells))
      → (n ≤ length firsts₀) × (n ≤ length heights₀) × (n ≤ length wides₀) → Counting firsts₀ heights₀ wides₀ 0 0
  unfolding every_nth sum
  none-counted size all room =
      record {
        few = size.2;
        all = all;
        first_same = refl;
        height_same = refl;
        wide_same = refl;
        room = room;
        passed = refl;
        begins = λ j low. absurd (omega arith);
        tall = λ j low. absurd (omega arith);
        wide = λ j low. absurd (omega arith);
      }

  module _ {firsts heights wides : List ℕ} {first k : ℕ} (c : Counting firsts heights wides first k) (h : k < n) where
    pub cell-few : first + get_or cells (5 * k + 4) 0 ≤ 16384
    cell-few = omega (arith, c.passed, c.few, counts-within n k cells h)

    pub cell-measurable : Measurable text starts ends (first + get_or cells (5 * k + 4) 0)
    cell-measurable = measurable-first (omega (arith, c.passed, counts-within n k cells h)) c.all

    pub lines_fit : {lines : ℕ} → lines ≤ get_or cells (5 * k + 4) 0 → Fits w16 lines
    lines_fit {lines} few = Fits-under w16 lines 16385 (omega (arith, cell-few)) tt

    pub first_fits : Fits w16 first
    first_fits = Fits-under w16 first 16385 (omega (arith, cell-few)) tt

    pub next_fits : Fits w64 (first + get_or cells (5 * k + 4) 0)
    next_fits = Fits-under w64 (first + get_or cells (5 * k + 4) 0) 16385 (omega (arith, cell-few)) tt

    pub first-room : k < length firsts
    first-room = omega (arith, c.room, c.first_same)

    pub height-room : k < length heights
    height-room = omega (arith, c.room, c.height_same)

    pub wide_room : k < length wides
    wide_room = omega (arith, c.room, c.wide_same)

    module _ {lines columns : ℕ} where
      pub one-counted : (lines ≡ length (drop_empty_last (lines_at text starts ends first (get_or cells (5 * k + 4) 0)))) × (lines ≤ get_or cells (5 * k + 4) 0)
          → (columns ≡ widest (drop_empty_last (lines_at text starts ends first (get_or cells (5 * k + 4) 0)))) × (columns ≤ 2048)
          → Counting (set firsts k first) (set heights k lines) (set wides k (columns + 1)) (first + get_or cells (5 * k + 4) 0) (k + 1)
      one-counted tall wide =
          let here : lines_at text starts ends first (get_or cells (5 * k + 4) 0) ≡ lines_at text starts ends (sum (counts_in k cells)) (get_or cells (5 * k + 4) 0) =
          ap (λ (n : ℕ). lines_at text starts ends n (get_or cells (5 * k + 4) 0)) c.passed in
          record {
            few = c.few;
            all = c.all;
            first_same = length-set firsts k first ∙ c.first_same;
            height_same = length-set heights k lines ∙ c.height_same;
            wide_same = length-set wides k (columns + 1) ∙ c.wide_same;
            room = c.room;
            passed = omega (arith, c.passed, counts_step k cells);
            begins = each_set (λ j v. v ≡ sum (counts_in j cells)) firsts k first first-room c.passed c.begins;
            tall =
                each_set (λ j v. v ≡ length (cell_lines cells text starts ends j)) heights k lines height-room
                (tall.0 ∙ ap (λ l. length (drop_empty_last l)) here) c.tall;
            wide =
                each_set (λ j v. v ≡ widest (cell_lines cells text starts ends j) + 1) wides k (columns + 1) wide_room
                (ap (λ (n : ℕ). n + 1) (wide.0 ∙ ap (λ l. widest (drop_empty_last l)) here)) c.wide;
          }

  pub all-counted : {firsts heights wides : List ℕ} {first k : ℕ} → Counting firsts heights wides first k → n ≤ k → Counted cells text starts ends n firsts heights wides
  all-counted c done =
      record {
        first_room = omega (arith, c.room, c.first_same);
        height_room = omega (arith, c.room, c.height_same);
        wide_room = omega (arith, c.room, c.wide_same);
        first = λ j low. c.begins j (omega arith);
        tall = λ j low. c.tall j (omega arith);
        wide = λ j low. c.wide j (omega arith);
      }
