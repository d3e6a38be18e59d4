-- The grid rules in the order in which they are tested.
use Prim.Native.Nat.{ℕ}
use mathlib.Core.Path.{◌≡◌, sym}
use mathlib.Core.Bool.{Bool, true, false}
use mathlib.Core.List.{List}
use lib.Dec.{leb}
use Rattle.seq.specs.Lists.{neighbours}
use Rattle.drawing.specs.GridRules.{comes_before, in_order, all_inside, cover_once, all_start, sections_run, none_crosses, keeps_rules}
use Rattle.table_checks.specs.Places.{places_of, grid_in, CellsPlaced, Laid}
use Rattle.table_checks.proofs.rules.OrderLaws.{cells-laid}
use Rattle.table_checks.proofs.rules.SectionLaws.{run-codes}

module _ (columns n : ℕ) (sections cells : List ℕ) (placed : CellsPlaced columns n sections cells) where
  pub grid_in-laid : true ≡ all_inside (grid_in columns n sections cells) → Laid columns n sections cells
  grid_in-laid inside = cells-laid columns n sections cells placed (sym inside)

  pub not-ordered : false ≡ neighbours comes_before (places_of n cells) → false ≡ keeps_rules (grid_in columns n sections cells)
  unfolding keeps_rules in_order
  not-ordered e = rw (← e)

  module _ (ordered : true ≡ neighbours comes_before (places_of n cells)) where
    pub not-inside : false ≡ all_inside (grid_in columns n sections cells) → false ≡ keeps_rules (grid_in columns n sections cells)
    unfolding keeps_rules in_order
    not-inside e = rw (← ordered, ← e)

    module _ (inside : true ≡ all_inside (grid_in columns n sections cells)) where
      pub not_covered : false ≡ cover_once (grid_in columns n sections cells) → false ≡ keeps_rules (grid_in columns n sections cells)
      unfolding keeps_rules in_order
      not_covered e = rw (← ordered, ← inside, ← e)

      module _ (covered : true ≡ cover_once (grid_in columns n sections cells)) where
        pub not-started : false ≡ all_start (grid_in columns n sections cells) → false ≡ keeps_rules (grid_in columns n sections cells)
        unfolding keeps_rules in_order
        not-started e = rw (← ordered, ← inside, ← covered, ← e)

        module _ (started : true ≡ all_start (grid_in columns n sections cells)) where
          pub not-run : false ≡ neighbours leb sections → false ≡ keeps_rules (grid_in columns n sections cells)
          unfolding keeps_rules in_order sections_run
          not-run e = rw (← ordered, ← inside, ← covered, ← started, run-codes sections placed.codes, ← e)

          pub keeps_rules-crossing : true ≡ neighbours leb sections → {x : Bool} → x ≡ none_crosses (grid_in columns n sections cells)
              → x ≡ keeps_rules (grid_in columns n sections cells)
          unfolding keeps_rules in_order sections_run
          keeps_rules-crossing run told = rw (← ordered, ← inside, ← covered, ← started, run-codes sections placed.codes, ← run) told
