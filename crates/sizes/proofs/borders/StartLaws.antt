-- Laws of the widths at which columns start.
use Prim.Native.Nat.{ℕ, zero, suc, ◌+◌, ◌*◌, ◌≤◌, ◌<◌, max}
use mathlib.Core.Path.{◌≡◌, refl, sym, ◌∙◌}
use mathlib.Core.List.{List, map}
use native.Mathlib.Omega.{arith}
use lib.ListN.{length, get_or, take, set, replicate, length-set, length-map, length-replicate}
use lib.Seq.{ext_get_or, get_or-take, length-take-le}
use mir.Syntax.{w16}
use mir.Val.{Fits}
use Rattle.seq.proofs.Positions.{get_d_map}
use Rattle.grid.specs.Values.{GridTableColumn}
use Rattle.grid.specs.Flat.{code_alignment, columns_of_array}
use Rattle.grid.specs.declared.TableAlignment.{TableAlignment}
use Rattle.grid.specs.declared.TableAlignment.TheVariants.{None, Left, Right, Center}
use Rattle.drawing.specs.Sizes.{least_width, start_width}
use Rattle.representation.proofs.TableInLaws.{columns-length, columns-at}
use Rattle.sizes.specs.Needs.{EachAtMost}
use Rattle.sizes.proofs.EachLaws.{each_set}
use Rattle.sizes.proofs.fit.TurnLaws.{need-small, small-set}

-- ---- at least 1, or 3 if aligned
least-small : (alignment : TableAlignment) → least_width alignment ≤ 3
least-small None = omega arith
least-small Left = omega arith
least-small Right = omega arith
least-small Center = omega arith

pub ones_small : (n : ℕ) → EachAtMost 65535 (replicate n 1)
ones_small zero i = omega arith
ones_small (suc n) zero = omega arith
ones_small (suc n) (suc i) = ones_small n i

-- ---- the first k widths have started
abbrev no_column : GridTableColumn
no_column = record { alignment = None; width = 0 }

module _ (cols : List ℕ) (columns : ℕ) where
  pub record Starting (sizes : List ℕ) (k : ℕ) : Type 0 where
    pub few : columns ≤ 127
    pub cols_room : length cols ≡ 2 * columns
    pub room : length sizes ≡ 128
    pub small : EachAtMost 65535 sizes
    pub started : (j : ℕ) → j < k → get_or sizes j 0 ≡ start_width (get_or (columns_of_array columns cols) j no_column)

  pub none-started : (columns ≤ 127) × (length cols ≡ 2 * columns) → Starting (replicate 128 1) 0
  none-started size =
      record {
        few = size.0;
        cols_room = size.1;
        room = length-replicate {A = ℕ} 128 1;
        small = ones_small 128;
        started = λ j low. absurd (omega arith);
      }

  module _ {sizes : List ℕ} {k : ℕ} (s : Starting sizes k) where
    pub one-started : {least size : ℕ} → k < columns → Fits w16 (get_or cols (2 * k + 1) 0) → least ≡ least_width (code_alignment (get_or cols (2 * k) 0))
        → size ≡ max (get_or cols (2 * k + 1) 0) least → Starting (set sizes k size) (k + 1)
    one-started {least} {size} h fits is told =
        record {
          few = s.few;
          cols_room = s.cols_room;
          room = length-set sizes k size ∙ s.room;
          small = small-set 65535 sizes k size s.small (omega (arith, told, is, least-small (code_alignment (get_or cols (2 * k) 0)), need-small fits));
          started =
              each_set (λ j v. v ≡ start_width (get_or (columns_of_array columns cols) j no_column)) sizes k size (omega (arith, s.room, s.few))
              (told ∙ rw (columns-at columns cols k no_column h, is)) s.started;
        }

    pub all-started : columns ≤ k → take columns sizes ≡ map start_width (columns_of_array columns cols)
    all-started done =
        let long : length (take columns sizes) ≡ columns = length-take-le columns sizes (omega (arith, s.room, s.few)) in
        ext_get_or 0 (take columns sizes) (map start_width (columns_of_array columns cols))
        (long ∙ sym (length-map (columns_of_array columns cols) start_width ∙ columns-length columns cols))
        (λ i h. get_or-take columns sizes i 0 (omega (arith, long)) ∙ s.started i (omega (arith, long))
        ∙ sym (get_d_map start_width (columns_of_array columns cols) i 0 no_column (omega (arith, long, columns-length columns cols))))
