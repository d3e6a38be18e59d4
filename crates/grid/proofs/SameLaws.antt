-- What sameness of two tables is, part by part. Cite `same_parts`: with no hypothesis, two tables are the same exactly when their
-- looks and their cells' places agree. Under the grid rules the places follow from the rest: `same-exactly` of the crate drawing.
use mathlib.Core.Path.{◌≡◌, refl, sym, ap, ◌∙◌}
use mathlib.Core.Logic.{◌↔◌}
use mathlib.Core.List.{List, [], ◌∷◌, map, map-map}
use native.Mathlib.Omega.{arith}
use lib.ListN.{length, get_or, drop, length-map}
use Rattle.grid.specs.Values.{GridTableColumn, TableCell, Table}
use Rattle.grid.specs.Same.{drawn_lines, normal_cell, normal, Same, alignments_of, each_cell, SameParts}
use Rattle.grid.specs.declared.TableAlignment.{TableAlignment}

-- ---- from sameness to its parts

same-each : {A : Type 0} (part : TableCell → A) (t u : Table) → Same t u → each_cell (λ c. part (normal_cell c)) t ≡ each_cell (λ c. part (normal_cell c)) u
unfolding normal
same-each part t u e = sym (map-map part normal_cell t.cells) ∙ ap (λ (n : Table). map part n.cells) e ∙ map-map part normal_cell u.cells

same-alignments : (t u : Table) → Same t u → alignments_of t ≡ alignments_of u
unfolding normal
same-alignments t u e = sym (kept t) ∙ ap alignments_of e ∙ kept u where
  kept : (t : Table) → alignments_of (normal t) ≡ alignments_of t
  kept t = map-map (λ (c : GridTableColumn). c.alignment) (λ (c : GridTableColumn). record { alignment = c.alignment; width = 0 }) t.columns

same-columns : (t u : Table) → alignments_of t ≡ alignments_of u → length t.columns ≡ length u.columns
same-columns t u e = sym (length-map t.columns (λ c. c.alignment)) ∙ ap length e ∙ length-map u.columns (λ c. c.alignment)

same_gives : (t u : Table) → Same t u → SameParts t u
unfolding normal normal_cell
same_gives t u e =
    record {
      look = record {
        columns = same-columns t u (same-alignments t u e);
        alignments = same-alignments t u e;
        sections = ap (λ (n : Table). n.sections) e;
        colspans = same-each (λ c. c.colspan) t u e;
        rowspans = same-each (λ c. c.rowspan) t u e;
        lines = same-each (λ c. c.lines) t u e;
      };
      places = record { rows = same-each (λ c. c.row) t u e; columns = same-each (λ c. c.column) t u e };
    }

-- ---- and back

normal-cells : (cs ds : List TableCell) → map (λ (c : TableCell). c.row) cs ≡ map (λ (c : TableCell). c.row) ds
    → map (λ (c : TableCell). c.column) cs ≡ map (λ (c : TableCell). c.column) ds
    → map (λ (c : TableCell). c.colspan) cs ≡ map (λ (c : TableCell). c.colspan) ds
    → map (λ (c : TableCell). c.rowspan) cs ≡ map (λ (c : TableCell). c.rowspan) ds
    → map (λ (c : TableCell). drawn_lines c.lines) cs ≡ map (λ (c : TableCell). drawn_lines c.lines) ds → map normal_cell cs ≡ map normal_cell ds
unfolding normal_cell
normal-cells [] [] rows columns colspans rowspans lines = refl
normal-cells [] (d ∷ ds) rows columns colspans rowspans lines = absurd (omega (arith, ap length rows))
normal-cells (c ∷ cs) [] rows columns colspans rowspans lines = absurd (omega (arith, ap length rows))
normal-cells (c ∷ cs) (d ∷ ds) rows columns colspans rowspans lines =
    let rest = normal-cells cs ds (ap (drop 1) rows) (ap (drop 1) columns) (ap (drop 1) colspans) (ap (drop 1) rowspans) (ap (drop 1) lines) in
    λ i. record {
      row = get_or (rows i) 0 0;
      column = get_or (columns i) 0 0;
      colspan = get_or (colspans i) 0 0;
      rowspan = get_or (rowspans i) 0 0;
      lines = get_or (lines i) 0 [];
    } ∷ rest i

same_from : (t u : Table) → SameParts t u → Same t u
unfolding normal
same_from t u p = λ i. record { columns = columns i; sections = p.look.sections i; cells = cells i } where
  plain : TableAlignment → GridTableColumn
  plain a = record { alignment = a; width = 0 }

  columns : (normal t).columns ≡ (normal u).columns
  columns = sym (map-map plain (λ c. c.alignment) t.columns) ∙ ap (map plain) p.look.alignments ∙ map-map plain (λ c. c.alignment) u.columns

  cells : (normal t).cells ≡ (normal u).cells
  cells = normal-cells t.cells u.cells p.places.rows p.places.columns p.look.colspans p.look.rowspans p.look.lines

-- Two tables are the same exactly when their looks and the places of their cells agree.
pub same_parts : (t u : Table) → Same t u ↔ SameParts t u
same_parts t u = (same_gives t u, same_from t u)
