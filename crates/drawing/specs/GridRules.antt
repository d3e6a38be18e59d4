-- Document 01, "Grid rules": "Cells stand in order of row, then column, none has a span of 0 or leaves the grid, and they cover every
-- square of rows times columns once; each row and each column has a cell that starts there; sections run Head, Body, Foot; no cell
-- crosses from one section to another."
use Rattle.std.specs.Prelude.{ℕ, ◌+◌, Bool, true, false, ◌&&◌, ◌||◌, length, get_or, eqb, leb, ltb}
use Rattle.seq.specs.Lists.{range, up_to, all, any, count, neighbours}
use Rattle.grid.specs.Values.{TableCell, Table}
use Rattle.grid.specs.declared.GridTableSection.{GridTableSection}
use Rattle.grid.specs.declared.GridTableSection.TheVariants.{Head, Body, Foot}

abbrev pub is_head : GridTableSection → Bool
is_head Head = true
is_head Body = false
is_head Foot = false

abbrev pub is_foot : GridTableSection → Bool
is_foot Head = false
is_foot Body = false
is_foot Foot = true

-- may a row of section b follow one of section a
abbrev pub may_follow : GridTableSection → GridTableSection → Bool
may_follow Head b = true
may_follow Body Head = false
may_follow Body Body = true
may_follow Body Foot = true
may_follow Foot Head = false
may_follow Foot Body = false
may_follow Foot Foot = true

-- "in order of row, then column"
abbrev pub comes_before : TableCell → TableCell → Bool
comes_before a b = ltb a.row b.row || (eqb a.row b.row && ltb a.column b.column)

unfoldable pub in_order : Table → Bool
in_order t = neighbours comes_before t.cells

-- "none has a span of 0 or leaves the grid"
abbrev pub stays_inside : Table → TableCell → Bool
stays_inside t c =
    ltb 0 c.colspan && ltb 0 c.rowspan && leb (c.column + c.colspan) (length t.columns) && leb (c.row + c.rowspan) (length t.sections)

unfoldable pub all_inside : Table → Bool
all_inside t = all (stays_inside t) t.cells

abbrev pub holds_square : ℕ → ℕ → TableCell → Bool
holds_square r k c = leb c.row r && ltb r (c.row + c.rowspan) && leb c.column k && ltb k (c.column + c.colspan)

-- "they cover every square of rows times columns once"
unfoldable pub cover_once : Table → Bool
cover_once t =
    all (λ r. all (λ k. eqb (count (holds_square r k) t.cells) 1) (up_to (length t.columns))) (up_to (length t.sections))

-- "each row and each column has a cell that starts there"
unfoldable pub all_start : Table → Bool
all_start t =
    all (λ r. any (λ (c : TableCell). eqb c.row r) t.cells) (up_to (length t.sections))
    && all (λ k. any (λ (c : TableCell). eqb c.column k) t.cells) (up_to (length t.columns))

-- "sections run Head, Body, Foot"
unfoldable pub sections_run : Table → Bool
sections_run t = neighbours may_follow t.sections

abbrev pub same_section : GridTableSection → GridTableSection → Bool
same_section a b = may_follow a b && may_follow b a

-- "no cell crosses from one section to another"
unfoldable pub none_crosses : Table → Bool
none_crosses t =
    all (λ (c : TableCell). all (λ r. same_section (get_or t.sections c.row Body) (get_or t.sections r Body)) (range c.row c.rowspan)) t.cells

unfoldable pub keeps_rules : Table → Bool
keeps_rules t = in_order t && all_inside t && cover_once t && all_start t && sections_run t && none_crosses t
