-- The page is the rendering of the table's tree.
use Prim.Native.Nat.{ℕ, zero, suc, ◌+◌, ◌<◌}
use mathlib.Core.Path.{◌≡◌, refl, sym, ap, ◌∙◌}
use mathlib.Core.Bool.{Bool, true, false, not, cond}
use mathlib.Core.List.{List, [], ◌∷◌, ◌++◌, flat_map, append_assoc, append-nil}
use native.Mathlib.Omega.{arith}
use native.Mathlib.Nat.{zero-add}
use native.Mathlib.Numerals.{add-one}
use borrow.Author.Tests.{lt-ltb, le-ltb}
use lib.ListN.{length, get_or}
use lib.Dec.{ltb}
use Rattle.seq.specs.Lists.{range, up_to}
use Rattle.seq.specs.Ascii.{ascii}
use Rattle.seq.specs.Decimal.{decimal}
use Rattle.seq.proofs.FlatMaps.{flat_map-append}
use Rattle.grid.specs.Values.{GridTableColumn, TableCell, Table}
use Rattle.grid.specs.Flat.{join_text}
use Rattle.grid.specs.declared.TableAlignment.{TableAlignment}
use Rattle.grid.specs.declared.TableAlignment.TheVariants.{None, Left, Right, Center}
use Rattle.grid.specs.declared.GridTableSection.{GridTableSection}
use Rattle.grid.specs.declared.GridTableSection.TheVariants.{Head, Body, Foot}
use Rattle.seq.proofs.Tests.{true-not-false}
use Rattle.drawing.specs.GridRules.{same_section}
use Rattle.html.specs.Page.{section_tag, opening, closing, new_line, span_attribute, align_attribute, cell_tag, cell_page, when_edge, section_of, opens_section, closes_section, row_page, col_tag, column_group, page}
use Rattle.html.specs.Tags.{attribute_text, tag_text, Forest, nothing, element, render}
use Rattle.html.specs.declared.Share.{Share}
use Rattle.html.specs.Shares.{shares, share_text}
use Rattle.html.specs.PageTree.{plain, line_feed, span_of, align_of, cell_tag_of, inner_tree, cells_tree, row_cells, SectionRows, join_row, section_rows, rows_tree, sections_tree, shares_tree, group_tree, page_tree}

-- ---- cells
span-text : (name : List ℕ) (n : ℕ) → flat_map attribute_text (span_of name n) ≡ span_attribute name n
unfolding flat_map
span-text name n = go (ltb 1 n) where
  go : (t : Bool) → flat_map attribute_text (cond t (record { name = name; value = decimal n } ∷ []) []) ≡ cond t (ascii " " ++ name ++ ascii "=\"" ++ decimal n ++ ascii "\"") []
  go true = append-nil (ascii " " ++ name ++ ascii "=\"" ++ decimal n ++ ascii "\"")
  go false = refl

align-text : (a : TableAlignment) → flat_map attribute_text (align_of a) ≡ align_attribute a
unfolding ascii flat_map
align-text None = refl
align-text Left = refl
align-text Right = refl
align-text Center = refl

inner-text : (bytes : List ℕ) → render (inner_tree bytes) ≡ bytes
unfolding render
inner-text [] = refl
inner-text (b ∷ bs) = append-nil (b ∷ bs)

cell-tag-text : (columns : List GridTableColumn) (s : GridTableSection) (c : TableCell)
    → tag_text (cell_tag_of columns s c) ≡ cell_tag s ++ (span_attribute (ascii "colspan") c.colspan ++ span_attribute (ascii "rowspan") c.rowspan
    ++ align_attribute (get_or columns c.column (record { alignment = None; width = 0 })).alignment)
cell-tag-text columns s c =
    let across = span_of (ascii "colspan") c.colspan in
    let down = span_of (ascii "rowspan") c.rowspan in
    let aligned = align_of (get_or columns c.column (record { alignment = None; width = 0 })).alignment in
    ap (λ (l : List ℕ). cell_tag s ++ l)
    (flat_map-append attribute_text (across ++ down) aligned
    ∙ ap (λ (l : List ℕ). l ++ flat_map attribute_text aligned) (flat_map-append attribute_text across down)
    ∙ rw (span-text (ascii "colspan") c.colspan, span-text (ascii "rowspan") c.rowspan)
    (ap (λ (l : List ℕ). span_attribute (ascii "colspan") c.colspan ++ span_attribute (ascii "rowspan") c.rowspan ++ l)
    (align-text (get_or columns c.column (record { alignment = None; width = 0 })).alignment)))

cells-text : (columns : List GridTableColumn) (s : GridTableSection) (cs : List TableCell)
    → render (cells_tree columns s cs) ≡ flat_map (cell_page columns s) cs ++ new_line
unfolding render cells_tree flat_map cell_page
cells-text columns s [] = append-nil new_line
cells-text columns s (c ∷ cs) =
    rw (cell-tag-text columns s c, inner-text (join_text c.lines), cells-text columns s cs) (simp append_assoc)

-- ---- rows and sections
abbrev row_text : List GridTableColumn → GridTableSection → List TableCell → List ℕ
row_text columns s cells = ascii "<tr>" ++ flat_map (cell_page columns s) cells ++ new_line ++ ascii "</tr>"

row-text : (columns : List GridTableColumn) (s : GridTableSection) (cells : List TableCell) (rest : List (List TableCell))
    → render (rows_tree columns s (cells ∷ rest)) ≡ row_text columns s cells ++ new_line ++ render (rows_tree columns s rest)
unfolding render rows_tree flat_map ascii
row-text columns s cells rest = rw (cells-text columns s cells) (simp append_assoc)

-- the sections from the first one's rows on: its tag is opened already
abbrev opened_text : List GridTableColumn → List SectionRows → List ℕ
opened_text columns [] = []
opened_text columns (x ∷ rest) =
    render (rows_tree columns x.section x.rows) ++ closing (section_tag x.section) ++ new_line ++ render (sections_tree columns rest)

none-text : (columns : List GridTableColumn) → [] ≡ render (sections_tree columns [])
unfolding render sections_tree
none-text columns = refl

section-text : (columns : List GridTableColumn) (x : SectionRows) (rest : List SectionRows)
    → render (sections_tree columns (x ∷ rest)) ≡ opening (section_tag x.section) ++ new_line ++ opened_text columns (x ∷ rest)
unfolding render sections_tree flat_map
section-text columns x rest = rw (append-nil (section_tag x.section)) (simp append_assoc)

same-section : (a b : GridTableSection) → same_section a b ≡ true → a ≡ b
same-section Head Head e = refl
same-section Body Body e = refl
same-section Foot Foot e = refl
same-section Head Body e = absurd (true-not-false (sym e))
same-section Head Foot e = absurd (true-not-false (sym e))
same-section Body Head e = absurd (true-not-false (sym e))
same-section Body Foot e = absurd (true-not-false (sym e))
same-section Foot Head e = absurd (true-not-false (sym e))
same-section Foot Body e = absurd (true-not-false (sym e))

joined-first : (s : GridTableSection) (cells : List TableCell) (l : List SectionRows)
    → (x : SectionRows) × (rest : List SectionRows) × (join_row s cells l ≡ x ∷ rest) × (x.section ≡ s)
joined-first s cells [] = (record { section = s; rows = cells ∷ [] }, [], refl, refl)
joined-first s cells (x ∷ rest) = go (same_section s x.section) where
  go : (t : Bool) → (y : SectionRows) × (more : List SectionRows)
      × (cond t (record { section = s; rows = cells ∷ x.rows } ∷ rest) (record { section = s; rows = cells ∷ [] } ∷ x ∷ rest) ≡ y ∷ more) × (y.section ≡ s)
  go true = (record { section = s; rows = cells ∷ x.rows }, rest, refl, refl)
  go false = (record { section = s; rows = cells ∷ [] }, x ∷ rest, refl, refl)

-- a row before sections: it joins the first one, or closes its own
row-joined : (columns : List GridTableColumn) (s : GridTableSection) (cells : List TableCell) (x : SectionRows) (rest : List SectionRows) (same : Bool)
    → same_section s x.section ≡ same
    → opened_text columns (join_row s cells (x ∷ rest))
    ≡ row_text columns s cells ++ (when_edge (not same) (new_line ++ closing (section_tag s))
    ++ (new_line ++ (when_edge (not same) (opening (section_tag x.section) ++ new_line) ++ opened_text columns (x ∷ rest))))
unfolding render rows_tree
row-joined columns s cells x rest true e =
    let first = same-section s x.section e in
    rw (e, row-text columns s cells x.rows, first) (simp append_assoc)
row-joined columns s cells x rest false e = rw (e, row-text columns s cells [], section-text columns x rest) (more (row_text columns s cells)) where
  more : (row : List ℕ)
      → (row ++ new_line ++ render (rows_tree columns s [])) ++ closing (section_tag s) ++ new_line ++ (opening (section_tag x.section) ++ new_line ++ opened_text columns (x ∷ rest))
      ≡ row ++ ((new_line ++ closing (section_tag s)) ++ (new_line ++ ((opening (section_tag x.section) ++ new_line) ++ opened_text columns (x ∷ rest))))
  more row = simp append_assoc

row_last : (columns : List GridTableColumn) (s : GridTableSection) (cells : List TableCell)
    → opened_text columns (join_row s cells []) ≡ row_text columns s cells ++ ((new_line ++ closing (section_tag s)) ++ new_line)
unfolding render rows_tree sections_tree
row_last columns s cells = rw (row-text columns s cells []) (simp (append_assoc, append-nil))

assembled : (a b c d e f : List ℕ) → (a ++ (b ++ (c ++ d))) ++ (e ++ f) ≡ a ++ (b ++ (c ++ (d ++ (e ++ f))))
assembled a b c d e f = simp append_assoc

module _ (t : Table) where
  abbrev columns : List GridTableColumn
  columns = t.columns

  closes-last : (r : ℕ) → r + 1 ≡ length t.sections → closes_section t r ≡ true
  closes-last r e = rw (le-ltb (r + 1) (length t.sections) (omega (arith, e)))

  closes-more : (r : ℕ) → r + 1 < length t.sections → closes_section t r ≡ not (same_section (section_of t r) (section_of t (r + 1)))
  closes-more r h = rw (lt-ltb (r + 1) (length t.sections) h)

  opens-next : (r : ℕ) → opens_section t (r + 1) ≡ not (same_section (section_of t r) (section_of t (r + 1)))
  opens-next r = ap (opens_section t) (add-one r)

  -- the tags before and after row r, where its section starts or ends there
  abbrev opens : ℕ → List ℕ
  opens r = when_edge (opens_section t r) (opening (section_tag (section_of t r)) ++ new_line)

  abbrev closes : ℕ → List ℕ
  closes r = when_edge (closes_section t r) (new_line ++ closing (section_tag (section_of t r)))

  -- the tag before row r, where n rows are left
  abbrev edge : ℕ → ℕ → List ℕ
  edge r zero = []
  edge r (suc n) = opens r

  row-page : (r : ℕ) → row_page t r ≡ opens r ++ (row_text columns (section_of t r) (row_cells t r) ++ (closes r ++ new_line))
  unfolding row_page
  row-page r = simp append_assoc

  row_before : (r : ℕ) (x : SectionRows) (rest : List SectionRows) → x.section ≡ section_of t (r + 1) → r + 1 < length t.sections
      → row_page t r ++ (opens (r + 1) ++ opened_text columns (x ∷ rest)) ≡ opens r ++ opened_text columns (join_row (section_of t r) (row_cells t r) (x ∷ rest))
  row_before r x rest named h =
      ap (λ (l : List ℕ). l ++ (opens (r + 1) ++ opened_text columns (x ∷ rest))) (row-page r)
      ∙ assembled (opens r) (row_text columns (section_of t r) (row_cells t r)) (closes r) new_line (opens (r + 1)) (opened_text columns (x ∷ rest))
      ∙ ap (λ (l : List ℕ). opens r ++ l) pieces where
        same : Bool
        same = same_section (section_of t r) (section_of t (r + 1))

        pieces : row_text columns (section_of t r) (row_cells t r) ++ (closes r ++ (new_line ++ (opens (r + 1) ++ opened_text columns (x ∷ rest))))
            ≡ opened_text columns (join_row (section_of t r) (row_cells t r) (x ∷ rest))
        pieces =
            rw (closes-more r h, opens-next r)
            (ap (λ (s : GridTableSection). row_text columns (section_of t r) (row_cells t r) ++ (when_edge (not same) (new_line ++ closing (section_tag (section_of t r)))
            ++ (new_line ++ (when_edge (not same) (opening (section_tag s) ++ new_line) ++ opened_text columns (x ∷ rest))))) (sym named)
            ∙ sym (row-joined columns (section_of t r) (row_cells t r) x rest same (ap (same_section (section_of t r)) named)))

  -- the rows from r on: the tag before the first, and their sections
  rows-page : (r n : ℕ) → r + n ≡ length t.sections
      → flat_map (row_page t) (range r n) ≡ edge r n ++ opened_text columns (section_rows t r n)
  unfolding range flat_map section_rows
  rows-page r zero e = refl
  rows-page r (suc n) e = ap (λ (l : List ℕ). row_page t r ++ l) (rows-page (r + 1) n (omega (arith, e))) ∙ go n e where
    go : (n : ℕ) → r + suc n ≡ length t.sections → row_page t r ++ (edge (r + 1) n ++ opened_text columns (section_rows t (r + 1) n))
        ≡ opens r ++ opened_text columns (join_row (section_of t r) (row_cells t r) (section_rows t (r + 1) n))
    go zero f =
        append-nil (row_page t r) ∙ row-page r
        ∙ rw (closes-last r f) (ap (λ (l : List ℕ). opens r ++ l) (sym (row_last columns (section_of t r) (row_cells t r))))
    go (suc m) f =
        let (x, rest, joined, named) = joined-first (section_of t (r + 1)) (row_cells t (r + 1)) (section_rows t (r + 1 + 1) m) in
        rw joined (row_before r x rest named (omega (arith, f)))

  all-rows : flat_map (row_page t) (up_to (length t.sections)) ≡ render (sections_tree columns (section_rows t 0 (length t.sections)))
  unfolding section_rows
  all-rows = go (length t.sections) (rows-page 0 (length t.sections) (zero-add (length t.sections))) where
    go : (n : ℕ) → flat_map (row_page t) (range 0 n) ≡ edge 0 n ++ opened_text columns (section_rows t 0 n)
        → flat_map (row_page t) (range 0 n) ≡ render (sections_tree columns (section_rows t 0 n))
    go zero e = e ∙ none-text columns
    go (suc n) e =
        let (x, rest, joined, named) = joined-first (section_of t 0) (row_cells t 0) (section_rows t (0 + 1) n) in
        e ∙ rw joined (ap (λ (s : GridTableSection). opening (section_tag s) ++ new_line ++ opened_text columns (x ∷ rest)) (sym named) ∙ sym (section-text columns x rest))

-- ---- the shares of the columns
col-pieces : (share rest : List ℕ)
    → ascii "<" ++ (ascii "col" ++ (ascii " " ++ ascii "style" ++ ascii "=\"" ++ (ascii "width:" ++ share ++ ascii "%") ++ ascii "\"")) ++ ascii " />" ++ rest
    ≡ ascii "<" ++ (ascii "col" ++ (ascii " " ++ (ascii "style" ++ (ascii "=\"" ++ (ascii "width:" ++ (share ++ (ascii "%" ++ (ascii "\"" ++ (ascii " />" ++ rest)))))))))
col-pieces share rest = simp append_assoc

col-text : (share rest : List ℕ)
    → ascii "<" ++ (ascii "col" ++ (ascii " " ++ (ascii "style" ++ (ascii "=\"" ++ (ascii "width:" ++ (share ++ (ascii "%" ++ (ascii "\"" ++ (ascii " />" ++ rest)))))))))
    ≡ ascii "<col style=\"width:" ++ (share ++ (ascii "%\" />" ++ rest))
unfolding ascii
col-text share rest = refl

shares-text : (ss : List Share) → render (shares_tree ss) ≡ flat_map col_tag ss
unfolding render shares_tree flat_map
shares-text [] = refl
shares-text (s ∷ ss) =
    rw (shares-text ss, append-nil)
    (col-pieces (share_text s.hundredths) (new_line ++ flat_map col_tag ss) ∙ col-text (share_text s.hundredths) (new_line ++ flat_map col_tag ss)
    ∙ simp append_assoc)

-- ---- the page
plain-text : (name : List ℕ) (inside f : Forest) → render (element (plain name) inside f) ≡ opening name ++ render inside ++ closing name ++ render f
unfolding render flat_map
plain-text name inside f = rw (append-nil name) (simp append_assoc)

feed-text : (f : Forest) → render (line_feed f) ≡ new_line ++ render f
unfolding render
feed-text f = refl

last-feed : render (line_feed nothing) ≡ new_line
unfolding render
last-feed = append-nil new_line

abbrev Tags : Type 0
Tags = (opening (ascii "colgroup") ≡ ascii "<colgroup>") × (closing (ascii "colgroup") ≡ ascii "</colgroup>")
    × (opening (ascii "table") ≡ ascii "<table>") × (closing (ascii "table") ≡ ascii "</table>")

tags : Tags
unfolding ascii
tags = (refl, refl, refl, refl)

group-text : (widths : Bool) (cs : List GridTableColumn) (f : Forest) → render (group_tree widths cs f) ≡ column_group widths cs ++ render f
unfolding group_tree column_group
group-text false cs f = refl
group-text true cs f =
    plain-text (ascii "colgroup") (line_feed (shares_tree (shares cs))) (line_feed f)
    ∙ rw (feed-text (shares_tree (shares cs)), feed-text f, shares-text (shares cs), tags.0, tags.1) (simp append_assoc)

-- the page is the rendering of the table's tree
pub page-rendered : (widths : Bool) (t : Table) → page widths t ≡ render (page_tree widths t)
unfolding page_tree page
page-rendered widths t = sym (plain-text (ascii "table") (line_feed inside) (line_feed nothing)
    ∙ rw (feed-text inside, last-feed, group-text widths t.columns sections, ← all-rows t, tags.2, tags.3) (simp append_assoc)) where
      sections : Forest
      sections = sections_tree t.columns (section_rows t 0 (length t.sections))

      inside : Forest
      inside = group_tree widths t.columns sections
