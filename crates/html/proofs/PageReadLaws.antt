-- What a browser relies on: from the bytes of a page a reader of tags gives the table's tree back, where no inner byte is a `<`.
use Prim.Native.Nat.{ℕ, zero, suc, ◌+◌, ◌/◌, ◌%◌, ◌<◌}
use mathlib.Core.Path.{◌≡◌, refl, ap, ◌∙◌}
use mathlib.Core.Bool.{Bool, true, false, not, ◌&&◌}
use mathlib.Core.Logic.{◌⊎◌, inl, inr, ⊎_elim}
use mathlib.Core.List.Memᴰ
use mathlib.Core.List.{List, [], ◌∷◌, ◌++◌, Memᴰ}
use mathlib.Core.Option.{some}
use native.Mathlib.Omega.{arith}
use native.Mathlib.Nat.{mod-lt, div-lt_iff_lt-mul}
use lib.Dec.{eqb, ltb, lit<}
use lib.ListN.{length, get_or}
use borrow.Author.Tests.{ltb-true, ne_eqb, not-true}
use Rattle.seq.specs.Lists.{all, any}
use Rattle.seq.specs.Ascii.{ascii}
use Rattle.seq.specs.Decimal.{digits_onto, decimal}
use Rattle.seq.proofs.Tests.{cond_either, and_left, and_right, or-none}
use Rattle.seq.proofs.Searches.{all-mem, none_any, select-mem}
use Rattle.grid.specs.Values.{GridTableColumn, TableCell, Table}
use Rattle.grid.specs.Flat.{join_text}
use Rattle.grid.specs.declared.TableAlignment.{TableAlignment}
use Rattle.grid.specs.declared.TableAlignment.TheVariants.{None, Left, Right, Center}
use Rattle.grid.specs.declared.GridTableSection.{GridTableSection}
use Rattle.grid.specs.declared.GridTableSection.TheVariants.{Head, Body, Foot}
use Rattle.drawing.specs.GridRules.{same_section}
use Rattle.html.specs.declared.Share.{Share}
use Rattle.html.specs.Shares.{shares, fraction, share_text}
use Rattle.html.specs.Page.{section_tag, cell_tag, section_of, page}
use Rattle.html.specs.Tags.{Attribute, Tag, Forest, nothing, element, holds_nothing, same, read_tags}
use Rattle.html.specs.PageTree.{plain, attribute, line_feed, span_of, align_of, cell_tag_of, inner_tree, cells_tree, row_cells, SectionRows, start_section, join_row, section_rows, rows_tree, sections_tree, shares_tree, group_tree, page_tree}
use Rattle.html.proofs.TagLaws.{Lacks, lacks-append, ReadableAttribute, ReadableTag, NoText, Readable, tags-back}
use Rattle.html.proofs.PageTreeLaws.{page-rendered}

-- ---- numbers in print hold digits, and a point
module _ (stop : ℕ) (other : (stop < 46) ⊎ (57 < stop)) where
  digit-other : (d : ℕ) → d < 10 → eqb (48 + d) stop ≡ false
  digit-other d p = ne_eqb (48 + d) stop (λ e. ⊎_elim (λ (h : stop < 46). omega (arith, e, h)) (λ (h : 57 < stop). omega (arith, e, h, p)) other)

  lacks-digits : (most n : ℕ) (digits : List ℕ) → Lacks stop digits → Lacks stop (digits_onto most n digits)
  unfolding digits_onto any
  lacks-digits zero n digits h = h
  lacks-digits (suc most) n digits h =
      let more = or-none (digit-other (n % 10) (mod-lt n (lit< tt))) h in
      cond_either (Lacks stop) (ltb n 10) more (lacks-digits most (n / 10) ((48 + n % 10) ∷ digits) more)

  lacks-decimal : (n : ℕ) → Lacks stop (decimal n)
  unfolding any
  lacks-decimal n = lacks-digits 20 n [] refl

  lacks-fraction : (n : ℕ) → n < 100 → Lacks stop (fraction n)
  unfolding fraction any
  lacks-fraction n h =
      let point = ne_eqb 46 stop (λ e. ⊎_elim (λ (k : stop < 46). omega (arith, e, k)) (λ (k : 57 < stop). omega (arith, e, k)) other) in
      let last = or-none (digit-other (n % 10) (mod-lt n (lit< tt))) refl in
      let tenths = digit-other (n / 10) ((div-lt_iff_lt-mul (lit< tt)).1 (omega (arith, h))) in
      cond_either (Lacks stop) (eqb n 0) refl (or-none point (or-none tenths (cond_either (Lacks stop) (eqb (n % 10) 0) refl last)))

  lacks-share : (n : ℕ) → Lacks stop (share_text n)
  unfolding share_text
  lacks-share n = lacks-append stop (decimal (n / 100)) (fraction (n % 100)) (lacks-decimal (n / 100)) (lacks-fraction (n % 100) (mod-lt n (lit< tt)))

-- ---- names of small letters
abbrev letters : List ℕ → Bool
letters name = ltb 0 (length name) && all (λ b. ltb 96 b) name

lettered : (name : List ℕ) → letters name ≡ true → 0 < length name
lettered name h = ltb-true 0 (length name) (and_left (ltb 0 (length name)) (all (λ b. ltb 96 b) name) h)

letters-lack : (stop : ℕ) → stop < 97 → (name : List ℕ) → letters name ≡ true → Lacks stop name
letters-lack stop low name h = go name (and_right (ltb 0 (length name)) (all (λ b. ltb 96 b) name) h) where
  go : (l : List ℕ) → all (λ b. ltb 96 b) l ≡ true → Lacks stop l
  go l k = none_any (λ b. eqb b stop) l (λ b m. ne_eqb b stop (λ e. omega (arith, e, low, ltb-true 96 b (all-mem (λ c. ltb 96 c) l k m))))

-- ---- tags
abbrev Fine : List Attribute → Type 0
Fine l = (a : Attribute) → Memᴰ a l → ReadableAttribute a

fine-none : Fine []
fine-none a m = elim m [ ]

fine-append : (k l : List Attribute) → Fine k → Fine l → Fine (k ++ l)
fine-append k l f g a m = ⊎_elim (λ (n : Memᴰ a k). f a n) (λ (n : Memᴰ a l). g a n) (Memᴰ.append_cases k m)

fine-attribute : (name value : List ℕ) → letters name ≡ true → Lacks 0x22 value → Lacks 0x3e value → Fine (attribute name value)
fine-attribute name value n q g a (Memᴰ.head e) =
    rw e
    (record {
      named = lettered name n;
      name_equals = letters-lack 0x3d (lit< tt) name n;
      name_slash = letters-lack 0x2f (lit< tt) name n;
      name_angle = letters-lack 0x3e (lit< tt) name n;
      value_quote = q;
      value_angle = g;
    })
fine-attribute name value n q g a (Memᴰ.tail m) = elim m [ ]

fine-span : (name : List ℕ) → letters name ≡ true → (n : ℕ) → Fine (span_of name n)
fine-span name named n =
    cond_either Fine (ltb 1 n) (fine-attribute name (decimal n) named (lacks-decimal 0x22 (inl (lit< tt)) n) (lacks-decimal 0x3e (inr (lit< tt)) n)) fine-none

fine-align : (a : TableAlignment) → Fine (align_of a)
unfolding ascii any all
fine-align None = fine-none
fine-align Left = fine-attribute (ascii "align") (ascii "left") refl refl refl
fine-align Right = fine-attribute (ascii "align") (ascii "right") refl refl refl
fine-align Center = fine-attribute (ascii "align") (ascii "center") refl refl refl

tag-readable : (name : List ℕ) (attributes : List Attribute) → letters name ≡ true → Fine attributes → ReadableTag (record { name = name; attributes = attributes })
tag-readable name attributes n fine =
    record {
      named = lettered name n;
      name_space = letters-lack 0x20 (lit< tt) name n;
      name_slash = letters-lack 0x2f (lit< tt) name n;
      name_angle = letters-lack 0x3e (lit< tt) name n;
      each = fine;
    }

-- ---- elements
abbrev element_name : List ℕ → Bool
element_name name = letters name && not (same name (ascii "col"))

-- an element with readable attributes, readable inside and after it
element-readable : (t : Tag) (inside f : Forest) → element_name t.name ≡ true → Fine t.attributes → Readable inside → Readable f → Readable (element t inside f)
unfolding Readable holds_nothing
element-readable t inside f n fine in-it after-it = (
  tag-readable t.name t.attributes (and_left (letters t.name) (not (same t.name (ascii "col"))) n) fine,
  not-true (same t.name (ascii "col")) (and_right (letters t.name) (not (same t.name (ascii "col"))) n),
  in-it,
  after-it,
)

feed-readable : (f : Forest) → NoText f → Readable f → Readable (line_feed f)
unfolding Readable ascii any
feed-readable f apart r = (omega arith, refl, apart, r)

nothing-readable : Readable nothing
unfolding Readable
nothing-readable = tt

section-name : (s : GridTableSection) → element_name (section_tag s) ≡ true
unfolding ascii all same
section-name Head = refl
section-name Body = refl
section-name Foot = refl

cell-name : (s : GridTableSection) → element_name (cell_tag s) ≡ true
unfolding ascii all same
cell-name Head = refl
cell-name Body = refl
cell-name Foot = refl

-- ---- cells, rows and sections
-- no inner byte is a `<`
abbrev pub NoTags : TableCell → Type 0
NoTags c = Lacks 0x3c (join_text c.lines)

abbrev Each : List TableCell → Type 0
Each cells = (c : TableCell) → Memᴰ c cells → NoTags c

abbrev Rows : List SectionRows → Type 0
Rows l = (x : SectionRows) → Memᴰ x l → (cells : List TableCell) → Memᴰ cells x.rows → Each cells

inner-readable : (bytes : List ℕ) → Lacks 0x3c bytes → Readable (inner_tree bytes)
unfolding Readable
inner-readable [] h = tt
inner-readable (b ∷ bs) h = (omega arith, h, tt, tt)

module _ (columns : List GridTableColumn) where
  cell-fine : (s : GridTableSection) (c : TableCell) → Fine (cell_tag_of columns s c).attributes
  unfolding ascii all
  cell-fine s c =
      let across = span_of (ascii "colspan") c.colspan in
      let down = span_of (ascii "rowspan") c.rowspan in
      let aligned = (get_or columns c.column (record { alignment = None; width = 0 })).alignment in
      fine-append (across ++ down) (align_of aligned)
      (fine-append across down (fine-span (ascii "colspan") refl c.colspan) (fine-span (ascii "rowspan") refl c.rowspan)) (fine-align aligned)

  cells-readable : (s : GridTableSection) (cells : List TableCell) → Each cells → Readable (cells_tree columns s cells)
  unfolding cells_tree
  cells-readable s [] each = feed-readable nothing tt nothing-readable
  cells-readable s (c ∷ cells) each =
      feed-readable (element (cell_tag_of columns s c) (inner_tree (join_text c.lines)) (cells_tree columns s cells)) tt
      (element-readable (cell_tag_of columns s c) (inner_tree (join_text c.lines)) (cells_tree columns s cells) (cell-name s) (cell-fine s c)
      (inner-readable (join_text c.lines) (each c (Memᴰ.head refl))) (cells-readable s cells (λ d m. each d (Memᴰ.tail m))))

  rows-readable : (s : GridTableSection) (rows : List (List TableCell)) → ((cells : List TableCell) → Memᴰ cells rows → Each cells)
      → NoText (rows_tree columns s rows) × Readable (rows_tree columns s rows)
  unfolding rows_tree ascii all same
  rows-readable s [] each = (tt, nothing-readable)
  rows-readable s (cells ∷ rows) each =
      let below = rows-readable s rows (λ d m. each d (Memᴰ.tail m)) in (
        tt,
        element-readable (plain (ascii "tr")) (cells_tree columns s cells) (line_feed (rows_tree columns s rows)) refl fine-none
            (cells-readable s cells (each cells (Memᴰ.head refl))) (feed-readable (rows_tree columns s rows) below.0 below.1),
      )

  sections-readable : (l : List SectionRows) → Rows l → NoText (sections_tree columns l) × Readable (sections_tree columns l)
  unfolding sections_tree
  sections-readable [] each = (tt, nothing-readable)
  sections-readable (x ∷ l) each =
      let below = sections-readable l (λ y m. each y (Memᴰ.tail m)) in
      let inside = rows-readable x.section x.rows (each x (Memᴰ.head refl)) in (
        tt,
        element-readable (plain (section_tag x.section)) (line_feed (rows_tree columns x.section x.rows)) (line_feed (sections_tree columns l))
            (section-name x.section) fine-none (feed-readable (rows_tree columns x.section x.rows) inside.0 inside.1)
            (feed-readable (sections_tree columns l) below.0 below.1),
      )

-- every row's cells are the table's
rows_start : (s : GridTableSection) (cells : List TableCell) (l : List SectionRows) → Each cells → Rows l → Rows (start_section s cells l)
rows_start s cells l h each x (Memᴰ.head q) = rw q only where
  only : (d : List TableCell) → Memᴰ d (cells ∷ []) → Each d
  only d (Memᴰ.head e) = rw e h
  only d (Memᴰ.tail m) = elim m [ ]
rows_start s cells l h each x (Memᴰ.tail m) = each x m

rows_join : (s : GridTableSection) (cells : List TableCell) (y : SectionRows) (l : List SectionRows) → Each cells → Rows (y ∷ l)
    → Rows (record { section = s; rows = cells ∷ y.rows } ∷ l)
rows_join s cells y l h each x (Memᴰ.head q) = rw q joined where
  joined : (d : List TableCell) → Memᴰ d (cells ∷ y.rows) → Each d
  joined d (Memᴰ.head e) = rw e h
  joined d (Memᴰ.tail m) = each y (Memᴰ.head refl) d m
rows_join s cells y l h each x (Memᴰ.tail m) = each x (Memᴰ.tail m)

joined-rows : (s : GridTableSection) (cells : List TableCell) (l : List SectionRows) → Each cells → Rows l → Rows (join_row s cells l)
joined-rows s cells [] h each = rows_start s cells [] h each
joined-rows s cells (y ∷ l) h each = cond_either Rows (same_section s y.section) (rows_join s cells y l h each) (rows_start s cells (y ∷ l) h each)

all-rows : (t : Table) → Each t.cells → (r n : ℕ) → Rows (section_rows t r n)
unfolding section_rows
all-rows t each r zero = λ x m. elim m [ ]
all-rows t each r (suc n) =
    joined-rows (section_of t r) (row_cells t r) (section_rows t (r + 1) n)
    (λ c m. each c (select-mem (λ (d : TableCell). eqb d.row r) t.cells m).0) (all-rows t each (r + 1) n)

-- ---- the page
shares-readable : (ss : List Share) → NoText (shares_tree ss) × Readable (shares_tree ss)
unfolding shares_tree Readable ascii all any holds_nothing same
shares-readable [] = (tt, tt)
shares-readable (s ∷ ss) =
    let below = shares-readable ss in
    let share = share_text s.hundredths in
    let value = ascii "width:" ++ share ++ ascii "%" in
    let quote = lacks-append 0x22 (ascii "width:" ++ share) (ascii "%") (lacks-append 0x22 (ascii "width:") share refl (lacks-share 0x22 (inl (lit< tt)) s.hundredths)) refl in
    let angle = lacks-append 0x3e (ascii "width:" ++ share) (ascii "%") (lacks-append 0x3e (ascii "width:") share refl (lacks-share 0x3e (inr (lit< tt)) s.hundredths)) refl in (
      tt,
      (
        tag-readable (ascii "col") (attribute (ascii "style") value) refl (fine-attribute (ascii "style") value refl quote angle),
        refl,
        feed-readable (shares_tree ss) below.0 below.1,
      ),
    )

group-readable : (widths : Bool) (columns : List GridTableColumn) (f : Forest) → NoText f → Readable f
    → NoText (group_tree widths columns f) × Readable (group_tree widths columns f)
unfolding group_tree ascii all same
group-readable false columns f apart r = (apart, r)
group-readable true columns f apart r =
    let inside = shares-readable (shares columns) in (
      tt,
      element-readable (plain (ascii "colgroup")) (line_feed (shares_tree (shares columns))) (line_feed f) refl fine-none
          (feed-readable (shares_tree (shares columns)) inside.0 inside.1) (feed-readable f apart r),
    )

-- from the bytes of a page a reader of tags gives the table's tree back, where no inner byte is a `<`
pub page-read : (widths : Bool) (t : Table) → ((c : TableCell) → Memᴰ c t.cells → NoTags c) → read_tags (page widths t) ≡ some (page_tree widths t)
unfolding page_tree ascii all same
page-read widths t each =
    let l = section_rows t 0 (length t.sections) in
    let sections = sections-readable t.columns l (all-rows t each 0 (length t.sections)) in
    let inside = group-readable widths t.columns (sections_tree t.columns l) sections.0 sections.1 in
    let readable = element-readable (plain (ascii "table")) (line_feed (group_tree widths t.columns (sections_tree t.columns l))) (line_feed nothing) refl fine-none
    (feed-readable (group_tree widths t.columns (sections_tree t.columns l)) inside.0 inside.1) (feed-readable nothing tt nothing-readable) in
    ap read_tags (page-rendered widths t) ∙ tags-back (page_tree widths t) readable
