-- Laws of the listing's lines: what is written is what is printed.
use Prim.Native.Nat.{ℕ, zero, suc, ◌+◌, ◌*◌, ◌-◌, ◌≤◌, ◌<◌}
use mathlib.Core.Path.{◌≡◌, refl, ap, sym, ◌∙◌}
use mathlib.Core.List.{List, [], ◌∷◌, ◌++◌, append_assoc, append-nil}
use native.Mathlib.Numerals.{add-one}
use native.Mathlib.Omega.{arith}
use lib.ListN.{length, drop, get_or}
use lib.Seq.{get_or-drop}
use borrow.Author.Tests.{ne_eqb}
use Rattle.std.specs.Prelude.{Result, Ok, Err}
use Rattle.std.specs.Result.{result_unwrap_or}
use Rattle.seq.specs.Ascii.{ascii}
use Rattle.seq.specs.Decimal.{decimal}
use Rattle.text.specs.Characters.{space}
use Rattle.grid.specs.Values.{GridTableColumn, Row}
use Rattle.grid.specs.declared.TableAlignment.{TableAlignment}
use Rattle.grid.specs.declared.TableAlignment.TheVariants.{None}
use Rattle.grid.specs.declared.GridTableSection.{GridTableSection}
use Rattle.grid.specs.declared.GridTableSection.TheVariants.{Head, Body, Foot}
use Rattle.grid.specs.declared.UnknownCode.{UnknownCode}
use Rattle.grid.specs.Codes.{DecodesAlignment}
use Rattle.grid.specs.Flat.{code_alignment, code_section, columns_of_array}
use Rattle.grid.specs.Listing.{line_feed, printed, numbered, column_line, row_line, alignment_letter, section_letter}
use Rattle.printing.specs.Printing.{Put, Prints, spaced, cell_printed}
use Rattle.printing.proofs.PutLaws.{put-none, put_then, put_as, put-most, put-prints}
use Rattle.layout_listing.specs.Printing.{column_of, row_of, rows_of_array, inner_height, grid_printed, cells_printed, table_printed}

-- the first words of the lines, in bytes
abbrev grid_word : List ℕ
grid_word = 0x67 ∷ 0x72 ∷ 0x69 ∷ 0x64 ∷ []

abbrev col_word : List ℕ
col_word = 0x63 ∷ 0x6f ∷ 0x6c ∷ []

abbrev row_word : List ℕ
row_word = 0x72 ∷ 0x6f ∷ 0x77 ∷ []

-- Codes

module _ (code : ℕ) where
  pub section-head : code ≡ 0 → Head ≡ code_section code
  section-head h = rw h

  pub section-foot : code ≡ 2 → Foot ≡ code_section code
  section-foot h = rw h

  pub section-body : (code ≡ 0 → ⊥) → (code ≡ 2 → ⊥) → Body ≡ code_section code
  section-body zeroth two = rw (ne_eqb code 0 zeroth, ne_eqb code 2 two)

  pub decoded : (r : Result TableAlignment UnknownCode) → DecodesAlignment code r → result_unwrap_or r None ≡ code_alignment code
  decoded (Ok a) h = h.0
  decoded (Err e) h =
      let large : 3 < code = h.1 in
      rw (ne_eqb code 1 (λ e. omega arith), ne_eqb code 2 (λ e. omega arith), ne_eqb code 3 (λ e. omega arith))

-- One line

pub letter-put : {d e f : List ℕ} {at mid r sign : ℕ} → Put 1 d e at mid (space ∷ []) → Put 1 e f mid r (sign ∷ [])
    → Put 2 d f at r (space ∷ sign ∷ [])
letter-put p q = put_then p q

grid-put : {d e f : List ℕ} {at mid r : ℕ} (a b x y z : ℕ) → Put 109 d e at mid (grid_word ++ spaced (a ∷ b ∷ x ∷ y ∷ z ∷ [])) → Put 1 e f mid r (line_feed ∷ [])
    → Put 110 d f at r (grid_printed a b x y z)
unfolding spaced printed ascii
grid-put a b x y z p q = put_as (put_then p q) (simp append_assoc)

pub column-put : {d e f g : List ℕ} {at mid end r sign : ℕ} (index : ℕ) (alignment : TableAlignment) (width : ℕ) → sign ∷ [] ≡ alignment_letter alignment
    → Put 45 d e at mid (col_word ++ spaced (index ∷ width ∷ [])) → Put 2 e f mid end (space ∷ sign ∷ []) → Put 1 f g end r (line_feed ∷ [])
    → Put 48 d g at r (column_line index (record { alignment = alignment; width = width }))
unfolding spaced printed ascii
column-put index alignment width letter p q w =
    put_as (put_then (put_then p q) w) (rw (← letter) (simp append_assoc))

row_words : (a t b : List ℕ) (sign : ℕ)
    → (row_word ++ space ∷ (a ++ [])) ++ ((space ∷ sign ∷ []) ++ ((space ∷ (t ++ space ∷ (b ++ []))) ++ line_feed ∷ []))
    ≡ row_word ++ space ∷ (a ++ space ∷ sign ∷ space ∷ (t ++ space ∷ (b ++ line_feed ∷ [])))
row_words a t b sign =
    rw (append-nil a, append-nil b)
    (ap (λ (l : List ℕ). row_word ++ space ∷ (a ++ space ∷ sign ∷ space ∷ l)) (append_assoc t (space ∷ b) (line_feed ∷ [])))

pub row_put : {d e f g k : List ℕ} {at mid end last r sign : ℕ} (index : ℕ) (section : GridTableSection) (top bottom : ℕ) → sign ∷ [] ≡ section_letter section
    → Put 24 d e at mid (row_word ++ spaced (index ∷ [])) → Put 2 e f mid end (space ∷ sign ∷ []) → Put 42 f g end last (spaced (top ∷ bottom ∷ []))
    → Put 1 g k last r (line_feed ∷ []) → Put 69 d k at r (row_line index (record { section = section; top = top; bottom = bottom }))
unfolding spaced printed ascii
row_put index section top bottom letter p q w v =
    put_as (put_then p (put_then q (put_then w v))) (rw (← letter) (row_words (decimal index) (decimal top) (decimal bottom) _))

pub inner-told : (rows : List ℕ) (row span top past bottom between r : ℕ) → (top ≡ get_or rows (3 * row + 1) 0) × (top < 65536)
    → past ≡ 3 * (row + span) - 1 → (bottom ≡ get_or rows past 0) × (bottom < 65536) → between ≡ bottom - top → r ≡ between - 1
    → r ≡ inner_height rows row span
inner-told rows row span top past bottom between r t p b w e = cc

-- Lines one after another

numbered-snoc : {A : Type 0} (line : ℕ → A → List ℕ) (index : ℕ) (xs : List A) (a : A)
    → numbered line index (xs ++ a ∷ []) ≡ numbered line index xs ++ line (index + length xs) a
unfolding numbered
numbered-snoc line index [] a =
    let none : index + 0 ≡ index = omega arith in
    rw none (append-nil (line index a))
numbered-snoc line index (x ∷ xs) a =
    let next : index + suc (length xs) ≡ index + 1 + length xs = omega arith in
    rw next (ap (λ (l : List ℕ). line index x ++ l) (numbered-snoc line (index + 1) xs a) ∙ sym (append_assoc (line index x) _ _))

length-columns : (n : ℕ) (array : List ℕ) → length (columns_of_array n array) ≡ n
unfolding columns_of_array
length-columns zero array = refl
length-columns (suc n) array = ap suc (length-columns n (drop 2 array))

columns-snoc : (n : ℕ) (array : List ℕ)
    → columns_of_array (suc n) array ≡ columns_of_array n array ++ column_of (get_or array (2 * n) 0) (get_or array (2 * n + 1) 0) ∷ []
unfolding columns_of_array
columns-snoc zero array = refl
columns-snoc (suc n) array =
    let e : 2 * suc n ≡ 2 + 2 * n = omega arith in
    let f : 2 + 2 * n + 1 ≡ 2 + (2 * n + 1) = omega arith in
    rw (e, f, ← get_or-drop 2 array (2 * n) 0, ← get_or-drop 2 array (2 * n + 1) 0)
    (ap (λ (l : List GridTableColumn). column_of (get_or array 0 0) (get_or array 1 0) ∷ l) (columns-snoc n (drop 2 array)))

columns-next : (i : ℕ) (array : List ℕ)
    → numbered column_line 0 (columns_of_array (i + 1) array) ≡ numbered column_line 0 (columns_of_array i array)
    ++ column_line i (column_of (get_or array (2 * i) 0) (get_or array (2 * i + 1) 0))
columns-next i array =
    let at : 0 + length (columns_of_array i array) ≡ i = omega (arith, length-columns i array) in
    rw (add-one i, columns-snoc i array, numbered-snoc column_line 0 (columns_of_array i array) (column_of (get_or array (2 * i) 0) (get_or array (2 * i + 1) 0)), at)

length-rows : (n : ℕ) (array : List ℕ) → length (rows_of_array n array) ≡ n
unfolding rows_of_array
length-rows zero array = refl
length-rows (suc n) array = ap suc (length-rows n (drop 3 array))

abbrev row_at : ℕ → List ℕ → Row
row_at i array = row_of (get_or array (3 * i) 0) (get_or array (3 * i + 1) 0) (get_or array (3 * i + 2) 0)

rows_snoc : (n : ℕ) (array : List ℕ) → rows_of_array (suc n) array ≡ rows_of_array n array ++ row_at n array ∷ []
unfolding rows_of_array
rows_snoc zero array = refl
rows_snoc (suc n) array =
    let e : 3 * suc n ≡ 3 + 3 * n = omega arith in
    let f : 3 + 3 * n + 1 ≡ 3 + (3 * n + 1) = omega arith in
    let g : 3 + 3 * n + 2 ≡ 3 + (3 * n + 2) = omega arith in
    rw (e, f, g, ← get_or-drop 3 array (3 * n) 0, ← get_or-drop 3 array (3 * n + 1) 0, ← get_or-drop 3 array (3 * n + 2) 0)
    (ap (λ (l : List Row). row_at 0 array ∷ l) (rows_snoc n (drop 3 array)))

rows_next : (i : ℕ) (array : List ℕ)
    → numbered row_line 0 (rows_of_array (i + 1) array) ≡ numbered row_line 0 (rows_of_array i array) ++ row_line i (row_at i array)
rows_next i array =
    let at : 0 + length (rows_of_array i array) ≡ i = omega (arith, length-rows i array) in
    rw (add-one i, rows_snoc i array, numbered-snoc row_line 0 (rows_of_array i array) (row_at i array), at)

abbrev cell_at : ℕ → List ℕ → List ℕ → List ℕ
cell_at i rows cells = cell_printed cells i (inner_height rows (get_or cells (5 * i) 0) (get_or cells (5 * i + 3) 0))

cells-snoc : (n : ℕ) (rows cells : List ℕ) → cells_printed (suc n) rows cells ≡ cells_printed n rows cells ++ cell_at n rows cells
unfolding cells_printed
cells-snoc zero rows cells = append-nil (cell_at 0 rows cells)
cells-snoc (suc n) rows cells =
    let e : 5 * suc n ≡ 5 + 5 * n = omega arith in
    let f : 5 + 5 * n + 1 ≡ 5 + (5 * n + 1) = omega arith in
    let g : 5 + 5 * n + 2 ≡ 5 + (5 * n + 2) = omega arith in
    let h : 5 + 5 * n + 3 ≡ 5 + (5 * n + 3) = omega arith in
    rw (e, f, g, h, ← get_or-drop 5 cells (5 * n) 0, ← get_or-drop 5 cells (5 * n + 1) 0, ← get_or-drop 5 cells (5 * n + 2) 0, ← get_or-drop 5 cells (5 * n + 3) 0)
    (ap (λ (l : List ℕ). cell_at 0 rows cells ++ l) (cells-snoc n rows (drop 5 cells)) ∙ sym (append_assoc (cell_at 0 rows cells) (cells_printed n rows (drop 5 cells)) (cell_at n rows (drop 5 cells))))

module _ {d e f : List ℕ} {at end r : ℕ} where
  pub columns-put : (array : List ℕ) (i code width : ℕ) (alignment : TableAlignment) → (code ≡ get_or array (2 * i) 0) × (code < 65536)
      → alignment ≡ code_alignment code → (width ≡ get_or array (2 * i + 1) 0) × (width < 65536) → Put (48 * i) d e at end (numbered column_line 0 (columns_of_array i array))
      → Put 48 e f end r (column_line i (record { alignment = alignment; width = width })) → Put (48 * (i + 1)) d f at r (numbered column_line 0 (columns_of_array (i + 1) array))
  columns-put array i code width alignment c a w p q =
      let line : column_line i (record { alignment = alignment; width = width }) ≡ column_line i (column_of (get_or array (2 * i) 0) (get_or array (2 * i + 1) 0)) = rw (a, c.0, w.0) in
      put-most (put_as (put_then p (put_as q line)) (sym (columns-next i array))) (omega arith)

  pub rows-put : (array : List ℕ) (i code top bottom : ℕ) (section : GridTableSection) → (code ≡ get_or array (3 * i) 0) × (code < 65536)
      → section ≡ code_section code → (top ≡ get_or array (3 * i + 1) 0) × (top < 65536) → (bottom ≡ get_or array (3 * i + 2) 0) × (bottom < 65536)
      → Put (69 * i) d e at end (numbered row_line 0 (rows_of_array i array)) → Put 69 e f end r (row_line i (record { section = section; top = top; bottom = bottom }))
      → Put (69 * (i + 1)) d f at r (numbered row_line 0 (rows_of_array (i + 1) array))
  rows-put array i code top bottom section c s t b p q =
      let line : row_line i (record { section = section; top = top; bottom = bottom }) ≡ row_line i (row_at i array) = rw (s, c.0, t.0, b.0) in
      put-most (put_as (put_then p (put_as q line)) (sym (rows_next i array))) (omega arith)

  pub cells-put : (rows cells : List ℕ) (i row rowspan inner : ℕ) → (row ≡ get_or cells (5 * i) 0) × (row < 65536) → (rowspan ≡ get_or cells (5 * i + 3) 0) × (rowspan < 65536) → inner ≡ inner_height rows row rowspan
      → Put (110 * i) d e at end (cells_printed i rows cells) → Put 110 e f end r (cell_printed cells i inner)
      → Put (110 * (i + 1)) d f at r (cells_printed (i + 1) rows cells)
  cells-put rows cells i row rowspan inner a y z p q =
      let line : cell_printed cells i inner ≡ cell_at i rows cells = rw (z, a.0, y.0) in
      let whole : cells_printed i rows cells ++ cell_at i rows cells ≡ cells_printed (i + 1) rows cells = rw (add-one i) (sym (cells-snoc i rows cells)) in
      put-most (put_as (put_then p (put_as q line)) whole) (omega arith)

module _ (d : List ℕ) (at count : ℕ) where
  pub columns-none : (array : List ℕ) → at + 48 * count ≤ length d → Put (48 * 0) d d at at (numbered column_line 0 (columns_of_array 0 array))
  unfolding columns_of_array numbered
  columns-none array h = put-none d at (omega arith)

  pub rows_none : (array : List ℕ) → at + 69 * count ≤ length d → Put (69 * 0) d d at at (numbered row_line 0 (rows_of_array 0 array))
  unfolding rows_of_array numbered
  rows_none array h = put-none d at (omega arith)

  pub cells-none : (rows cells : List ℕ) → at + 110 * count ≤ length d → Put (110 * 0) d d at at (cells_printed 0 rows cells)
  unfolding cells_printed
  cells-none rows cells h = put-none d at (omega arith)

same_count : (i count : ℕ) → i ≤ count → count ≤ i → i ≡ count
same_count i count most least = omega arith

module _ {d e : List ℕ} {at r : ℕ} (i count : ℕ) (most : i ≤ count) (least : count ≤ i) where
  pub columns-all : (array : List ℕ) → Put (48 * i) d e at r (numbered column_line 0 (columns_of_array i array))
      → Put (48 * count) d e at r (numbered column_line 0 (columns_of_array count array))
  columns-all array p = rw (← same_count i count most least) p

  pub rows_all : (array : List ℕ) → Put (69 * i) d e at r (numbered row_line 0 (rows_of_array i array))
      → Put (69 * count) d e at r (numbered row_line 0 (rows_of_array count array))
  rows_all array p = rw (← same_count i count most least) p

  pub cells-all : (rows cells : List ℕ) → Put (110 * i) d e at r (cells_printed i rows cells) → Put (110 * count) d e at r (cells_printed count rows cells)
  cells-all rows cells p = rw (← same_count i count most least) p

-- The whole listing

pub table-put : {a b x y z : List ℕ} {r s t u : ℕ} (d : List ℕ) (width height across down count : ℕ) (cols rows cells : List ℕ) {f : ℕ}
    → Put 109 d a 0 f (grid_word ++ spaced (width ∷ height ∷ across ∷ down ∷ count ∷ [])) → Put 1 a b f r (line_feed ∷ [])
    → Put (48 * across) b x r s (numbered column_line 0 (columns_of_array across cols)) → Put (69 * down) x y s t (numbered row_line 0 (rows_of_array down rows))
    → Put (110 * count) y z t u (cells_printed count rows cells) → Prints z u (table_printed width height across down count cols rows cells)
unfolding table_printed
table-put d width height across down count cols rows cells p q v w n =
    put-prints (put_then (put_then (put_then (grid-put width height across down count p q) v) w) n)
