-- From the inner bytes of a table that was read to what is printed of its page: `large-paged` past the limit, `refused-paged` and
-- `accepted-paged` after the page call.
use Prim.Native.Nat.{ℕ, ◌+◌, ◌*◌, ◌-◌, ◌≤◌, ◌<◌}
use mathlib.Core.Path.{◌≡◌, refl, sym, ap, ap₂, ◌∙◌}
use mathlib.Core.Bool.{Bool, true, false, not, ◌&&◌, ◌||◌}
use mathlib.Core.List.{List, [], ◌∷◌, map, flat_map, append-nil}
use native.Mathlib.Omega.{arith}
use lib.Dec.{eqb, ltb}
use lib.ListN.{length, take, drop, length-map, length-append}
use lib.Seq.{take-append_seam, drop-append_seam}
use borrow.Author.Tests.{eq-eqb, eqb-true, le-ltb, lt-ltb, not-false, ltb-false}
use Rattle.seq.specs.Lists.{sum, all, is_empty}
use Rattle.seq.proofs.Tests.{both_true, and_intro, or_right, or-neither}
use Rattle.seq.proofs.FlatMaps.{length-flat_map, length-flat_map-sum}
use Rattle.grid.specs.Answer.{Answer, accept, refuse, refuse_if, and_then, afterwards, over}
use Rattle.grid.specs.Values.{TableCell, Table}
use Rattle.grid.specs.Flat.{TableSizes, TableArrays, code_section, columns_of_array, cells_of_array, every_nth, split_text, length_is, shorter, table_contradicts, table_of_arrays}
use Rattle.grid.proofs.AnswerLaws.{accept-same, over-taken}
use Rattle.grid.proofs.ReadLaws.{and_then-accepting, passed-if, passed_then}
use Rattle.grid.specs.Listing.{refused_line}
use Rattle.drawing.specs.GridRules.{keeps_rules}
use Rattle.drawing.specs.Redraw.{table_empty, shape_too_large}
use Rattle.drawing.proofs.LimitLaws.{shape-limits}
use Rattle.drawing.proofs.ReadLimits.{read-not-empty}
use Rattle.html.specs.Page.{page}
use Rattle.html.specs.PageCall.{PageSizes, PageArrays, page_contradicts, page_cells, page_table, page_too_large, page_bytes, page_accepts, page_answer, page_afterwards}
use Rattle.html.specs.PageListing.{escaped_cell, escaped_table, escaped_sizes, page_listed}
use Rattle.html.proofs.PageLengthLaws.{inner_size, page-length}
use Rattle.html_page.specs.Call.{answer_of, sizes, arrays}
use Rattle.refusals.specs.Refusal.{number_of, place_of}
use Rattle.refusals.specs.declared.Refusal.{Refusal}
use Rattle.std.specs.Prelude.{Result, Ok, Err}
use Rattle.representation.specs.TableIn.{counts_in}
use Rattle.representation.proofs.TableInLaws.{columns-length, cells-length}
use Rattle.table_checks.proofs.arrays.ArrayLaws.{sized-agree}
use Rattle.input_lines.specs.Sheet.{lines_at0}
use Rattle.grid.specs.Read.{read_table}
use Rattle.input_table.specs.Told.{TableHeld}
use Rattle.printing.specs.Printing.{Prints}
use Rattle.printing.proofs.PutLaws.{prints-as}
use Rattle.page_listing.specs.Inner.{cell_inner, cell_entries, InnerHeld, InnerTold}
use Rattle.page_listing.specs.Paged.{table_paged, lines_paged}

-- ---- the arrays of a table
record Agreed (s : TableSizes) (t : TableArrays) : Type 0 where
  pub sized : length_is t.columns (2 * s.columns) && length_is t.sections s.rows && length_is t.cells (5 * s.cells) ≡ true
  pub lines : length t.lengths ≡ s.lines
  pub bytes : length t.text ≡ s.bytes
  pub counts : sum (counts_in s.cells t.cells) ≡ s.lines
  pub whole : sum t.lengths ≡ s.bytes
  pub alignments : all (λ code. ltb code 4) (every_nth 2 s.columns t.columns) ≡ true
  pub codes : all (λ code. ltb code 3) t.sections ≡ true

table_contradicts-agreed : (s : TableSizes) (t : TableArrays) → table_contradicts s t ≡ false → Agreed s t
unfolding table_contradicts
table_contradicts-agreed s t e =
    let p₃ = length_is t.columns (2 * s.columns) && length_is t.sections s.rows && length_is t.cells (5 * s.cells) in
    let p₄ = length_is t.lengths s.lines in
    let p₅ = length_is t.text s.bytes in
    let p₆ = eqb (sum (counts_in s.cells t.cells)) s.lines in
    let p₇ = eqb (sum t.lengths) s.bytes in
    let p₈ = all (λ code. ltb code 4) (every_nth 2 s.columns t.columns) in
    let (q₈, codes) = both_true (p₃ && p₄ && p₅ && p₆ && p₇ && p₈) (all (λ code. ltb code 3) t.sections) (not-false _ e) in
    let (q₇, alignments) = both_true (p₃ && p₄ && p₅ && p₆ && p₇) p₈ q₈ in
    let (q₆, whole) = both_true (p₃ && p₄ && p₅ && p₆) p₇ q₇ in
    let (q₅, counts) = both_true (p₃ && p₄ && p₅) p₆ q₆ in
    let (q₄, bytes) = both_true (p₃ && p₄) p₅ q₅ in
    let (sized, lines) = both_true p₃ p₄ q₄ in
    record {
      sized = sized;
      lines = eqb-true (length t.lengths) s.lines lines;
      bytes = eqb-true (length t.text) s.bytes bytes;
      counts = eqb-true (sum (counts_in s.cells t.cells)) s.lines counts;
      whole = eqb-true (sum t.lengths) s.bytes whole;
      alignments = alignments;
      codes = codes;
    }

-- ---- cells whose inner bytes and entries stand back to back
held-cells : (cs : List TableCell) → page_cells (length cs) (flat_map cell_entries cs) (flat_map cell_inner cs) ≡ map escaped_cell cs
unfolding page_cells flat_map
held-cells [] = refl
held-cells (c ∷ cs) =
    let later = flat_map cell_inner cs in
    rw (take-append_seam (cell_inner c) later, drop-append_seam (cell_inner c) later, held-cells cs)

held-sizes : (cs : List TableCell) → every_nth 5 (length cs) (drop 4 (flat_map cell_entries cs)) ≡ map (λ (c : TableCell). length (cell_inner c)) cs
unfolding every_nth flat_map
held-sizes [] = refl
held-sizes (c ∷ cs) = ap (λ (l : List ℕ). length (cell_inner c) ∷ l) (held-sizes cs)

-- a cell's inner bytes are its one line's
inner-sizes : (cs : List TableCell) → sum (map inner_size (map escaped_cell cs)) ≡ sum (map (λ (c : TableCell). length (cell_inner c)) cs)
unfolding sum flat_map
inner-sizes [] = refl
inner-sizes (c ∷ cs) = ap₂ (λ (m n : ℕ). m + n) (ap length (append-nil (cell_inner c))) (inner-sizes cs)

-- ---- the page of an escaped table
module _ (widths : Bool) (u : Table) where
  abbrev answer : Answer (List ℕ)
  answer = page_bytes widths (escaped_sizes u) (escaped_table u)

  escaped-empty : table_empty u ≡ false → table_empty (escaped_table u) ≡ false
  unfolding table_empty
  escaped-empty e = ap (λ (b : Bool). is_empty u.columns || is_empty u.sections || b) (same u.cells) ∙ e where
    same : (cs : List TableCell) → is_empty (map escaped_cell cs) ≡ is_empty cs
    same [] = refl
    same (c ∷ cs) = refl

  -- past the limit of inner bytes
  pub page-large : table_empty u ≡ false → 32768 < length (flat_map cell_inner u.cells) → answer ≡ refuse 2 0
  unfolding page_bytes page_too_large
  page-large e h =
      let size = length-flat_map-sum cell_inner u.cells in
      let large : shape_too_large (escaped_table u) || ltb 32768 (escaped_sizes u).bytes ≡ true =
      or_right (shape_too_large (escaped_table u)) (lt-ltb 32768 (escaped_sizes u).bytes (omega (arith, size))) in
      rw (escaped-empty e, large)

  -- an accepted page fits
  page-fits : (b : List ℕ) → answer ≡ accept b → length b ≤ 196608
  unfolding page_bytes page_too_large
  page-fits b e =
      let t = escaped_table u in
      let checked = passed-if (not (keeps_rules t)) 8 (accept (page widths t)) b in
      let (some, e₁) = passed-if (table_empty t) 1 _ b e in
      let (small, e₂) = passed-if (shape_too_large t || ltb 32768 (escaped_sizes u).bytes) 2 _ b e₁ in
      let (kept, e₃) = checked e₂ in
      let (shape, bytes) = or-neither (shape_too_large t) (ltb 32768 (escaped_sizes u).bytes) small in
      let few = shape-limits t shape in
      let same : page widths t ≡ b = accept-same e₃ in
      omega (arith, ap length same, page-length widths t, few.columns, few.rows, few.cells, inner-sizes u.cells, ltb-false 32768 (escaped_sizes u).bytes bytes)

-- ---- the page call, of the arrays that hold the inner bytes
module _ (s : TableSizes) (t : TableArrays) (agree : table_contradicts s t ≡ false) where
  abbrev read : Table
  read = table_of_arrays s t

  abbrev cs : List TableCell
  cs = cells_of_array s.cells t.cells (split_text t.lengths t.text)

  facts : Agreed s t
  facts = table_contradicts-agreed s t agree

  pub cells-asked : (length t.cells ≡ 5 * s.cells) × (sum (counts_in s.cells t.cells) ≡ length t.lengths) × (sum t.lengths ≡ length t.text)
      × (length t.lengths ≡ s.lines) × (length t.text ≡ s.bytes)
  cells-asked = (
    (sized-agree s.columns s.rows s.cells t.columns t.sections t.cells facts.sized).2,
    facts.counts ∙ sym facts.lines,
    facts.whole ∙ sym facts.bytes,
    facts.lines,
    facts.bytes,
  )

  module _ (entries inner : List ℕ) (size : ℕ) (held : InnerHeld cs entries inner size) where
    abbrev given : PageSizes
    given = sizes s.columns s.rows s.cells size

    abbrev lent : PageArrays
    lent = arrays t.columns t.sections (take (5 * s.cells - 0) entries) (take (size - 0) inner)

    many : length cs ≡ s.cells
    many = cells-length s.cells t.cells (split_text t.lengths t.text)

    numbers : take (5 * s.cells - 0) entries ≡ flat_map cell_entries cs
    numbers = let same : 5 * s.cells - 0 ≡ 5 * length cs = omega (arith, many) in rw same held.numbers

    text : take (size - 0) inner ≡ flat_map cell_inner cs
    text = let same : size - 0 ≡ size = omega arith in rw same held.text

    made : page_table given lent ≡ escaped_table read
    unfolding page_table table_of_arrays
    made =
        let same : page_cells s.cells (take (5 * s.cells - 0) entries) (take (size - 0) inner) ≡ map escaped_cell cs =
        rw (numbers, text) (ap (λ (n : ℕ). page_cells n (flat_map cell_entries cs) (flat_map cell_inner cs)) (sym many) ∙ held-cells cs) in
        ap (λ (l : List TableCell). record { columns = columns_of_array s.columns t.columns; sections = map code_section t.sections; cells = l }) same

    counted : size ≡ sum (map (λ (c : TableCell). length (cell_inner c)) cs)
    counted = held.size ∙ length-flat_map-sum cell_inner cs

    sized : given ≡ escaped_sizes read
    unfolding table_of_arrays
    sized =
        let tall : length (map code_section t.sections) ≡ s.rows =
        length-map t.sections code_section ∙ (sized-agree s.columns s.rows s.cells t.columns t.sections t.cells facts.sized).1 in
        rw (columns-length s.columns t.columns, tall, many, ← counted) refl

    consistent : page_contradicts given lent ≡ false
    unfolding page_contradicts
    consistent =
        let five : length (flat_map cell_entries cs) ≡ 5 * s.cells = length-flat_map 5 cell_entries cs (λ c. refl) ∙ ap (λ (n : ℕ). 5 * n) many in
        let (wide, tall, _) = sized-agree s.columns s.rows s.cells t.columns t.sections t.cells facts.sized in
        let all-sizes : sum (every_nth 5 s.cells (drop 4 (flat_map cell_entries cs))) ≡ size =
        ap (λ (n : ℕ). sum (every_nth 5 n (drop 4 (flat_map cell_entries cs)))) (sym many) ∙ ap sum (held-sizes cs) ∙ sym counted in
        rw (numbers, text)
        (ap not
        (and_intro (and_intro (and_intro (and_intro (and_intro (and_intro
        (eq-eqb (length t.columns) (2 * s.columns) wide)
        (eq-eqb (length t.sections) s.rows tall))
        (eq-eqb (length (flat_map cell_entries cs)) (5 * s.cells) five))
        (eq-eqb (length (flat_map cell_inner cs)) size (sym held.size)))
        (eq-eqb (sum (every_nth 5 s.cells (drop 4 (flat_map cell_entries cs)))) size all-sizes))
        facts.alignments)
        facts.codes))

    module _ (widths : Bool) where
      accepts : (out : List ℕ) → page_accepts widths given lent out
          ≡ and_then (answer widths read) (λ bytes. refuse_if (shorter out bytes) 12 (accept bytes))
      unfolding page_accepts
      accepts out = rw (consistent, made, sized)

      module _ (out : List ℕ) (room : 196608 ≤ length out) where
        -- 12 is not answered
        whole : and_then (answer widths read) (λ bytes. refuse_if (shorter out bytes) 12 (accept bytes)) ≡ answer widths read
        whole = go (answer widths read) (page-fits widths read) where
          go : (a : Answer (List ℕ)) → ((b : List ℕ) → a ≡ accept b → length b ≤ 196608) → and_then a (λ bytes. refuse_if (shorter out bytes) 12 (accept bytes)) ≡ a
          go (accept b) few = rw (le-ltb (length out) (length b) (omega (arith, few b refl)))
          go (refuse number place) few = refl

        called : page_accepts widths given lent out ≡ answer widths read
        called = accepts out ∙ whole

        module _ {after : List ℕ} (r : Result ℕ Refusal) (told : answer_of r ≡ page_answer widths given lent out) (done : after ≡ page_afterwards widths given lent out) where
          answered : answer_of r ≡ and_then (answer widths read) (λ bytes. accept (length bytes))
          unfolding page_answer
          answered = told ∙ ap (λ (a : Answer (List ℕ)). and_then a (λ bytes. accept (length bytes))) called

          left : after ≡ afterwards (answer widths read) (λ bytes. over bytes out) out
          unfolding page_afterwards
          left = done ∙ ap (λ (a : Answer (List ℕ)). afterwards a (λ bytes. over bytes out) out) called

          pub refused-paged : (refusal : Refusal) → r ≡ Err refusal → {printed : List ℕ} {end : ℕ}
              → Prints printed end (refused_line (number_of refusal) (place_of refusal)) → Prints printed end (table_paged widths read)
          refused-paged refusal e p =
              let number = number_of refusal in
              let place = place_of refusal in
              let refused : answer widths read ≡ refuse number place =
              and_then-accepting (answer widths read) length number place (sym (sym (ap answer_of e) ∙ answered)) in
              prints-as p (ap page_listed (sym refused))

          pub accepted-paged : (end : ℕ) → r ≡ Ok end → Prints after end (table_paged widths read)
          accepted-paged end e =
              let (bytes, paged, size) = passed_then (answer widths read) (λ bytes. accept (length bytes)) end (sym (sym (ap answer_of e) ∙ answered)) in
              let long : length bytes ≡ end = accept-same size in
              let now : after ≡ over bytes out = left ∙ ap (λ (a : Answer (List ℕ)). afterwards a (λ bytes. over bytes out) out) paged in
              record {
                within = omega (arith, ap length now, length-append bytes (drop (length bytes) out), long);
                start = ap (take end) now ∙ over-taken end bytes out long ∙ ap page_listed (sym paged);
              }

  -- past the limit
  pub large-paged : (widths : Bool) → table_empty read ≡ false → (entries inner : List ℕ) (size : ℕ) → InnerTold cs entries inner size → 32768 < size
      → {printed : List ℕ} {end : ℕ} → Prints printed end (refused_line 2 0) → Prints printed end (table_paged widths read)
  unfolding table_of_arrays
  large-paged widths some entries inner size told h p = prints-as p (ap page_listed (sym (page-large widths read some (told.0 h))))

-- ---- what is printed of the table call's answer
pub read_some : {lengths text : List ℕ} {s : TableSizes} {t : TableArrays} → TableHeld lengths text s t → table_empty (table_of_arrays s t) ≡ false
read_some {lengths} {text} {s} {t} held = read-not-empty (lines_at0 (split_text lengths text)) (table_of_arrays s t) held.read

module _ (widths : Bool) (lengths text : List ℕ) where
  abbrev paged_of : Answer Table → List ℕ
  paged_of a = page_listed (and_then a (λ t. page_bytes widths (escaped_sizes t) (escaped_table t)))

  pub read-paged : {s : TableSizes} {t : TableArrays} → TableHeld lengths text s t → table_paged widths (table_of_arrays s t) ≡ lines_paged widths (split_text lengths text)
  read-paged h = ap paged_of (sym h.read)

  pub unread-paged : {number place : ℕ} → read_table (lines_at0 (split_text lengths text)) ≡ refuse number place
      → refused_line number place ≡ lines_paged widths (split_text lengths text)
  unread-paged told = ap paged_of (sym told)
