-- The page call from its parts: `page-written` is the page, `page-short` and `page-room` are 12, `page-refused` and `page-done` the call.
use Prim.Native.Nat.{ℕ, ◌/◌, ◌≤◌, ◌<◌}
use mathlib.Core.Path.{◌≡◌, refl, ap, ◌∙◌}
use mathlib.Core.Bool.{Bool}
use mathlib.Core.List.{List, append_assoc, map, flat_map}
use native.Mathlib.Omega.{arith}
use lib.ListN.{length, length-map}
use borrow.Author.Tests.{lt-ltb, le-ltb}
use Rattle.seq.specs.Ascii.{ascii}
use Rattle.seq.specs.Lists.{up_to}
use Rattle.grid.specs.Answer.{Answer, accept, refuse, and_then, afterwards, over}
use Rattle.grid.specs.Values.{Table}
use Rattle.grid.specs.Flat.{code_section, columns_of_array}
use Rattle.html.specs.Page.{column_group, row_page, page}
use Rattle.html.specs.PageCall.{PageSizes, PageArrays, page_cells, page_table, page_accepts, page_answer, page_afterwards}
use Rattle.writer.specs.Writing.{Wrote}
use Rattle.writer.proofs.WritingLaws.{wrote_then, wrote_as, put_down-over}
use Rattle.html_page.specs.Paged.{page_in, Paged}
use Rattle.html_page.specs.Call.{sizes, arrays, page_within}

module _ {columns n : ℕ} {cols sections cells inner : List ℕ} (P : Paged columns n cols sections cells inner) where
  abbrev table : Table
  table = page_in n cols sections cells inner

  columns-half : columns ≡ length cols / 2
  columns-half = omega (arith, P.cols_room)

  pub page-written : {d e f g i : List ℕ} {opened grouped end r : ℕ} (widths : Bool) → Wrote d 0 (ascii "<table>\n") e opened
      → Wrote e opened (column_group widths (columns_of_array columns cols)) f grouped → Wrote f grouped (flat_map (row_page table) (up_to (length sections))) g end
      → Wrote g end (ascii "</table>\n") i r → Wrote d 0 (page widths table) i r
  unfolding page ascii
  page-written widths p q u w =
      let group = rw columns-half at q in
      let rows = rw (← length-map sections code_section) at u in
      wrote_as (wrote_then p (wrote_then group (wrote_then rows w))) (simp append_assoc)

  pub page-table : (rows bytes : ℕ) → page_table (sizes columns rows n bytes) (arrays cols sections cells inner) ≡ table
  unfolding page_table
  page-table rows bytes = ap (λ (k : ℕ). record { columns = columns_of_array k cols; sections = map code_section sections; cells = page_cells n cells inner }) columns-half

-- ---- 12
module _ (widths : Bool) (t : Table) {none none' : List ℕ} {bytes : ℕ} (counted : Wrote none 0 (page widths t) none' bytes) (out : List ℕ) where
  abbrev within : Answer (List ℕ)
  within = page_within widths t out

  pub page-short : length out < bytes
      → (refuse 12 0 ≡ and_then within (λ page. accept (length page))) × (out ≡ afterwards within (λ page. over page out) out)
  unfolding page_within
  page-short h = rw (lt-ltb (length out) (length (page widths t)) (omega (arith, counted.next))) (refl, refl)

  pub page-room : {out' : List ℕ} {r : ℕ} → bytes ≤ length out → Wrote out 0 (page widths t) out' r
      → (accept bytes ≡ and_then within (λ page. accept (length page))) × (out' ≡ afterwards within (λ page. over page out) out)
  unfolding page_within
  page-room h p =
      let size : bytes ≡ length (page widths t) = omega (arith, counted.next) in
      let fits : length (page widths t) ≤ length out = omega arith in
      rw (le-ltb (length out) (length (page widths t)) fits) (ap accept size, p.bytes ∙ put_down-over out (page widths t) fits)

-- ---- the call
module _ (s : PageSizes) (t : PageArrays) (widths : Bool) (out : List ℕ) where
  pub page-refused : {number place : ℕ} → ((widths : Bool) (out : List ℕ) → refuse number place ≡ page_accepts widths s t out)
      → (refuse number place ≡ page_answer widths s t out) × (out ≡ page_afterwards widths s t out)
  unfolding page_answer page_afterwards
  page-refused told = rw (← told widths out) (refl, refl)

  pub page-done : ((widths : Bool) (out : List ℕ) → page_within widths (page_table s t) out ≡ page_accepts widths s t out)
      → {answer : Answer ℕ} {out' : List ℕ} → Paged s.columns s.cells t.columns t.sections t.cells t.inner
      → answer ≡ and_then (page_within widths (page_in s.cells t.columns t.sections t.cells t.inner) out) (λ page. accept (length page))
      → out' ≡ afterwards (page_within widths (page_in s.cells t.columns t.sections t.cells t.inner) out) (λ page. over page out) out
      → (answer ≡ page_answer widths s t out) × (out' ≡ page_afterwards widths s t out)
  unfolding page_answer page_afterwards
  page-done told P made after = rw (← told widths out, page-table P s.rows s.bytes) (made, after)
