-- A cell on the page: its attributes (`span_none`, `span-written`, `attributes-written`), and the whole (`cell-written`).
use Prim.Native.Nat.{ℕ, ◌+◌, ◌-◌, ◌*◌, ◌/◌, ◌≤◌, ◌<◌}
use mathlib.Core.Path.{◌≡◌, ap}
use mathlib.Core.Bool.{cond}
use mathlib.Core.List.{List, [], ◌++◌, append_assoc, append-nil, flat_map}
use native.Mathlib.Omega.{arith}
use lib.Dec.{ltb}
use lib.ListN.{length, get_or, take, drop, length-take, length-drop}
use borrow.Author.Tests.{lt-ltb, le-ltb}
use Rattle.seq.specs.Ascii.{ascii}
use Rattle.seq.specs.Decimal.{decimal}
use Rattle.grid.specs.Values.{GridTableColumn}
use Rattle.grid.specs.Flat.{code_alignment}
use Rattle.grid.specs.declared.TableAlignment.{TableAlignment}
use Rattle.grid.specs.declared.TableAlignment.TheVariants.{None}
use Rattle.grid.specs.declared.GridTableSection.{GridTableSection}
use Rattle.html.specs.Page.{new_line, span_attribute, align_attribute, cell_tag, closing, cell_page}
use Rattle.representation.proofs.TableInLaws.{columns-at}
use Rattle.writer.specs.Writing.{Wrote}
use Rattle.writer.proofs.WritingLaws.{wrote_none, wrote_then, wrote_as}
use Rattle.html_page.specs.Paged.{columns_in, cell_at, CellGiven}

-- ---- attributes
pub span_none : (d : List ℕ) (at span : ℕ) (text : List ℕ) → span ≤ 1 → Wrote d at (cond (ltb 1 span) text []) d at
span_none d at span text h = rw (le-ltb 1 span h) (wrote_none d at)

pub span-written : {d e f g : List ℕ} {at named end r : ℕ} (name : List ℕ) (span : ℕ) → 1 < span → Wrote d at name e named
    → Wrote e named (decimal span) f end → Wrote f end (ascii "\"") g r → Wrote d at (cond (ltb 1 span) (name ++ decimal span ++ ascii "\"") []) g r
span-written name span h p q w = rw (lt-ltb 1 span h) (wrote_then (wrote_then p q) w)

pub attributes-written : {d e f g i : List ℕ} {at across down end r : ℕ} (colspan rowspan : ℕ) (alignment : TableAlignment)
    → Wrote d at (span_attribute (ascii "colspan") colspan) e across → Wrote e across (span_attribute (ascii "rowspan") rowspan) f down
    → Wrote f down (align_attribute alignment) g end → Wrote g end (ascii ">") i r
    → Wrote d at (span_attribute (ascii "colspan") colspan ++ span_attribute (ascii "rowspan") rowspan ++ align_attribute alignment ++ ascii ">") i r
attributes-written colspan rowspan alignment p q u w = wrote_then (wrote_then (wrote_then p q) u) w

-- ---- the whole cell
module _ {cols cells inner : List ℕ} {k from : ℕ} (G : CellGiven cols cells inner k from) (section : GridTableSection) where
  abbrev aligned : ℕ
  aligned = get_or cols (2 * get_or cells (5 * k + 1) 0) 0

  aligned_at : (get_or (columns_in cols) (get_or cells (5 * k + 1) 0) (record { alignment = None; width = 0 })).alignment ≡ code_alignment aligned
  aligned_at = ap (λ (c : GridTableColumn). c.alignment) (columns-at (length cols / 2) cols (get_or cells (5 * k + 1) 0) _ G.column)

  pub cell-written : {d e f g i : List ℕ} {at opened tagged end r : ℕ} → Wrote d at (new_line ++ ascii "<" ++ cell_tag section) e opened
      → Wrote e opened
      (span_attribute (ascii "colspan") (get_or cells (5 * k + 2) 0) ++ span_attribute (ascii "rowspan") (get_or cells (5 * k + 3) 0) ++ align_attribute (code_alignment aligned) ++ ascii ">") f tagged
      → Wrote f tagged (take (from + get_or cells (5 * k + 4) 0 - from) (drop from inner)) g end → Wrote g end (closing (cell_tag section)) i r
      → Wrote d at (cell_page (columns_in cols) section (cell_at cells inner k from)) i r
  unfolding cell_page flat_map
  cell-written p q u w =
      let size : from + get_or cells (5 * k + 4) 0 - from ≡ get_or cells (5 * k + 4) 0 = omega arith in
      wrote_as (wrote_then (wrote_then (wrote_then p q) u) w) (rw (aligned_at, size) (simp (append_assoc, append-nil)))

-- the inner bytes are few
module _ {cols cells inner : List ℕ} {k from : ℕ} (G : CellGiven cols cells inner k from) where
  module _ {f g : List ℕ} (at : ℕ) {opened tagged end : ℕ} (a : opened ≤ at + 4) (b : tagged ≤ opened + 100)
      (p : Wrote f tagged (take (from + get_or cells (5 * k + 4) 0 - from) (drop from inner)) g end) where
    inner-near : end ≤ at + 32872
    inner-near = omega (arith, G.small, p.next, length-take (from + get_or cells (5 * k + 4) 0 - from) (drop from inner), length-drop from inner)

    pub cell-near : {r : ℕ} → r ≤ end + 5 → r ≤ at + 65536
    cell-near h = omega (arith, inner-near)
