-- Laws of the loop that writes the entries of cells.
use Prim.Native.Nat.{ℕ, ◌+◌, ◌*◌, ◌-◌, ◌≤◌, ◌<◌}
use mathlib.Core.Path.{◌≡◌, refl, sym, ap, subst, ◌∙◌}
use mathlib.Core.List.{List, [], ◌∷◌, ◌++◌, flat_map, Memᴰ}
use native.Mathlib.Omega.{arith}
use native.Mathlib.Nat.{zero-add}
use lib.ListN.{length, take, drop, get_or, length-append, length-drop}
use lib.Seq.{length-take-le}
use Rattle.seq.proofs.FlatMaps.{length-flat_map}
use Rattle.seq.proofs.Entries.{Written, none_written, all-written, write-more}
use Rattle.grid.specs.Answer.{over}
use Rattle.grid.specs.Values as grid
use Rattle.representation.specs.Arrays.{rect_in}
use Rattle.representation.specs.Lent.{rect_of}
use Rattle.representation.specs.Traced.{rects_held}
use Rattle.representation.specs.declared.rect.Rect.{Rect}
use Rattle.representation.specs.declared.rects.Rects.{Rects}
use Rattle.representation.proofs.RectsLaws.{length-rects, get_or-rects}
use Rattle.representation.specs.declared.Numbering.{Numbering}
use Rattle.representation.specs.LayoutEntries.{lines_numbered, cell_entries, Numbered}
use Rattle.representation.specs.TableEntries.{table_entry, table_entries}
use Rattle.layout.specs.Written.{MoreIn}
use Rattle.representation.proofs.HeldLaws.{no_rect, rect-holds, index-grows}

pub record SpansWritten (rects : Rects) (rows columns : Numbering) (array : List ℕ) (step from : ℕ) (buffer : List ℕ) (k : ℕ) (out : List ℕ) : Type 0 where
  pub kept : length out ≡ length buffer
  pub entries : (f : grid.Rect → ℕ) → MoreIn f rects array step from → Written (table_entry f (lines_numbered rows) (lines_numbered columns)) (rects_held rects) 0 buffer k out

pub no_span : (rects : Rects) (rows columns : Numbering) (array : List ℕ) (step from : ℕ) (buffer : List ℕ) → SpansWritten rects rows columns array step from buffer 0 buffer
no_span rects rows columns array step from buffer =
    record {
      kept = refl;
      entries = λ f more. none_written (table_entry f (lines_numbered rows) (lines_numbered columns)) (rects_held rects) 0 buffer;
    }

-- a rectangle's edges have their numbers, in order
module _ (rects : Rects) (rows columns : Numbering) (numbered : (r : grid.Rect) → Memᴰ r (rects_held rects) → Numbered rows columns r)
    (k : ℕ) (h : k < rects.count) (r : Rect) (e : rect_of r ≡ rect_in rects.array.now k) where
  here : Numbered rows columns (rect_of r)
  here = subst (Numbered rows columns) (sym e) (rect-holds (Numbered rows columns) rects.array.now rects.count k h numbered)

  pub rows-in-order : get_or rows.index r.top 0 ≤ get_or rows.index r.bottom 0
  rows-in-order = rw (here.top_number, here.bottom_number) (index-grows (lines_numbered rows) r.top r.bottom (omega (arith, here.inside.down)))

  pub columns-in-order : get_or columns.index r.left.0 0 ≤ get_or columns.index r.right.0 0
  columns-in-order = rw (here.left_number, here.right_number) (index-grows (lines_numbered columns) r.left.0 r.right.0 (omega (arith, here.inside.across)))

  -- one turn, whatever the number more
  span-next : (more : grid.Rect → ℕ) (v : ℕ) (buffer out out' : List ℕ) → 5 * rects.count ≤ length buffer → v ≡ more (rect_in rects.array.now k)
      → Written (table_entry more (lines_numbered rows) (lines_numbered columns)) (rects_held rects) 0 buffer k out
      → out' ≡ take (5 * k) out
      ++ (get_or rows.index r.top 0
      ∷ get_or columns.index r.left.0 0
      ∷ (get_or columns.index r.right.0 0 - get_or columns.index r.left.0 0)
      ∷ (get_or rows.index r.bottom 0 - get_or rows.index r.top 0)
      ∷ v ∷ [])
      ++ drop (5 * k + 5) out
      → Written (table_entry more (lines_numbered rows) (lines_numbered columns)) (rects_held rects) 0 buffer (k + 1) out'
  span-next more v buffer out out' room f w g =
      let entries = table_entry more (lines_numbered rows) (lines_numbered columns) in
      let before : length (flat_map entries (take k (rects_held rects))) ≡ 5 * k =
      length-flat_map 5 entries (take k (rects_held rects)) (λ r. refl) ∙ rw (length-take-le k (rects_held rects) (rw length-rects (omega arith))) in
      let own : entries (get_or (rects_held rects) k no_rect) ≡ entries (rect_of r) = ap entries (get_or-rects rects.count k rects.array.now no_rect h ∙ sym e) in
      write-more entries (rects_held rects) 0 buffer out k no_rect (rw length-rects h) w (5 * k) out' (rw (before, zero-add)) (omega arith)
      (rw (own, e, ← f) (rw (here.top_number, here.bottom_number, here.left_number, here.right_number) at g))

module _ (rects : Rects) (rows columns : Numbering) (array : List ℕ) (step from : ℕ) (buffer out : List ℕ) (k : ℕ)
    (w : SpansWritten rects rows columns array step from buffer k out) where
  pub spans-next : k < rects.count → ((r : grid.Rect) → Memᴰ r (rects_held rects) → Numbered rows columns r) → (r : Rect) → rect_of r ≡ rect_in rects.array.now k
      → (out' : List ℕ) → 5 * rects.count ≤ length buffer
      → out' ≡ take (5 * k) out
      ++ (get_or rows.index r.top 0
      ∷ get_or columns.index r.left.0 0
      ∷ (get_or columns.index r.right.0 0 - get_or columns.index r.left.0 0)
      ∷ (get_or rows.index r.bottom 0 - get_or rows.index r.top 0)
      ∷ get_or array (step * k + from) 0 ∷ [])
      ++ drop (5 * k + 5) out
      → SpansWritten rects rows columns array step from buffer (k + 1) out'
  spans-next h numbered r e out' room g =
      record {
        kept = ap length g ∙ simp (length-append, length-drop) (omega (arith, length-take-le (5 * k) out (omega (arith, w.kept)), w.kept));
        entries = λ f more. span-next rects rows columns numbered k h r e f (get_or array (step * k + from) 0) buffer out out' room (more k h) (w.entries f more) g;
      }

  pub spans-done : rects.count ≤ k → (f : grid.Rect → ℕ) → MoreIn f rects array step from
      → out ≡ over (table_entries f (lines_numbered rows) (lines_numbered columns) (rects_held rects)) buffer
  spans-done h f more =
      all-written (table_entry f (lines_numbered rows) (lines_numbered columns)) (rects_held rects) 0 buffer out k (rw length-rects h) (w.entries f more)
      ∙ rw zero-add

-- the left columns, as they stand in the rectangles
pub lefts-written : (rects : Rects) (rows columns : Numbering) (buffer out : List ℕ)
    → ((f : grid.Rect → ℕ) → MoreIn f rects rects.array.now 4 1 → out ≡ over (table_entries f (lines_numbered rows) (lines_numbered columns) (rects_held rects)) buffer)
    → out ≡ over (cell_entries (lines_numbered rows) (lines_numbered columns) (rects_held rects)) buffer
lefts-written rects rows columns buffer out written = written (λ r. r.left) (λ k h. refl)
