-- What the answer for one cell asks of its parts, and its returns.
use Prim.Native.Nat.{ℕ, ◌*◌, ◌-◌, ◌≤◌, ◌<◌}
use mathlib.Core.Path.{◌≡◌, sym, ◌∙◌, subst}
use mathlib.Core.Bool.{true, false}
use mathlib.Core.List.{List, Memᴰ}
use native.Mathlib.Omega.{arith}
use lib.Dec.{ltb}
use lib.ListN.{length}
use mir.Syntax.{w64}
use mir.Val.{Fits}
use borrow.Author.Rules.{Fits-under}
use borrow.Author.Tests.{lt-ltb, le-ltb, le-leb, lt-leb}
use Rattle.seq.proofs.Positions.{get_or-mem}
use Rattle.grid.specs.Answer.{accept, refuse, over}
use Rattle.grid.specs.Values.{Rect}
use Rattle.grid.specs.CutCall.{CutNumbers}
use Rattle.representation.specs.Arrays.{rects_of, rect_in}
use Rattle.grid.specs.TableCall.{cut_array}
use Rattle.representation.specs.TableParts.{cuts_answer_of, cuts_count_of, cuts_array_of}
use Rattle.representation.proofs.RectsLaws.{length-rects, get_or-rects}
use Rattle.cell.specs.Text.{source_in, no_rect, Framed}
use Rattle.cell.specs.Cuts.{cuts_of}
use Rattle.cell.proofs.cuts.WriteLaws.{length-cuts, length-entries}
use Rattle.cell.specs.Answer.{cell_count_of, cell_array_of}
use Rattle.cell.proofs.FrameLaws.{traced-framed}
use Rattle.reading.specs.Call.{SheetArrays, TracedSheet}
use Rattle.reading.specs.declared.Reading.{Reading}

pub rect-held : (rects : List ℕ) (n k : ℕ) → k < n → Memᴰ (rect_in rects k) (rects_of n rects)
rect-held rects n k h = rw (get_or-rects n k rects no_rect h) at (get_or-mem (rects_of n rects) k no_rect (rw length-rects h))

pub cell_count_of-past : (n k : ℕ) (cuts : List CutNumbers) (out : List ℕ) → n ≤ k → (refuse 13 0 ≡ cell_count_of n k cuts out) × (out ≡ cell_array_of n k cuts out)
cell_count_of-past n k cuts out past = (rw (le-leb n k past), rw (le-leb n k past))

-- ---- a cell of a traced drawing
module _ (a : SheetArrays) (o : Reading) (t : TracedSheet a o) (starts₀ : List ℕ) (k : ℕ) (before : k < o.cells) {r : Rect} (held : r ≡ rect_in a.rects k) where
  abbrev cuts : Rect → List CutNumbers
  cuts r = cuts_of (source_in a starts₀) r

  pub cutting-framed : (starts : List ℕ) → Framed (source_in a starts) r
  cutting-framed starts =
      subst (λ (r : Rect). Framed (source_in a starts) r) (sym held) (traced-framed a o t starts (rect_in a.rects k) (rect-held a.rects o.cells k before))

  pub cutting-ordered : r.top ≤ r.bottom
  cutting-ordered = omega (arith, (cutting-framed starts₀).inside.down)

  pub cutting-some : 1 ≤ r.bottom - r.top
  cutting-some = omega (arith, (cutting-framed starts₀).inside.down)

  pub cutting-fits : Fits w64 (4 * (r.bottom - r.top - 1))
  cutting-fits = Fits-under w64 (4 * (r.bottom - r.top - 1)) 512 (omega (arith, (cutting-framed starts₀).inside.tall)) tt

  module _ (out : List ℕ) where
    pub cell_count_of-short : length out < 4 * (r.bottom - r.top - 1)
        → (refuse 12 0 ≡ cell_count_of o.cells k (cuts (rect_in a.rects k)) out) × (out ≡ cell_array_of o.cells k (cuts (rect_in a.rects k)) out)
    unfolding cuts_count_of cuts_array_of cuts_answer_of
    cell_count_of-short short =
        let test : ltb (length out) (length (cut_array (cuts r))) ≡ true =
        lt-ltb (length out) (length (cut_array (cuts r))) (omega (arith, length-entries (source_in a starts₀) r)) in
        subst (λ (r : Rect). (refuse 12 0 ≡ cell_count_of o.cells k (cuts r) out) × (out ≡ cell_array_of o.cells k (cuts r) out)) held
        (rw (lt-leb o.cells k before, test), rw (lt-leb o.cells k before, test))

    pub cell_count_of-written : 4 * (r.bottom - r.top - 1) ≤ length out → (after : List ℕ) → after ≡ over (cut_array (cuts r)) out
        → (accept (r.bottom - r.top - 1) ≡ cell_count_of o.cells k (cuts (rect_in a.rects k)) out) × (after ≡ cell_array_of o.cells k (cuts (rect_in a.rects k)) out)
    unfolding cuts_count_of cuts_array_of cuts_answer_of
    cell_count_of-written room after told =
        let test : ltb (length out) (length (cut_array (cuts r))) ≡ false =
        le-ltb (length out) (length (cut_array (cuts r))) (omega (arith, length-entries (source_in a starts₀) r)) in
        subst (λ (q : Rect). (accept (r.bottom - r.top - 1) ≡ cell_count_of o.cells k (cuts q) out) × (after ≡ cell_array_of o.cells k (cuts q) out)) held
        (rw (lt-leb o.cells k before, test, length-cuts (source_in a starts₀) r), told ∙ rw (lt-leb o.cells k before, test))
