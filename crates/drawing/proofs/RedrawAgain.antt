-- `redraw-again`: what redraw accepts, read back and redrawn at the same origin, is the same drawing.
use Prim.Native.Nat.{ℕ}
use mathlib.Core.Path.{◌≡◌, refl, sym, ap, ◌∙◌}
use mathlib.Core.List.{List}
use Rattle.grid.specs.Answer.{accept}
use Rattle.grid.specs.Values.{Line, Table}
use Rattle.grid.specs.Read.{read_table}
use Rattle.grid.proofs.AnswerLaws.{accept-same}
use Rattle.drawing.specs.Plain.{drawn}
use Rattle.drawing.specs.Redraw.{redraw}
use Rattle.drawing.specs.RoundTrip.{Keeps, ReadsBack}
use Rattle.drawing.proofs.LimitLaws.{table_too_large-parts}
use Rattle.drawing.proofs.CanvasLaws.{Fine}
use Rattle.drawing.proofs.GlyphRows.{drawn-lines}
use Rattle.drawing.proofs.CellsBack.{Unsplit}
use Rattle.drawing.proofs.SectionsBack.{Headed, foot_without_head-headed, rules-below}
use Rattle.drawing.proofs.ReadsBack.{read_back, drawing-reads, alignments-kept, split_cell-unsplit}
use Rattle.drawing.proofs.WidthsBack.{read_back-drawn}
use Rattle.drawing.proofs.RoundTrip.{keeps-fine, Passes, accepted-passes}
use Rattle.drawing.proofs.Exact.{accepted-exactly}
use Rattle.drawing.proofs.RedrawRead.{read_kept}

-- What is read back from an accepted drawing is drawn as that drawing.
back-drawn : (o : ℕ) (t : Table) → Passes o t → (w : Table) → read_table (drawn o t) ≡ accept w → drawn o w ≡ drawn o t
back-drawn o t p w e =
    let F : Fine t = keeps-fine p.keeps in
    let unsplit : Unsplit F o = split_cell-unsplit F o p.unsplit in
    let k : Headed F o = foot_without_head-headed F o p.headed in
    let read = ap read_table (drawn-lines o t) ∙ drawing-reads F o unsplit (rules-below F o k) p.not_too_large in
    let same : read_back F o unsplit ≡ w = accept-same (sym read ∙ e) in
    ap (drawn o) (sym same) ∙ read_back-drawn F o unsplit k (alignments-kept t p.aligned)

-- What redraw accepts, read back and redrawn at the same origin, is the same drawing, byte for byte.
pub redraw-again : (o : ℕ) (t u : Table) (d : List Line) → redraw o t ≡ accept d → read_table d ≡ accept u → redraw o u ≡ accept d
redraw-again o t u d a r =
    let (p, q) = accepted-passes o t d a in
    let z : drawn o u ≡ d = back-drawn o t p u (ap read_table (sym q) ∙ r) ∙ sym q in
    let k : Keeps o u = read_kept d u r o (table_too_large-parts o t p.keeps.not_too_large).0 in
    let again : ReadsBack o u = (u, ap read_table z ∙ r, refl) in
    (accepted-exactly o u k).1 again ∙ ap accept z
