-- The borders of cells between borders that rise, and the canvas that is drawn of them.
use Prim.Native.Nat.{ℕ, ◌-◌, ◌≤◌, ◌<◌}
use mathlib.Core.Path.{◌≡◌, refl, sym, ap, subst, ◌∙◌}
use mathlib.Core.Bool.{cond}
use mathlib.Core.Logic.{⊎_elim}
use mathlib.Core.List.{List, [], map, Memᴰ}
use native.Mathlib.Omega.{arith}
use native.Mathlib.Nat.{le_refl, eq-or-lt_of_le}
use lib.Dec.{eqb}
use lib.ListN.{get_or}
use Rattle.std.specs.Prelude.{Option, Some, None}
use Rattle.seq.proofs.Positions.{mem-get_or, get_d_map}
use Rattle.grid.specs.Values.{Rect, TableCell}
use Rattle.grid.specs.Flat.{cells_of_array}
use Rattle.representation.specs.Arrays.{rects_of}
use Rattle.representation.specs.LayoutEntries.{Inside}
use Rattle.representation.specs.TableIn.{no_cell, cell_in}
use Rattle.representation.proofs.TableInLaws.{cells_at, cells-length}
use Rattle.representation.proofs.RectsLaws.{length-rects}
use Rattle.drawing.specs.Plain.{Canvas, box_of, corner_at, next_corner}
use Rattle.canvas.specs.Frames.{Placeable}
use Rattle.canvas.specs.Painting.{is_ruled}
use Rattle.canvas.specs.Picture.{Drawable, Pictured}
use Rattle.canvas.specs.declared.Rules.{Rules}
use Rattle.cm.specs.Sketch.{Plan, Planned, Sketched, rules_at}

pub rules-made : (heads foots rows : ℕ) (ys : List ℕ) (h f l : Option ℕ) → h ≡ cond (eqb heads 0) None (Some (get_or ys heads 0))
    → f ≡ cond (eqb foots 0) None (Some (get_or ys (rows - foots) 0)) → l ≡ cond (eqb foots 0) None (Some (get_or ys rows 0)) → record { head = h; foot = f; last = l } ≡ rules_at heads foots rows ys
rules-made heads foots rows ys h f l p q r = rw (p, q, r) refl

module _ {p : Plan} (P : Planned p) (near : get_or p.xs p.columns 0 < 128) (low : get_or p.ys p.rows 0 < 128) where
  x-low : (i : ℕ) → i ≤ p.columns → get_or p.xs i 0 < 128
  x-low i u = ⊎_elim (λ (e : i ≡ p.columns). rw e near) (λ w. omega (arith, P.across i p.columns w (le_refl _))) (eq-or-lt_of_le u)

  y-low : (i : ℕ) → i ≤ p.rows → get_or p.ys i 0 < 128
  y-low i u = ⊎_elim (λ (e : i ≡ p.rows). rw e low) (λ w. omega (arith, P.down i p.rows w (le_refl _))) (eq-or-lt_of_le u)

  pub cells-placeable : (k : ℕ) → k < p.n → Placeable p.cells p.xs p.ys k
  cells-placeable k u =
      let n = P.near k u in
      let l = P.low k u in
      record {
        rows = omega (arith, P.few_rows);
        columns = omega (arith, P.few_columns);
        top = y-low _ (omega arith);
        left = x-low _ (omega arith);
        bottom = y-low _ l;
        right = x-low _ n;
      }

  pub row_low : get_or p.ys p.heads 0 < 128
  row_low = y-low p.heads P.few_heads

  module _ (rects : List ℕ) (placed : (lines : List (List ℕ)) → rects_of p.n rects ≡ map (λ (c : TableCell). (box_of p.xs p.ys c).frame) (cells_of_array p.n p.cells lines)) where
    pub rects-inside : (r : Rect) → Memᴰ r (rects_of p.n rects) → Inside 128 128 r
    unfolding box_of
    rects-inside r m =
        let (k, u, e) = mem-get_or (record { top = 0; left = 0; bottom = 0; right = 0 }) m in
        let few : k < p.n = omega (arith, length-rects p.n rects) in
        let cells = cells_of_array p.n p.cells [] in
        let c : get_or cells k no_cell ≡ cell_in p.cells [] k = cells_at p.n p.cells [] k no_cell few in
        let f : r ≡ (box_of p.xs p.ys (cell_in p.cells [] k)).frame =
        sym e ∙ ap (λ (l : List Rect). get_or l k (record { top = 0; left = 0; bottom = 0; right = 0 })) (placed [])
        ∙ get_d_map (λ (c : TableCell). (box_of p.xs p.ys c).frame) cells k (record { top = 0; left = 0; bottom = 0; right = 0 }) no_cell (omega (arith, cells-length p.n p.cells []))
        ∙ ap (λ (c : TableCell). (box_of p.xs p.ys c).frame) c in
        let b = P.broad k few in
        let t = P.tall k few in
        subst (Inside 128 128) (sym f)
        (record {
          down = P.down _ _ (omega arith) (P.low k few);
          across = P.across _ _ (omega arith) (P.near k few);
          tall = y-low _ (P.low k few);
          wide = x-low _ (P.near k few);
        })

    -- what the canvas asks for
    pub sketch-drawable : (rules : Rules) → rules ≡ rules_at p.heads p.foots p.rows p.ys → (v : Canvas) → Sketched v p
        → Drawable v p.n rects rules p.cols p.columns p.xs p.marks (get_or p.ys p.heads 0)
    sketch-drawable rules is v S =
        record {
          lined = S.lined;
          frames = S.framed ∙ sym (placed S.lines);
          ruled = λ y u. S.ruled y u ∙ ap (λ (r : Rules). is_ruled r y) (sym is);
          aligned = S.aligned;
          columned = S.columned;
          stand = S.stand;
          marked = λ k u. ap (λ (y : ℕ). corner_at v y (get_or p.xs k 0)) S.aligned ∙ S.marked k u;
          next = λ k u e. ap (λ (y : ℕ). next_corner v y (get_or p.xs k 0)) S.aligned ∙ S.next k u;
        }

    pub frames-pictured : (rules : Rules) (canvas : List ℕ) → rules ≡ rules_at p.heads p.foots p.rows p.ys
        → ((v : Canvas) → Drawable v p.n rects rules p.cols p.columns p.xs p.marks (get_or p.ys p.heads 0) → Pictured v p.n rects canvas)
        → (v : Canvas) → Sketched v p → Pictured v p.n rects canvas
    frames-pictured rules canvas is drawn v S = drawn v (sketch-drawable rules is v S)
