-- `Tiles g fs`: bordered rectangles in order that hold each square of a grid once. Where all are first ones they are what is traced
-- (`tiles-traced`). Beside a cover: tiles from the start that are first ones are in it (`tiles-first-traced`), and where the next tile
-- gives way to another first one at its corner, the cover begins with those tiles and that one (`tiles-prefix`).
use Prim.Native.Nat.{ℕ, suc, ◌≤◌, ◌<◌}
use mathlib.Core.Path.{◌≡◌, refl, sym, ap, subst, ◌∙◌}
use mathlib.Core.Bool.{true}
use mathlib.Core.Logic.{◌⊎◌, inl, inr, ⊎_elim}
use mathlib.Core.List.Memᴰ
use mathlib.Core.List.{List, [], ◌∷◌, ◌++◌, append_assoc, append-nil, Memᴰ}
use native.Mathlib.Omega.{arith}
use lib.ListN.{length}
use Rattle.seq.specs.Lists.{select, count, neighbours}
use Rattle.seq.proofs.Tests.{lex-above, lex-beside, lex-cases}
use Rattle.seq.proofs.Searches.{count-pick, count-one, select-mem, mem-select}
use Rattle.seq.proofs.Sorted.{sorted-behind, sorted_front, sorted_head, sorted-same, sorted-across, sorted-split}
use Rattle.seq.proofs.Rising.{select-sorted}
use Rattle.grid.specs.Values.{Rect}
use Rattle.grid.specs.Slots.{Grid}
use Rattle.grid.specs.Trace.{covered, trace}
use Rattle.grid.specs.Cover.{Bordered, First, Cover, holds, precedes}
use Rattle.grid.proofs.RectangleLaws.{first-unique}
use Rattle.grid.proofs.SkylineLaws.{Inside, inside-holds, holds-inside}
use Rattle.grid.proofs.CoverLaws.{own-corner}
use Rattle.grid.proofs.CoverTheorems.{precedes-strict, traced-exactly}
use Rattle.grid.proofs.LayoutLaws.{cover-holder, same-holder}

pub record Tiles (g : Grid) (fs : List Rect) : Type 0 where
  pub tall : 1 < g.height
  pub wide : 1 < g.width
  pub each : (q : Rect) → Memᴰ q fs → Bordered g q
  pub once : (y x : ℕ) → suc y < g.height → suc x < g.width → count (holds y x) fs ≡ 1
  pub ordered : neighbours precedes fs ≡ true

-- where all are first ones, they are what is traced
pub tiles-traced : {g : Grid} {fs : List Rect} → Tiles g fs → length fs ≤ 1024 → ((q : Rect) → Memᴰ q fs → First g q) → trace g ≡ covered fs
tiles-traced {g} {fs} T few first = (traced-exactly g fs).1 (record { tall = T.tall; wide = T.wide; first = first; once = T.once }, few, T.ordered)

module _ {g : Grid} {fs rs : List Rect} (T : Tiles g fs) (cover : Cover g rs) where
  -- the tile that holds a square
  tile : (y x : ℕ) → suc y < g.height → suc x < g.width → (q : Rect) × Memᴰ q fs × Inside y x q
  tile y x u w = let (q, m, e) = count-pick (holds y x) fs (omega (arith, T.once y x u w)) in (q, m, inside-holds y x q e)

  same-tile : {q r : Rect} {y x : ℕ} → suc y < g.height → suc x < g.width → Memᴰ q fs → Memᴰ r fs → Inside y x q → Inside y x r → q ≡ r
  same-tile {q} {r} {y} {x} u w m n i j =
      count-one (holds y x) (T.once y x u w) m n (holds-inside i.below i.above i.after i.before) (holds-inside j.below j.above j.after j.before)

  module _ (pre post : List Rect) (q : Rect) (e : fs ≡ pre ++ q ∷ post) where
    sorted : neighbours precedes (pre ++ q ∷ post) ≡ true
    sorted = subst (λ (l : List Rect). neighbours precedes l ≡ true) e T.ordered

    in-fs : {c : Rect} → Memᴰ c (pre ++ q ∷ post) → Memᴰ c fs
    in-fs {c} m = subst (λ (l : List Rect). Memᴰ c l) (sym e) m

    q-in : Memᴰ q fs
    q-in = in-fs (Memᴰ.append_right pre (Memᴰ.head refl))

    -- where a tile stands
    data Where (c : Rect) : Type 0 where
      before : Memᴰ c pre → Where c
      here : c ≡ q → Where c
      after : precedes q c ≡ true → Where c

    whereabouts : {c : Rect} → Memᴰ c fs → Where c
    whereabouts {c} m = go (Memᴰ.append_cases pre (subst (λ (l : List Rect). Memᴰ c l) e m)) where
      later : Memᴰ c (q ∷ post) → Where c
      later (Memᴰ.head r) = here r
      later (Memᴰ.tail n) = after (sorted_head precedes precedes-strict q post (sorted-behind precedes pre (q ∷ post) sorted) n)

      go : Memᴰ c pre ⊎ Memᴰ c (q ∷ post) → Where c
      go (inl n) = before n
      go (inr n) = later n

    module _ (early : (c : Rect) → Memᴰ c pre → Memᴰ c rs) where
      -- the traced rectangle that holds a tile's corner has its corner there, once all tiles before it are traced
      corner-rect : (r : Rect) × Memᴰ r rs × (r.top ≡ q.top) × (r.left ≡ q.left)
      corner-rect =
          let hq = T.each q q-in in
          let (r, m, i) = cover-holder cover q.top q.left (omega (arith, hq.top_above_bottom, hq.bottom_inside)) (omega (arith, hq.left_before_right, hq.right_inside)) in
          let k = corners r m i in
          (r, m, k.0, k.1) where
            corners : (r : Rect) → Memᴰ r rs → Inside q.top q.left r → (r.top ≡ q.top) × (r.left ≡ q.left)
            corners r m i =
                let hr = (cover.first r m).bordered in
                let (c, n, k) = tile r.top r.left (omega (arith, hr.top_above_bottom, hr.bottom_inside)) (omega (arith, hr.left_before_right, hr.right_inside)) in
                go c n k (whereabouts n) where
                  go : (c : Rect) → Memᴰ c fs → Inside r.top r.left c → Where c → (r.top ≡ q.top) × (r.left ≡ q.left)
                  go c n k (before p) =
                      let hr = (cover.first r m).bordered in
                      let hq = T.each q q-in in
                      let same : c ≡ r =
                      same-holder cover (early c p) m (omega (arith, hr.top_above_bottom, hr.bottom_inside)) (omega (arith, hr.left_before_right, hr.right_inside)) k (own-corner hr) in
                      let again : c ≡ q =
                      same-tile (omega (arith, hq.top_above_bottom, hq.bottom_inside)) (omega (arith, hq.left_before_right, hq.right_inside)) n q-in
                      (subst (λ (z : Rect). Inside q.top q.left z) (sym same) i) (own-corner hq) in
                      (ap (λ (z : Rect). z.top) (sym same ∙ again), ap (λ (z : Rect). z.left) (sym same ∙ again))
                  go c n k (here p) = (omega (arith, k.below, i.below, ap (λ (z : Rect). z.top) p), omega (arith, k.after, i.after, ap (λ (z : Rect). z.left) p))
                  go c n k (after p) =
                      absurd
                      (⊎_elim (λ (h : q.top < c.top). omega (arith, k.below, i.below)) (λ (h : (q.top ≡ c.top) × (q.left < c.left)). omega (arith, k.after, i.after))
                      (lex-cases q.top c.top q.left c.left p))

      -- a first one at that corner is traced
      corner-traced : {p : Rect} → First g p → p.top ≡ q.top → p.left ≡ q.left → Memᴰ p rs
      corner-traced {p} f t l =
          let (r, m, a, b) = corner-rect in
          subst (λ (z : Rect). Memᴰ z rs) (first-unique (cover.first r m) f (a ∙ sym t) (b ∙ sym l)) m

      -- so what is traced before it are exactly the tiles before it
      module _ {p : Rect} (f : First g p) (t : p.top ≡ q.top) (l : p.left ≡ q.left) where
        earlier : (a : Rect) → Memᴰ a rs → precedes a p ≡ true → Memᴰ a pre
        earlier a m h =
            let ha = (cover.first a m).bordered in
            let (c, n, k) = tile a.top a.left (omega (arith, ha.top_above_bottom, ha.bottom_inside)) (omega (arith, ha.left_before_right, ha.right_inside)) in
            go c k (whereabouts n) where
              above : (a.top < q.top) ⊎ ((a.top ≡ q.top) × (a.left < q.left))
              above =
                  ⊎_elim (λ (h : a.top < p.top). inl (omega arith)) (λ (h : (a.top ≡ p.top) × (a.left < p.left)). inr (omega arith, omega arith))
                  (lex-cases a.top p.top a.left p.left h)

              go : (c : Rect) → Inside a.top a.left c → Where c → Memᴰ a pre
              go c k (before i) =
                  let ha = (cover.first a m).bordered in
                  let same : c ≡ a =
                  same-holder cover (early c i) m (omega (arith, ha.top_above_bottom, ha.bottom_inside)) (omega (arith, ha.left_before_right, ha.right_inside)) k (own-corner ha) in
                  subst (λ (z : Rect). Memᴰ z pre) same i
              go c k (here i) =
                  absurd
                  (⊎_elim (λ u. omega (arith, k.below, ap (λ (z : Rect). z.top) i)) (λ u. omega (arith, k.after, ap (λ (z : Rect). z.left) i)) above)
              go c k (after i) =
                  absurd
                  (⊎_elim (λ (w : q.top < c.top). ⊎_elim (λ u. omega (arith, k.below)) (λ u. omega (arith, k.below)) above)
                  (λ (w : (q.top ≡ c.top) × (q.left < c.left)). ⊎_elim (λ u. omega (arith, k.below)) (λ u. omega (arith, k.after)) above)
                  (lex-cases q.top c.top q.left c.left i))

        pre-precedes : (a : Rect) → Memᴰ a pre → precedes a p ≡ true
        pre-precedes a m =
            ⊎_elim (λ (h : a.top < q.top). lex-above a.top p.top a.left p.left (omega arith))
            (λ (h : (a.top ≡ q.top) × (a.left < q.left)). lex-beside a.top p.top a.left p.left (omega arith) (omega arith))
            (lex-cases a.top q.top a.left q.left (sorted-across precedes precedes-strict pre post q sorted m))

        -- what is traced begins with the tiles before it and that one
        pub tiles-prefix : neighbours precedes rs ≡ true → (more : List Rect) × (rs ≡ pre ++ p ∷ more)
        tiles-prefix order =
            let (more, parts) = sorted-split precedes precedes-strict rs order (corner-traced f t l) in
            let same : select (λ a. precedes a p) rs ≡ pre =
            sorted-same precedes precedes-strict (select (λ a. precedes a p) rs) pre (select-sorted precedes precedes-strict (λ a. precedes a p) rs order) (sorted_front precedes pre (q ∷ post) sorted)
            (λ a m. let (n, h) = select-mem (λ a. precedes a p) rs m in earlier a n h) (λ a m. mem-select (λ a. precedes a p) (early a m) (pre-precedes a m)) in
            (more, parts ∙ ap (λ (z : List Rect). z ++ p ∷ more) same)

  -- tiles from the start that are all first ones are traced
  early-traced : (done todo post : List Rect) → fs ≡ done ++ (todo ++ post) → ((c : Rect) → Memᴰ c done → Memᴰ c rs) → ((c : Rect) → Memᴰ c todo → First g c)
      → (c : Rect) → Memᴰ c (done ++ todo) → Memᴰ c rs
  early-traced done [] post e early first c m = early c (subst (λ (l : List Rect). Memᴰ c l) (append-nil done) m)
  early-traced done (q ∷ todo) post e early first c m =
      early-traced (done ++ q ∷ []) todo post (e ∙ sym (append_assoc done (q ∷ []) (todo ++ post))) more (λ d n. first d (Memᴰ.tail n)) c
      (subst (λ (l : List Rect). Memᴰ c l) (sym (append_assoc done (q ∷ []) todo)) m) where
        more : (d : Rect) → Memᴰ d (done ++ q ∷ []) → Memᴰ d rs
        more d n = go (Memᴰ.append_cases done n) where
          last : Memᴰ d (q ∷ []) → Memᴰ d rs
          last (Memᴰ.head r) = subst (λ (z : Rect). Memᴰ z rs) (sym r) (corner-traced done (todo ++ post) q e early (first q (Memᴰ.head refl)) refl refl)
          last (Memᴰ.tail k) = absurd (Memᴰ.not-nil k)

          go : Memᴰ d done ⊎ Memᴰ d (q ∷ []) → Memᴰ d rs
          go (inl k) = early d k
          go (inr k) = last k

  pub tiles-first-traced : (pre rest : List Rect) → fs ≡ pre ++ rest → ((c : Rect) → Memᴰ c pre → First g c) → (c : Rect) → Memᴰ c pre → Memᴰ c rs
  tiles-first-traced pre rest e first c m = early-traced [] pre rest e (λ d n. absurd (Memᴰ.not-nil n)) first c m
