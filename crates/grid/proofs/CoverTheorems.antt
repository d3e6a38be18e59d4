-- Demand 2: the traced layout is the only cover of the grid by first bordered rectangles.
use Prim.Native.Nat.{ℕ, zero, suc, ◌+◌, ◌-◌, ◌≤◌, ◌<◌}
use mathlib.Core.Path.{◌≡◌, refl, sym, ap, ◌∙◌}
use mathlib.Core.Bool.{Bool, true, false, ◌||◌}
use mathlib.Core.Logic.{◌⊎◌, ◌↔◌, inl, inr, ⊎_elim}
use mathlib.Core.List.Permᴰ
use mathlib.Core.List.{List, [], ◌∷◌, Memᴰ, Permᴰ}
use native.Mathlib.Omega.{arith}
use lib.Dec.{leb}
use lib.ListN.{length, get_or-replicate}
use borrow.Author.Tests.{lt-leb, le-ltb, le-leb}
use Rattle.seq.specs.Lists.{neighbours}
use Rattle.seq.proofs.Tests.{bool-refused, le-or-lt, or_left, or_right, bit-false, lex-cases, lex-trans}
use Rattle.seq.proofs.Sorted.{Strict, sorted-same}
use Rattle.seq.proofs.Permutations.{without, perm-without, perm-length, perm-mem}
use Rattle.grid.specs.Limits.{max_cells}
use Rattle.grid.specs.Values.{Rect}
use Rattle.grid.specs.Slots.{Grid}
use Rattle.grid.specs.Trace.{covered, stopped, placed, raise, all_down, trace_from, trace}
use Rattle.grid.specs.Cover.{Cover, Small, ground, risen, Next, Placed, Stuck, Overfull, precedes}
use Rattle.grid.proofs.SkylineLaws.{found-next, Fits, fits-ground, fits-raise}
use Rattle.grid.proofs.TraceLaws.{trace-done, trace-full, trace-next, trace_from-covering, trace_from-stops, stuck-stops, overfull-stops, placed-ordered}
use Rattle.grid.proofs.CoverLaws.{under, CoverFrom, cover-before, cover-nothing, nothing_left, cover-next, cover-after}

-- ---- a drawing of at least two lines and two columns

record Sized (g : Grid) : Type 0 where
  tall : 1 < g.height
  wide : 1 < g.width

small-stops : (g : Grid) → leb g.height 1 || leb g.width 1 ≡ true → trace g ≡ stopped 6
unfolding trace
small-stops g e = rw e

-- A single line, or a drawing one column wide, is bool-refused with 6.
pub small-stopped : (g : Grid) → Small g → trace g ≡ stopped 6
small-stopped g small =
    ⊎_elim (λ (h : g.height ≤ 1). small-stops g (or_left (leb g.width 1) (le-leb g.height 1 h)))
    (λ (h : g.width ≤ 1). small-stops g (or_right (leb g.height 1) (le-leb g.width 1 h))) small

sized-traces : (g : Grid) → leb g.height 1 || leb g.width 1 ≡ false → trace g ≡ trace_from g max_cells (ground g)
unfolding trace
sized-traces g e = rw e

sized : (g : Grid) → Sized g ⊎ Small g
sized g =
    ⊎_elim (λ (h : g.height ≤ 1). inr (inl h))
    (λ (h : 1 < g.height). ⊎_elim (λ (k : g.width ≤ 1). inr (inr k)) (λ (k : 1 < g.width). inl (record { tall = h; wide = k })) (le-or-lt g.width 1))
    (le-or-lt g.height 1)

traced-sized : (g : Grid) → Sized g → trace g ≡ trace_from g max_cells (ground g)
traced-sized g s = sized-traces g (rw (lt-leb g.height 1 s.tall, lt-leb g.width 1 s.wide))

ground-under : (g : Grid) (y x : ℕ) → suc x < g.width → under (ground g) y x ≡ 0
ground-under g y x h = rw (get_or-replicate {A = ℕ} (g.width - 1) x 0 0 (omega arith)) (bit-false (le-ltb y 0 (omega arith)))

from-cover : {g : Grid} {rs : List Rect} → Cover g rs → CoverFrom g (ground g) rs
from-cover {g} {rs} cover = record { first = cover.first; once = λ y x hy hx. omega (arith, cover.once y x hy hx, ground-under g y x hx) }

to-cover : {g : Grid} {rs : List Rect} → Sized g → CoverFrom g (ground g) rs → Cover g rs
to-cover {g} s cover =
    record { tall = s.tall; wide = s.wide; first = cover.first; once = λ y x hy hx. omega (arith, cover.once y x hy hx, ground-under g y x hx) }

-- ---- from the rectangles placed to a cover

placed-cover : (g : Grid) (sky : List ℕ) (rs : List Rect) → Fits g sky → Placed g sky rs → all_down g (risen sky rs) ≡ true → CoverFrom g sky rs
unfolding risen
placed-cover g sky [] fits each down = cover-nothing fits down
placed-cover g sky (r ∷ rs) fits each down =
    cover-before fits each.0 (placed-cover g (raise r sky) rs (fits-raise fits each.0.first.bordered) each.1 down)

-- ---- from a cover to what tracing does

perm-nil : (cs : List Rect) → cs ≡ [] → Permᴰ [] cs
perm-nil [] e = Permᴰ.nil
perm-nil (c ∷ cs) e = absurd (let z : ◌≡◌ {A = ℕ} 0 1 = cc in omega arith)

-- where a cover has something left, tracing has a rectangle of it to place
data Left (g : Grid) (sky : List ℕ) (cs : List Rect) : Type 0 where
  nothing : all_down g sky ≡ true → cs ≡ [] → Left g sky cs
  something : (r : Rect) (m : Memᴰ r cs) → all_down g sky ≡ false → Next g sky r → CoverFrom g (raise r sky) (without m)
      → length cs ≡ suc (length (without m)) → Left g sky cs

left : {g : Grid} {sky : List ℕ} (cs : List Rect) → Fits g sky → CoverFrom g sky cs → Left g sky cs
left {g} {sky} cs fits cover = go (all_down g sky) refl where
  go : (t : Bool) → all_down g sky ≡ t → Left g sky cs
  go true e = nothing e (nothing_left fits cs cover e)
  go false e =
      let found = cover-next fits cs cover e in
      something found.0 found.1 e found.2 (cover-after fits cover found.1 found.2) (sym (perm-length (perm-without found.1)))

-- a cover of no more rectangles than there is room for is traced
cover-traces : (g : Grid) (room : ℕ) (sky : List ℕ) (cs : List Rect) → Fits g sky → CoverFrom g sky cs → length cs ≤ room
    → (rs : List Rect) × (trace_from g room sky ≡ covered rs) × Permᴰ rs cs
cover-traces g zero sky cs fits cover few = go (left cs fits cover) where
  go : Left g sky cs → (rs : List Rect) × (trace_from g zero sky ≡ covered rs) × Permᴰ rs cs
  go (nothing down empty) = ([], trace-done g sky zero down, perm-nil cs empty)
  go (something r m more next rest size) = absurd (omega arith)
cover-traces g (suc room) sky cs fits cover few = go (left cs fits cover) (λ r qs. cover-traces g room (raise r sky) qs) where
  go : Left g sky cs
      → ((r : Rect) (qs : List Rect) → Fits g (raise r sky) → CoverFrom g (raise r sky) qs → length qs ≤ room
      → (rs : List Rect) × (trace_from g room (raise r sky) ≡ covered rs) × Permᴰ rs qs)
      → (rs : List Rect) × (trace_from g (suc room) sky ≡ covered rs) × Permᴰ rs cs
  go (nothing down empty) later = ([], trace-done g sky (suc room) down, perm-nil cs empty)
  go (something r m more next rest size) later =
      let traced = later r (without m) (fits-raise fits next.first.bordered) rest (omega arith) in (
        r ∷ traced.0,
        trace-next g sky room r more (found-next next) ∙ ap (placed r) traced.1,
        Permᴰ.trans (Permᴰ.cons refl traced.2) (perm-without m),
      )

-- a cover of more rectangles than there is room for trace_from-stops tracing with 7
cover-overfull : (g : Grid) (room : ℕ) (sky : List ℕ) (cs : List Rect) → Fits g sky → CoverFrom g sky cs → room < length cs → trace_from g room sky ≡ stopped 7
cover-overfull g zero sky cs fits cover many = go (left cs fits cover) where
  go : Left g sky cs → trace_from g zero sky ≡ stopped 7
  go (nothing down empty) = absurd (omega (arith, ap length empty))
  go (something r m more next rest size) = trace-full g sky r more (found-next next)
cover-overfull g (suc room) sky cs fits cover many = go (left cs fits cover) (λ r qs. cover-overfull g room (raise r sky) qs) where
  go : Left g sky cs
      → ((r : Rect) (qs : List Rect) → Fits g (raise r sky) → CoverFrom g (raise r sky) qs → room < length qs → trace_from g room (raise r sky) ≡ stopped 7)
      → trace_from g (suc room) sky ≡ stopped 7
  go (nothing down empty) later = absurd (omega (arith, ap length empty))
  go (something r m more next rest size) later =
      trace-next g sky room r more (found-next next)
      ∙ ap (placed r) (later r (without m) (fits-raise fits next.first.bordered) rest (omega arith))

-- ---- demand 2

-- What tracing gives is a cover, of at most 1,024 rectangles, in order of top, then left.
pub traced-covers : (g : Grid) (rs : List Rect) → trace g ≡ covered rs → Cover g rs × (length rs ≤ 1024) × (neighbours precedes rs ≡ true)
traced-covers g rs e = ⊎_elim good (λ (small : Small g). absurd (let z : ◌≡◌ {A = ℕ} 0 1 = cc (small-stopped g small) in omega arith)) (sized g) where
  good : Sized g → Cover g rs × (length rs ≤ 1024) × (neighbours precedes rs ≡ true)
  good s =
      let fits = fits-ground g s.wide in
      let all = trace_from-covering g max_cells (ground g) rs (sym (traced-sized g s) ∙ e) in
      (to-cover s (placed-cover g (ground g) rs fits all.each all.down), all.few, placed-ordered g (ground g) rs fits all.each)

-- A cover of at most 1,024 rectangles, in whatever order, is what tracing gives, up to order.
pub cover-traced : (g : Grid) (cs : List Rect) → Cover g cs → length cs ≤ 1024 → (rs : List Rect) × (trace g ≡ covered rs) × Permᴰ rs cs
cover-traced g cs cover few =
    let s : Sized g = record { tall = cover.tall; wide = cover.wide } in
    let found = cover-traces g max_cells (ground g) cs (fits-ground g cover.wide) (from-cover cover) few in
    (found.0, traced-sized g s ∙ found.1, found.2)

pub precedes-strict : Strict precedes
precedes-strict =
    record {
      irreflexive = λ a.
          bool-refused (precedes a a)
          (λ e. ⊎_elim (λ (h : a.top < a.top). omega arith) (λ (h : (a.top ≡ a.top) × (a.left < a.left)). omega arith)
          (lex-cases a.top a.top a.left a.left e));
      transitive = λ a b c e f. lex-trans a.top b.top c.top a.left b.left c.left e f;
    }

-- So tracing gives a list of rectangles exactly where it is a cover of at most 1,024, in order of top, then left.
pub traced-exactly : (g : Grid) (rs : List Rect) → (trace g ≡ covered rs) ↔ (Cover g rs × (length rs ≤ 1024) × (neighbours precedes rs ≡ true))
traced-exactly g rs = (traced-covers g rs, back) where
  back : Cover g rs × (length rs ≤ 1024) × (neighbours precedes rs ≡ true) → trace g ≡ covered rs
  back h =
      let found = cover-traced g rs h.0 h.1 in
      let qs = found.0 in
      found.1
      ∙ ap covered
      (sorted-same precedes precedes-strict qs rs (traced-covers g qs found.1).2 h.2 (λ x m. perm-mem found.2 m)
      (λ x m. perm-mem (Permᴰ.symm found.2) m))

-- Two covers of one grid are the same up to order.
pub cover-unique : (g : Grid) (bs cs : List Rect) → Cover g bs → Cover g cs → Permᴰ bs cs
cover-unique g bs cs hb hc =
    let fits = fits-ground g hb.wide in
    let room = length bs + length cs in
    let b = cover-traces g room (ground g) bs fits (from-cover hb) (omega arith) in
    let c = cover-traces g room (ground g) cs fits (from-cover hc) (omega arith) in
    let same : b.0 ≡ c.0 = cc (b.1, c.1) in
    Permᴰ.trans (Permᴰ.symm (rw same at b.2)) c.2

-- A cover of more than 1,024 rectangles is bool-refused with 7.
pub many-stopped : (g : Grid) (cs : List Rect) → Cover g cs → 1024 < length cs → trace g ≡ stopped 7
many-stopped g cs cover many =
    traced-sized g (record { tall = cover.tall; wide = cover.wide }) ∙ cover-overfull g max_cells (ground g) cs (fits-ground g cover.wide) (from-cover cover) many

-- Where tracing trace_from-stops with 6 there is no cover, of any number of rectangles in any order.
pub stopped-no-cover : (g : Grid) (cs : List Rect) → trace g ≡ stopped 6 → Cover g cs → ⊥
stopped-no-cover g cs e cover = ⊎_elim few many (le-or-lt (length cs) 1024) where
  few : length cs ≤ 1024 → ⊥
  few h = let found = cover-traced g cs cover h in let z : ◌≡◌ {A = ℕ} 0 1 = cc found.1 in omega arith

  many : 1024 < length cs → ⊥
  many h = let z : ◌≡◌ {A = ℕ} 6 7 = cc (many-stopped g cs cover h) in omega arith

-- Tracing trace_from-stops with no other number than 6 and 7.
pub stopped-six-or-seven : (g : Grid) (number : ℕ) → trace g ≡ stopped number → (number ≡ 6) ⊎ (number ≡ 7)
stopped-six-or-seven g number e = ⊎_elim good (λ (small : Small g). inl (cc (small-stopped g small))) (sized g) where
  good : Sized g → (number ≡ 6) ⊎ (number ≡ 7)
  good s =
      ⊎_elim (λ (h : (number ≡ 6) × Stuck g max_cells (ground g)). inl h.0) (λ (h : (number ≡ 7) × Overfull g max_cells (ground g)). inr h.0)
      (trace_from-stops g max_cells (ground g) number (sym (traced-sized g s) ∙ e))

-- Tracing trace_from-stops with 6 exactly where the drawing is small, or where, after at most 1,024 rectangles placed, the leftmost lowest column
-- is above the last line and has none to place: no first bordered rectangle, or one that is not level.
pub stopped-six : (g : Grid) → (trace g ≡ stopped 6) ↔ (Small g ⊎ Stuck g 1024 (ground g))
stopped-six g = (there, ⊎_elim (small-stopped g) back) where
  there : trace g ≡ stopped 6 → Small g ⊎ Stuck g 1024 (ground g)
  there e =
      ⊎_elim (λ (s : Sized g).
      ⊎_elim (λ (h : (6 ≡ 6) × Stuck g max_cells (ground g)). inr h.1) (λ (h : (6 ≡ 7) × Overfull g max_cells (ground g)). absurd (omega arith))
      (trace_from-stops g max_cells (ground g) 6 (sym (traced-sized g s) ∙ e)))
      inl (sized g)

  back : Stuck g 1024 (ground g) → trace g ≡ stopped 6
  back h =
      ⊎_elim (λ (s : Sized g). traced-sized g s ∙ stuck-stops g max_cells (ground g) h.rectangles h.each h.few_enough h.not_down h.none_next)
      (small-stopped g) (sized g)

placed-sized : (g : Grid) (sky : List ℕ) (rs : List Rect) → Placed g sky rs → 0 < length rs → Sized g
placed-sized g sky [] each some-placed = absurd (omega arith)
placed-sized g sky (r ∷ rs) each some-placed =
    let h = each.0.first.bordered in
    record { tall = omega (arith, h.top_above_bottom, h.bottom_inside); wide = omega (arith, h.left_before_right, h.right_inside) }

-- Tracing trace_from-stops with 7 exactly where 1,024 rectangles are placed, each the first bordered one at the leftmost lowest column and level
-- there, and then a 1,025th is found that is such a one too.
pub stopped-seven : (g : Grid) → (trace g ≡ stopped 7) ↔ Overfull g 1024 (ground g)
stopped-seven g = (there, back) where
  there : trace g ≡ stopped 7 → Overfull g 1024 (ground g)
  there e =
      ⊎_elim (λ (s : Sized g).
      ⊎_elim (λ (h : (7 ≡ 6) × Stuck g max_cells (ground g)). absurd (omega arith)) (λ (h : (7 ≡ 7) × Overfull g max_cells (ground g)). h.1)
      (trace_from-stops g max_cells (ground g) 7 (sym (traced-sized g s) ∙ e)))
      (λ (small : Small g). absurd (let z : ◌≡◌ {A = ℕ} 6 7 = cc (small-stopped g small) in omega arith)) (sized g)

  back : Overfull g 1024 (ground g) → trace g ≡ stopped 7
  back h =
      traced-sized g (placed-sized g (ground g) h.rectangles h.each (omega (arith, h.one_more)))
      ∙ overfull-stops g max_cells (ground g) h.rectangles h.each h.one_more
