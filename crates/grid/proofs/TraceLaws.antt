-- What tracing placed when it ends: the turns of tracing, one by one.
use Prim.Native.Nat.{ℕ, zero, suc, ◌-◌, ◌≤◌, ◌<◌}
use mathlib.Core.Path.{◌≡◌, refl, sym, ap, ◌∙◌}
use mathlib.Core.Bool.{Bool, true, false}
use mathlib.Core.Logic.{◌⊎◌, inl, inr, ⊎_elim}
use mathlib.Core.Option.{Option, none, some}
use mathlib.Core.List.{List, [], ◌∷◌}
use native.Mathlib.Nat.{eq-or-lt_of_le}
use native.Mathlib.Omega.{arith}
use lib.ListN.{length, get_or}
use borrow.Author.Tests.{leb-false, lt-leb}
use Rattle.seq.specs.Lists.{neighbours}
use Rattle.seq.proofs.Tests.{and_intro, le-or-lt, lex-above, lex-beside}
use Rattle.grid.specs.Values.{Rect}
use Rattle.grid.specs.Slots.{Grid}
use Rattle.grid.specs.Trace.{Traced, covered, stopped, placed, lowest, raise, next_rect, all_down, trace_from}
use Rattle.grid.specs.Cover.{Bordered, Next, Placed, risen, precedes, Stuck, Overfull}
use Rattle.grid.proofs.SkylineLaws.{Corner, raise-before, raise-inside, raise-after, next-found, found-next, Fits, fits-corner, fits-raise}

-- ---- the turns

module _ (g : Grid) (sky : List ℕ) where
  pub trace-done : (room : ℕ) → all_down g sky ≡ true → trace_from g room sky ≡ covered []
  unfolding trace_from
  trace-done zero done = rw done
  trace-done (suc room) done = rw done

  pub trace-stuck : (room : ℕ) → all_down g sky ≡ false → next_rect g sky ≡ none → trace_from g room sky ≡ stopped 6
  unfolding trace_from
  trace-stuck zero more gone = rw (more, gone)
  trace-stuck (suc room) more gone = rw (more, gone)

  pub trace-full : (r : Rect) → all_down g sky ≡ false → next_rect g sky ≡ some r → trace_from g zero sky ≡ stopped 7
  unfolding trace_from
  trace-full r more found = rw (more, found)

  pub trace-next : (room : ℕ) (r : Rect) → all_down g sky ≡ false → next_rect g sky ≡ some r
      → trace_from g (suc room) sky ≡ placed r (trace_from g room (raise r sky))
  unfolding trace_from
  trace-next room r more found = rw (more, found)

  data Turn : Type 0 where
    ended : all_down g sky ≡ true → Turn
    halted : all_down g sky ≡ false → next_rect g sky ≡ none → Turn
    placing : (r : Rect) → all_down g sky ≡ false → next_rect g sky ≡ some r → Turn

  turn : Turn
  turn = go (all_down g sky) refl (next_rect g sky) refl where
    go : (t : Bool) → all_down g sky ≡ t → (o : Option Rect) → next_rect g sky ≡ o → Turn
    go true e o f = ended e
    go false e none f = halted e f
    go false e (some r) f = placing r e f

-- ---- how tracing ends

placed-covered : (r : Rect) (t : Traced) (rs : List Rect) → placed r t ≡ covered rs → (qs : List Rect) × (t ≡ covered qs) × (rs ≡ r ∷ qs)
placed-covered r (covered qs) rs e = (qs, refl, cc)
placed-covered r (stopped number) rs e = absurd (let z : ◌≡◌ {A = ℕ} 0 1 = cc in omega arith)

placed-stopped : (r : Rect) (t : Traced) (number : ℕ) → placed r t ≡ stopped number → t ≡ stopped number
placed-stopped r (covered qs) number e = absurd (let z : ◌≡◌ {A = ℕ} 0 1 = cc in omega arith)
placed-stopped r (stopped n) number e = e

module _ (g : Grid) (room : ℕ) (sky : List ℕ) where
  no-next : all_down g sky ≡ false → next_rect g sky ≡ none → Stuck g room sky
  unfolding risen
  no-next more gone =
      record {
        rectangles = [];
        each = tt;
        few_enough = omega arith;
        not_down = leb-false (g.height - 1) (lowest sky) more;
        none_next = λ r next. let z : ◌≡◌ {A = ℕ} 0 1 = cc (found-next next) in omega arith;
      }

  stuck-before : {r : Rect} → Next g sky r → Stuck g room (raise r sky) → Stuck g (suc room) sky
  unfolding risen
  stuck-before {r} next rest =
      record {
        rectangles = r ∷ rest.rectangles;
        each = (next, rest.each);
        few_enough = omega (arith, rest.few_enough);
        not_down = rest.not_down;
        none_next = rest.none_next;
      }

  overfull-before : {r : Rect} → Next g sky r → Overfull g room (raise r sky) → Overfull g (suc room) sky
  overfull-before {r} next rest = record { rectangles = r ∷ rest.rectangles; each = (next, rest.each); one_more = ap suc rest.one_more }

-- tracing covered: all were placed, one after another, and left the skyline on the last line
pub record Covering (g : Grid) (room : ℕ) (sky : List ℕ) (rs : List Rect) : Type 0 where
  pub each : Placed g sky rs
  pub few : length rs ≤ room
  pub down : all_down g (risen sky rs) ≡ true

finished : (g : Grid) (room : ℕ) (sky : List ℕ) (rs : List Rect) → trace_from g room sky ≡ covered rs → all_down g sky ≡ true → Covering g room sky rs
unfolding risen
finished g room sky rs e d =
    let empty : [] ≡ rs = cc (trace-done g sky room d) in
    rw (← empty) (record { each = tt; few = omega arith; down = d })

placed-more : (g : Grid) (room : ℕ) (sky : List ℕ) (rs : List Rect) {r : Rect} → Next g sky r → Covering g room (raise r sky) rs
    → Covering g (suc room) sky (r ∷ rs)
unfolding risen
placed-more g room sky rs next rest = record { each = (next, rest.each); few = omega (arith, rest.few); down = rest.down }

pub trace_from-covering : (g : Grid) (room : ℕ) (sky : List ℕ) (rs : List Rect) → trace_from g room sky ≡ covered rs → Covering g room sky rs
trace_from-covering g zero sky rs e = go (turn g sky) where
  go : Turn g sky → Covering g zero sky rs
  go (ended d) = finished g zero sky rs e d
  go (halted more gone) = absurd (let z : ◌≡◌ {A = ℕ} 0 1 = cc (trace-stuck g sky zero more gone) in omega arith)
  go (placing r more found) = absurd (let z : ◌≡◌ {A = ℕ} 0 1 = cc (trace-full g sky r more found) in omega arith)
trace_from-covering g (suc room) sky rs e = go (turn g sky) (λ r. trace_from-covering g room (raise r sky)) where
  go : Turn g sky → ((r : Rect) (qs : List Rect) → trace_from g room (raise r sky) ≡ covered qs → Covering g room (raise r sky) qs)
      → Covering g (suc room) sky rs
  go (ended d) rest = finished g (suc room) sky rs e d
  go (halted more gone) rest = absurd (let z : ◌≡◌ {A = ℕ} 0 1 = cc (trace-stuck g sky (suc room) more gone) in omega arith)
  go (placing r more found) rest =
      let split = placed-covered r (trace_from g room (raise r sky)) rs (sym (trace-next g sky room r more found) ∙ e) in
      rw split.2 (placed-more g room sky split.0 (next-found found) (rest r split.0 split.1))

-- tracing trace_from-stops with 6 or 7, at what these stand for
pub trace_from-stops : (g : Grid) (room : ℕ) (sky : List ℕ) (number : ℕ) → trace_from g room sky ≡ stopped number
    → ((number ≡ 6) × Stuck g room sky) ⊎ ((number ≡ 7) × Overfull g room sky)
trace_from-stops g zero sky number e = go (turn g sky) where
  go : Turn g sky → ((number ≡ 6) × Stuck g zero sky) ⊎ ((number ≡ 7) × Overfull g zero sky)
  go (ended d) = absurd (let z : ◌≡◌ {A = ℕ} 0 1 = cc (trace-done g sky zero d) in omega arith)
  go (halted more gone) = inl (cc (trace-stuck g sky zero more gone), no-next g zero sky more gone)
  go (placing r more found) = inr (cc (trace-full g sky r more found), record { rectangles = r ∷ []; each = (next-found found, tt); one_more = refl })
trace_from-stops g (suc room) sky number e = go (turn g sky) (λ r. trace_from-stops g room (raise r sky) number) where
  go : Turn g sky
      → ((r : Rect) → trace_from g room (raise r sky) ≡ stopped number
      → ((number ≡ 6) × Stuck g room (raise r sky)) ⊎ ((number ≡ 7) × Overfull g room (raise r sky)))
      → ((number ≡ 6) × Stuck g (suc room) sky) ⊎ ((number ≡ 7) × Overfull g (suc room) sky)
  go (ended d) rest = absurd (let z : ◌≡◌ {A = ℕ} 0 1 = cc (trace-done g sky (suc room) d) in omega arith)
  go (halted more gone) rest = inl (cc (trace-stuck g sky (suc room) more gone), no-next g (suc room) sky more gone)
  go (placing r more found) rest =
      let later = placed-stopped r (trace_from g room (raise r sky)) number (sym (trace-next g sky room r more found) ∙ e) in
      ⊎_elim (λ (h : (number ≡ 6) × Stuck g room (raise r sky)). inl (h.0, stuck-before g room sky (next-found found) h.1))
      (λ (h : (number ≡ 7) × Overfull g room (raise r sky)). inr (h.0, overfull-before g room sky (next-found found) h.1)) (rest r later)

-- where a rectangle is next to place, the skyline is not yet on the last line
next-not-down : {g : Grid} {sky : List ℕ} {r : Rect} → Next g sky r → all_down g sky ≡ false
next-not-down {g} {sky} {r} next =
    lt-leb (g.height - 1) (lowest sky)
    (omega (arith, next.at_lowest, next.first.bordered.top_above_bottom, next.first.bordered.bottom_inside))

-- rectangles placed, and then none to place: tracing trace_from-stops with 6
pub stuck-stops : (g : Grid) (room : ℕ) (sky : List ℕ) (rs : List Rect) → Placed g sky rs → length rs ≤ room → lowest (risen sky rs) < g.height - 1
    → ((r : Rect) → Next g (risen sky rs) r → ⊥) → trace_from g room sky ≡ stopped 6
unfolding risen
stuck-stops g room sky [] each few higher none-next = trace-stuck g sky room (lt-leb (g.height - 1) (lowest sky) higher) (nothing (next_rect g sky) refl) where
  nothing : (o : Option Rect) → next_rect g sky ≡ o → next_rect g sky ≡ none
  nothing none e = e
  nothing (some r) e = absurd (none-next r (next-found e))
stuck-stops g zero sky (r ∷ rs) each few higher none-next = absurd (omega arith)
stuck-stops g (suc room) sky (r ∷ rs) each few higher none-next =
    trace-next g sky room r (next-not-down each.0) (found-next each.0)
    ∙ ap (placed r) (stuck-stops g room (raise r sky) rs each.1 (omega arith) higher none-next)

-- room rectangles placed and one more to place: tracing trace_from-stops with 7
pub overfull-stops : (g : Grid) (room : ℕ) (sky : List ℕ) (rs : List Rect) → Placed g sky rs → length rs ≡ suc room → trace_from g room sky ≡ stopped 7
overfull-stops g room sky [] each more = absurd (omega arith)
overfull-stops g zero sky (r ∷ rs) each more = trace-full g sky r (next-not-down each.0) (found-next each.0)
overfull-stops g (suc room) sky (r ∷ rs) each more =
    trace-next g sky room r (next-not-down each.0) (found-next each.0) ∙ ap (placed r) (overfull-stops g room (raise r sky) rs each.1 (omega arith))

-- ---- order

next-precedes : {g : Grid} {sky : List ℕ} {q r : Rect} → Fits g sky → Next g sky q → Next g (raise q sky) r → precedes q r ≡ true
next-precedes {g} {sky} {q} {r} fits first then = ⊎_elim from-left before (le-or-lt q.left r.left) where
  hq : Bordered g q
  hq = first.first.bordered

  reach : q.right ≤ length sky
  reach = omega (arith, hq.right_inside, fits.columns)

  c : Corner sky
  c = fits-corner fits

  stands : get_or (raise q sky) r.left 0 ≡ r.top
  stands = then.level r.left (omega arith) then.first.bordered.left_before_right

  before : r.left < q.left → precedes q r ≡ true
  before h =
      lex-above q.top r.top q.left r.left (omega (arith, stands, raise-before q sky hq.left_before_right reach r.left h, c.first r.left (omega (arith, first.at_leftmost)), first.at_lowest))

  onto : q.left ≤ r.left → r.left < q.right → precedes q r ≡ true
  onto a b = lex-above q.top r.top q.left r.left (omega (arith, stands, raise-inside q sky hq.left_before_right reach r.left a b, hq.top_above_bottom))

  after : q.right ≤ r.left → precedes q r ≡ true
  after h =
      let right_of : q.left < r.left = omega (arith, hq.left_before_right) in
      let same = raise-after q sky hq.left_before_right reach r.left h in
      let inside : r.left < length sky = omega (arith, then.first.bordered.left_before_right, then.first.bordered.right_inside, fits.columns) in
      let low : q.top ≤ r.top = omega (arith, stands, same, c.lowest-of r.left inside, first.at_lowest) in
      ⊎_elim (λ (e : q.top ≡ r.top). lex-beside q.top r.top q.left r.left e right_of) (λ (k : q.top < r.top). lex-above q.top r.top q.left r.left k) (eq-or-lt_of_le low)

  from-left : q.left ≤ r.left → precedes q r ≡ true
  from-left a = ⊎_elim after (onto a) (le-or-lt q.right r.left)

-- rectangles are placed in order of top, then left
pub placed-ordered : (g : Grid) (sky : List ℕ) (rs : List Rect) → Fits g sky → Placed g sky rs → neighbours precedes rs ≡ true
unfolding neighbours
placed-ordered g sky [] fits each = refl
placed-ordered g sky (q ∷ []) fits each = refl
placed-ordered g sky (q ∷ r ∷ rs) fits each =
    and_intro (next-precedes fits each.0 each.1.0) (placed-ordered g (raise q sky) (r ∷ rs) (fits-raise fits each.0.first.bordered) each.1)
