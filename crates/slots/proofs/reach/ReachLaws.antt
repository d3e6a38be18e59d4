-- Laws of specs/Reaching.antt: what the code that fills the reach arrays has done so far.
use Prim.Native.Nat.{ℕ, ◌+◌, ◌*◌, ◌-◌, ◌≤◌, ◌<◌}
use mathlib.Core.Path.{◌≡◌, refl, sym, ap, ◌∙◌}
use mathlib.Core.Bool.{Bool, true, false, ◌&&◌, ◌||◌, cond}
use mathlib.Core.List.{List}
use mathlib.Core.Logic.{⊎_elim}
use native.Mathlib.Omega.{arith}
use native.Mathlib.Nat.{eq-or-lt_of_le}
use lib.ListN.{length, get_or, set, replicate, length-set, length-replicate, get_or-replicate}
use lib.Seq.{get_or-set_same, get_or-set_other}
use Rattle.seq.proofs.Tests.{true-not-false, and_left, and_right, and_intro, or-neither}
use Rattle.grid.specs.Slots.{horizontal, vertical}
use Rattle.representation.specs.Arrays.{code_at, code_glyph, Roomy}
use Rattle.representation.specs.Reach.{ReachRight, ReachDown}
use Rattle.slots.specs.Reaching.{RunsFrom, RightRuns, DownRuns, joins_below, NoRun, LineRight, LineOf, Stepped, LineRoom}
use Rattle.slots.proofs.reach.RunLaws.{runs_none, runs-self, runs_same, runs_on, runs-off}

-- ---- glyphs as numbers
-- ---- runs of a line: no two of the first x columns are one
pub record RunSoFar (y : ℕ) (glyphs : List ℕ) (x : ℕ) (any : Bool) : Type 0 where
  pub some : 1 ≤ x
  pub none : any ≡ false → NoRun x y glyphs

pub run-next : (y : ℕ) (glyphs : List ℕ) (x : ℕ) (any here next : Bool) → RunSoFar y glyphs x any
    → here ≡ horizontal (code_glyph (get_or glyphs (y * 128 + x - 1) 0)) → next ≡ horizontal (code_glyph (get_or glyphs (y * 128 + x) 0))
    → RunSoFar y glyphs (x + 1) (any || here && next)
run-next y glyphs x any here next so_far is-here is-next =
    record {
      some = omega arith;
      none = λ e k h.
          ⊎_elim (λ (q : k + 1 ≡ x). pair k q (or-neither any (here && next) e).1) (λ (past : k + 1 < x). so_far.none (or-neither any (here && next) e).0 k past)
          (eq-or-lt_of_le (let q : k + 1 ≤ x = omega arith in q));
    } where
      pair : (k : ℕ) → k + 1 ≡ x → here && next ≡ false
          → horizontal (code_glyph (code_at glyphs y k)) && horizontal (code_glyph (code_at glyphs y (k + 1))) ≡ false
      pair k q e =
          let before : y * 128 + x - 1 ≡ y * 128 + k = omega arith in
          rw (q, ← before, ← is-here, ← is-next) e

-- ---- a line of an array, slot by slot
-- ---- to the right: columns from x on are written
pub record RightSoFar (width y : ℕ) (glyphs right₀ right : List ℕ) (x last : ℕ) (goes_on : Bool) : Type 0 where
  pub inside : x ≤ width
  pub kept : length right ≡ length right₀
  pub above : (i : ℕ) → i < y * 128 → get_or right i 0 ≡ get_or right₀ i 0
  pub runs : RightRuns width y x glyphs right
  pub last_is : x < width → last ≡ code_at right y x
  pub goes_on_is : x < width → goes_on ≡ horizontal (code_glyph (code_at glyphs y x))
  pub ends : x ≡ width → goes_on ≡ false

pub right-starts : (width y : ℕ) (glyphs right : List ℕ) → RightSoFar width y glyphs right right width 0 false
unfolding RightRuns
right-starts width y glyphs right =
    record {
      inside = omega arith;
      kept = refl;
      above = λ i h. refl;
      runs = runs_none width (λ k. horizontal (code_glyph (code_at glyphs y k))) (λ k. code_at right y k);
      last_is = λ h. absurd (omega arith);
      goes_on_is = λ h. absurd (omega arith);
      ends = λ h. refl;
    }

module _ (width y : ℕ) (glyphs right₀ right : List ℕ) (x last : ℕ) (goes_on : Bool) (so_far : RightSoFar width y glyphs right₀ right x last goes_on)
    (room : LineRoom width y glyphs right₀) (some : 0 < x) (here : Bool) (last' : ℕ)
    (is : here ≡ horizontal (code_glyph (get_or glyphs (y * 128 + (x - 1)) 0))) (picked : last' ≡ cond (here && goes_on) last (x - 1)) where
  right-same : (i : ℕ) → (i ≡ y * 128 + (x - 1) → ⊥) → get_or (set right (y * 128 + (x - 1)) last') i 0 ≡ get_or right i 0
  right-same i apart = get_or-set_other right (y * 128 + (x - 1)) i last' 0 apart

  right-here : get_or (set right (y * 128 + (x - 1)) last') (y * 128 + (x - 1)) 0 ≡ last'
  right-here = get_or-set_same right (y * 128 + (x - 1)) last' 0 (omega arith)

  back : x ≡ x - 1 + 1
  back = omega arith

  right-runs : RightRuns width y (x - 1) glyphs (set right (y * 128 + (x - 1)) last')
  unfolding RightRuns
  right-runs = go (here && goes_on) refl where
    go : (t : Bool) → here && goes_on ≡ t → RunsFrom (x - 1) width (λ k. horizontal (code_glyph (code_at glyphs y k))) (λ k. code_at (set right (y * 128 + (x - 1)) last') y k)
    go true e =
        ⊎_elim (λ (q : x ≡ width). absurd (true-not-false (sym (and_right here goes_on e) ∙ so_far.ends q)))
        (λ (h : x < width).
        runs_on (rw back at so_far.runs) (omega arith) (λ k past to. right-same (y * 128 + k) (λ q. omega arith)) (omega arith)
        (sym is ∙ and_left here goes_on e) (rw (← back) (sym (so_far.goes_on_is h) ∙ and_right here goes_on e))
        (right-here ∙ (rw e at picked) ∙ so_far.last_is h ∙ ap (λ (k : ℕ). code_at right y k) back))
        (eq-or-lt_of_le so_far.inside)
    go false e =
        runs-off (rw back at so_far.runs) (omega arith) (λ k past to. right-same (y * 128 + k) (λ q. omega arith))
        (λ h a b. true-not-false (sym (and_intro (is ∙ a) (so_far.goes_on_is (omega arith) ∙ (rw (← back) at b))) ∙ e)) (right-here ∙ (rw e at picked))

  pub right-next : RightSoFar width y glyphs right₀ (set right (y * 128 + (x - 1)) last') (x - 1) last' here
  right-next =
      record {
        inside = omega arith;
        kept = simp length-set so_far.kept;
        above = λ i h. right-same i (λ e. omega arith) ∙ so_far.above i h;
        runs = right-runs;
        last_is = λ h. sym right-here;
        goes_on_is = λ h. is;
        ends = λ h. absurd (omega arith);
      }

pub right-self : (width y : ℕ) (glyphs right right' : List ℕ) (any : Bool) → (any ≡ false → NoRun width y glyphs) → any ≡ false
    → LineOf width y (λ x. x) right right' → LineRight width y glyphs right right'
unfolding RightRuns
right-self width y glyphs right right' any none e line = record { kept = line.kept; above = line.above; runs = runs-self (none e) line.slots }

-- the lines above y are written
pub record RightRows (height width : ℕ) (glyphs right₀ right : List ℕ) (y : ℕ) : Type 0 where
  pub inside : y ≤ height
  pub kept : length right ≡ length right₀
  pub rows : (k : ℕ) → k < y → RightRuns width k 0 glyphs right

pub rows_start : (height width : ℕ) (glyphs right : List ℕ) → RightRows height width glyphs right right 0
rows_start height width glyphs right = record { inside = omega arith; kept = refl; rows = λ k h. absurd (omega arith) }

module _ (height width : ℕ) (glyphs right₀ right : List ℕ) (y : ℕ) (room : Roomy height width glyphs right₀)
    (so_far : RightRows height width glyphs right₀ right y) where
  pub right-room : y < height → LineRoom width y glyphs right
  right-room h = record { width_fits = omega arith; glyph_room = omega arith; array_room = omega arith }

  pub rows_next : (right' : List ℕ) → y < height → LineRight width y glyphs right right' → RightRows height width glyphs right₀ right' (y + 1)
  unfolding RightRuns
  rows_next right' h line =
      record {
        inside = omega arith;
        kept = line.kept ∙ so_far.kept;
        rows = λ k below.
            ⊎_elim (λ (e : k ≡ y). rw e line.runs)
            (λ (above : k < y). runs_same (so_far.rows k above) (λ x low high. line.above (k * 128 + x) (omega arith)))
            (eq-or-lt_of_le (let q : k ≤ y = omega arith in q));
      }

  pub rows_end : height ≤ y → ReachRight height width glyphs right
  unfolding RightRuns
  rows_end h =
      record {
        self = λ k x inside. (so_far.rows k (omega arith)).self x (omega arith);
        inside = λ k x inside. (so_far.rows k (omega arith)).inside x (omega arith);
        run = λ k x e inside. (so_far.rows k (omega arith)).run x e (omega arith);
        whole = λ k x e inside. (so_far.rows k (omega arith)).whole x e (omega arith);
      }

-- ---- down
-- the lines from y on are written
pub record DownRows (height width : ℕ) (glyphs down₀ down ends : List ℕ) (y : ℕ) : Type 0 where
  pub inside : y < height
  pub kept : length down ≡ length down₀
  pub size : length ends ≡ 128
  pub ends_are : (x : ℕ) → x < width → get_or ends x 0 ≡ code_at down y x
  pub columns : (x : ℕ) → x < width → DownRuns height x y glyphs down

pub columns-start : (height width : ℕ) (glyphs down₀ down : List ℕ) → (height ≡ 0 → ⊥) → width ≤ 128
    → LineOf width (height - 1) (λ x. get_or (replicate 128 (height - 1)) x 0) down₀ down → DownRows height width glyphs down₀ down (replicate 128 (height - 1)) (height - 1)
unfolding DownRuns
columns-start height width glyphs down₀ down some narrow line =
    record {
      inside = omega arith;
      kept = line.kept;
      size = length-replicate {A = ℕ} 128 (height - 1);
      ends_are = λ x h. sym (line.slots x h);
      columns = λ x h.
          runs-off (none x) (omega arith) (λ k past to. refl) (λ past. absurd (omega arith)) (line.slots x h ∙ get_or-replicate 128 x (height - 1) 0 (omega arith));
    } where
      none : (x : ℕ) → RunsFrom (height - 1 + 1) height (λ k. vertical (code_glyph (code_at glyphs k x))) (λ k. code_at down k x)
      none x = let e : height ≡ height - 1 + 1 = omega arith in rw (← e) (runs_none height (λ k. vertical (code_glyph (code_at glyphs k x))) (λ k. code_at down k x))

module _ (height width : ℕ) (glyphs down₀ down ends : List ℕ) (y : ℕ) (so_far : DownRows height width glyphs down₀ down ends y) where
  pub columns-next : (down' ends' : List ℕ) → width ≤ 128 → 0 < y → Stepped width (y - 1) glyphs ends ends' → LineOf width (y - 1) (λ x. get_or ends' x 0) down down'
      → DownRows height width glyphs down₀ down' ends' (y - 1)
  unfolding DownRuns
  columns-next down' ends' narrow some stepped line =
      record {
        inside = omega arith;
        kept = line.kept ∙ so_far.kept;
        size = stepped.kept ∙ so_far.size;
        ends_are = λ x h. sym (line.slots x h);
        columns = λ x h. column x h (vertical (code_glyph (code_at glyphs (y - 1) x))) (vertical (code_glyph (code_at glyphs (y - 1 + 1) x))) refl refl;
      } where
        back : y ≡ y - 1 + 1
        back = omega arith

        later : (x : ℕ) → x < width → RunsFrom (y - 1 + 1) height (λ k. vertical (code_glyph (code_at glyphs k x))) (λ k. code_at down k x)
        later x h = rw back at (so_far.columns x h)

        same : (x : ℕ) → x < width → (k : ℕ) → y - 1 < k → k < height → code_at down' k x ≡ code_at down k x
        same x h k past to = line.below (k * 128 + x) (omega arith)

        below : (x : ℕ) → (y - 1) * 128 + x + 128 ≡ (y - 1 + 1) * 128 + x
        below x = omega arith

        step : (x : ℕ) → x < width
            → code_at down' (y - 1) x ≡ cond (vertical (code_glyph (code_at glyphs (y - 1) x)) && vertical (code_glyph (code_at glyphs (y - 1 + 1) x))) (code_at down (y - 1 + 1) x) (y - 1)
        step x h = rw (← (below x)) (line.slots x h ∙ stepped.steps x h ∙ ap (λ (e : ℕ). cond (joins_below glyphs ((y - 1) * 128 + x)) e (y - 1)) (so_far.ends_are x h ∙ there x)) where
          there : (x : ℕ) → code_at down y x ≡ get_or down ((y - 1) * 128 + x + 128) 0
          there x = let e : y * 128 + x ≡ (y - 1) * 128 + x + 128 = omega arith in rw e

        column : (x : ℕ) → x < width → (t u : Bool) → vertical (code_glyph (code_at glyphs (y - 1) x)) ≡ t → vertical (code_glyph (code_at glyphs (y - 1 + 1) x)) ≡ u
            → RunsFrom (y - 1) height (λ k. vertical (code_glyph (code_at glyphs k x))) (λ k. code_at down' k x)
        column x h true true e f = runs_on (later x h) (omega arith) (same x h) (omega arith) e f (step x h ∙ rw (e, f))
        column x h true false e f = runs-off (later x h) (omega arith) (same x h) (λ next a b. true-not-false (sym b ∙ f)) (step x h ∙ rw (e, f))
        column x h false u e f = runs-off (later x h) (omega arith) (same x h) (λ next a b. true-not-false (sym a ∙ e)) (step x h ∙ rw e)

  pub columns-end : y ≤ 0 → ReachDown height width glyphs down
  unfolding DownRuns
  columns-end h =
      record {
        self = λ k x high inside. (so_far.columns x inside).self k (omega arith) high;
        inside = λ k x high inside. (so_far.columns x inside).inside k (omega arith) high;
        run = λ k x e high inside. (so_far.columns x inside).run k e (omega arith) high;
        whole = λ k x e inside. (so_far.columns x inside).whole k e (omega arith);
      }
