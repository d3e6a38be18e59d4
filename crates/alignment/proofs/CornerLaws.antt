-- Laws of marking corners.
use Prim.Native.Nat.{ℕ, ◌+◌, ◌*◌, ◌≤◌, ◌<◌}
use mathlib.Core.Path.{◌≡◌, refl, ap, ◌∙◌}
use mathlib.Core.Bool.{Bool, true, false, ◌||◌, cond}
use mathlib.Core.List.{List, [], ◌∷◌}
use native.Mathlib.Nat.{zero-add}
use native.Mathlib.Omega.{arith}
use lib.Dec.{eqb}
use lib.ListN.{length, get_or, set, replicate, length-set, length-replicate, get_or-replicate}
use lib.Seq.{get_or-set_same, get_or-set_other}
use borrow.Author.Tests.{eqb-true, eqb-false}
use mir.Syntax.{w64}
use mir.Val.{Fits}
use borrow.Author.Rules.{Fits-under}
use Rattle.seq.specs.Lists.{range, up_to, any}
use Rattle.seq.proofs.Gathered.{range-step}
use Rattle.seq.proofs.Walks.{any_append, or-false, or_assoc}
use Rattle.drawing.specs.Plain.{is_edge}
use Rattle.alignment.specs.Corners.{corner_of, any_corner, Markable, Cornered}

-- a mark more: what was marked, and a
mark-at : (marks : List ℕ) (a x : ℕ) → a < length marks → (t : Bool) → get_or marks x 0 ≡ cond t 1 0 → get_or (set marks a 1) x 0 ≡ cond (t || eqb x a) 1 0
mark-at marks a x h t e = go (eqb x a) refl where
  go : (u : Bool) → eqb x a ≡ u → get_or (set marks a 1) x 0 ≡ cond (t || eqb x a) 1 0
  go true f = rw (f, eqb-true x a f) (get_or-set_same marks a 1 0 h ∙ all t) where
    all : (t : Bool) → ◌≡◌ {A = ℕ} 1 (cond (t || true) 1 0)
    all true = refl
    all false = refl
  go false f = rw (f, or-false t) (get_or-set_other marks a x 1 0 (eqb-false x a f) ∙ e)

module _ (cells : List ℕ) (n line : ℕ) where
  -- the corners of the first k cells are marked
  pub record Marking (marks : List ℕ) (k : ℕ) : Type 0 where
    pub given : Markable cells n
    pub cornered : Cornered cells k line marks

  pub none-marked : Markable cells n → Marking (replicate 128 0) 0
  unfolding range any
  none-marked given =
      record { given = given; cornered = record { room = length-replicate {A = ℕ} 128 0; marked = λ x h. get_or-replicate 128 x 0 0 h } }

  module _ {marks : List ℕ} {k : ℕ} (m : Marking marks k) where
    corner-more : (x : ℕ) → any_corner cells (k + 1) line x ≡ any_corner cells k line x || corner_of cells line x k
    unfolding any
    corner-more x =
        rw (range-step 0 k, zero-add k) (any_append (corner_of cells line x) (up_to k) (k ∷ [])) ∙ ap (λ (t : Bool). any_corner cells k line x || t) (or-false (corner_of cells line x k))

    module _ (h : k < n) where
      pub right-small : get_or cells (5 * k + 1) 0 + get_or cells (5 * k + 2) 0 < 128
      right-small = m.given.near k h

      pub left-small : get_or cells (5 * k + 1) 0 < 128
      left-small = omega (arith, right-small)

      pub right-fits : Fits w64 (get_or cells (5 * k + 1) 0 + get_or cells (5 * k + 2) 0)
      right-fits = Fits-under w64 (get_or cells (5 * k + 1) 0 + get_or cells (5 * k + 2) 0) 128 right-small tt

      pub bottom-fits : Fits w64 (get_or cells (5 * k) 0 + get_or cells (5 * k + 3) 0)
      bottom-fits = Fits-under w64 (get_or cells (5 * k) 0 + get_or cells (5 * k + 3) 0) 128 (m.given.low k h) tt

      pub both-marked : {marks' : List ℕ} → is_edge (get_or cells (5 * k) 0) (get_or cells (5 * k) 0 + get_or cells (5 * k + 3) 0) line ≡ true
          → marks' ≡ set (set marks (get_or cells (5 * k + 1) 0) 1) (get_or cells (5 * k + 1) 0 + get_or cells (5 * k + 2) 0) 1 → Marking marks' (k + 1)
      both-marked edge e =
          let left = get_or cells (5 * k + 1) 0 in
          let right = left + get_or cells (5 * k + 2) 0 in
          let room = m.cornered.room in
          rw e (record {
            given = m.given;
            cornered =
                record {
                  room = length-set (set marks left 1) right 1 ∙ length-set marks left 1 ∙ room;
                  marked = λ x l.
                      rw (corner-more x, edge, ← or_assoc (any_corner cells k line x) (eqb x left) (eqb x right))
                      (mark-at (set marks left 1) right x (omega (arith, length-set marks left 1, room, right-small)) (any_corner cells k line x || eqb x left)
                      (mark-at marks left x (omega (arith, room, left-small)) (any_corner cells k line x) (m.cornered.marked x l)));
                };
          })

      pub none_more : {marks' : List ℕ} → is_edge (get_or cells (5 * k) 0) (get_or cells (5 * k) 0 + get_or cells (5 * k + 3) 0) line ≡ false → marks' ≡ marks → Marking marks' (k + 1)
      none_more edge e =
          rw e (record {
            given = m.given;
            cornered = record { room = m.cornered.room; marked = λ x l. rw (corner-more x, edge, or-false (any_corner cells k line x)) (m.cornered.marked x l) };
          })

    pub all-marked : k ≤ n → n ≤ k → Cornered cells n line marks
    all-marked low high = let e : k ≡ n = omega arith in rw (← e) m.cornered
