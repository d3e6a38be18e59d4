-- Laws of marked edges and of the lines collected from them.
use Prim.Native.Nat.{ℕ, zero, suc, ◌+◌, ◌*◌, ◌≤◌, ◌<◌}
use mathlib.Core.Path.{◌≡◌, refl, sym, ap, ◌∙◌}
use mathlib.Core.Bool.{Bool, true, false, ◌||◌}
use mathlib.Core.Logic.{⊎_elim}
use mathlib.Core.List.{List, [], ◌∷◌, ◌++◌, Memᴰ, append-nil}
use native.Mathlib.Omega.{arith}
use native.Mathlib.Nat.{eq-or-lt_of_le, zero-add}
use native.Mathlib.Numerals.{add-one}
use lib.Dec.{eqb, ltb}
use lib.ListN.{length, drop, get_or, set, replicate, length-set, length-append, length-replicate, get_or-replicate}
use lib.Seq.{get_or-drop, get_or-take, get_or-set_same, get_or-set_other, take-suc-set}
use borrow.Author.Tests.{eqb-true, eqb-false, lt-ltb, le-ltb}
use Rattle.seq.specs.Lists.{range, up_to, any, select}
use Rattle.seq.proofs.Gathered.{range-more, select-append}
use Rattle.seq.proofs.Walks.{or_assoc, or-middle, any_append, select-agree, select-all}
use Rattle.representation.proofs.RectsLaws.{any-every_nth, any-edge}
use Rattle.representation.specs.declared.Bounds.{Bounds}
use Rattle.seq.proofs.Ranges.{range-mem}
use Rattle.seq.proofs.Searches.{select-mem}
use Rattle.seq.proofs.Positions.{get_or-mem}
use Rattle.seq.proofs.Rising.{rising-strict, range-rises, select-sorted, rising-get_or}
use Rattle.grid.specs.Values.{Rect}
use Rattle.grid.specs.Layout.{index_of}
use Rattle.representation.specs.Arrays.{rects_of}
use Rattle.representation.specs.declared.rects.Rects.{Rects}
use Rattle.grid.specs.Flat.{every_nth}
use Rattle.representation.specs.Edges.{edge_list, Collected, row_lines_below, column_lines_below}
use Rattle.layout.specs.Marked.{EdgesMarked, marked_below, LinesCollected}

-- ---- marks
-- nothing is marked at first
pub marks-none : (rects : List ℕ) (from : ℕ) → EdgesMarked (edge_list 0 from rects) (replicate 128 false)
unfolding every_nth any
marks-none rects from = record { room = length-replicate {A = Bool} 128 false; marked = λ x h. get_or-replicate 128 x false false h }

-- a mark more: what was marked, and x
mark-at : (marks : List Bool) (a x : ℕ) → a < length marks → (t : Bool) → get_or marks x false ≡ t → get_or (set marks a true) x false ≡ t || eqb x a
mark-at marks a x h t e = go (eqb x a) refl where
  go : (u : Bool) → eqb x a ≡ u → get_or (set marks a true) x false ≡ t || eqb x a
  go true f = rw (f, eqb-true x a f) (get_or-set_same marks a true false h ∙ all t) where
    all : (t : Bool) → true ≡ t || true
    all true = refl
    all false = refl
  go false f = rw f (get_or-set_other marks a x true false (eqb-false x a f) ∙ e ∙ same t) where
    same : (t : Bool) → t ≡ t || false
    same true = refl
    same false = refl

edge_more : (x k from : ℕ) (rects : List ℕ)
    → any (eqb x) (edge_list (k + 1) from rects) ≡ any (eqb x) (edge_list k from rects) || eqb x (get_or rects (4 * k + from) 0) || eqb x (get_or rects (4 * k + from + 2) 0)
edge_more x k from rects =
    let e : from + 4 * k ≡ 4 * k + from = omega arith in
    let f : from + 2 + 4 * k ≡ 4 * k + from + 2 = omega arith in
    any_append (eqb x) (every_nth 4 (k + 1) (drop from rects)) (every_nth 4 (k + 1) (drop (from + 2) rects))
    ∙ rw (any-every_nth x k (drop from rects), any-every_nth x k (drop (from + 2) rects), get_or-drop from rects, get_or-drop (from + 2) rects, e, f)
    (or-middle (any (eqb x) (every_nth 4 k (drop from rects))) (eqb x (get_or rects (4 * k + from) 0)) (any (eqb x) (every_nth 4 k (drop (from + 2) rects))) (eqb x (get_or rects (4 * k + from + 2) 0))
    ∙ rw any_append (simp or_assoc))

-- an edge of a rectangle is less than 128
module _ (rects : Rects) (k from : ℕ) (h : k < rects.count) (g : from < 2) where
  pub first_small : get_or rects.array.now (4 * k + from) 0 < 128
  first_small = rects.low (4 * k + from) (omega arith)

  pub second-small : get_or rects.array.now (4 * k + from + 2) 0 < 128
  second-small = rects.low (4 * k + from + 2) (omega arith)

-- both edges of one more rectangle
pub marks-next : (rects : List ℕ) (from k : ℕ) (marks : List Bool) → EdgesMarked (edge_list k from rects) marks
    → get_or rects (4 * k + from) 0 < 128 → get_or rects (4 * k + from + 2) 0 < 128
    → EdgesMarked (edge_list (k + 1) from rects) (set (set marks (get_or rects (4 * k + from) 0) true) (get_or rects (4 * k + from + 2) 0) true)
marks-next rects from k marks m h g =
    let (a, b) : ℕ × ℕ = (get_or rects (4 * k + from) 0, get_or rects (4 * k + from + 2) 0) in
    record {
      room = simp length-set m.room;
      marked = λ x l. rw (edge_more x k from rects)
          (mark-at (set marks a true) b x (simp length-set (omega (arith, m.room))) (any (eqb x) (edge_list k from rects) || eqb x a)
          (mark-at marks a x (omega (arith, m.room)) (any (eqb x) (edge_list k from rects)) (m.marked x l)));
    }

-- ---- the lines collected
pub collected-none : (marks : List Bool) (lines index : List ℕ) → length lines ≡ 128 → length index ≡ 128
    → LinesCollected (marked_below marks 0) 0 lines index 0
unfolding range select
collected-none marks lines index e f =
    record { room = e; index_room = f; counted = refl; few = omega arith; listed = refl; indexed = λ x h. absurd (omega arith) }

-- the number of a later line is unchanged, and that of x is how many came before it
module _ (list index : List ℕ) (x : ℕ) (before : (y : ℕ) → Memᴰ y list → y < x) where
  all-before : index_of list x ≡ length list
  unfolding index_of
  all-before = ap length (select-all (λ line. ltb line x) list (λ y m. lt-ltb y x (before y m)))

  index_kept : (y : ℕ) → y < x + 1 → index_of (list ++ x ∷ []) y ≡ index_of list y
  unfolding index_of select
  index_kept y l = rw (select-append (λ line. ltb line y) list (x ∷ []), le-ltb x y (omega arith), append-nil)

  index-more : x < length index → ((y : ℕ) → y < x → get_or index y 0 ≡ index_of list y) → (y : ℕ) → y < x + 1 → get_or (set index x (length list)) y 0 ≡ index_of list y
  index-more h old y l = ⊎_elim
      (λ (e : y ≡ x). rw e (get_or-set_same index x (length list) 0 h ∙ sym all-before))
      (λ (g : y < x). get_or-set_other index x y (length list) 0 (λ e. omega arith) ∙ old y g) (eq-or-lt_of_le (omega arith))

  module _ (lines : List ℕ) (count : ℕ) (h : x < 128) (c : LinesCollected list x lines index count) where
    numbered : (y : ℕ) → y < x + 1 → get_or (set index x count) y 0 ≡ index_of list y
    numbered = rw c.counted (index-more (omega (arith, c.index_room)) c.indexed)

    line_kept : LinesCollected list (x + 1) lines (set index x count) count
    line_kept =
        record {
          room = c.room;
          index_room = length-set index x count ∙ c.index_room;
          counted = c.counted;
          few = omega (arith, c.few);
          listed = c.listed;
          indexed = numbered;
        }

    line-added : LinesCollected (list ++ x ∷ []) (x + 1) (set lines count x) (set index x count) (count + 1)
    line-added =
        record {
          room = length-set lines count x ∙ c.room;
          index_room = length-set index x count ∙ c.index_room;
          counted = omega (arith, c.counted, length-append list (x ∷ []));
          few = omega (arith, c.few);
          listed = rw (add-one count) (take-suc-set lines count x (omega (arith, c.room, c.few)) ∙ rw c.listed);
          indexed = λ y l. numbered y l ∙ sym (index_kept y l);
        }

-- ---- a mark at x is a line more
module _ (marks : List Bool) (lines index : List ℕ) (count x size : ℕ) (h : x < size) (small : size ≤ 128)
    (c : LinesCollected (marked_below marks x) x lines index count) where
  before : (y : ℕ) → Memᴰ y (marked_below marks x) → y < x
  before y m = omega (arith, range-mem 0 x y (select-mem (λ x. get_or marks x false) (up_to x) m).0)

  below_more : marked_below marks (x + 1) ≡ marked_below marks x ++ select (λ x. get_or marks x false) (x ∷ [])
  below_more = rw (add-one x, range-more 0 x, zero-add x) (select-append (λ x. get_or marks x false) (up_to x) (x ∷ []))

  pub collected-line : (lines' : List ℕ) (count' : ℕ) → get_or marks x false ≡ true → lines' ≡ set lines count x → count' ≡ count + 1
      → LinesCollected (marked_below marks (x + 1)) (x + 1) lines' (set index x count) count'
  unfolding select
  collected-line lines' count' e f g = rw (f, g, below_more, e) (line-added (marked_below marks x) index x before lines count (omega arith) c)

  pub collected-no-line : (lines' : List ℕ) (count' : ℕ) → get_or marks x false ≡ false → lines' ≡ lines → count' ≡ count
      → LinesCollected (marked_below marks (x + 1)) (x + 1) lines' (set index x count) count'
  unfolding select
  collected-no-line lines' count' e f g = rw (f, g, below_more, e, append-nil) (line_kept (marked_below marks x) index x before lines count (omega arith) c)

-- ---- what is known of the lines collected
module _ (marks : List Bool) (lines index : List ℕ) (count size : ℕ) (small : size ≤ 128)
    (c : LinesCollected (marked_below marks size) size lines index count) where
  line-at : (k : ℕ) → k < count → get_or lines k 0 ≡ get_or (marked_below marks size) k 0
  line-at k h = sym (get_or-take count lines k 0 h) ∙ rw c.listed

  pub lines-rise : (k : ℕ) → k + 1 < count → get_or lines k 0 < get_or lines (k + 1) 0
  lines-rise k h =
      rw (line-at k (omega arith), line-at (k + 1) h)
      (rising-get_or (marked_below marks size) (select-sorted ltb rising-strict (λ x. get_or marks x false) (up_to size) (range-rises 0 size))
      k (k + 1) (omega arith) (omega (arith, c.counted)))

  pub lines-low : (k : ℕ) → k < count → get_or lines k 0 < 128
  lines-low k h =
      let here = get_or-mem (marked_below marks size) k 0 (omega (arith, c.counted)) in
      rw line-at (omega (arith, range-mem 0 size _ (select-mem (λ x. get_or marks x false) (up_to size) here).0))

-- ---- the lines of the marked edges
module _ (rects : List ℕ) (marks : List Bool) (n size : ℕ) (r : Bounds) (small : size ≤ 128) (c : Collected (marked_below marks size) size r) where
  lines-marked : (edges : List ℕ) (test : ℕ → Bool) → EdgesMarked edges marks → ((x : ℕ) → any (eqb x) edges ≡ test x) → marked_below marks size ≡ select test (up_to size)
  lines-marked edges test m e =
      select-agree (λ x. get_or marks x false) test (up_to size) (λ x l. m.marked x (omega (arith, range-mem 0 size x l)) ∙ e x)

  pub collected-rows : EdgesMarked (edge_list n 0 rects) marks → Collected (row_lines_below size (rects_of n rects)) size r
  collected-rows m =
      rw (← lines-marked (edge_list n 0 rects) (λ y. any (λ (r : Rect). eqb y r.top || eqb y r.bottom) (rects_of n rects)) m
      (λ y. any-edge (λ r. r.top) (λ r. r.bottom) 0 2 (λ a. refl) (λ a. refl) y n rects)) c

  pub collected-columns : EdgesMarked (edge_list n 1 rects) marks → Collected (column_lines_below size (rects_of n rects)) size r
  collected-columns m =
      rw (← lines-marked (edge_list n 1 rects) (λ x. any (λ (r : Rect). eqb x r.left || eqb x r.right) (rects_of n rects)) m
      (λ x. any-edge (λ r. r.left) (λ r. r.right) 1 3 (λ a. refl) (λ a. refl) x n rects)) c
