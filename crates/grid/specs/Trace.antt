-- Document 01, "Tracing".
use Rattle.std.specs.Prelude.{ℕ, zero, suc, ◌-◌, Bool, ◌||◌, cond, List, [], ◌∷◌, ◌++◌, get_or, take, drop, replicate, eqb, leb}
use Rattle.std.proofs.Math.Option.{Option, none, some}
use Rattle.seq.specs.Lists.{range, all, smallest, first_at, is_some, or_default, some_if}
use Rattle.grid.specs.Limits.{max_cells}
use Rattle.grid.specs.Values.{Rect}
use Rattle.grid.specs.Slots.{Grid}
use Rattle.grid.specs.Rectangle.{first_rect}

-- the rectangles in the order of tracing, or the refusal that it meets
pub data Traced : Type 0 where
  covered : List Rect → Traced
  stopped : ℕ → Traced

abbrev pub placed : Rect → Traced → Traced
placed r (covered rs) = covered (r ∷ rs)
placed r (stopped number) = stopped number

-- "The leftmost lowest column gives the next corner."
abbrev pub lowest : List ℕ → ℕ
lowest sky = smallest sky

unfoldable pub leftmost : List ℕ → ℕ
leftmost sky = or_default 0 (first_at (λ bottom. eqb bottom (lowest sky)) 0 sky)

-- "stand on columns all at that level"
unfoldable pub stands_level : List ℕ → Rect → Bool
stands_level sky r = all (λ x. eqb (get_or sky x 0) r.top) (range r.left (r.right - r.left))

-- "they then rise to its bottom"
unfoldable pub raise : Rect → List ℕ → List ℕ
raise r sky = take r.left sky ++ replicate (r.right - r.left) r.bottom ++ drop r.right sky

abbrev pub keep_level : List ℕ → Option Rect → Option Rect
keep_level sky none = none
keep_level sky (some r) = some_if (stands_level sky r) r

-- "Its first bordered rectangle must exist and stand on columns all at that level"
unfoldable pub next_rect : Grid → List ℕ → Option Rect
next_rect g sky = keep_level sky (first_rect g (lowest sky) (leftmost sky))

-- "It ends when all stand on the last line."
abbrev pub all_down : Grid → List ℕ → Bool
all_down g sky = leb (g.height - 1) (lowest sky)

abbrev pub place_next : Option Rect → (Rect → Traced) → Traced
place_next none next = stopped 6
place_next (some r) next = placed r (next r)

-- `room` more rectangles may be placed. At 0 the search is still made: "tracing would place a 1,025th rectangle, one that exists and stands level"
unfoldable pub trace_from : Grid → ℕ → List ℕ → Traced
trace_from g zero sky = cond (all_down g sky) (covered []) (cond (is_some (next_rect g sky)) (stopped 7) (stopped 6))
trace_from g (suc room) sky =
    let more = place_next (next_rect g sky) (λ r. trace_from g room (raise r sky)) in
    cond (all_down g sky) (covered []) more

-- "A skyline holds one bottom line for each unit column, width less 1 of them .., at first 0 in all." "A single line or width 1 gives refusal 6."
unfoldable pub trace : Grid → Traced
trace g =
    let found = trace_from g max_cells (replicate (g.width - 1) 0) in
    cond (leb g.height 1 || leb g.width 1) (stopped 6) found
