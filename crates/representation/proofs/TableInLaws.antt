-- Laws of a table in its arrays: its cells (`cells-length`, `cells_at`), their lines (`counts-next`, `lines-whole`, `counts_step`,
-- `counts-within`), its columns (`columns-length`, `columns-at`).
use Prim.Native.Nat.{ℕ, zero, suc, ◌+◌, ◌*◌, ◌-◌, ◌≤◌, ◌<◌}
use mathlib.Core.Path.{◌≡◌, refl, sym, ap, ap₂, ◌∙◌}
use mathlib.Core.List.{List, [], ◌∷◌, ◌++◌, flat_map}
use native.Mathlib.Numerals.{add-one}
use native.Mathlib.Omega.{arith}
use lib.ListN.{length, get_or, take, drop, length-drop, take-append-drop}
use lib.Seq.{get_or-drop, drop-drop}
use Rattle.seq.specs.Lists.{sum}
use Rattle.grid.specs.Values.{GridTableColumn, TableCell}
use Rattle.grid.specs.Flat.{code_alignment, columns_of_array, cells_of_array, every_nth}
use Rattle.representation.specs.TableIn.{counts_in, cell_in}

pub columns-length : (n : ℕ) (cols : List ℕ) → length (columns_of_array n cols) ≡ n
unfolding columns_of_array
columns-length zero cols = refl
columns-length (suc n) cols = ap suc (columns-length n (drop 2 cols))

pub cells-length : (n : ℕ) (cells : List ℕ) (lines : List (List ℕ)) → length (cells_of_array n cells lines) ≡ n
unfolding cells_of_array
cells-length zero cells lines = refl
cells-length (suc n) cells lines = ap suc (cells-length n (drop 5 cells) _)

-- an entry of the array past its first ones
entry_past : (c : ℕ) (array : List ℕ) (i j : ℕ) → j ≡ c + i → get_or (drop c array) i 0 ≡ get_or array j 0
entry_past c array i j e = get_or-drop c array i 0 ∙ ap (λ (k : ℕ). get_or array k 0) (sym e)

pub columns-at : (n : ℕ) (cols : List ℕ) (k : ℕ) (d : GridTableColumn) → k < n
    → get_or (columns_of_array n cols) k d ≡ record { alignment = code_alignment (get_or cols (2 * k) 0); width = get_or cols (2 * k + 1) 0 }
unfolding columns_of_array
columns-at zero cols k d u = absurd (omega arith)
columns-at (suc n) cols zero d u = refl
columns-at (suc n) cols (suc k) d u =
    columns-at n (drop 2 cols) k d (omega arith)
    ∙ ap₂ (λ (a w : ℕ). record { alignment = code_alignment a; width = w }) (entry_past 2 cols (2 * k) (2 * suc k) (omega arith)) (entry_past 2 cols (2 * k + 1) (2 * suc k + 1) (omega arith))

-- the numbers of lines, and their sum, from the second cell on
pub counts-cons : (n : ℕ) (cells : List ℕ) → counts_in (suc n) cells ≡ get_or cells 4 0 ∷ counts_in n (drop 5 cells)
unfolding every_nth
counts-cons n cells = ap₂ (λ (a : ℕ) (l : List ℕ). a ∷ every_nth 5 n l) (entry_past 4 cells 0 4 refl) (drop-drop 5 4 cells ∙ sym (drop-drop 4 5 cells))

pub counts-next : (n : ℕ) (cells : List ℕ) → sum (counts_in (suc n) cells) ≡ get_or cells 4 0 + sum (counts_in n (drop 5 cells))
unfolding sum
counts-next n cells = ap sum (counts-cons n cells)

-- each cell in turn takes its lines, until none are left
pub lines-whole : (n : ℕ) (cells : List ℕ) (lines : List (List ℕ)) → length lines ≤ sum (counts_in n cells)
    → flat_map (λ (c : TableCell). c.lines) (cells_of_array n cells lines) ≡ lines
unfolding cells_of_array flat_map every_nth sum
lines-whole zero cells [] h = refl
lines-whole zero cells (l ∷ lines) h = absurd (omega arith)
lines-whole (suc n) cells lines h =
    let k = get_or cells 4 0 in
    let later = lines-whole n (drop 5 cells) (drop k lines) (omega (arith, counts-next n cells, length-drop k lines)) in
    ap (λ (l : List (List ℕ)). take k lines ++ l) later ∙ take-append-drop k lines

module _ (cells : List ℕ) (lines : List (List ℕ)) (k : ℕ) where
  cell_in-next : cell_in (drop 5 cells) (drop (get_or cells 4 0) lines) k ≡ cell_in cells lines (suc k)
  cell_in-next =
      let e : (i j : ℕ) → j ≡ 5 + i → get_or (drop 5 cells) i 0 ≡ get_or cells j 0 = entry_past 5 cells in
      let rest : drop (sum (counts_in k (drop 5 cells))) (drop (get_or cells 4 0) lines) ≡ drop (sum (counts_in (suc k) cells)) lines =
      drop-drop (sum (counts_in k (drop 5 cells))) (get_or cells 4 0) lines ∙ ap (λ (n : ℕ). drop n lines) (sym (counts-next k cells)) in
      rw (e (5 * k) (5 * suc k) (omega arith), e (5 * k + 1) (5 * suc k + 1) (omega arith), e (5 * k + 2) (5 * suc k + 2) (omega arith), e (5 * k + 3) (5 * suc k + 3) (omega arith), e (5 * k + 4) (5 * suc k + 4) (omega arith), rest) refl

pub cells_at : (n : ℕ) (cells : List ℕ) (lines : List (List ℕ)) (k : ℕ) (d : TableCell) → k < n → get_or (cells_of_array n cells lines) k d ≡ cell_in cells lines k
unfolding cells_of_array every_nth sum
cells_at zero cells lines k d u = absurd (omega arith)
cells_at (suc n) cells lines zero d u = refl
cells_at (suc n) cells lines (suc k) d u = cells_at n (drop 5 cells) (drop (get_or cells 4 0) lines) k d (omega arith) ∙ cell_in-next cells lines k

-- ---- the numbers of lines, one cell more
sum-every_nth : (step k : ℕ) (l : List ℕ) → sum (every_nth step (suc k) l) ≡ sum (every_nth step k l) + get_or l (step * k) 0
unfolding every_nth sum
sum-every_nth step zero l = let e : step * 0 ≡ 0 = omega arith in rw e (omega arith)
sum-every_nth step (suc k) l =
    let e : step * suc k ≡ step + step * k = omega arith in
    rw (e, ← get_or-drop step l (step * k) 0) (omega (arith, sum-every_nth step k (drop step l)))

pub counts_step : (k : ℕ) (cells : List ℕ) → sum (counts_in (k + 1) cells) ≡ sum (counts_in k cells) + get_or cells (5 * k + 4) 0
counts_step k cells =
    let e : 4 + 5 * k ≡ 5 * k + 4 = omega arith in
    rw (add-one k) (sum-every_nth 5 k (drop 4 cells) ∙ ap (λ (n : ℕ). sum (counts_in k cells) + n) (get_or-drop 4 cells (5 * k) 0 ∙ ap (λ (n : ℕ). get_or cells n 0) e))

counts-grow : (m k : ℕ) (cells : List ℕ) → sum (counts_in k cells) ≤ sum (counts_in (k + m) cells)
counts-grow zero k cells = let e : k + 0 ≡ k = omega arith in rw e (omega arith)
counts-grow (suc m) k cells = let e : k + suc m ≡ k + m + 1 = omega arith in rw e (omega (arith, counts_step (k + m) cells, counts-grow m k cells))

pub counts-within : (n k : ℕ) (cells : List ℕ) → k < n → sum (counts_in k cells) + get_or cells (5 * k + 4) 0 ≤ sum (counts_in n cells)
counts-within n k cells low =
    let e : k + 1 + (n - (k + 1)) ≡ n = omega arith in
    omega (arith, counts_step k cells, rw e at (counts-grow (n - (k + 1)) (k + 1) cells))
