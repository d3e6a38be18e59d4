-- The lines of a cell as they are drawn: trimmed, without empty last ones. `drawn-line-at` gives line i, `drawn-trimmed`,
-- `drawn-dropped` and `drawn-again` say that they are drawn as they are. Cut again: `inner_cut` for one line, `first-shorter` for a part
-- of one, `dropped-rows` for all.
use Prim.Native.Nat.{ℕ, zero, suc, ◌+◌, ◌≤◌, ◌<◌}
use mathlib.Core.Path.{◌≡◌, refl, ap, ◌∙◌}
use mathlib.Core.List.{List, [], ◌∷◌, ◌++◌, map}
use native.Mathlib.Omega.{arith}
use native.Mathlib.Nat.{le_trans}
use lib.ListN.{length, get_or, take, replicate, length-take}
use Rattle.seq.specs.Lists.{range}
use Rattle.text.specs.Characters.{space}
use Rattle.text.specs.Trim.{before_trimmed, trim_end}
use Rattle.text.specs.Lines.{no_text}
use Rattle.text.proofs.TrimLaws.{trim-shorter, trim-again, trim-spaces}
use Rattle.grid.specs.Values.{TableCell}
use Rattle.grid.specs.Cut.{after_first, before_dropped, drop_empty_last}
use Rattle.grid.specs.Same.{drawn_lines, normal_cell}

-- ---- lines without empty last ones
pub dropped-at : (ls : List (List ℕ)) (i : ℕ) → get_or (drop_empty_last ls) i no_text ≡ get_or ls i no_text
unfolding drop_empty_last
dropped-at [] i = refl
dropped-at (x ∷ xs) i = go (drop_empty_last xs) x i (dropped-at xs) where
  go : (r : List (List ℕ)) (x : List ℕ) (i : ℕ) → ((j : ℕ) → get_or r j no_text ≡ get_or xs j no_text) → get_or (before_dropped x r) i no_text ≡ get_or (x ∷ xs) i no_text
  go [] [] zero h = refl
  go [] [] (suc i) h = h i
  go [] (b ∷ bs) zero h = refl
  go [] (b ∷ bs) (suc i) h = h i
  go (y ∷ ys) x zero h = refl
  go (y ∷ ys) x (suc i) h = h i

trimmed-at : (ls : List (List ℕ)) (i : ℕ) → get_or (map trim_end ls) i no_text ≡ trim_end (get_or ls i no_text)
unfolding trim_end
trimmed-at [] i = refl
trimmed-at (l ∷ ls) zero = refl
trimmed-at (l ∷ ls) (suc i) = trimmed-at ls i

pub drawn-line-at : (ls : List (List ℕ)) (i : ℕ) → get_or (drawn_lines ls) i no_text ≡ trim_end (get_or ls i no_text)
unfolding drawn_lines
drawn-line-at ls i = dropped-at (map trim_end ls) i ∙ trimmed-at ls i

-- the cut of a drawn inner line: the first space goes, the spaces behind the text go, the text stays
pub inner_cut : (line : List ℕ) (k n byte column : ℕ) → trim_end line ≡ line → (after_first (trim_end (space ∷ line ++ replicate k space)) n byte column).text ≡ line
unfolding after_first trim_end
inner_cut [] k n byte column h =
    let e : trim_end (replicate k space) ≡ [] = trim-spaces [] k in
    rw e
inner_cut (b ∷ bs) k n byte column h =
    let e : trim_end ((b ∷ bs) ++ replicate k space) ≡ b ∷ bs = trim-spaces (b ∷ bs) k ∙ h in
    rw e

-- the cut of a text that begins with a space, n bytes of it, is shorter than n
pub first-shorter : (line byte column n : ℕ) (r : List ℕ) (m : ℕ) → n ≤ m → 0 < m → length (after_first (trim_end (take n (space ∷ r))) line byte column).text < m
unfolding trim_end after_first
first-shorter line byte column zero r m u w = w
first-shorter line byte column (suc n) r m u w = go (trim_end (take n r)) (le_trans (trim-shorter (take n r)) (omega (arith, length-take n r))) where
  go : (q : List ℕ) → length q ≤ n → length (after_first (before_trimmed space q) line byte column).text < m
  go [] h = w
  go (b ∷ q) h = omega arith

-- ---- lines cut one below the other, with empty ones behind
dropped-none : (n a : ℕ) (h : ℕ → List ℕ) → ((i : ℕ) → i < n → h (a + i) ≡ []) → drop_empty_last (map h (range a n)) ≡ []
unfolding drop_empty_last range
dropped-none zero a h e = refl
dropped-none (suc n) a h e =
    let z : a + 0 ≡ a = omega arith in
    let first : h a ≡ [] = rw z at (e 0 (omega arith)) in
    let later : drop_empty_last (map h (range (a + 1) n)) ≡ [] = dropped-none n (a + 1) h (λ i l. let w : a + 1 + i ≡ a + suc i = omega arith in rw w (e (suc i) (omega arith))) in
    rw (later, first)

pub dropped-rows : (l : List (List ℕ)) (n a : ℕ) (h : ℕ → List ℕ) → ((i : ℕ) → i < n → h (a + i) ≡ get_or l i no_text) → length l ≤ n
    → drop_empty_last (map h (range a n)) ≡ drop_empty_last l
unfolding drop_empty_last range
dropped-rows [] n a h e u = dropped-none n a h e
dropped-rows (x ∷ l) zero a h e u = absurd (omega arith)
dropped-rows (x ∷ l) (suc n) a h e u =
    let z : a + 0 ≡ a = omega arith in
    let first : h a ≡ x = rw z at (e 0 (omega arith)) in
    let later : drop_empty_last (map h (range (a + 1) n)) ≡ drop_empty_last l = dropped-rows l n (a + 1) h (λ i j. let w : a + 1 + i ≡ a + suc i = omega arith in rw w (e (suc i) (omega arith))) (omega arith) in
    rw (later, first)

-- ---- drawn lines are drawn as they are
pub drawn-trimmed : (ls : List (List ℕ)) (i : ℕ) → trim_end (get_or (drawn_lines ls) i no_text) ≡ get_or (drawn_lines ls) i no_text
drawn-trimmed ls i = rw (drawn-line-at ls i) (trim-again (get_or ls i no_text))

dropped-again : (ls : List (List ℕ)) → drop_empty_last (drop_empty_last ls) ≡ drop_empty_last ls
unfolding drop_empty_last
dropped-again [] = refl
dropped-again (x ∷ ls) = go x (drop_empty_last ls) (dropped-again ls) where
  go : (x : List ℕ) (r : List (List ℕ)) → drop_empty_last r ≡ r → drop_empty_last (before_dropped x r) ≡ before_dropped x r
  go [] [] e = refl
  go (b ∷ x) [] e = refl
  go x (y ∷ r) e = rw e

pub drawn-dropped : (ls : List (List ℕ)) → drop_empty_last (drawn_lines ls) ≡ drawn_lines ls
unfolding drawn_lines
drawn-dropped ls = dropped-again (map trim_end ls)

trim-dropped : (ls : List (List ℕ)) → map trim_end (drop_empty_last (map trim_end ls)) ≡ drop_empty_last (map trim_end ls)
unfolding drop_empty_last
trim-dropped [] = refl
trim-dropped (x ∷ ls) = go (trim_end x) (drop_empty_last (map trim_end ls)) (trim-again x) (trim-dropped ls) where
  go : (x : List ℕ) (r : List (List ℕ)) → trim_end x ≡ x → map trim_end r ≡ r → map trim_end (before_dropped x r) ≡ before_dropped x r
  go [] [] e h = refl
  go (b ∷ x) [] e h = ap (λ (l : List ℕ). l ∷ []) e
  go x (y ∷ r) e h = rw (e, h)

pub drawn-again : (ls : List (List ℕ)) → drawn_lines (drawn_lines ls) ≡ drawn_lines ls
unfolding drawn_lines
drawn-again ls = ap drop_empty_last (trim-dropped ls) ∙ dropped-again (map trim_end ls)

pub normal-again : (c : TableCell) → normal_cell (normal_cell c) ≡ normal_cell c
unfolding normal_cell
normal-again c = let l = drawn-again c.lines in λ i. record { row = c.row; column = c.column; colspan = c.colspan; rowspan = c.rowspan; lines = l i }
