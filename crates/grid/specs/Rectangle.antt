-- Document 01, "First bordered rectangle".
use Rattle.std.specs.Prelude.{ℕ, ◌+◌, ◌-◌, Bool, ◌&&◌}
use Rattle.std.proofs.Math.Option.{Option}
use Rattle.seq.specs.Lists.{range, all, first_some, some_if}
use Rattle.grid.specs.Values.{Rect}
use Rattle.grid.specs.Slots.{Grid, glyph_at, is_plus, horizontal, vertical}

abbrev pub plus_at : Grid → ℕ → ℕ → Bool
plus_at g y x = is_plus (glyph_at g y x)

-- line y is horizontal throughout from column a to column b
unfoldable pub across : Grid → ℕ → ℕ → ℕ → Bool
across g y a b = all (λ x. horizontal (glyph_at g y x)) (range a (b + 1 - a))

-- column x is vertical throughout from line a to line b
unfoldable pub down : Grid → ℕ → ℕ → ℕ → Bool
down g x a b = all (λ y. vertical (glyph_at g y x)) (range a (b + 1 - a))

-- "whose corners are `+`, whose top and bottom are horizontal throughout and whose sides are vertical throughout"
unfoldable pub bordered : Grid → Rect → Bool
bordered g r =
    plus_at g r.bottom r.left && plus_at g r.top r.right && plus_at g r.bottom r.right && plus_at g r.top r.left
    && across g r.top r.left r.right && across g r.bottom r.left r.right
    && down g r.left r.top r.bottom && down g r.right r.top r.bottom

-- "the rectangle of smallest bottom line below the corner, then smallest right column to the right of it"
unfoldable pub first_rect : Grid → ℕ → ℕ → Option Rect
first_rect g t l =
    first_some (λ b. first_some (λ r. some_if (bordered g (record { top = t; left = l; bottom = b; right = r }))
    (record { top = t; left = l; bottom = b; right = r })) (range (l + 1) (g.width - (l + 1)))) (range (t + 1) (g.height - (t + 1)))
