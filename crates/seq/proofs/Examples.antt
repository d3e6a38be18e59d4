-- Computed examples of the definitions, at their edges. Each is settled by computing both sides.
use Prim.Native.Nat.{ℕ, ◌+◌}
use mathlib.Core.Path.{◌≡◌, refl}
use mathlib.Core.Bool.{true, false}
use mathlib.Core.List.{[], ◌∷◌, map}
use mathlib.Core.Option.{none, some}
use lib.Dec.{eqb, leb, ltb}
use Rattle.seq.specs.Lists.{within, range, up_to, sum, largest, all, any, select, count, find, is_empty, last_or, neighbours, is_some, or_default, or_next, some_if, smallest, first_some, first_at}
use Rattle.seq.specs.Ascii.{ascii}

-- ---- numbers
both-ends-are-within : map (within 3 5) (2 ∷ 3 ∷ 5 ∷ 6 ∷ []) ≡ false ∷ true ∷ true ∷ false ∷ []
both-ends-are-within = refl

a-range : range 3 4 ≡ 3 ∷ 4 ∷ 5 ∷ 6 ∷ []
unfolding range
a-range = refl

from_zero : up_to 3 ≡ 0 ∷ 1 ∷ 2 ∷ []
unfolding range
from_zero = refl

smallest-in-the-middle : smallest (4 ∷ 1 ∷ 2 ∷ []) ≡ 1
unfolding smallest
smallest-in-the-middle = refl

a_sum : sum (1 ∷ 2 ∷ 4 ∷ []) ≡ 7
unfolding sum
a_sum = refl

largest-in-the-middle : largest (1 ∷ 4 ∷ 2 ∷ []) ≡ 4
unfolding largest
largest-in-the-middle = refl

largest-of-none : largest [] ≡ 0
unfolding largest
largest-of-none = refl

-- ---- tests of lists

all-of-none : all (λ n. eqb n 1) [] ≡ true
unfolding all
all-of-none = refl

all_but_one : all (λ n. eqb n 1) (1 ∷ 2 ∷ 1 ∷ []) ≡ false
unfolding all
all_but_one = refl

any-of-none : any (λ n. eqb n 1) [] ≡ false
unfolding any
any-of-none = refl

any-at-the-end : any (λ n. eqb n 1) (2 ∷ 1 ∷ []) ≡ true
unfolding any
any-at-the-end = refl

neighbours-in-order : neighbours leb (1 ∷ 2 ∷ 2 ∷ []) ≡ true
unfolding neighbours
neighbours-in-order = refl

neighbours-out-of-order : neighbours ltb (1 ∷ 2 ∷ 2 ∷ []) ≡ false
unfolding neighbours
neighbours-out-of-order = refl

empty : is_empty {A = ℕ} [] ≡ true
empty = refl

not-empty : is_empty {A = ℕ} (0 ∷ []) ≡ false
not-empty = refl

-- ---- parts of lists
selected-in-order : select (λ n. leb 2 n) (3 ∷ 1 ∷ 2 ∷ []) ≡ 3 ∷ 2 ∷ []
unfolding select
selected-in-order = refl

counted : count (λ n. leb 2 n) (3 ∷ 1 ∷ 2 ∷ []) ≡ 2
unfolding select
counted = refl

first_found : find (λ n. leb 2 n) (1 ∷ 3 ∷ 2 ∷ []) ≡ some 3
unfolding find
first_found = refl

none_found : find (λ n. leb 4 n) (1 ∷ 3 ∷ 2 ∷ []) ≡ none
unfolding find
none_found = refl

place_found : first_at (λ n. leb 2 n) 5 (1 ∷ 3 ∷ 2 ∷ []) ≡ some 6
unfolding first_at
place_found = refl

no-place-found : first_at (λ n. leb 4 n) 5 (1 ∷ 3 ∷ 2 ∷ []) ≡ none
unfolding first_at
no-place-found = refl

last : last_or {A = ℕ} (1 ∷ 3 ∷ []) 7 ≡ 3
unfolding last_or
last = refl

last-of-none : last_or {A = ℕ} [] 7 ≡ 7
unfolding last_or
last-of-none = refl

-- ---- functions over lists

first-answer : first_some (λ n. some_if (leb 2 n) (n + 1)) (1 ∷ 3 ∷ 2 ∷ []) ≡ some 4
unfolding first_some
first-answer = refl

no_answer : first_some (λ n. some_if (leb 4 n) n) (1 ∷ 3 ∷ 2 ∷ []) ≡ none
unfolding first_some
no_answer = refl

first-of-two-answers : or_next {A = ℕ} (some 1) (some 2) ≡ some 1
first-of-two-answers = refl

second-of-two-answers : or_next {A = ℕ} none (some 2) ≡ some 2
second-of-two-answers = refl

default-unused : or_default {A = ℕ} 7 (some 1) ≡ 1
default-unused = refl

default-used : or_default {A = ℕ} 7 none ≡ 7
default-used = refl

some_is : is_some {A = ℕ} (some 1) ≡ true
some_is = refl

none-is-not : is_some {A = ℕ} none ≡ false
none-is-not = refl

-- ---- texts
text-as-bytes : ascii "+-|" ≡ 0x2b ∷ 0x2d ∷ 0x7c ∷ []
unfolding ascii
text-as-bytes = refl
