-- Functions on lists, by tests that compute.
use Rattle.std.specs.Prelude.{ℕ, zero, suc, ◌+◌, max, min, Bool, true, false, not, ◌&&◌, ◌||◌, cond, List, [], ◌∷◌, length, ltb}
use Rattle.std.proofs.Math.Option.{Option, none, some}

-- a number from a to b, both counted
abbrev pub within : ℕ → ℕ → ℕ → Bool
within a b x = ltb x (b + 1) && not (ltb x a)

-- count numbers from `from` on, in order
unfoldable pub range : ℕ → ℕ → List ℕ
range from zero = []
range from (suc count) = from ∷ range (from + 1) count

-- n from 0 on
abbrev pub up_to : ℕ → List ℕ
up_to n = range 0 n

unfoldable pub sum : List ℕ → ℕ
sum [] = 0
sum (n ∷ ns) = n + sum ns

-- the largest, 0 of none
unfoldable pub largest : List ℕ → ℕ
largest [] = 0
largest (n ∷ ns) = max n (largest ns)

module _ {A : Type 0} where
  unfoldable pub all : (A → Bool) → List A → Bool
  all test [] = true
  all test (a ∷ rest) = test a && all test rest

  unfoldable pub any : (A → Bool) → List A → Bool
  any test [] = false
  any test (a ∷ rest) = test a || any test rest

  abbrev pub cons_if : Bool → A → List A → List A
  cons_if true a rest = a ∷ rest
  cons_if false a rest = rest

  -- those that pass the test, in order
  unfoldable pub select : (A → Bool) → List A → List A
  select test [] = []
  select test (a ∷ rest) = cons_if (test a) a (select test rest)

  -- how many pass the test
  abbrev pub count : (A → Bool) → List A → ℕ
  count test rest = length (select test rest)

  -- the first that passes the test
  unfoldable pub find : (A → Bool) → List A → Option A
  find test [] = none
  find test (a ∷ rest) = let later = find test rest in cond (test a) (some a) later

  abbrev pub is_empty : List A → Bool
  is_empty [] = true
  is_empty (a ∷ rest) = false

  -- the last, or d of none
  unfoldable pub last_or : List A → A → A
  last_or [] d = d
  last_or (a ∷ rest) d = last_or rest a

  -- does the test hold of each two neighbours
  unfoldable pub neighbours : (A → A → Bool) → List A → Bool
  neighbours test [] = true
  neighbours test (a ∷ []) = true
  neighbours test (a ∷ b ∷ rest) = test a b && neighbours test (b ∷ rest)

  abbrev pub is_some : Option A → Bool
  is_some none = false
  is_some (some a) = true

  abbrev pub or_default : A → Option A → A
  or_default d none = d
  or_default d (some a) = a

  -- the first of two answers that is one
  abbrev pub or_next : Option A → Option A → Option A
  or_next (some a) next = some a
  or_next none next = next

  -- what a search gives: `some a` where the test passed
  abbrev pub some_if : Bool → A → Option A
  some_if true a = some a
  some_if false a = none

module _ {A B : Type 0} where
  -- what f gives at the first of the list where it gives something
  unfoldable pub first_some : (A → Option B) → List A → Option B
  first_some f [] = none
  first_some f (a ∷ rest) = let later = first_some f rest in or_next (f a) later

-- the smallest, 0 of none
unfoldable pub smallest : List ℕ → ℕ
smallest [] = 0
smallest (n ∷ []) = n
smallest (n ∷ m ∷ ns) = min n (smallest (m ∷ ns))

-- the position, counted from `at`, of the first that passes the test
unfoldable pub first_at : {A : Type 0} → (A → Bool) → ℕ → List A → Option ℕ
first_at test at [] = none
first_at test at (a ∷ rest) = let later = first_at test (at + 1) rest in cond (test a) (some at) later
