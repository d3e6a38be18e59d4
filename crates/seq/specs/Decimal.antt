-- A number in decimal, as bytes.
use Rattle.std.specs.Prelude.{ℕ, zero, suc, ◌+◌, ◌/◌, ◌%◌, cond, List, [], ◌∷◌, ltb}

-- the digits of n before those that are there already, of at most `most` digits
unfoldable pub digits_onto : ℕ → ℕ → List ℕ → List ℕ
digits_onto zero n digits = digits
digits_onto (suc most) n digits =
    let longer = digits_onto most (n / 10) ((48 + n % 10) ∷ digits) in
    cond (ltb n 10) ((48 + n % 10) ∷ digits) longer

-- 20 digits hold every 64-bit number
abbrev pub decimal : ℕ → List ℕ
decimal n = digits_onto 20 n []
