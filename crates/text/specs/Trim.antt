-- Document 01, "Rule lines": "Trimming drops spaces and tabs from the end".
use Rattle.std.specs.Prelude.{ℕ, Bool, ◌||◌, cond, List, [], ◌∷◌, eqb}
use Rattle.text.specs.Characters.{space, tab}

abbrev pub blank : ℕ → Bool
blank b = eqb b space || eqb b tab

-- a byte before a line that is trimmed already
abbrev pub before_trimmed : ℕ → List ℕ → List ℕ
before_trimmed b [] = cond (blank b) [] (b ∷ [])
before_trimmed b (c ∷ cs) = b ∷ c ∷ cs

unfoldable pub trim_end : List ℕ → List ℕ
trim_end [] = []
trim_end (b ∷ bs) = before_trimmed b (trim_end bs)
