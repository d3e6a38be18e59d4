-- Document 01, "Rule lines": "A rule is `+`, then any number of segments each closed by `+`; a segment loses one leading and one
-- trailing `:` if present, and the rest is one or more fill bytes."
use Rattle.std.specs.Prelude.{ℕ, Bool, false, not, ◌&&◌, cond, List, [], ◌∷◌, eqb}
use Rattle.seq.specs.Lists.{all, is_empty}
use Rattle.text.specs.Characters.{plus, colon}

-- the bytes before the first `+`
unfoldable pub to_plus : List ℕ → List ℕ
to_plus [] = []
to_plus (b ∷ bs) = cond (eqb b plus) [] (b ∷ to_plus bs)

-- a byte put before the first part
abbrev pub onto_first : ℕ → List (List ℕ) → List (List ℕ)
onto_first b [] = (b ∷ []) ∷ []
onto_first b (part ∷ parts) = (b ∷ part) ∷ parts

-- the parts between the `+` of a line; what follows the last `+` is a part too, empty at the end of a rule
unfoldable pub parts_at_plus : List ℕ → List (List ℕ)
parts_at_plus [] = [] ∷ []
parts_at_plus (b ∷ bs) = cond (eqb b plus) ([] ∷ parts_at_plus bs) (onto_first b (parts_at_plus bs))

abbrev pub drop_leading_colon : List ℕ → List ℕ
drop_leading_colon [] = []
drop_leading_colon (b ∷ bs) = cond (eqb b colon) bs (b ∷ bs)

unfoldable pub drop_trailing_colon : List ℕ → List ℕ
drop_trailing_colon [] = []
drop_trailing_colon (b ∷ []) = cond (eqb b colon) [] (b ∷ [])
drop_trailing_colon (b ∷ c ∷ cs) = b ∷ drop_trailing_colon (c ∷ cs)

-- one or more fill bytes
unfoldable pub fills : ℕ → List ℕ → Bool
fills fill bs = not (is_empty bs) && all (λ b. eqb b fill) bs

unfoldable pub is_segment : ℕ → List ℕ → Bool
is_segment fill part = fills fill (drop_trailing_colon (drop_leading_colon part))

-- are all parts but the last segments, and does nothing follow the last `+`
unfoldable pub closed_segments : ℕ → List (List ℕ) → Bool
closed_segments fill [] = false
closed_segments fill (part ∷ []) = is_empty part
closed_segments fill (part ∷ next ∷ parts) = is_segment fill part && closed_segments fill (next ∷ parts)

unfoldable pub is_rule : ℕ → List ℕ → Bool
is_rule fill [] = false
is_rule fill (b ∷ bs) = eqb b plus && closed_segments fill (parts_at_plus bs)
