-- A text in quotes as its bytes, for examples. Characters past 7F are not encoded here: write their bytes.
use Rattle.std.specs.Prelude.{ℕ, List, [], ◌∷◌}
use Prim.Native.String.{String, [] as end, ◌∷◌ as ◌then◌}
use Prim.Native.Char.{code}

unfoldable pub ascii : String → List ℕ
ascii end = []
ascii (c then cs) = code c ∷ ascii cs
