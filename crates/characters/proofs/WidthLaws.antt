-- The rows of the table of widths, by what the tests of `width` said.
use Rattle.std.specs.Prelude.{None, Some}
use Prim.Native.Nat.{ℕ}
use mathlib.Core.Path.{◌≡◌, sym, ◌∙◌}
use mathlib.Core.Bool.{Bool, true, false}
use Rattle.text.specs.Characters.{takes_one, takes_none, takes_two, width_of}
use Rattle.text.proofs.CharactersLaws.{width_one, width-none, width_two, width-outside}

module _ (c : ℕ) where
  pub tested-one : {one : Bool} → one ≡ takes_one c → one ≡ true → Some 1 ≡ width_of c
  tested-one a p = sym (width_one c (sym a ∙ p))

  pub tested-none : {one none : Bool} → one ≡ takes_one c → one ≡ false → none ≡ takes_none c → none ≡ true → Some 0 ≡ width_of c
  tested-none a p b q = sym (width-none c (sym a ∙ p) (sym b ∙ q))

  pub tested-two : {one none two : Bool} → one ≡ takes_one c → one ≡ false → none ≡ takes_none c → none ≡ false → two ≡ takes_two c → two ≡ true → Some 2 ≡ width_of c
  tested-two a p b q d r = sym (width_two c (sym a ∙ p) (sym b ∙ q) (sym d ∙ r))

  pub tested-outside : {one none two : Bool} → one ≡ takes_one c → one ≡ false → none ≡ takes_none c → none ≡ false → two ≡ takes_two c → two ≡ false → None ≡ width_of c
  tested-outside a p b q d r = sym (width-outside c (sym a ∙ p) (sym b ∙ q) (sym d ∙ r))
