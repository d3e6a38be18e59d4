-- Laws of a grid that is given as an array of glyphs.
use Prim.Native.Nat.{ℕ, ◌<◌}
use mathlib.Core.Path.{◌≡◌, refl, ap, ◌∙◌}
use mathlib.Core.Bool.{Bool, true, false, cond}
use mathlib.Core.List.{List, [], map}
use native.Mathlib.Omega.{arith}
use lib.Dec.{eqb}
use lib.ListN.{get_or}
use borrow.Author.Tests.{eqb-true}
use Rattle.seq.specs.Lists.{up_to}
use Rattle.seq.proofs.Positions.{get_or-made}
use Rattle.grid.specs.Slots.{Plus, Dash, Pipe, Other, Slot, slot_at, glyph_at}
use Rattle.representation.specs.Arrays.{code_glyph, code_at, array_grid}

pub array-glyph : (height width : ℕ) (glyphs : List ℕ) (y x : ℕ) → y < height → x < width
    → glyph_at (array_grid height width glyphs) y x ≡ code_glyph (code_at glyphs y x)
unfolding array_grid slot_at
array-glyph height width glyphs y x yh xw =
    let slot : ℕ → ℕ → Slot = λ y x. record { glyph = code_glyph (code_at glyphs y x); byte = 0 } in
    let none : Slot = record { glyph = Other; byte = 0 } in
    ap (λ (row : List Slot). (get_or row x none).glyph) (get_or-made (λ y. map (slot y) (up_to width)) height y [] yh)
    ∙ ap (λ (s : Slot). s.glyph) (get_or-made (slot y) width x none xw)

pub plus-code : (code : ℕ) → code_glyph code ≡ Plus → code ≡ 3
plus-code code = go (eqb code 3) refl (eqb code 2) (eqb code 1) where
  go : (t : Bool) → eqb code 3 ≡ t → (u v : Bool) → cond t Plus (cond u Pipe (cond v Dash Other)) ≡ Plus → code ≡ 3
  go true e u v f = eqb-true code 3 e
  go false e true v f = absurd (let z : ◌≡◌ {A = ℕ} 0 1 = cc in omega arith)
  go false e false true f = absurd (let z : ◌≡◌ {A = ℕ} 0 1 = cc in omega arith)
  go false e false false f = absurd (let z : ◌≡◌ {A = ℕ} 0 1 = cc in omega arith)
