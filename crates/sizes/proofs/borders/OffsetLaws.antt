-- Laws of adding up sizes.
use Prim.Native.Nat.{ℕ, ◌+◌, ◌*◌, ◌≤◌, ◌<◌}
use mathlib.Core.Path.{◌≡◌, sym, ◌∙◌}
use mathlib.Core.List.{List}
use native.Mathlib.Numerals.{add-one}
use native.Mathlib.Omega.{arith}
use lib.ListN.{length, get_or, take, set, replicate, length-set, length-replicate, get_or-replicate}
use lib.Seq.{ext_get_or, get_or-take, length-take-le, get_or-set_same}
use mir.Syntax.{w64}
use mir.Val.{Fits}
use borrow.Author.Rules.{Fits-under}
use Rattle.drawing.specs.Sizes.{offsets}
use Rattle.drawing.proofs.OffsetLaws.{offsets-length, offsets-zero, offsets-step}
use Rattle.sizes.specs.Needs.{EachAtMost}
use Rattle.sizes.proofs.EachLaws.{each_set}

-- the offsets up to i are known
pub record Adding (count : ℕ) (sizes at : List ℕ) (i : ℕ) : Type 0 where
  pub few : count ≤ 127
  pub size_room : length sizes ≡ 128
  pub small : EachAtMost (65535 * 1025) sizes
  pub room : length at ≡ 128
  pub near : get_or at i 0 ≤ 65535 * 1026 * i
  pub known : (j : ℕ) → j < i + 1 → get_or at j 0 ≡ get_or (offsets (take count sizes)) j 0

pub first-known : (count : ℕ) (sizes : List ℕ) → (count ≤ 127) × (length sizes ≡ 128) × EachAtMost (65535 * 1025) sizes → Adding count sizes (replicate 128 0) 0
first-known count sizes given =
    record {
      few = given.0;
      size_room = given.1;
      small = given.2;
      room = length-replicate {A = ℕ} 128 0;
      near = omega (arith, get_or-replicate {A = ℕ} 128 0 0 0 (omega arith));
      known = λ j low. let e : j ≡ 0 = omega arith in rw e (sym (offsets-zero 0 (take count sizes)));
    }

module _ {count : ℕ} {sizes at : List ℕ} {i : ℕ} (a : Adding count sizes at i) where
  long : length (take count sizes) ≡ count
  long = length-take-le count sizes (omega (arith, a.size_room, a.few))

  module _ (h : i < count) where
    pub next_fits : Fits w64 (get_or at i 0 + get_or sizes i 0 + 1)
    next_fits = Fits-under w64 (get_or at i 0 + get_or sizes i 0 + 1) 10000000000 (omega (arith, a.near, a.small i, a.few)) tt

    pub one_known : Adding count sizes (set at (i + 1) (get_or at i 0 + get_or sizes i 0 + 1)) (i + 1)
    one_known =
        record {
          few = a.few;
          size_room = a.size_room;
          small = a.small;
          room = length-set at (i + 1) (get_or at i 0 + get_or sizes i 0 + 1) ∙ a.room;
          near = rw set_here (omega (arith, a.near, a.small i));
          known =
              each_set (λ j v. v ≡ get_or (offsets (take count sizes)) j 0) at (i + 1) (get_or at i 0 + get_or sizes i 0 + 1) (omega (arith, a.room, a.few)) here a.known;
        } where
          here : get_or at i 0 + get_or sizes i 0 + 1 ≡ get_or (offsets (take count sizes)) (i + 1) 0
          here = rw (add-one i) (omega (arith, a.known i (omega arith), get_or-take count sizes i 0 h, offsets-step 0 (take count sizes) i (omega (arith, long))))

          set_here : get_or (set at (i + 1) (get_or at i 0 + get_or sizes i 0 + 1)) (i + 1) 0 ≡ get_or at i 0 + get_or sizes i 0 + 1
          set_here = get_or-set_same at (i + 1) (get_or at i 0 + get_or sizes i 0 + 1) 0 (omega (arith, a.room, a.few))

  pub all_known : i ≤ count → count ≤ i → take (count + 1) at ≡ offsets (take count sizes)
  all_known low high =
      let e : length (take (count + 1) at) ≡ count + 1 = length-take-le (count + 1) at (omega (arith, a.room, a.few)) in
      ext_get_or 0 (take (count + 1) at) (offsets (take count sizes)) (omega (arith, e, offsets-length 0 (take count sizes), long))
      (λ j h. get_or-take (count + 1) at j 0 (omega (arith, e)) ∙ a.known j (omega (arith, e)))
