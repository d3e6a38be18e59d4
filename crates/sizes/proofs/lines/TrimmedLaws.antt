-- Laws of where the lines of a text start and end.
use Prim.Native.Nat.{ℕ, ◌+◌, ◌-◌, ◌≤◌, ◌<◌}
use mathlib.Core.Path.{◌≡◌, refl, sym, ap, ◌∙◌}
use mathlib.Core.List.{List}
use native.Mathlib.Omega.{arith}
use lib.ListN.{length, get_or, take, drop, set, length-set, length-take}
use lib.Seq.{take-take}
use mir.Syntax.{w16, w64}
use mir.Val.{Fits}
use borrow.Author.Rules.{Fits-under}
use Rattle.seq.specs.Lists.{sum}
use Rattle.seq.proofs.Gathered.{sum_step, sum-within}
use Rattle.text.specs.Trim.{trim_end}
use Rattle.text.specs.Lines.{no_text}
use Rattle.text.proofs.TrimLaws.{trim-prefix, trim-shorter}
use Rattle.grid.specs.Flat.{split_text}
use Rattle.grid.proofs.FlatLaws.{split_at}
use Rattle.sizes.specs.Lines.{Trimmed}
use Rattle.sizes.proofs.EachLaws.{each-set-both}

module _ (lengths text starts₀ ends₀ : List ℕ) where
  -- line j, trimmed, stands from a to b
  abbrev Stands : ℕ → ℕ → ℕ → Type 0
  Stands j a b = (a ≤ b) × (b ≤ length text) × (take (b - a) (drop a text) ≡ trim_end (get_or (split_text lengths text) j no_text))

  -- the first i lines are trimmed, and line i starts at `at`
  pub record Trimming (starts ends : List ℕ) (at i : ℕ) : Type 0 where
    pub agree : sum lengths ≡ length text
    pub few : length text ≤ 32768
    pub start_same : length starts ≡ length starts₀
    pub end_same : length ends ≡ length ends₀
    pub start_room : length lengths ≤ length starts₀
    pub end_room : length lengths ≤ length ends₀
    pub passed : at ≡ sum (take i lengths)
    pub stands : (j : ℕ) → j < i → Stands j (get_or starts j 0) (get_or ends j 0)

  pub none-trimmed : (sum lengths ≡ length text) × (length text ≤ 32768) → (length lengths ≤ length starts₀) × (length lengths ≤ length ends₀) → Trimming starts₀ ends₀ 0 0
  unfolding sum
  none-trimmed size room =
      record {
        agree = size.0;
        few = size.1;
        start_same = refl;
        end_same = refl;
        start_room = room.0;
        end_room = room.1;
        passed = refl;
        stands = λ j low. absurd (omega arith);
      }

  module _ {starts ends : List ℕ} {at i : ℕ} (t : Trimming starts ends at i) where
    pub line-end : at + get_or lengths i 0 ≤ length text
    line-end = omega (arith, t.passed, t.agree, sum-within lengths i)

    pub line-fits : Fits w64 (at + get_or lengths i 0)
    line-fits = Fits-under w64 (at + get_or lengths i 0) 32769 (omega (arith, line-end, t.few)) tt

    pub start_fits : Fits w16 at
    start_fits = Fits-under w16 at 32769 (omega (arith, line-end, t.few)) tt

    module _ (h : i < length lengths) where
      pub start-room : i < length starts
      start-room = omega (arith, t.start_room, t.start_same)

      pub end-room : i < length ends
      end-room = omega (arith, t.end_room, t.end_same)

    module _ {line : List ℕ} (told : line ≡ trim_end (take (at + get_or lengths i 0 - at) (drop at text))) where
      is : line ≡ trim_end (take (get_or lengths i 0) (drop at text))
      is = let e : at + get_or lengths i 0 - at ≡ get_or lengths i 0 = omega arith in rw e at told

      line-short : length line ≤ get_or lengths i 0
      line-short = omega (arith, ap length is, trim-shorter (take (get_or lengths i 0) (drop at text)), length-take (get_or lengths i 0) (drop at text))

      pub end_fits : Fits w64 (at + length line)
      end_fits = Fits-under w64 (at + length line) 32769 (omega (arith, line-short, line-end, t.few)) tt

      pub end-small : Fits w16 (at + length line)
      end-small = Fits-under w16 (at + length line) 32769 (omega (arith, line-short, line-end, t.few)) tt

      module _ (h : i < length lengths) where
        prefix : line ≡ take (length line) (take (get_or lengths i 0) (drop at text))
        prefix = is ∙ trim-prefix (take (get_or lengths i 0) (drop at text)) ∙ ap (λ (l : List ℕ). take (length l) (take (get_or lengths i 0) (drop at text))) (sym is)

        here : take (at + length line - at) (drop at text) ≡ trim_end (get_or (split_text lengths text) i no_text)
        here =
            let n : at + length line - at ≡ length line = omega arith in
            rw (n, split_at lengths text i h, ← t.passed, ← is)
            (sym (prefix ∙ take-take (length line) (get_or lengths i 0) (drop at text) line-short))

        pub one-trimmed : Trimming (set starts i at) (set ends i (at + length line)) (at + get_or lengths i 0) (i + 1)
        one-trimmed =
            record {
              agree = t.agree;
              few = t.few;
              start_same = length-set starts i at ∙ t.start_same;
              end_same = length-set ends i (at + length line) ∙ t.end_same;
              start_room = t.start_room;
              end_room = t.end_room;
              passed = omega (arith, t.passed, sum_step lengths i h);
              stands =
                  each-set-both Stands starts ends i at (at + length line) (start-room h) (end-room h)
                  (omega arith, omega (arith, line-short, line-end), here) t.stands;
            }
