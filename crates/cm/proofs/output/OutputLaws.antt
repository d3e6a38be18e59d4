-- The lines of a drawing one after the other: counted, and written.
use Prim.Native.Nat.{ℕ, ◌+◌, ◌≤◌, ◌<◌}
use mathlib.Core.Path.{◌≡◌, refl, sym, ap, ◌∙◌}
use mathlib.Core.List.{List, [], ◌∷◌, ◌++◌, map, map-append, append-nil, flat_map}
use native.Mathlib.Numerals.{add-one}
use native.Mathlib.Omega.{arith}
use lib.ListN.{length, take, set, length-map}
use lib.Seq.{take-suc-set}
use Rattle.seq.specs.Lists.{range, up_to, sum}
use Rattle.seq.proofs.Ranges.{length-range}
use Rattle.seq.proofs.Gathered.{range-step}
use Rattle.seq.proofs.FlatMaps.{flat_map-append}
use Rattle.seq.proofs.Sums.{sum-append}
use Rattle.grid.specs.Values.{Line}
use Rattle.drawing.specs.Plain.{Canvas, canvas_height, drawn_line, canvas_lines}
use Rattle.writer.specs.Writing.{Wrote, put_down}
use Rattle.writer.proofs.WritingLaws.{wrote_none, wrote_then, wrote_as}
use Rattle.cm.specs.Board.{Board, CanvasReady}
use Rattle.cm.specs.Bears.{Bears, Ready}
use Rattle.cm.specs.declared.board.Board.{Board as Bordered}
use Rattle.cm.specs.Counted.{line_lengths, drawn_text, Counted}

-- the first y lines of a drawing
abbrev pub first_lines : ℕ → Canvas → ℕ → List Line
first_lines o v y = map (drawn_line o v) (up_to y)

first_lines-next : (o : ℕ) (v : Canvas) (y : ℕ) → first_lines o v (y + 1) ≡ first_lines o v y ++ drawn_line o v y ∷ []
first_lines-next o v y =
    let e : 0 + y ≡ y = omega arith in
    ap (map (drawn_line o v)) (range-step 0 y ∙ ap (λ (k : ℕ). up_to y ++ k ∷ []) e) ∙ map-append (drawn_line o v) (up_to y) (y ∷ [])

first_lines-all : (o : ℕ) (v : Canvas) (y : ℕ) → y ≡ canvas_height v → first_lines o v y ≡ canvas_lines o v
unfolding canvas_lines
first_lines-all o v y e = ap (first_lines o v) e

pub board-low : (d : Bordered) → Ready d → d.height ≤ 128
board-low d (v, R, tall) = omega (arith, R.boxed.low)

pub line-low : (d : Bordered) (y : ℕ) → Ready d → y < d.height → (v : Canvas) × Bears d v × (y < canvas_height v)
line-low d y (v, R, tall) low = (v, R, omega arith)

-- ---- counted
pub record CountedTo (o : ℕ) (v : Canvas) (y : ℕ) (lengths : List ℕ) (bytes : ℕ) : Type 0 where
  pub each : take y lengths ≡ line_lengths (first_lines o v y)
  pub total : bytes ≡ sum (line_lengths (first_lines o v y))

-- on every canvas that the arrays hold
abbrev pub Counting : ℕ → ℕ → Board → List ℕ → ℕ → ℕ → ℕ → List ℕ → ℕ → Type 0
Counting n width b canvas o height y lengths bytes =
    (v : Canvas) → CanvasReady v n width b canvas → height ≡ canvas_height v → CountedTo o v y lengths bytes

module _ {n width : ℕ} {b : Board} {canvas : List ℕ} {o height : ℕ} where
  pub counted_none : (lengths : List ℕ) → Counting n width b canvas o height 0 lengths 0
  unfolding range sum
  counted_none lengths v R h = record { each = refl; total = refl }

  module _ {y bytes : ℕ} {lengths : List ℕ} (so_far : Counting n width b canvas o height y lengths bytes) where
    pub counted_next : (end : ℕ) (none after : List ℕ) → y < height → y < length lengths
        → ((v : Canvas) → CanvasReady v n width b canvas → y < canvas_height v → Wrote none 0 (drawn_line o v y).text after end)
        → Counting n width b canvas o height (y + 1) (set lengths y end) (bytes + end)
    unfolding sum
    counted_next end none after u w wrote v R h =
        let s = so_far v R h in
        let size : end ≡ length (drawn_line o v y).text = omega (arith, (wrote v R (omega arith)).next) in
        let more : line_lengths (first_lines o v (y + 1)) ≡ line_lengths (first_lines o v y) ++ end ∷ [] =
        ap line_lengths (first_lines-next o v y) ∙ map-append (λ (line : Line). length line.text) (first_lines o v y) (drawn_line o v y ∷ [])
        ∙ ap (λ (k : ℕ). line_lengths (first_lines o v y) ++ k ∷ []) (sym size) in
        record {
          each = rw (add-one y) (take-suc-set lengths y end w) ∙ ap (λ (l : List ℕ). l ++ end ∷ []) s.each ∙ sym more;
          total = omega (arith, s.total, ap sum more, sum-append (line_lengths (first_lines o v y)) (end ∷ []));
        }

    pub counted-all : y ≤ height → height ≤ y → length lengths ≡ 128
        → (v : Canvas) → CanvasReady v n width b canvas → height ≡ canvas_height v → Counted (canvas_lines o v) (record { lengths = lengths; bytes = bytes })
    counted-all u w room v R h =
        let s = so_far v R h in
        let all = first_lines-all o v y (omega arith) in
        let count : length (canvas_lines o v) ≡ y = ap length (sym all) ∙ length-map (up_to y) (drawn_line o v) ∙ length-range 0 y in
        record { room = room; each = rw count (s.each ∙ ap line_lengths all); total = s.total ∙ ap (λ (l : List Line). sum (line_lengths l)) all }

-- ---- written
abbrev pub Writing : ℕ → ℕ → Board → List ℕ → ℕ → ℕ → ℕ → List ℕ → List ℕ → ℕ → Type 0
Writing n width b canvas o height y before after at =
    (v : Canvas) → CanvasReady v n width b canvas → height ≡ canvas_height v → Wrote before 0 (drawn_text (first_lines o v y)) after at

module _ {n width : ℕ} {b : Board} {canvas : List ℕ} (o : ℕ) {height : ℕ} where
  pub written_none : (before : List ℕ) → Writing n width b canvas o height 0 before before 0
  unfolding range flat_map
  written_none before v R h = wrote_none before 0

  module _ (y : ℕ) {at : ℕ} {before after : List ℕ} (so_far : Writing n width b canvas o height y before after at) where
    pub written_next : (after' : List ℕ) (at' : ℕ) → y < height
        → ((v : Canvas) → CanvasReady v n width b canvas → y < canvas_height v → Wrote after at (drawn_line o v y).text after' at')
        → Writing n width b canvas o height (y + 1) before after' at'
    unfolding flat_map
    written_next after' at' u wrote v R h =
        let texts : Line → List ℕ = λ (line : Line). line.text in
        let more : drawn_text (first_lines o v (y + 1)) ≡ drawn_text (first_lines o v y) ++ (drawn_line o v y).text =
        ap drawn_text (first_lines-next o v y) ∙ ap (flat_map (λ line. line)) (map-append texts (first_lines o v y) (drawn_line o v y ∷ []))
        ∙ flat_map-append (λ line. line) (map texts (first_lines o v y)) ((drawn_line o v y).text ∷ []) ∙ ap (λ (l : List ℕ). drawn_text (first_lines o v y) ++ l) (append-nil _) in
        wrote_as (wrote_then (so_far v R h) (wrote v R (omega arith))) (sym more)

    pub written_all : y ≤ height → height ≤ y
        → (v : Canvas) → CanvasReady v n width b canvas → height ≡ canvas_height v → after ≡ put_down before 0 (drawn_text (canvas_lines o v))
    written_all u w v R h = (so_far v R h).bytes ∙ ap (λ (l : List Line). put_down before 0 (drawn_text l)) (first_lines-all o v y (omega arith))
