-- Laws of the cut lines, from where lines start and where borders stand.
use Prim.Native.Nat.{ℕ, ◌+◌, ◌-◌, ◌≤◌, ◌<◌}
use mathlib.Core.Path.{◌≡◌, refl, sym, ap, ◌∙◌}
use mathlib.Core.Logic.{⊎_elim}
use mathlib.Core.List.{List}
use native.Mathlib.Nat.{zero-add, eq-or-lt_of_le}
use native.Mathlib.Omega.{arith}
use lib.ListN.{length, get_or, take, drop, set, length-set, length-take, length-drop}
use lib.Seq.{take-take, drop-drop, get_or-set_same, get_or-set_other}
use mir.Syntax.{w16, w64}
use mir.Val.{Fits}
use borrow.Author.Rules.{Fits-under}
use Rattle.seq.specs.Lists.{sum}
use Rattle.seq.proofs.Gathered.{sum_step, sum-within}
use Rattle.text.specs.declared.ByteAt.{ByteAt}
use Rattle.text.specs.declared.Column.{Column}
use Rattle.grid.specs.Values.{Line, no_line}
use Rattle.grid.specs.CutCall.{CutNumbers, cut_numbers}
use Rattle.grid.specs.Flat.{lines_from}
use Rattle.representation.specs.Arrays.{code_at}
use Rattle.grid.proofs.SlotLaws.{line_at}
use Rattle.grid.proofs.CutLaws.{drop-take, cut-column, cut-part}
use Rattle.fragments.specs.Part.{line_of, Checked, Pieced}
use Rattle.fragments.specs.declared.part.Piece.{Piece}
use Rattle.cell.specs.Text.{source, fragment_between, cut_between, SourceReady, Cuttable, PieceOf}

-- ---- one line
module _ (lengths columns text starts offsets : List ℕ) (ready : SourceReady (source lengths columns text starts offsets)) (left right : Column) (y : ℕ)
    (c : Cuttable (source lengths columns text starts offsets) left.0 right.0 y) where
  -- the line's text, as it is taken from the whole
  abbrev part : List ℕ
  part = take (get_or starts y 0 + get_or lengths y 0 - get_or starts y 0) (drop (get_or starts y 0) text)

  begins : get_or starts y 0 ≡ sum (take y lengths)
  begins = ready.started y c.line

  pub cuttable-inside : get_or starts y 0 + get_or lengths y 0 ≤ length text
  cuttable-inside = omega (arith, begins, sum-within lengths y, ready.sheet.bytes_agree)

  pub cuttable-fits : Fits w64 (get_or starts y 0 + get_or lengths y 0)
  cuttable-fits = Fits-under w64 (get_or starts y 0 + get_or lengths y 0) 32769 (omega (arith, cuttable-inside, ready.few_bytes)) tt

  part_length : length part ≡ get_or lengths y 0
  part_length =
      omega (arith, length-take (get_or starts y 0 + get_or lengths y 0 - get_or starts y 0) (drop (get_or starts y 0) text), length-drop (get_or starts y 0) text, cuttable-inside)

  pub cuttable-low : y < 128
  cuttable-low = omega (arith, c.line, ready.sheet.few_lines)

  pub cuttable-start-fits : (border : ByteAt) → border.0 ≡ code_at offsets y left.0 → Fits w64 (border.0 + 1)
  cuttable-start-fits border from = Fits-under w64 (border.0 + 1) 514 (omega (arith, from, c.forward, c.inside, ready.sheet.short_lines y)) tt

  -- the line as the definition has it
  part-line : line_of part (record { 0 = get_or columns y 0 }) ≡ get_or (lines_from lengths columns text) y no_line
  part-line =
      let taken : get_or starts y 0 + get_or lengths y 0 - get_or starts y 0 ≡ get_or lengths y 0 = omega arith in
      rw (taken, begins) (sym (line_at lengths columns text y no_line c.line))

  -- where its borders stand
  module _ (border end : ByteAt) (from : border.0 ≡ code_at offsets y left.0) (to : end.0 ≡ code_at offsets y right.0) where
    pub cuttable-checked : Checked part (record { 0 = get_or columns y 0 }) (record { 0 = border.0 + 1 }) end left
    cuttable-checked =
        record {
          forward = omega (arith, from, to, c.forward);
          inside = omega (arith, to, c.inside, part_length);
          short = omega (arith, ready.sheet.short_lines y, part_length);
          low_column = ready.sheet.near_columns y;
          low_left = omega (arith, c.left_fits);
        }

    module _ (p : Piece) (told : Pieced part (record { 0 = get_or columns y 0 }) (record { 0 = border.0 + 1 }) end left p) where
      numbers : cut_numbers 0 (fragment_between (source lengths columns text starts offsets) left.0 right.0 y)
          ≡ record { start = p.start.0; end = p.end.0; line = y; byte = p.start.0; column = p.column.0 }
      numbers = rw (from, to) at (rw zero-add at (rw part-line at (told.numbers y 0)))

      pub piece-told : PieceOf (source lengths columns text starts offsets) left.0 right.0 y p
      unfolding cut_numbers
      piece-told =
          let f = fragment_between (source lengths columns text starts offsets) left.0 right.0 y in
          let given = get_or (lines_from lengths columns text) y no_line in
          let column : p.column.0 ≡ f.column = ap (λ (n : CutNumbers). n.column) (sym numbers) in
          let origin : get_or columns y 0 ≡ given.column = ap (λ (l : Line). l.column) part-line in
          record {
            numbers = numbers;
            forward = told.within.1;
            inside = omega (arith, told.within, to, c.inside);
            short_end = omega (arith, told.within, to, c.inside, ready.sheet.short_lines y);
            low_column =
                omega (
                  arith,
                  column,
                  origin,
                  cut-column given y 0 (record { start = code_at offsets y left.0 + 1; end = code_at offsets y right.0 }) left.0,
                  ready.sheet.near_columns y,
                  c.left_fits,
                );
          }

  -- the piece as a part of the whole text
  module _ (p : Piece) (told : PieceOf (source lengths columns text starts offsets) left.0 right.0 y p) where
    pub piece_inside : get_or starts y 0 + p.end.0 ≤ length text
    piece_inside = omega (arith, told.inside, cuttable-inside)

    pub piece-end-fits : Fits w64 (get_or starts y 0 + p.end.0)
    piece-end-fits = Fits-under w64 (get_or starts y 0 + p.end.0) 32769 (omega (arith, piece_inside, ready.few_bytes)) tt

    pub piece-start-fits : Fits w64 (get_or starts y 0 + p.start.0)
    piece-start-fits = Fits-under w64 (get_or starts y 0 + p.start.0) 32769 (omega (arith, piece_inside, told.forward, ready.few_bytes)) tt

    pub piece_cut : take (get_or starts y 0 + p.end.0 - (get_or starts y 0 + p.start.0)) (drop (get_or starts y 0 + p.start.0) text)
        ≡ cut_between (source lengths columns text starts offsets) left.0 right.0 y
    unfolding cut_numbers
    piece_cut =
        let f = fragment_between (source lengths columns text starts offsets) left.0 right.0 y in
        let (at, more, n) : ℕ × ℕ × ℕ = (get_or starts y 0, get_or starts y 0 + get_or lengths y 0 - get_or starts y 0, length f.text) in
        let first : p.start.0 ≡ f.byte - 0 = ap (λ (n : CutNumbers). n.start) (sym told.numbers) in
        let last : p.end.0 ≡ f.byte - 0 + length f.text = ap (λ (n : CutNumbers). n.end) (sym told.numbers) in
        let long : get_or starts y 0 + p.end.0 - (get_or starts y 0 + p.start.0) ≡ length f.text = omega arith in
        let taken : take n (drop p.start.0 part) ≡ take n (drop (at + p.start.0) text) =
        ap (take n) (drop-take p.start.0 more (drop at text) (omega (arith, told.forward, told.inside)) ∙ ap (take (more - p.start.0)) (drop-drop p.start.0 at text))
        ∙ take-take n (more - p.start.0) (drop (at + p.start.0) text) (omega (arith, first, last, told.inside)) in
        let whole : take n (drop p.start.0 part) ≡ f.text =
        rw (first, ap (λ (l : Line). l.text) part-line) (sym (cut-part (get_or (lines_from lengths columns text) y no_line) y 0 (record { start = code_at offsets y left.0 + 1; end = code_at offsets y right.0 }) left.0)) in
        rw long (sym taken ∙ whole)

-- ---- where lines start
pub record Starting (lengths starts₀ : List ℕ) (starts : List ℕ) (at y : ℕ) : Type 0 where
  pub kept : length starts ≡ length starts₀
  pub room : length lengths ≤ length starts₀
  pub small : sum lengths ≤ 32768
  pub place : at ≡ sum (take y lengths)
  pub noted : (i : ℕ) → i < y → get_or starts i 0 ≡ sum (take i lengths)

pub starting-none : (lengths starts₀ : List ℕ) → (length lengths ≤ length starts₀) × (sum lengths ≤ 32768) → Starting lengths starts₀ starts₀ 0 0
unfolding sum
starting-none lengths starts₀ h = record { kept = refl; room = h.0; small = h.1; place = refl; noted = λ i low. absurd (omega arith) }

module _ (lengths starts₀ starts : List ℕ) (at y : ℕ) (s : Starting lengths starts₀ starts at y) where
  module _ (h : y < length lengths) where
    pub starting-room : y < length starts
    starting-room = omega (arith, s.kept, s.room)

    pub starting-fits : Fits w16 (at + get_or lengths y 0)
    starting-fits = Fits-under w16 (at + get_or lengths y 0) 32769 (omega (arith, s.place, sum-within lengths y, s.small)) tt

    pub starting-next : Starting lengths starts₀ (set starts y at) (at + get_or lengths y 0) (y + 1)
    starting-next =
        record {
          kept = length-set starts y at ∙ s.kept;
          room = s.room;
          small = s.small;
          place = rw s.place (sym (sum_step lengths y h));
          noted = λ i low. ⊎_elim (λ (here : i ≡ y). rw here (get_or-set_same starts y at 0 starting-room ∙ s.place)) (λ (before : i < y). get_or-set_other starts y i at 0 (λ e. omega arith) ∙ s.noted i before) (eq-or-lt_of_le (omega arith));
        }

  pub starting-all : length lengths ≤ y → (i : ℕ) → i < length lengths → get_or starts i 0 ≡ sum (take i lengths)
  starting-all h i low = s.noted i (omega arith)
