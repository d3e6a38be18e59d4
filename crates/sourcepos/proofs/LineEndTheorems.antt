-- What finding gives, what adding leaves to be found, and that an end moved onto its fragment and add_answer-added is found there.
use Prim.Native.Nat.{ℕ, ◌+◌, ◌-◌, ◌≤◌}
use mathlib.Core.Path.{◌≡◌, refl, sym, ap, ◌∙◌}
use mathlib.Core.Bool.{true, false, not, ◌&&◌, ◌||◌}
use mathlib.Core.List.{List, [], ◌∷◌, ◌++◌, append-nil, Memᴰ}
use mathlib.Core.Option.{Option, none, some}
use native.Mathlib.Omega.{arith}
use lib.Dec.{eqb, ltb}
use lib.ListN.{length, get_or}
use borrow.Author.Tests.{eq-eqb, ne_eqb, le-leb, le-ltb}
use Rattle.seq.specs.Lists.{select}
use Rattle.seq.proofs.Tests.{true-not-false, or-neither, bool-refused}
use Rattle.seq.proofs.Positions.{mem-last}
use Rattle.seq.proofs.Searches.{select-mem, mem-select}
use Rattle.seq.proofs.Gathered.{select-append}
use Rattle.grid.specs.Answer.{Answer, accept, refuse}
use Rattle.grid.specs.Limits.{max_register}
use Rattle.grid.proofs.ReadLaws.{passed-if}
use Rattle.sourcepos.specs.declared.CellLineEnd.{CellLineEnd}
use Rattle.sourcepos.specs.LineEnds.{reaches, last_end, eol_of, find_eol, remap}
use Rattle.sourcepos.specs.LineEndCalls.{Register, register_contradicts, ends_of, bad_end, end_too_large, add_answer, add_afterwards, find_answer, remap_answer}
use Rattle.sourcepos.specs.LineEndPromises.{LastReaching}
use Rattle.sourcepos.proofs.LineEndLaws.{last_end-none, last_end-some}
use Rattle.sourcepos.proofs.RegisterLaws.{good-numbers, small-numbers, sized-agrees, add_answer-added, one, added-register, added-sized, added-ends}

-- ---- what is found
module _ (g : Register) (line column : ℕ) where
  found : (o : Option ℕ) → find_answer g line column ≡ accept o → find_eol (ends_of g) line column ≡ o
  unfolding find_answer
  found o e =
      let first = passed-if (register_contradicts g || eqb line 0 || eqb column 0) 13 _ o e in
      let second = passed-if (ltb max_register line || ltb max_register column) 2 _ o first.1 in
      cc

  -- an eol that is found is that of an end that reaches the place, and no end that reaches it is later
  pub find-some : (eol : ℕ) → find_answer g line column ≡ accept (some eol) → LastReaching g line column eol
  unfolding find_eol
  find-some eol e = go (last_end (select (reaches line column) (ends_of g))) refl (found (some eol) e) where
    go : (l : Option CellLineEnd) → last_end (select (reaches line column) (ends_of g)) ≡ l → eol_of l ≡ some eol → LastReaching g line column eol
    go none q n = absurd (let z : ◌≡◌ {A = ℕ} 0 1 = cc in omega arith)
    go (some d) q n =
        let last = last_end-some (select (reaches line column) (ends_of g)) d q in
        let reaching = select-mem (reaches line column) (ends_of g) last.0 in
        let same : d.eol ≡ eol = cc in
        record {
          end = d;
          held = reaching.0;
          reached = reaching.1;
          answered = sym same;
          last = λ f m r. last.1 f (mem-select (reaches line column) m r);
        }

  none-selected : find_answer g line column ≡ accept none → select (reaches line column) (ends_of g) ≡ []
  unfolding find_eol
  none-selected n = go (last_end (select (reaches line column) (ends_of g))) refl (found none n) where
    go : (l : Option CellLineEnd) → last_end (select (reaches line column) (ends_of g)) ≡ l → eol_of l ≡ none → select (reaches line column) (ends_of g) ≡ []
    go none q k = last_end-none (select (reaches line column) (ends_of g)) q
    go (some d) q k = absurd (let z : ◌≡◌ {A = ℕ} 0 1 = cc in omega arith)

  -- where none is found, none reaches the place
  pub find_none : find_answer g line column ≡ accept none → (e : CellLineEnd) → Memᴰ e (ends_of g) → reaches line column e ≡ false
  find_none n e m = bool-refused (reaches line column e) (λ r. elim (rw (none-selected n) at (mem-select (reaches line column) m r)) [ ])

-- ---- what adding leaves to be found
unreached : (line column : ℕ) (e : CellLineEnd) (es : List CellLineEnd) → reaches line column e ≡ false
    → find_eol (es ++ e ∷ []) line column ≡ find_eol es line column
unfolding find_eol select
unreached line column e es r =
    ap (λ (l : List CellLineEnd). eol_of (last_end l)) (select-append (reaches line column) es (e ∷ []) ∙ rw r (append-nil (select (reaches line column) es)))

-- adding changes nothing that is found at another line
pub add-elsewhere : (g : Register) (e : CellLineEnd) (line column : ℕ) → (e.line ≡ line → ⊥)
    → find_answer (add_afterwards g e) line column ≡ find_answer g line column
unfolding add_afterwards find_answer
add-elsewhere g e line column apart = go (add_answer g e) refl where
  beside : reaches line column e ≡ false
  beside = rw (ne_eqb e.line line apart)

  go : (a : Answer ℕ) → add_answer g e ≡ a → find_answer (add_afterwards g e) line column ≡ find_answer g line column
  go (refuse number place) q = rw q
  go (accept n) q =
      rw (q, sized-agrees (one g e n q) (added-sized g e n q), (add_answer-added g e n q).agrees, added-ends g e n q, unreached line column e (ends_of g) beside)

-- ---- an end moved onto its fragment
module _ (count : ℕ) (lines bytes : List ℕ) (e f : CellLineEnd) (g : Register) (n column : ℕ)
    (q : remap_answer count lines bytes e ≡ accept f) (r : add_answer g f ≡ accept n) (low : e.start ≤ column) (high : column ≤ e.eol) where
  abbrev line : ℕ
  line = get_or lines (e.line - 1) 0

  abbrev byte : ℕ
  byte = get_or bytes (e.line - 1) 0

  -- what remapping has tested, and the end that it gave
  moved : (bad_end e ≡ false) × (f ≡ remap e line byte)
  unfolding remap_answer
  moved =
      let apart = not (eqb (length lines) count && eqb (length bytes) count) in
      let first = passed-if (apart || bad_end e || ltb count e.line) 13 _ f q in
      let second = passed-if (end_too_large e || end_too_large (remap e line byte)) 2 _ f first.1 in
      let tested = or-neither (apart || bad_end e) (ltb count e.line) first.0 in
      ((or-neither apart (bad_end e) tested.0).1, cc)

  abbrev after : Register
  after = one g f n r

  allowed : find_answer after line (byte + column) ≡ accept (find_eol (ends_of after) line (byte + column))
  unfolding find_answer remap
  allowed =
      let told = moved.1 in
      let small = small-numbers f (add_answer-added g f n r).small in
      let kept = good-numbers f (add_answer-added g f n r).good in
      let given = good-numbers e moved.0 in
      let on_line : f.line ≡ line = ap (λ (d : CellLineEnd). d.line) told in
      let to_eol : f.eol ≡ byte + e.eol = ap (λ (d : CellLineEnd). d.eol) told in
      let line_some : (line ≡ 0 → ⊥) = λ z. kept.0 (on_line ∙ z) in
      let column_some : (byte + column ≡ 0 → ⊥) = λ z. given.1 (omega (arith, z, low)) in
      rw (
        sized-agrees after (added-sized g f n r),
        ne_eqb line 0 line_some,
        ne_eqb (byte + column) 0 column_some,
        le-ltb max_register line (omega (arith, small.0, on_line)),
        le-ltb max_register (byte + column) (omega (arith, small.2, to_eol, high)),
      )

  reached : reaches line (byte + column) f ≡ true
  unfolding remap
  reached =
      rw (moved.1, eq-eqb line line refl, le-leb (byte + e.start) (byte + column) (omega (arith, low)), le-leb (byte + column) (byte + e.eol) (omega (arith, high)))

  -- where none was found before, it is found alone
  alone : find_answer g line (byte + column) ≡ accept none → find_eol (ends_of after) line (byte + column) ≡ some (byte + e.eol)
  unfolding find_eol select last_end remap
  alone none_before =
      ap (λ (l : List CellLineEnd). eol_of (last_end (select (reaches line (byte + column)) l))) (added-ends g f n r)
      ∙ ap (λ (l : List CellLineEnd). eol_of (last_end l)) (select-append (reaches line (byte + column)) (ends_of g) (f ∷ []))
      ∙ rw (none-selected g line (byte + column) none_before, reached) (ap (λ (d : CellLineEnd). some d.eol) moved.1)

  -- an end moved onto its fragment and then add_answer-added is found there: what is found is the last of the ends that reach, and where none was
  -- found before, it is this one
  pub remap-add-find : (eol : ℕ) × (find_answer (add_afterwards g f) line (byte + column) ≡ accept (some eol))
      × LastReaching (add_afterwards g f) line (byte + column) eol × (find_answer g line (byte + column) ≡ accept none → eol ≡ byte + e.eol)
  remap-add-find = rw (added-register g f n r) (go (find_eol (ends_of after) line (byte + column)) refl) where
    held : Memᴰ f (ends_of after)
    held = rw (added-ends g f n r) (mem-last (ends_of g) f)

    go : (o : Option ℕ) → find_eol (ends_of after) line (byte + column) ≡ o
        → (eol : ℕ) × (find_answer after line (byte + column) ≡ accept (some eol)) × LastReaching after line (byte + column) eol
        × (find_answer g line (byte + column) ≡ accept none → eol ≡ byte + e.eol)
    go none k = absurd (true-not-false (sym reached ∙ find_none after line (byte + column) (allowed ∙ ap (λ (o : Option ℕ). accept o) k) f held))
    go (some eol) k =
        let answered : find_answer after line (byte + column) ≡ accept (some eol) = allowed ∙ ap (λ (o : Option ℕ). accept o) k in
        (eol, answered, find-some after line (byte + column) eol answered, λ none_before. let same : some eol ≡ some (byte + e.eol) = sym k ∙ alone none_before in cc)
