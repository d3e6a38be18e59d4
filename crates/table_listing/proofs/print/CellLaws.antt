-- Laws of the cells of a table, written one after another from its arrays.
use Prim.Native.Nat.{ℕ, zero, suc, ◌+◌, ◌*◌, ◌-◌, ◌≤◌, ◌<◌, min}
use mathlib.Core.Path.{◌≡◌, refl, ap, sym, ◌∙◌}
use mathlib.Core.List.{List, [], ◌∷◌, ◌++◌, flat_map, append_assoc, append-nil}
use native.Mathlib.Omega.{arith}
use lib.ListN.{length, take, drop, get_or, length-drop}
use mir.Syntax.{w64}
use mir.Val.{Fits}
use borrow.Author.Rules.{Fits-under}
use lib.Seq.{drop-drop, get_or-drop, length-take-le}
use Rattle.seq.specs.Ascii.{ascii}
use Rattle.seq.specs.Lists.{sum}
use Rattle.seq.proofs.ListsLaws.{part_to_end}
use Rattle.grid.specs.Flat.{split_text, cells_of_array}
use Rattle.grid.specs.Listing.{line_feed, printed}
use Rattle.grid.specs.CellListing.{sizes_line, text_line}
use Rattle.printing.specs.Printing.{Put, Prints, spaced, cell_printed}
use Rattle.printing.proofs.PutLaws.{put-none, put_then, put_as, put-most, put-prints}
use Rattle.grid.proofs.FlatLaws.{length-split}
use Rattle.table_listing.specs.declared.print.Written.{Written}
use Rattle.table_listing.specs.Printing.{TextPut, cells_of, table_listed}
use Rattle.table_listing.proofs.print.TextLaws.{take-least, drop-least}

-- The first lines of a text, and those after them

take_split : (n : ℕ) (ns text : List ℕ) → take n (split_text ns text) ≡ split_text (take n ns) text
unfolding split_text
take_split zero ns text = refl
take_split (suc n) [] text = refl
take_split (suc n) (m ∷ ns) text = ap (λ (l : List (List ℕ)). take m text ∷ l) (take_split n ns (drop m text))

drop-split : (n : ℕ) (ns text : List ℕ) → drop n (split_text ns text) ≡ split_text (drop n ns) (drop (sum (take n ns)) text)
unfolding split_text sum
drop-split zero ns text = refl
drop-split (suc n) [] text = refl
drop-split (suc n) (m ∷ ns) text = drop-split n ns (drop m text) ∙ ap (split_text (drop n ns)) (drop-drop (sum (take n ns)) m text)

-- One cell, and those after it

abbrev one_cell : List ℕ → List ℕ → List ℕ → ℕ → List ℕ
one_cell cells lengths text more =
    cell_printed cells 0 more ++ flat_map text_line (split_text (take more lengths) text)

cells-step : (k : ℕ) (cells lengths text : List ℕ) (more : ℕ) → more ≡ min (get_or cells 4 0) (length lengths)
    → cells_of (suc k) cells lengths text ≡ one_cell cells lengths text more ++ cells_of k (drop 5 cells) (drop more lengths) (drop (sum (take more lengths)) text)
unfolding cells_of cells_of_array flat_map
cells-step k cells lengths text more e =
    let n = get_or cells 4 0 in
    let first : take n (split_text lengths text) ≡ split_text (take more lengths) text =
    take_split n lengths text ∙ ap (λ (l : List ℕ). split_text l text) (sym (take-least lengths n more e))
    in
    let later : drop n (split_text lengths text) ≡ split_text (drop more lengths) (drop (sum (take more lengths)) text) =
    drop-split n lengths text ∙ rw (take-least lengths n more e, drop-least lengths n more e)
    in
    let count : length (split_text (take more lengths) text) ≡ more = length-split (take more lengths) text ∙ length-take-le more lengths (omega arith) in
    rw (first, later, count)

module _ (count : ℕ) (cells lengths text d : List ℕ) (at : ℕ) where
  -- the first i cells are written, with `line` lines and `used` bytes of the text
  pub record Cells (e : List ℕ) (i line used end : ℕ) : Type 0 where
    pub few : i ≤ count
    pub line_in : line ≤ length lengths
    pub used_in : used ≤ length text
    pub small : (count ≤ 1024) × (length text ≤ 32768)
    pub room : at + (110 * count + (3 * length lengths + length text)) ≤ length d
    pub done : List ℕ
    pub put : Put (110 * i + (3 * line + used)) d e at end done
    pub rest : done ++ cells_of (count - i) (drop (5 * i) cells) (drop line lengths) (drop used text) ≡ cells_of count cells lengths text

  pub cells-none : (count ≤ 1024) × (length text ≤ 32768) → at + (110 * count + (3 * length lengths + length text)) ≤ length d → Cells d 0 0 0 at
  cells-none small h =
      record {
        few = omega arith;
        line_in = omega arith;
        used_in = omega arith;
        small = small;
        room = h;
        done = [];
        put = put-none d at (omega arith);
        rest = let same : count - 0 ≡ count = omega arith in rw same;
      }

  module _ {e : List ℕ} {i line used end : ℕ} (t : Cells e i line used end) where
    pub used-fits : {f g : List ℕ} {mid : ℕ} (more : ℕ) (w : Written)
        → TextPut (take (line + more - line) (drop line lengths)) (take (length text - used) (drop used text)) f g mid w → Fits w64 (used + w.bytes)
    used-fits more w q =
        Fits-under w64 (used + w.bytes) 65536 (omega (arith, q.within, ap length (part_to_end text used), length-drop used text, t.used_in, t.small)) tt

    pub cells-next : {f g : List ℕ} {mid : ℕ} (n more : ℕ) (w : Written) → i < count → (n ≡ get_or cells (5 * i + 4) 0) × (n < 65536)
        → more ≡ min n (length lengths - line) → Put 110 e f end mid (cell_printed cells i more)
        → TextPut (take (line + more - line) (drop line lengths)) (take (length text - used) (drop used text)) f g mid w
        → Cells g (i + 1) (line + more) (used + w.bytes) w.at
    cells-next n more w h counted least p q =
        let cs = drop (5 * i) cells in
        let ls = drop line lengths in
        let ts = drop used text in
        let same : line + more - line ≡ more = omega arith in
        let long : length ls ≡ length lengths - line = length-drop line lengths in
        let high : length ts ≡ length text - used = length-drop used text in
        let wrote : TextPut (take more ls) ts _ _ _ w = rw (same, part_to_end text used) at q in
        let left : count - i ≡ suc (count - (i + 1)) = omega arith in
        let entry : (j : ℕ) → get_or cs j 0 ≡ get_or cells (5 * i + j) 0 = λ j. get_or-drop (5 * i) cells j 0 in
        let zeroth : 5 * i + 0 ≡ 5 * i = omega arith in
        let step = cells-step (count - (i + 1)) cs ls ts more (rw (entry 4, ← counted.0, long) least) in
        let five : 5 * i + 5 ≡ 5 * (i + 1) = omega arith in
        let cells_on : drop 5 cs ≡ drop (5 * (i + 1)) cells = drop-drop 5 (5 * i) cells ∙ rw five in
        let lines_on : drop more ls ≡ drop (line + more) lengths = drop-drop more line lengths in
        let text_on : drop (sum (take more ls)) ts ≡ drop (used + w.bytes) text = sym wrote.left ∙ drop-drop w.bytes used text in
        let here : one_cell cs ls ts more ≡ cell_printed cells i more ++ flat_map text_line (split_text (take more ls) ts) =
        rw (entry 0, entry 1, entry 2, entry 3, zeroth)
        in
        let all = t.done ++ (cell_printed cells i more ++ flat_map text_line (split_text (take more ls) ts)) in
        let size : length (take more ls) ≡ more = length-take-le more ls (omega arith) in
        record {
          few = omega arith;
          line_in = omega (arith, t.line_in);
          used_in = omega (arith, t.used_in, wrote.within, high);
          small = t.small;
          room = t.room;
          done = all;
          put = put-most (put_then t.put (put_then p wrote.put)) (omega (arith, size));
          rest =
              append_assoc t.done _ _ ∙ ap (λ (l : List ℕ). t.done ++ l) (rw (← here, ← cells_on, ← lines_on, ← text_on) (sym step) ∙ ap (λ (k : ℕ). cells_of k cs ls ts) (sym left)) ∙ t.rest;
        }

    pub cells-all : count ≤ i → Put (110 * count + (3 * length lengths + length text)) d e at end (cells_of count cells lengths text)
    unfolding cells_of cells_of_array flat_map
    cells-all h =
        let none : count - i ≡ 0 = omega arith in
        let whole : t.done ≡ cells_of count cells lengths text = sym (append-nil t.done) ∙ (rw none at t.rest) in
        put-most (put_as t.put whole) (omega (arith, t.few, t.line_in, t.used_in))

-- The sizes, and all cells

abbrev table_word : List ℕ
table_word = 0x74 ∷ 0x61 ∷ 0x62 ∷ 0x6c ∷ 0x65 ∷ []

sizes-put : {d a b : List ℕ} {f r : ℕ} (across down count lines bytes : ℕ) → Put 110 d a 0 f (table_word ++ spaced (across ∷ down ∷ count ∷ lines ∷ bytes ∷ []))
    → Put 1 a b f r (line_feed ∷ []) → Put 111 d b 0 r (sizes_line (record { columns = across; rows = down; cells = count; lines = lines; bytes = bytes }))
unfolding spaced printed ascii
sizes-put across down count lines bytes p q = put_as (put_then p q) (simp append_assoc)

pub table-put : {a b z : List ℕ} {f r u : ℕ} (d : List ℕ) (across down count : ℕ) (cells lengths text : List ℕ)
    → Put 110 d a 0 f (table_word ++ spaced (across ∷ down ∷ count ∷ length lengths ∷ length text ∷ [])) → Put 1 a b f r (line_feed ∷ [])
    → Put (110 * count + (3 * length lengths + length text)) b z r u (cells_of count cells lengths text) → Prints z u (table_listed across down count cells lengths text)
unfolding table_listed
table-put d across down count cells lengths text p q w = put-prints (put_then (sizes-put across down count (length lengths) (length text) p q) w)
