-- The register calls: adding checks 13, 2, 14; finding and remapping check 13, 2.
use Rattle.std.specs.Prelude.{ℕ, ◌+◌, ◌-◌, Bool, not, ◌&&◌, ◌||◌, List, map, length, get_or, set, eqb, leb, ltb}
use Rattle.std.proofs.Math.Option.{Option}
use Rattle.seq.specs.Lists.{up_to}
use Rattle.grid.specs.Answer.{Answer, accept, refuse_if, afterwards}
use Rattle.grid.specs.Limits.{max_register}
use Rattle.sourcepos.specs.declared.CellLineEnd.{CellLineEnd}
use Rattle.sourcepos.specs.LineEnds.{find_eol, remap}

-- 14: "the line-end register holds 1,024"
abbrev pub register_room : ℕ
register_room = 1024

-- the register as lent: how many ends it holds, and an array for each of their numbers
pub record Register : Type 0 where
  pub count : ℕ
  pub lines : List ℕ
  pub starts : List ℕ
  pub eols : List ℕ

abbrev pub register : ℕ → (lines starts eols : List ℕ) → Register
register count lines starts eols = record { count = count; lines = lines; starts = starts; eols = eols }

-- 13: an array that is not the register's size, or a count past it
unfoldable pub register_contradicts : Register → Bool
register_contradicts g =
    not (eqb (length g.lines) register_room && eqb (length g.starts) register_room && eqb (length g.eols) register_room
    && leb g.count register_room)

-- end i of a register
abbrev pub end_at : Register → ℕ → CellLineEnd
end_at g i = record { line = get_or g.lines i 0; start = get_or g.starts i 0; eol = get_or g.eols i 0 }

-- the ends that a register holds
unfoldable pub ends_of : Register → List CellLineEnd
ends_of g = map (end_at g) (up_to g.count)

-- 13: "line, column or start is 0 or its start exceeds its eol"
unfoldable pub bad_end : CellLineEnd → Bool
bad_end e = eqb e.line 0 || eqb e.start 0 || ltb e.eol e.start

unfoldable pub end_too_large : CellLineEnd → Bool
end_too_large e = ltb max_register e.line || ltb max_register e.start || ltb max_register e.eol

-- adding an end: the count afterwards
unfoldable pub add_answer : Register → CellLineEnd → Answer ℕ
add_answer g e =
    refuse_if (register_contradicts g || bad_end e) 13
    (refuse_if (end_too_large e) 2 (refuse_if (eqb g.count register_room) 14 (accept (g.count + 1))))

unfoldable pub add_afterwards : Register → CellLineEnd → Register
add_afterwards g e =
    afterwards (add_answer g e)
    (λ n. record {
      count = n;
      lines = set g.lines g.count e.line;
      starts = set g.starts g.count e.start;
      eols = set g.eols g.count e.eol;
    }) g

-- finding the end at a line and column: its eol, or none
unfoldable pub find_answer : Register → ℕ → ℕ → Answer (Option ℕ)
find_answer g line column =
    refuse_if (register_contradicts g || eqb line 0 || eqb column 0) 13
    (refuse_if (ltb max_register line || ltb max_register column) 2 (accept (find_eol (ends_of g) line column)))

-- remapping: the lines and bytes of `count` fragments, counted from 1 by the end's line; "a line past the fragments is refusal 13"
unfoldable pub remap_answer : ℕ → List ℕ → List ℕ → CellLineEnd → Answer CellLineEnd
remap_answer count lines bytes e =
    refuse_if (not (eqb (length lines) count && eqb (length bytes) count) || bad_end e || ltb count e.line) 13
    (refuse_if (end_too_large e || end_too_large (remap e (get_or lines (e.line - 1) 0) (get_or bytes (e.line - 1) 0))) 2
    (accept (remap e (get_or lines (e.line - 1) 0) (get_or bytes (e.line - 1) 0))))
