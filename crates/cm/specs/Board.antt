-- A canvas with its text, in the working arrays that redraw is lent.
use Rattle.std.specs.Prelude.{ℕ, ◌+◌, ◌-◌, ◌*◌, ◌≤◌, ◌<◌, ◌≡◌, length, get_or, take, drop}
use mathlib.Core.List.{List, [], map, Memᴰ}
use Rattle.text.specs.Lines.{no_text}
use Rattle.grid.specs.LayoutCall.{slot_space}
use Rattle.drawing.specs.Plain.{Box, Canvas, canvas_width, canvas_height}
use Rattle.drawing.proofs.RuleRows.{Lined}
use Rattle.representation.specs.Arrays.{rects_of}
use Rattle.representation.specs.Arrays.{rect_in}
use Rattle.canvas.specs.Picture.{Pictured}

-- line j of the text stands from its start to its end
pub record LineAt (text starts ends : List ℕ) (j : ℕ) (line : List ℕ) : Type 0 where
  pub start_room : j < length starts
  pub end_room : j < length ends
  pub forward : get_or starts j 0 ≤ get_or ends j 0
  pub inside : get_or ends j 0 ≤ length text
  pub bytes : take (get_or ends j 0 - get_or starts j 0) (drop (get_or starts j 0) text) ≡ line

abbrev pub no_box : Box
no_box = record { frame = record { top = 0; left = 0; bottom = 0; right = 0 }; lines = [] }

abbrev pub lines_at : List Box → ℕ → List (List ℕ)
lines_at bs k = (get_or bs k no_box).lines

-- for each box: how many lines it has, and where each stands
pub record Lettered (bs : List Box) (text starts ends firsts heights : List ℕ) : Type 0 where
  pub first_room : length bs ≤ length firsts
  pub height_room : length bs ≤ length heights
  pub tall : (k : ℕ) → k < length bs → get_or heights k 0 ≡ length (lines_at bs k)
  pub line : (k i : ℕ) → k < length bs → i < length (lines_at bs k) → LineAt text starts ends (get_or firsts k 0 + i) (get_or (lines_at bs k) i no_text)

-- the arrays: each cell's borders, the text, where its lines start and end, each cell's first line and number of lines
pub record Board : Type 0 where
  pub rects : List ℕ
  pub text : List ℕ
  pub starts : List ℕ
  pub ends : List ℕ
  pub firsts : List ℕ
  pub heights : List ℕ

abbrev pub board : (rects text starts ends firsts heights : List ℕ) → Board
board rects text starts ends firsts heights = record { rects = rects; text = text; starts = starts; ends = ends; firsts = firsts; heights = heights }

-- n boxes that are no larger than a drawing may be
pub record Boxed (v : Canvas) (n : ℕ) (b : Board) : Type 0 where
  pub lined : Lined v
  pub narrow : canvas_width v ≤ 128
  pub low : canvas_height v ≤ 128
  pub few : n ≤ 1024
  pub rect_room : 4 * n ≤ length b.rects
  pub frames : map (λ (c : Box). c.frame) v.boxes ≡ rects_of n b.rects
  pub lettered : Lettered v.boxes b.text b.starts b.ends b.firsts b.heights
  pub short : (c : Box) → Memᴰ c v.boxes → (i : ℕ) → length (get_or c.lines i no_text) ≤ 512

-- cell k has line y inside
pub record Inner (n : ℕ) (rects : List ℕ) (y k : ℕ) : Type 0 where
  pub cell : k < n
  pub below : (rect_in rects k).top < y
  pub above : y < (rect_in rects k).bottom

-- and the canvas bears their borders
pub record CanvasReady (v : Canvas) (n width : ℕ) (b : Board) (canvas : List ℕ) : Type 0 where
  pub boxed : Boxed v n b
  pub wide : width ≡ canvas_width v
  pub canvas_room : slot_space ≤ length canvas
  pub pictured : Pictured v n b.rects canvas
