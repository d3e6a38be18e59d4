-- A tree of tags, its bytes, and a reader that gives it back: what a browser sees of a page, whatever the tags mean.
use Rattle.std.specs.Prelude.{ℕ, zero, suc, ◌+◌, Bool, false, ◌&&◌, cond, length, get_or, drop, eqb}
use mathlib.Core.List.{List, [], ◌∷◌, ◌++◌, flat_map}
use Rattle.std.proofs.Math.Option.{Option, none, some}
use Rattle.seq.specs.Lists.{is_empty}
use Rattle.seq.specs.Ascii.{ascii}

pub record Attribute : Type 0 where
  pub name : List ℕ
  pub value : List ℕ

pub record Tag : Type 0 where
  pub name : List ℕ
  pub attributes : List Attribute

-- what stands one after the other: texts, tags that hold nothing, and elements with what they hold
pub data Forest : Type 0 where
  nothing : Forest
  text : List ℕ → Forest → Forest
  single : Tag → Forest → Forest
  element : Tag → Forest → Forest → Forest

abbrev pub attribute_text : Attribute → List ℕ
attribute_text a = ascii " " ++ a.name ++ ascii "=\"" ++ a.value ++ ascii "\""

abbrev pub tag_text : Tag → List ℕ
tag_text t = t.name ++ flat_map attribute_text t.attributes

abbrev pub closing_text : Tag → List ℕ
closing_text t = ascii "</" ++ t.name ++ ascii ">"

unfoldable pub render : Forest → List ℕ
render nothing = []
render (text bytes f) = bytes ++ render f
render (single t f) = ascii "<" ++ tag_text t ++ ascii " />" ++ render f
render (element t inside f) = ascii "<" ++ tag_text t ++ ascii ">" ++ render inside ++ closing_text t ++ render f

-- the bytes before the first `stop`, and from it on
unfoldable pub before : ℕ → List ℕ → List ℕ
before stop [] = []
before stop (b ∷ bs) = cond (eqb b stop) [] (b ∷ before stop bs)

unfoldable pub from : ℕ → List ℕ → List ℕ
from stop [] = []
from stop (b ∷ bs) = cond (eqb b stop) (b ∷ bs) (from stop bs)

-- what follows a beginning, or none where it begins otherwise
unfoldable pub after : List ℕ → List ℕ → Option (List ℕ)
after [] bytes = some bytes
after (p ∷ ps) [] = none
after (p ∷ ps) (b ∷ bs) = cond (eqb p b) (after ps bs) none

unfoldable pub same : List ℕ → List ℕ → Bool
same [] bytes = is_empty bytes
same (p ∷ ps) [] = false
same (p ∷ ps) (b ∷ bs) = eqb p b && same ps bs

-- at most n attributes, each after a space; a slash ends them
unfoldable pub read_attributes : ℕ → List ℕ → List Attribute
read_attributes zero bytes = []
read_attributes (suc n) [] = []
read_attributes (suc n) (space ∷ bytes) =
    let value = drop 2 (from 0x3d bytes) in
    cond (eqb (get_or bytes 0 0) 0x2f) []
    (record { name = before 0x3d bytes; value = before 0x22 value } ∷ read_attributes n (drop 1 (from 0x22 value)))

unfoldable pub read_tag : List ℕ → Tag
read_tag bytes = record { name = before 0x20 bytes; attributes = read_attributes (length bytes) (from 0x20 bytes) }

-- a column holds nothing, and has no closing tag
unfoldable pub holds_nothing : Tag → Bool
holds_nothing t = same t.name (ascii "col")

pub record Read : Type 0 where
  pub forest : Forest
  pub rest : List ℕ

module _ (next : List ℕ → Option Read) where
  abbrev pub and_after : (Forest → Forest) → Option Read → Option Read
  and_after make none = none
  and_after make (some r) = some (record { forest = make r.forest; rest = r.rest })

  -- past the closing tag of an element
  abbrev pub closed : Tag → Forest → Option (List ℕ) → Option Read
  closed t inside none = none
  closed t inside (some bytes) = and_after (element t inside) (next bytes)

  abbrev pub held : Tag → Option Read → Option Read
  held t none = none
  held t (some r) = closed t r.forest (after (closing_text t) r.rest)

  -- past a tag, the bytes after its `>`
  abbrev pub tagged : Tag → List ℕ → Option Read
  tagged t bytes = cond (holds_nothing t) (and_after (single t) (next bytes)) (held t (next bytes))

  -- one piece of a page: its end, a closing tag, a tag, or a text up to the next tag
  unfoldable pub read_one : List ℕ → Option Read
  read_one [] = some (record { forest = nothing; rest = [] })
  read_one (b ∷ bs) =
      cond (eqb b 0x3c)
      (cond (eqb (get_or bs 0 0) 0x2f) (some (record { forest = nothing; rest = b ∷ bs })) (tagged (read_tag (before 0x3e bs)) (drop 1 (from 0x3e bs))))
      (and_after (text (before 0x3c (b ∷ bs))) (next (from 0x3c (b ∷ bs))))

-- at most n pieces
unfoldable pub read_pieces : ℕ → List ℕ → Option Read
read_pieces zero bytes = none
read_pieces (suc n) bytes = read_one (read_pieces n) bytes

abbrev pub whole : Option Read → Option Forest
whole none = none
whole (some r) = cond (is_empty r.rest) (some r.forest) none

-- the tree of a page, or none where a closing tag is missing or out of place
unfoldable pub read_tags : List ℕ → Option Forest
read_tags bytes = whole (read_pieces (length bytes + 1) bytes)
