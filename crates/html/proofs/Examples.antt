-- Computed examples of the definitions of this crate, at their edges. Expected values were worked out by hand from document 01.
use mathlib.Core.Path.{◌≡◌, refl}
use mathlib.Core.Bool.{Bool, true, false}
use mathlib.Core.List.{List, [], ◌∷◌, ◌++◌, map}
use Prim.Native.Nat.{ℕ}
use lib.ListN.{length, replicate}
use lib.Ieee.{fin}
use lib.IntN.{negsuc}
use Rattle.seq.specs.Ascii.{ascii}
use Rattle.grid.specs.Answer.{Answer, accept, refuse}
use Rattle.html.specs.Computing.{rendering}
use Rattle.html.specs.Shares.{hundredths_of, percent_of, share_text}
use Rattle.html.specs.PageCall.{PageSizes, PageArrays, page_answer, page_afterwards}

-- Shares

pub half_up : map (λ n. hundredths_of n 32) (1 ∷ 3 ∷ []) ≡ 313 ∷ 938 ∷ []
unfolding rendering
half_up = refl

pub below-the-half : hundredths_of 1 3 ≡ 3333
unfolding rendering
below-the-half = refl

pub shares-at-the-ends : hundredths_of 1 1 ∷ hundredths_of 0 1 ∷ hundredths_of 128 128 ∷ hundredths_of 1 16256 ∷ hundredths_of 7 8 ∷ [] ≡ 10000 ∷ 0 ∷ 10000 ∷ 1 ∷ 8750 ∷ []
unfolding rendering
shares-at-the-ends = refl

-- 33.33 as a binary64: 2345390243441541 / 2 ^ 46
pub percent-rounded-once : percent_of 3333 ≡ fin false 2345390243441541 (negsuc 45)
unfolding rendering
percent-rounded-once = refl

pub no-width-at-all : hundredths_of 0 0 ≡ 0
unfolding rendering
no-width-at-all = refl

pub without-closing-zeros : map share_text (3333 ∷ 1250 ∷ 5000 ∷ 1 ∷ 10000 ∷ []) ≡ ascii "33.33" ∷ ascii "12.5" ∷ ascii "50" ∷ ascii "0.01" ∷ ascii "100" ∷ []
unfolding rendering
without-closing-zeros = refl

pub each-decimal : map share_text (0 ∷ 7 ∷ 10 ∷ 99 ∷ 100 ∷ 101 ∷ 9990 ∷ []) ≡ ascii "0" ∷ ascii "0.07" ∷ ascii "0.1" ∷ ascii "0.99" ∷ ascii "1" ∷ ascii "1.01" ∷ ascii "99.9" ∷ []
unfolding rendering
each-decimal = refl

-- A page of a Head row of two cells, a Body cell over two rows and two beside it; the second column is at the right

abbrev sizes : PageSizes
sizes = record { columns = 2; rows = 3; cells = 5; bytes = 9 }

abbrev given : ℕ → PageArrays
given rowspan =
    record {
      columns = 0 ∷ 1 ∷ 2 ∷ 2 ∷ [];
      sections = 0 ∷ 1 ∷ 1 ∷ [];
      cells = 0 ∷ 0 ∷ 1 ∷ 1 ∷ 1 ∷ 0 ∷ 1 ∷ 1 ∷ 1 ∷ 1 ∷ 1 ∷ 0 ∷ 1 ∷ rowspan ∷ 5 ∷ 1 ∷ 1 ∷ 1 ∷ 1 ∷ 0 ∷ 2 ∷ 1 ∷ 1 ∷ 1 ∷ 2 ∷ [];
      inner = ascii "abc\n d\ne\n";
    }

abbrev plain : List ℕ
plain = ascii "<table>\n<thead>\n<tr>\n<th>a</th>\n<th align=\"right\">b</th>\n</tr>\n</thead>\n<tbody>\n<tr>\n<td rowspan=\"2\">c\n d\n</td>\n<td align=\"right\"></td>\n</tr>\n<tr>\n<td align=\"right\">e\n</td>\n</tr>\n</tbody>\n</table>\n"

abbrev with_widths : List ℕ
with_widths = ascii "<table>\n<colgroup>\n<col style=\"width:33.33%\" />\n<col style=\"width:66.67%\" />\n</colgroup>\n<thead>\n<tr>\n<th>a</th>\n<th align=\"right\">b</th>\n</tr>\n</thead>\n<tbody>\n<tr>\n<td rowspan=\"2\">c\n d\n</td>\n<td align=\"right\"></td>\n</tr>\n<tr>\n<td align=\"right\">e\n</td>\n</tr>\n</tbody>\n</table>\n"

-- the call with a buffer of exactly the expected length
abbrev page_for : Bool → List ℕ → List ℕ
page_for widths expected = page_afterwards widths sizes (given 2) (replicate (length expected) 9)

pub page-without-widths : page_for false plain ≡ plain
unfolding rendering
page-without-widths = refl

pub page-with-widths : page_for true with_widths ≡ with_widths
unfolding rendering
page-with-widths = refl

pub page-one-byte-short : page_answer false sizes (given 2) (replicate 196 9) ≡ refuse 12 0
unfolding rendering
page-one-byte-short = refl

pub page-length : page_answer false sizes (given 2) (replicate 197 9) ≡ accept 197
unfolding rendering
page-length = refl

pub refused-page-writes-nothing : page_afterwards false sizes (given 2) (replicate 196 9) ≡ replicate 196 9
unfolding rendering
refused-page-writes-nothing = refl

-- A page of all three sections, cells that span either way, each alignment, and inner bytes that no text has

abbrev full_sizes : PageSizes
full_sizes = record { columns = 4; rows = 5; cells = 12; bytes = 9 }

abbrev full : List ℕ → List ℕ → PageArrays
full columns sections =
    record {
      columns = columns;
      sections = sections;
      cells = 0 ∷ 0 ∷ 4 ∷ 1 ∷ 2 ∷ 1 ∷ 0 ∷ 1 ∷ 2 ∷ 0 ∷ 1 ∷ 1 ∷ 1 ∷ 1 ∷ 1 ∷ 1 ∷ 2 ∷ 2 ∷ 2 ∷ 3
          ∷ 2 ∷ 1 ∷ 1 ∷ 1 ∷ 0 ∷ 3 ∷ 0 ∷ 1 ∷ 1 ∷ 1 ∷ 3 ∷ 1 ∷ 2 ∷ 1 ∷ 0 ∷ 3 ∷ 3 ∷ 1 ∷ 1 ∷ 1
          ∷ 4 ∷ 0 ∷ 1 ∷ 1 ∷ 0 ∷ 4 ∷ 1 ∷ 1 ∷ 1 ∷ 0 ∷ 4 ∷ 2 ∷ 1 ∷ 1 ∷ 0 ∷ 4 ∷ 3 ∷ 1 ∷ 1 ∷ 1 ∷ [];
      inner = 0xff ∷ 0x00 ∷ ascii "b<&\nxyz";
    }

-- Center, None, Left, Right, of widths 1, 0, 0, 7
abbrev columns : List ℕ
columns = 3 ∷ 1 ∷ 0 ∷ 0 ∷ 1 ∷ 0 ∷ 2 ∷ 7 ∷ []

-- Head, two of Body, two of Foot
abbrev sections : List ℕ
sections = 0 ∷ 1 ∷ 1 ∷ 2 ∷ 2 ∷ []

abbrev full_page : List ℕ
full_page = ascii "<table>\n<colgroup>\n<col style=\"width:12.5%\" />\n<col style=\"width:0%\" />\n<col style=\"width:0%\" />\n<col style=\"width:87.5%\" />\n</colgroup>\n<thead>\n<tr>\n<th colspan=\"4\" align=\"center\">" ++ 0xff ∷ 0x00 ∷ ascii "</th>\n</tr>\n</thead>\n<tbody>\n<tr>\n<td rowspan=\"2\" align=\"center\"></td>\n<td>b</td>\n<td colspan=\"2\" rowspan=\"2\" align=\"left\"><&\n</td>\n</tr>\n<tr>\n<td></td>\n</tr>\n</tbody>\n<tfoot>\n<tr>\n<td align=\"center\">x</td>\n<td colspan=\"2\"></td>\n<td align=\"right\">y</td>\n</tr>\n<tr>\n<td align=\"center\"></td>\n<td></td>\n<td align=\"left\"></td>\n<td align=\"right\">z</td>\n</tr>\n</tfoot>\n</table>\n"

pub page-of-everything : page_afterwards true full_sizes (full columns sections) (replicate 556 9) ≡ full_page ++ 9 ∷ []
unfolding rendering
page-of-everything = refl

pub length-of-everything : map (λ room. page_answer true full_sizes (full columns sections) (replicate room 9)) (555 ∷ 554 ∷ []) ≡ accept 555 ∷ refuse 12 0 ∷ []
unfolding rendering
length-of-everything = refl

-- Refusals, each before the next

pub lengths-contradict : page_answer false (record { columns = 2; rows = 3; cells = 5; bytes = 8 }) (given 2) [] ≡ refuse 13 0
unfolding rendering
lengths-contradict = refl

-- one cell of n bytes, with room for its page
abbrev one_cell : ℕ → ℕ → List ℕ → Answer ℕ
one_cell bytes n inner =
    page_answer false (record { columns = 1; rows = 1; cells = 1; bytes = bytes })
    (record { columns = 0 ∷ 0 ∷ []; sections = 1 ∷ []; cells = 0 ∷ 0 ∷ 1 ∷ 1 ∷ n ∷ []; inner = inner }) (replicate 99 0)

pub lengths-add-up : one_cell 2 2 (7 ∷ 7 ∷ []) ∷ one_cell 2 1 (7 ∷ 7 ∷ []) ∷ one_cell 2 3 (7 ∷ 7 ∷ []) ∷ one_cell 2 2 (7 ∷ []) ∷ one_cell 1 2 (7 ∷ 7 ∷ []) ∷ []
    ≡ accept 57 ∷ refuse 13 0 ∷ refuse 13 0 ∷ refuse 13 0 ∷ refuse 13 0 ∷ []
unfolding rendering
lengths-add-up = refl

-- the call on the large page, without room for it
abbrev full_answer : List ℕ → List ℕ → Answer ℕ
full_answer columns sections = page_answer false full_sizes (full columns sections) []

pub codes-past-their-cases : full_answer (3 ∷ 1 ∷ 4 ∷ 0 ∷ 1 ∷ 0 ∷ 2 ∷ 7 ∷ []) sections ∷ full_answer (3 ∷ 1 ∷ 0 ∷ 0 ∷ 1 ∷ 0 ∷ 4 ∷ 7 ∷ []) sections ∷ full_answer columns (0 ∷ 1 ∷ 1 ∷ 3 ∷ 2 ∷ []) ∷ []
    ≡ refuse 13 0 ∷ refuse 13 0 ∷ refuse 13 0 ∷ []
unfolding rendering
codes-past-their-cases = refl

-- more columns than rows and cells
pub last-code-past-its-cases : page_answer false (record { columns = 2; rows = 1; cells = 1; bytes = 0 })
    (record { columns = 0 ∷ 1 ∷ 4 ∷ 1 ∷ []; sections = 1 ∷ []; cells = 0 ∷ 0 ∷ 2 ∷ 1 ∷ 0 ∷ []; inner = [] }) [] ≡ refuse 13 0
unfolding rendering
last-code-past-its-cases = refl

pub contradiction-before-no-cells : page_answer false (record { columns = 0; rows = 1; cells = 0; bytes = 0 }) (record { columns = []; sections = []; cells = []; inner = [] }) [] ≡ refuse 13 0
unfolding rendering
contradiction-before-no-cells = refl

pub no-cells-before-limit : page_answer false (record { columns = 1; rows = 1; cells = 0; bytes = 0 }) (record { columns = 0 ∷ 129 ∷ []; sections = 1 ∷ []; cells = []; inner = [] }) [] ≡ refuse 1 0
unfolding rendering
no-cells-before-limit = refl

-- a Head after a Body, with a width past its limit and with the widest
pub limit-before-rules : map (λ width. full_answer (3 ∷ width ∷ 0 ∷ 0 ∷ 1 ∷ 0 ∷ 2 ∷ 7 ∷ []) (1 ∷ 0 ∷ 0 ∷ 2 ∷ 2 ∷ [])) (129 ∷ 128 ∷ []) ≡ refuse 2 0 ∷ refuse 8 0 ∷ []
unfolding rendering
limit-before-rules = refl

pub limit-of-inner-bytes : map (λ n. one_cell n n (replicate n 7)) (32768 ∷ 32769 ∷ []) ≡ refuse 12 0 ∷ refuse 2 0 ∷ []
unfolding rendering
limit-of-inner-bytes = refl

pub rules-before-output : page_answer false sizes (given 1) [] ≡ refuse 8 0
unfolding rendering
rules-before-output = refl
