-- `fragments::cell_fragment` meets its contract: each return by its law.
use Rattle.fragments.proofs.CallLaws.{refused-13, refused-2, cut_numbers_answer-checked, low_byte, cut_numbers_answer-accepted}
use Rattle.fragments.proofs.cell_fragment.Goals as goal

pub returns-then-bad_range : goal.returns-then-bad_range
returns-then-bad_range c = search refused-13

pub returns-then-too_large : goal.returns-then-too_large
returns-then-too_large c = search refused-2

pub cut_part-piece-requires : goal.cut_part-piece-requires
cut_part-piece-requires c = search cut_numbers_answer-checked

pub overflow_add-result : goal.overflow_add-result
overflow_add-result c = search low_byte

pub returns : goal.returns
returns c = search cut_numbers_answer-accepted
