-- `utf8::known::known_character` meets its contract: the line is UTF-8 of the set, so the first byte's range says which bytes there are.
use Rattle.text.proofs.KnownLaws.{known-one, known_two, known-three, first-high, second-high, second-inside, third-high, third-inside, two_fits, lead-fits, lead-two-fits, lead-more-fits, three-fits}
use Rattle.utf8.proofs.known.known_character.Goals as goal

pub returns-then-a-lt128 : goal.returns-then-a-lt128
returns-then-a-lt128 c = search known-one

pub bounds-line-at-2 : goal.bounds-line-at-2
bounds-line-at-2 c = search second-inside

pub overflow_sub-value : goal.overflow_sub-value
overflow_sub-value c = search first-high

pub overflow_sub-value-then-a-lt224 : goal.overflow_sub-value-then-a-lt224
overflow_sub-value-then-a-lt224 c = search second-high

pub overflow_add-value : goal.overflow_add-value
overflow_add-value c = search two_fits

pub returns-then-a-lt224 : goal.returns-then-a-lt224
returns-then-a-lt224 c = search known_two

pub bounds-line-at-3 : goal.bounds-line-at-3
bounds-line-at-3 c = search third-inside

pub overflow_mul-value-2 : goal.overflow_mul-value-2
overflow_mul-value-2 c = search lead-fits

pub overflow_sub-value-3 : goal.overflow_sub-value-3
overflow_sub-value-3 c = search second-high

pub overflow_add-value-2 : goal.overflow_add-value-2
overflow_add-value-2 c = search lead-two-fits

pub overflow_mul-value-3 : goal.overflow_mul-value-3
overflow_mul-value-3 c = search lead-more-fits

pub overflow_sub-value-4 : goal.overflow_sub-value-4
overflow_sub-value-4 c = search third-high

pub overflow_add-value-3 : goal.overflow_add-value-3
overflow_add-value-3 c = search three-fits

pub returns : goal.returns
returns c = search known-three
