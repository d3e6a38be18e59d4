-- `utf8::decode` meets its contract: a place at or past the end has no character; elsewhere the next three bytes decide.
use Rattle.seq.proofs.ListsLaws.{within_low}
use Rattle.text.proofs.Utf8Laws.{character-past, character-one, character-two, character-three, character-none}
use borrow.Author.Rules.{rules}
use Rattle.utf8.proofs.decode.Goals as goal

pub returns-then-text-at : goal.returns-then-text-at
returns-then-text-at c = search character-past

pub returns-then-a-lt128 : goal.returns-then-a-lt128
returns-then-a-lt128 c = search character-one

pub from_two-requires : goal.from_two-requires
from_two-requires c = (within_low 0xc0 0xdf _ (cc), search rules, search rules)

pub returns-then-within : goal.returns-then-within
returns-then-within c = search character-two

pub from_three-requires : goal.from_three-requires
from_three-requires c = (within_low 0xe0 0xef _ (cc), search rules, search rules, search rules)

pub returns-then-within-2 : goal.returns-then-within-2
returns-then-within-2 c = search character-three

pub returns : goal.returns
returns c = search character-none
