-- `characters::known::span_in_set` meets its contract: the ranges stand in order.
use Rattle.text.proofs.CharactersLaws.{tab-spans, spans-one, spans-none, spans-two}
use Rattle.characters.proofs.known.span_in_set.Goals as goal

pub returns-then-c-ge12353 : goal.returns-then-c-ge12353
returns-then-c-ge12353 c = search spans-two

pub returns-then-c-ge768 : goal.returns-then-c-ge768
returns-then-c-ge768 c = search spans-none

pub returns-then-c-eq-TAB : goal.returns-then-c-eq-TAB
returns-then-c-eq-TAB c = search tab-spans

pub returns : goal.returns
returns c = search spans-one
