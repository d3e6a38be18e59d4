-- `characters::span` meets its contract: a tab by its column, another character by its columns.
use Rattle.text.proofs.CharactersLaws.{tab-spans, other-spans}
use Rattle.characters.proofs.span.Goals as goal

pub returns-then-c-eq-TAB : goal.returns-then-c-eq-TAB
returns-then-c-eq-TAB c = search tab-spans

pub returns : goal.returns
returns c = search other-spans
