-- `fragments::part::after_first` meets its contract: each return by its law.
use native.Mathlib.Omega.{arith}
use Rattle.fragments.proofs.part.FirstLaws.{none-begins, space-begins, other-begins, narrow-tab-begins, wide-tab-begins}
use Rattle.fragments.proofs.part.after_first.Goals as goal

pub returns-in-32 : goal.returns-in-32
returns-in-32 c = search space-begins

pub returns-in-9 : goal.returns-in-9
returns-in-9 c = search narrow-tab-begins

pub returns-in-9-2 : goal.returns-in-9-2
returns-in-9-2 c = search wide-tab-begins

pub returns-in_default : goal.returns-in_default
returns-in_default c = none-begins _ _ (omega arith)

pub returns-in_default-2 : goal.returns-in_default-2
returns-in_default-2 c = search other-begins
