-- `ownwords::behind` meets its contract. Assumes nothing.
use mathlib.Core.Path.{sym, ap}
use native.Mathlib.Omega.{arith}
use Rattle.ownwords.specs.OwnWords.{behind}
use Rattle.ownwords.specs.OwnWordLaws.{behind_bracket}
use Rattle.ownwords.proofs.behind.Goals as goal

pub returns-in-1 : goal.returns-in-1
unfolding behind
returns-in-1 c = sym (ap behind c.in-1.is)

pub returns-in-2 : goal.returns-in-2
unfolding behind
returns-in-2 c = sym (ap behind c.in-2.is)

pub returns-in-7 : goal.returns-in-7
unfolding behind
returns-in-7 c = sym (ap behind c.in-7.is)

pub returns-in-10 : goal.returns-in-10
unfolding behind
returns-in-10 c = sym (ap behind c.in-10.is)

pub returns-in_default : goal.returns-in_default
unfolding behind
returns-in_default c = sym (behind_bracket _ c.requires.0 c.requires.1 (omega arith) (λ e. omega arith) (λ e. omega arith))
