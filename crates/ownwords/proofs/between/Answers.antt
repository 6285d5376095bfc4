-- `ownwords::between` meets its contract. Assumes nothing.
use mathlib.Core.Path.{sym, ap}
use native.Mathlib.Omega.{arith}
use Rattle.ownwords.specs.OwnWords.{between}
use Rattle.ownwords.specs.OwnWordLaws.{between_space}
use Rattle.ownwords.proofs.between.Goals as goal

pub returns-in-7 : goal.returns-in-7
unfolding between
returns-in-7 c = sym (ap between c.in-7.is)

pub returns-in-8 : goal.returns-in-8
unfolding between
returns-in-8 c = sym (ap between c.in-8.is)

pub returns-in-10 : goal.returns-in-10
unfolding between
returns-in-10 c = sym (ap between c.in-10.is)

pub returns-in_default : goal.returns-in_default
unfolding between
returns-in_default c = sym (between_space _ c.requires.0 c.requires.1 (λ e. omega arith) (λ e. omega arith) (λ e. omega arith))
