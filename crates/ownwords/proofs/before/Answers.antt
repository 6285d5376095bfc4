-- `ownwords::before` meets its contract. Assumes nothing.
use mathlib.Core.Path.{◌≡◌, sym, ap}
use native.Mathlib.Omega.{arith}
use Rattle.ownwords.specs.OwnWords.{before}
use Rattle.ownwords.proofs.before.Goals as goal

pub returns-in-1 : goal.returns-in-1
unfolding before
returns-in-1 c = sym (ap before c.in-1.is)

pub returns-in-2 : goal.returns-in-2
unfolding before
returns-in-2 c = sym (ap before c.in-2.is)

pub returns-in-3 : goal.returns-in-3
unfolding before
returns-in-3 c = sym (ap before c.in-3.is)

pub returns-in-4 : goal.returns-in-4
unfolding before
returns-in-4 c = sym (ap before c.in-4.is)

pub returns-in-5 : goal.returns-in-5
unfolding before
returns-in-5 c = sym (ap before c.in-5.is)

pub returns-in-6 : goal.returns-in-6
unfolding before
returns-in-6 c = sym (ap before c.in-6.is)

pub returns-in-7 : goal.returns-in-7
unfolding before
returns-in-7 c = sym (ap before c.in-7.is)

pub returns-in-8 : goal.returns-in-8
unfolding before
returns-in-8 c = sym (ap before c.in-8.is)

pub returns-in-9 : goal.returns-in-9
unfolding before
returns-in-9 c = sym (ap before c.in-9.is)

pub returns-in_default : goal.returns-in_default
unfolding before
returns-in_default c = let e : c.args.op ≡ 10 = omega arith in sym (ap before e)
