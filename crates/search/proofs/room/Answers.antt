-- `search::room` meets its contract. Assumes nothing.
use Rattle.std.proofs.Common.{refl, inl, inr, arith}
use Rattle.logic.specs.Checks.{Answers}
use Rattle.search.proofs.room.Goals as goal

pub returns-then-space-v : goal.returns-then-space-v
unfolding Answers
returns-then-space-v c = inl (λ h. omega (arith, h), refl)

pub returns : goal.returns
unfolding Answers
returns c = inr (omega arith, refl)
