-- `contents::check` meets its contract. Assumes nothing.
use Rattle.std.proofs.Common.{refl, inl, inr, arith}
use Rattle.logic.specs.Checks.{Answers}
use Rattle.contents.proofs.check.Goals as goal

pub returns-then-book-lt11 : goal.returns-then-book-lt11
unfolding Answers
returns-then-book-lt11 c = inl (λ h. omega (arith, h.0), refl)

pub returns-then-book-gt206 : goal.returns-then-book-gt206
unfolding Answers
returns-then-book-gt206 c = inl (λ h. omega (arith, h.1), refl)

pub returns-then-book-ne2 : goal.returns-then-book-ne2
unfolding Answers
returns-then-book-ne2 c = inr ((omega arith, omega arith), inl (λ h. omega (arith, h), refl))

pub returns : goal.returns
unfolding Answers
returns c = inr ((omega arith, omega arith), inr (omega arith, c.entries.ensures))
