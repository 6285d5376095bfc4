-- `contents::body` meets its contract. Assumes nothing.
use Rattle.std.proofs.Common.{refl, inl, inr}
use Rattle.logic.proofs.Reflect.{fails}
use Rattle.logic.specs.Book.{Body}
use Rattle.contents.proofs.body.Goals as goal

pub returns-then-is_given : goal.returns-then-is_given
unfolding Body
returns-then-is_given c = inl (c.is_given.ensures.to c.if-is_given.true, c.part.ensures)

pub returns-else-is_given : goal.returns-else-is_given
unfolding Body
returns-else-is_given c = inr (fails _ c.is_given.ensures c.if-is_given.false, refl)
