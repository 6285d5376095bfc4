-- `entries::entries` meets its contract. Assumes nothing.
use Rattle.std.proofs.Common.{refl, inl, inr}
use Rattle.logic.specs.Checks.{◌then◌, Answers}
use Rattle.logic.proofs.Reflect.{fails}
use Rattle.entries.proofs.entries.Goals as goal

pub returns-then-not-first_kind : goal.returns-then-not-first_kind
unfolding ◌then◌ Answers
returns-then-not-first_kind c = inl (fails _ c.is_kind-first_kind.ensures c.if-not-first_kind.true, refl)

pub returns-then-not-first_placed : goal.returns-then-not-first_placed
unfolding ◌then◌ Answers
returns-then-not-first_placed c = inr (c.is_kind-first_kind.ensures.to c.if-not-first_kind.false, inl (fails _ c.is_first_placed-first_placed.ensures c.if-not-first_placed.true, refl))

pub returns-then-not-second_kind : goal.returns-then-not-second_kind
unfolding ◌then◌ Answers
returns-then-not-second_kind c = inr (c.is_kind-first_kind.ensures.to c.if-not-first_kind.false, inr (c.is_first_placed-first_placed.ensures.to c.if-not-first_placed.false, inl (fails _ c.is_kind-second_kind.ensures c.if-not-second_kind.true, refl)))

pub returns-then-not-second_placed : goal.returns-then-not-second_placed
unfolding ◌then◌ Answers
returns-then-not-second_placed c = inr (c.is_kind-first_kind.ensures.to c.if-not-first_kind.false, inr (c.is_first_placed-first_placed.ensures.to c.if-not-first_placed.false, inr (c.is_kind-second_kind.ensures.to c.if-not-second_kind.false, inl (fails _ c.is_second_placed-second_placed.ensures c.if-not-second_placed.true, refl))))

pub returns : goal.returns
unfolding ◌then◌ Answers
returns c = inr (c.is_kind-first_kind.ensures.to c.if-not-first_kind.false, inr (c.is_first_placed-first_placed.ensures.to c.if-not-first_placed.false, inr (c.is_kind-second_kind.ensures.to c.if-not-second_kind.false, inr (c.is_second_placed-second_placed.ensures.to c.if-not-second_placed.false, refl))))
