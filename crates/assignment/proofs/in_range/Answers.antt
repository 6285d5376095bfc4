-- `assignment::in_range` meets its contract. Assumes nothing.
use Rattle.std.proofs.Common.{◌≡◌, ℕ, ◌+◌, ◌*◌, subst, inl, inr, refl, add-one, arith}
use Rattle.cells.specs.Packing.{bit_law}
use Rattle.logic.specs.Checks.{upto, Passes, Answers}
use Rattle.logic.specs.CheckLaws.{Yes}
use Rattle.logic.proofs.CheckLaws.{passes_none, passes_more, upto_refused, answers_passed}
use Rattle.logic.proofs.Reflect.{fails}
use Rattle.rows.specs.Assigned.{value_checks}
use Rattle.solutions.proofs.AssignedLaws.{value_test}
use Rattle.assignment.proofs.in_range.Goals as goal

pub returns-then-q-base : goal.returns-then-q-base
unfolding Answers
returns-then-q-base c = inl (c.if-q-base.true, refl)

pub loop-i-init : goal.loop-i-init
loop-i-init c = passes_none _

pub returns-then-not-is_value : goal.returns-then-not-is_value
unfolding Answers
returns-then-not-is_value c =
    let a = c.args in
    let l = c.loop-i in
    let t = value_test a.v a.n a.arrays a.q.now _ _ l.i _ refl (bit_law a.n (omega arith)) c.is_value.ensures in
    inr (
      c.if-q-base.false,
      upto_refused (value_checks a.v a.n a.arrays a.q.now) (a.v + a.arrays * a.n + a.sets) l.i _ (omega arith) l.invariant (inl (fails _ t c.if-not-is_value.true, refl)) (λ e. omega arith),
    )

pub loop-i-preserved : goal.loop-i-preserved
unfolding Passes
loop-i-preserved c =
    let a = c.args in
    let l = c.loop-i in
    let t = value_test a.v a.n a.arrays a.q.now _ _ l.i _ refl (bit_law a.n (omega arith)) c.is_value.ensures in
    rw add-one (passes_more (value_checks a.v a.n a.arrays a.q.now) l.i l.invariant (t.to c.if-not-is_value.false, tt))

pub returns : goal.returns
unfolding Answers
returns c =
    let a = c.args in
    let l = c.loop-i in
    let end : l.i ≡ a.v + a.arrays * a.n + a.sets = omega arith in
    inr (
      c.if-q-base.false,
      answers_passed (upto (value_checks a.v a.n a.arrays a.q.now) (a.v + a.arrays * a.n + a.sets)) Yes _ (subst (λ (k : ℕ). Passes (upto (value_checks a.v a.n a.arrays a.q.now) k)) end l.invariant) refl,
    )
