-- `ranges::first_out` meets its contract. Assumes nothing.
use Rattle.std.proofs.Common.{◌≡◌, ◌+◌, ℕ, refl, inl, subst, add-one, arith}
use Rattle.logic.specs.Checks.{upto, Passes, Answers}
use Rattle.logic.specs.CheckLaws.{Yes}
use Rattle.logic.proofs.CheckLaws.{passes_none, passes_more, upto_refused, answers_passed}
use Rattle.logic.proofs.Reflect.{fails}
use Rattle.logic.specs.Model.{byte_checks}
use Rattle.leaves.specs.declared.Refusal.TheVariants.{ModelValue}
use Rattle.leaves.proofs.Refusals.{never_zero}
use Rattle.ranges.proofs.first_out.Goals as goal

pub loop-i-init : goal.loop-i-init
loop-i-init c = passes_none _

pub returns-then-not-is_in_range : goal.returns-then-not-is_in_range
unfolding Answers
returns-then-not-is_in_range c =
    let a = c.args in
    let l = c.loop-i in
    upto_refused (byte_checks a.v a.n a.model.now) (a.v + a.n) l.i _ (omega (arith, c.requires.long)) l.invariant
    (inl (fails _ c.is_in_range.ensures c.if-not-is_in_range.true, refl)) (never_zero (ModelValue l.i))

pub loop-i-preserved : goal.loop-i-preserved
unfolding Passes
loop-i-preserved c =
    let a = c.args in
    let l = c.loop-i in
    rw (add-one l.i) (passes_more (byte_checks a.v a.n a.model.now) l.i l.invariant (c.is_in_range.ensures.to c.if-not-is_in_range.false, tt))

pub returns : goal.returns
returns c =
    let a = c.args in
    let l = c.loop-i in
    let end : l.i ≡ a.v + a.n = omega (arith, c.requires.long) in
    answers_passed (upto (byte_checks a.v a.n a.model.now) (a.v + a.n)) Yes _
    (subst (λ (k : ℕ). Passes (upto (byte_checks a.v a.n a.model.now) k)) end l.invariant) refl
