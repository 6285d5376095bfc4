-- `assign::verdict` meets its contract. Assumes nothing.
use Rattle.std.proofs.Common.{◌+◌, ◌≤◌, refl, arith}
use Rattle.std.proofs.lemmas.Result.{err_from_is_err_and}
use Rattle.logic.specs.Numbers.{answer}
use Rattle.logic.proofs.OpenLaws.{vars_low, locs_low, known}
use Rattle.leaves.proofs.Refusals.{never_zero}
use Rattle.rows.specs.Bounds.{most_arrays}
use Rattle.encodable.specs.CountingLaws.{arrays_most, sets_most}
use Rattle.assign.specs.JudgingLaws.{bytes_few, arrays_are, sets_are, assigns_book, assigns_19, assigns_range, judging, assigns_verdict, verdict_told}
use Rattle.assign.proofs.verdict.Goals as goal

pub returns-in_err-problem : goal.returns-in_err-problem
returns-in_err-problem c =
    let a = c.args in
    let p = err_from_is_err_and c.from_residual.result c.from_residual.ensures.1 in
    rw (p.1, p.2) (assigns_book a.profile a.book.now a.assignment.now _ c.in_err-problem.ensures.read (never_zero c.in_err-problem.field-0.0))

pub overflow_sub-f : goal.overflow_sub-f
overflow_sub-f c = omega (arith, (known c.args.book.now _ _ _ _ c.in_ok-problem.ensures.bodies).some)

pub encodable-requires : goal.encodable-requires
encodable-requires c =
    let k = known c.args.book.now _ _ _ _ c.in_ok-problem.ensures.bodies in
    (omega (arith, k.some), (c.in_ok-problem.problem.v, k))

pub returns-then-not-encodable : goal.returns-then-not-encodable
returns-then-not-encodable c =
    let a = c.args in
    assigns_19 a.profile a.book.now _ a.assignment.now _ _ _ c.in_ok-problem.ensures.bodies _ _ c.encodable.ensures c.if-not-encodable.true refl

pub in_range-requires : goal.in_range-requires
in_range-requires c =
    let s = c.args.book.now in
    let w = c.in_ok-problem.ensures.bodies in
    let k = known s _ _ _ _ w in
    let ex = arrays_are _ _ k _ c.above-arrays.ensures.0 in
    let ey = sets_are _ _ k _ c.above.ensures.0 in
    let m : 1 + c.above-arrays.result ≤ most_arrays = omega (arith, ex, arrays_most _ _ k) in
    let n = locs_low s _ _ _ _ w in
    (vars_low s _ _ _ _ w, n, m, omega (arith, ey, sets_most _ _ k), bytes_few _ _ m n)

pub returns-in_err-in_range : goal.returns-in_err-in_range
returns-in_err-in_range c =
    let a = c.args in
    let w = c.in_ok-problem.ensures.bodies in
    let k = known a.book.now _ _ _ _ w in
    let ex = arrays_are _ _ k _ c.above-arrays.ensures.0 in
    let ey = sets_are _ _ k _ c.above.ensures.0 in
    let p = err_from_is_err_and c.from_residual-in_err-in_range.result c.from_residual-in_err-in_range.ensures.1 in
    rw (p.1, p.2) (assigns_range a.profile a.book.now _ a.assignment.now _ _ _ w _ c.encodable.ensures c.if-not-encodable.false _ _ ex ey _ c.in_err-in_range.ensures (never_zero c.in_err-in_range.field-0.0))

pub satisfies-requires : goal.satisfies-requires
satisfies-requires c =
    let a = c.args in
    let w = c.in_ok-problem.ensures.bodies in
    let k = known a.book.now _ _ _ _ w in
    let ex = arrays_are _ _ k _ c.above-arrays.ensures.0 in
    let ey = sets_are _ _ k _ c.above.ensures.0 in
    judging a.profile a.book.now _ a.assignment.now _ _ _ w _ c.encodable.ensures c.if-not-encodable.false _ _ ex ey (answer 0 0) c.in_ok-in_range.ensures refl

pub returns : goal.returns
returns c =
    let a = c.args in
    let w = c.in_ok-problem.ensures.bodies in
    let k = known a.book.now _ _ _ _ w in
    let ex = arrays_are _ _ k _ c.above-arrays.ensures.0 in
    let ey = sets_are _ _ k _ c.above.ensures.0 in
    assigns_verdict a.profile a.book.now _ a.assignment.now _ _ _ w _ c.encodable.ensures c.if-not-encodable.false _ _ ex ey (answer 0 0) c.in_ok-in_range.ensures refl _ (verdict_told _ c.satisfies.ensures)
