-- `terms::nil` meets its contract. Assumes nothing.
use mathlib.Core.Path.{subst}
use Rattle.std.proofs.lemmas.Result.{err_from_is_err_and}
use Rattle.terms.specs.Terms.{EndsIs}
use Rattle.terms.specs.TermLaws.{nil_found, nil_open, nil_missed}
use Rattle.terms.proofs.nil.Goals as goal

pub returns-in_err-end : goal.returns-in_err-end
returns-in_err-end c =
    let a = c.args in
    let p = err_from_is_err_and c.from_residual.result c.from_residual.ensures.1 in
    rw (p.1, p.2) (nil_missed a.s.now a.last a.at c.in_err-end.field-0.0 c.in_err-end.ensures)

pub returns-then-not-ends : goal.returns-then-not-ends
returns-then-not-ends c =
    let a = c.args in
    nil_open a.s.now a.last a.at c.in_ok-end.end c.in_ok-end.ensures (subst (EndsIs a.s.now a.last c.in_ok-end.end) c.if-not-ends.true c.ends.ensures)

pub returns : goal.returns
returns c =
    let a = c.args in
    nil_found a.s.now a.last a.at c.in_ok-end.end c.in_ok-end.ensures (subst (EndsIs a.s.now a.last c.in_ok-end.end) c.if-not-ends.false c.ends.ensures)
