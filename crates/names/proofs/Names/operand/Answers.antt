-- `names::Names::operand` meets its contract. Assumes nothing.
use mathlib.Core.Path.{subst}
use Prim.Native.Nat.{ℕ}
use Rattle.std.specs.Prelude.{Option, Ok}
use Rattle.std.proofs.lemmas.Result.{err_from_is_err_and}
use Rattle.terms.specs.Terms.{TermIs}
use Rattle.names.specs.NameLaws.{operand_wrong, operand_nil, operand_over, operand_name}
use Rattle.names.proofs.Names.operand.Goals as goal

pub returns-in_err-end : goal.returns-in_err-end
returns-in_err-end c =
    let a = c.args in
    let k = c.skip-from in
    let p = err_from_is_err_and c.from_residual.result c.from_residual.ensures.1 in
    rw (p.1, p.2) (operand_wrong a.s.now a.last a.at k.result a.self.now k.ensures c.in_err-end.field-0.0 a.self.now c.in_err-end.ensures)

pub returns-in_default : goal.returns-in_default
returns-in_default c =
    let a = c.args in
    let k = c.skip-from in
    let e = c.in_ok-end.end in
    operand_nil a.s.now a.last a.at k.result a.self.now k.ensures e (subst (λ (x : Option ℕ). TermIs a.s.now a.last k.result (Ok (e, x))) c.in_default.is c.in_ok-end.ensures)

pub returns-in_default-numbered : goal.returns-in_default-numbered
returns-in_default-numbered c =
    let a = c.args in
    let k = c.skip-from in
    let e = c.in_ok-end.end in
    operand_over a.s.now a.last a.at k.result a.self.now k.ensures e c.in-Some.w (subst (λ (x : Option ℕ). TermIs a.s.now a.last k.result (Ok (e, x))) c.in-Some.is c.in_ok-end.ensures) _ _ c.numbered.ensures _ c.in_default-numbered.is

pub returns : goal.returns
returns c =
    let a = c.args in
    let k = c.skip-from in
    let e = c.in_ok-end.end in
    operand_name a.s.now a.last a.at k.result a.self.now k.ensures e c.in-Some.w (subst (λ (x : Option ℕ). TermIs a.s.now a.last k.result (Ok (e, x))) c.in-Some.is c.in_ok-end.ensures) _ _ c.numbered.ensures c.in-Some-numbered.number c.in-Some-numbered.is
