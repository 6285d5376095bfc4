-- `items::Draft::empty` meets its contract. Assumes nothing.
use mathlib.Core.Path.{◌≡◌, refl}
use mathlib.Core.Bool.{true, false}
use Rattle.std.proofs.lemmas.Result.{err_from_is_err_and}
use Rattle.logic.proofs.Reflect.{fails}
use Rattle.items.specs.ReadLaws.{stops_at, finished_fits, finished_passes, emp_read, emp_passes, emp_open}
use Rattle.items.proofs.Draft.empty.Goals as goal

pub returns-in_err-end : goal.returns-in_err-end
returns-in_err-end c =
    let p = err_from_is_err_and c.from_residual.result c.from_residual.ensures.1 in
    λ depth. rw (p.1, p.2) (stops_at _ _ _ _ c.in_err-end.field-0.0.at refl refl (λ σ l. c.in_err-end.ensures σ))

pub returns-in_err-finished : goal.returns-in_err-finished
returns-in_err-finished c =
    let p = err_from_is_err_and c.from_residual-in_err-finished.result c.from_residual-in_err-finished.ensures.1 in
    let q = finished_passes c.in_err-finished.ensures in
    λ depth. rw (p.1, p.2, q.1) (emp_passes _ _ _ _ c.in_ok-end.end c.in_ok-end.ensures c.one_node.ensures q.0 refl refl)

pub returns-then-not-edge : goal.returns-then-not-edge
returns-then-not-edge c =
    let f : c.edge.result ≡ false = c.if-not-edge.true in
    λ depth. emp_open _ _ _ _ c.in_ok-end.end c.in_ok-end.ensures c.one_node.ensures (finished_fits c.in_ok-finished.ensures) (fails _ c.edge.ensures f) refl refl

pub returns : goal.returns
returns c =
    let f : c.edge.result ≡ true = c.if-not-edge.false in
    λ depth. emp_read _ _ _ _ c.in_ok-end.end c.in_ok-end.ensures c.one_node.ensures (finished_fits c.in_ok-finished.ensures) (c.edge.ensures.to f)
