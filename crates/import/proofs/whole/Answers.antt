-- `import::whole` meets its contract. Assumes nothing.
use mathlib.Core.Path.{refl}
use Rattle.std.proofs.lemmas.Result.{err_from_is_err_and}
use Rattle.import.specs.WholeLaws.{whole_refused, whole_open, whole_read}
use Rattle.import.proofs.whole.Goals as goal

pub returns-in_err-body : goal.returns-in_err-body
returns-in_err-body c =
    let p = err_from_is_err_and c.from_residual.result c.from_residual.ensures.1 in
    rw (p.1, p.2) (whole_refused c.args.s.now _ _ _ _ _ _ c.in_err-body.field-0.0 _ c.in_err-body.ensures)

pub returns-then-end-s : goal.returns-then-end-s
returns-then-end-s c = whole_open c.args.s.now _ _ _ _ _ _ _ (c.in_ok-body.ensures.read refl) c.skip-end.result c.skip-end.ensures c.if-end-s.true

pub returns : goal.returns
returns c = whole_read c.args.s.now _ _ _ _ _ _ _ (c.in_ok-body.ensures.read refl) c.skip-end.result c.skip-end.ensures c.if-end-s.false
