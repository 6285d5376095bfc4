-- `model::fits` meets its contract. Assumes nothing.
use Rattle.model.specs.Judging.{core_fits}
use Rattle.model.proofs.fits.Goals as goal

pub returns : goal.returns
returns c =
    let a = c.args in
    let q = a.problem.now in
    let t = c.table_of-table in
    core_fits a.profile q.v q.n q.p q.formula.now t.result t.ensures a.model.stack a.model.heap c.barred.result c.requires c.barred.ensures c.fits.result c.fits.ensures
