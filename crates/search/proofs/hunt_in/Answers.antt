-- `search::hunt_in` meets its contract. Assumes nothing.
use Rattle.search.specs.Searching.{hunted_in}
use Rattle.search.proofs.hunt_in.Goals as goal

pub returns : goal.returns
returns c =
    let a = c.args in
    let q = a.problem.now in
    hunted_in q.v q.n q.formula.now c.table_of-t.result c.table_of-t.ensures a.profile q.p a.budget _ c.hunt.ensures
