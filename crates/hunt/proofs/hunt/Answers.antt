-- `hunt::hunt` meets its contract. Assumes nothing.
use Rattle.std.proofs.Common.{arith}
use Rattle.logic.specs.Table.{tree}
use Rattle.logic.specs.Search.{CandidateFits}
use Rattle.sweep.specs.SweepLaws.{piece_fit}
use Rattle.hunt.specs.HuntLaws.{hunted_found, hunted_none, hunted_spent}
use Rattle.hunt.proofs.hunt.Goals as goal

pub overflow_add-result : goal.overflow_add-result
overflow_add-result c = omega (arith, (piece_fit _ _ _ _ _ _ c.in-Some.ensures).before)

pub returns-in-Some : goal.returns-in-Some
returns-in-Some c =
    let a = c.args in
    hunted_found a.v a.n (CandidateFits a.profile a.v a.n a.p (tree a.f.now a.k)) a.budget c.min-end.result c.in-Some.found c.in-Some.ensures (omega (arith, c.min-end.ensures))

pub returns-in-None : goal.returns-in-None
returns-in-None c =
    let a = c.args in
    hunted_none a.v a.n (CandidateFits a.profile a.v a.n a.p (tree a.f.now a.k)) a.budget c.min-end.result c.in-None.ensures c.total-t.result c.total-t.ensures (omega (arith, c.min-end.ensures)) (omega arith)

pub returns-in-None-2 : goal.returns-in-None-2
returns-in-None-2 c =
    let a = c.args in
    hunted_spent a.v a.n (CandidateFits a.profile a.v a.n a.p (tree a.f.now a.k)) a.budget c.min-end.result c.in-None-2.ensures c.total-t.result c.total-t.ensures (omega (arith, c.min-end.ensures)) (omega arith)
