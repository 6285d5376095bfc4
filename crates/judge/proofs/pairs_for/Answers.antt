-- `judge::pairs_for` meets its contract. Assumes nothing.
use Rattle.std.proofs.Common.{arith}
use Rattle.judge.proofs.pairs_for.Goals as goal

pub returns-then-locs-le-FEW : goal.returns-then-locs-le-FEW
returns-then-locs-le-FEW c =
    let t = c.few.ensures.0 in
    record { locs = t.locs; enough = omega (arith, t.enough, c.if-locs-le-FEW.true); few = t.few; passed = t.passed }
