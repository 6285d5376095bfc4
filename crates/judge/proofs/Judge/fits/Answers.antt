-- `judge::Judge::fits` meets its contract. Assumes nothing.
use Rattle.judge.specs.Fitting.{fits_short, fits_not}
use Rattle.judge.proofs.Judge.fits.Goals as goal

pub returns-then-node_holds : goal.returns-then-node_holds
returns-then-node_holds c = fits_short _ _ _ c.requires.0 _ c.requires.1 _ c.node_holds.ensures c.if-node_holds.true _ c.is_short.ensures

pub returns-else-node_holds : goal.returns-else-node_holds
returns-else-node_holds c =
    rw c.if-node_holds.false (fits_not _ _ _ c.requires.0 _ c.requires.1 _ c.node_holds.ensures c.if-node_holds.false)
