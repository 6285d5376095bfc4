-- `paths::is_long_from` meets its contract. Assumes nothing.
use mathlib.Core.Path.{refl}
use native.Mathlib.Omega.{arith}
use Rattle.paths.specs.Along.{walk_start, walk_next, walk_end}
use Rattle.paths.proofs.is_long_from.Goals as goal

pub loop-init : goal.loop-init
loop-init c = walk_start _ _ _ _ _ c.requires.0 refl c.bit-m.ensures

pub loop-preserved : goal.loop-preserved
loop-preserved c = walk_next _ _ _ _ _ _ _ _ _ c.requires.2 c.loop.invariant (omega arith) c.next-d.ensures c.bit-m-in-loop.ensures

pub returns : goal.returns
returns c = walk_end _ _ _ _ _ _ _ c.loop.invariant (omega arith)
