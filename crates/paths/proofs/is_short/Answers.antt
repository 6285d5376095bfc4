-- `paths::is_short` meets its contract. Assumes nothing.
use mathlib.Core.Path.{refl}
use native.Mathlib.Omega.{arith}
use Rattle.logic.proofs.Agree.{heap_more}
use Rattle.logic.proofs.PathLaws.{path_le}
use Rattle.paths.specs.Along.{all_none}
use Rattle.paths.specs.Counting.{few_short}
use Rattle.paths.proofs.is_short.Goals as goal
use Rattle.paths.proofs.is_short.Goals.{then-n-p-via-then-n-p, then-n-p-via-else-n-p+then-count-p}

pub returns-then-n-p : goal.returns-then-n-p
returns-then-n-p c =
    elim c.then-n-p.branch [
      | then-n-p-via-then-n-p w ↦ record { to = λ _ k l q. absurd (omega (arith, path_le _ k _ c.requires.1 q, w.if-n-p.true)); from = λ _. refl }
      | then-n-p-via-else-n-p+then-count-p w ↦ few_short _ _ _ (heap_more _ _ _ c.requires.0 c.requires.1) w.count.ensures w.if-count-p.true
    ]

pub returns : goal.returns
returns c = all_none _ _ _ _ c.requires.1 c.loop-l.invariant (omega arith)
