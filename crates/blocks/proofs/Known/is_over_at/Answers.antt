-- `blocks::Known::is_over_at` meets its contract. Assumes nothing.
use native.Mathlib.Omega.{arith}
use Rattle.blocks.specs.OverLaws.{over_full, over_worse}
use Rattle.blocks.proofs.Known.is_over_at.Goals as goal
use Rattle.blocks.proofs.Known.is_over_at.Goals.{then-is_full-via-then-is_full, then-is_full-via-else-is_full+then-is_worse}

pub returns-then-is_full : goal.returns-then-is_full
returns-then-is_full c = λ e.
    elim c.then-is_full.branch [
      | then-is_full-via-then-is_full w ↦ over_full _ _ _ _ c.args.self.now.few c.requires.2 _ c.requires.0 _ (omega arith) (c.is_full.ensures w.if-is_full.true)
      | then-is_full-via-else-is_full+then-is_worse w ↦ over_worse _ _ _ _ c.args.self.now.few c.requires.2 _ c.requires.0 _ (omega arith) (w.is_worse.ensures w.if-is_worse.true)
    ]

pub returns-then-is_full-2 : goal.returns-then-is_full-2
returns-then-is_full-2 c = λ e. over_full _ _ _ _ c.args.self.now.few c.requires.2 _ c.requires.0 _ (omega arith) (c.is_full-then-d-ne0.ensures e)

pub returns-then-d-ge3 : goal.returns-then-d-ge3
returns-then-d-ge3 c = λ e. over_worse _ _ _ _ c.args.self.now.few c.requires.2 _ c.requires.0 _ (omega arith) (c.is_worse-then-d-ge3.ensures e)
