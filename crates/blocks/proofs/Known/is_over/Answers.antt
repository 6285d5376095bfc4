-- `blocks::Known::is_over` meets its contract. Assumes nothing.
use Rattle.blocks.specs.OverLaws.{over_digit}
use Rattle.blocks.proofs.Known.is_over.Goals as goal

pub returns-then-not-may_stand : goal.returns-then-not-may_stand
returns-then-not-may_stand c = λ e. over_digit _ _ _ _ c.args.self.now.few c.requires.1 _ c.requires.0 _ c.cell-d.ensures _ c.may_stand.ensures c.if-not-may_stand.true
