-- `candidates::number_after` meets its contract. Assumes nothing.
use mathlib.Core.Path.{◌∙◌, sym, ap}
use Rattle.skips.specs.Blocks.{weight}
use Rattle.skips.proofs.BlockLaws.{weight_first}
use Rattle.candidates.specs.PassLaws.{after_one}
use Rattle.candidates.proofs.number_after.Goals as goal

pub returns-then-j-eq0 : goal.returns-then-j-eq0
returns-then-j-eq0 c =
    let a = c.args in
    sym (after_one (weight a.n a.j) a.i (ap (weight a.n) c.if-j-eq0.true ∙ weight_first a.n))
