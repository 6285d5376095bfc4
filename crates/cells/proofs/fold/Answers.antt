-- `cells::fold` meets its contract. Assumes nothing.
use mathlib.Core.Path.{refl}
use native.Mathlib.Omega.{arith}
use Rattle.cells.specs.Tables.{fold_law}
use Rattle.cells.proofs.fold.Goals as goal

pub returns : goal.returns
returns c = fold_law c.args.t _ _ (omega arith) refl refl
