-- `ownrows::long` meets its contract. Assumes nothing.
use mathlib.Core.Path.{refl}
use Rattle.rows.specs.Row.{fields_of}
use Rattle.ownrows.proofs.long.Goals as goal

pub returns : goal.returns
unfolding fields_of
returns c = refl
