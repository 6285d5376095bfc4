-- `cells::parts_apart` meets its contract. Assumes nothing.
use mathlib.Core.Path.{refl}
use Rattle.cells.specs.Tables.{is_clear, clear_nothing}
use Rattle.cells.proofs.parts_apart.Goals as goal

pub returns-then-t-eq0 : goal.returns-then-t-eq0
returns-then-t-eq0 c = record { to = λ e. clear_nothing _ _ c.if-t-eq0.true; from = λ q. refl }

pub returns : goal.returns
returns c = is_clear _ _ _ _ c.fold.ensures c.fold-2.ensures
