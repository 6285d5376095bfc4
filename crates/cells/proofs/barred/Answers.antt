-- `cells::barred` meets its contract. Assumes nothing.
use mathlib.Core.Path.{sym, subst}
use Rattle.logic.specs.declared.Profile.{Profile}
use Rattle.cells.specs.Cells.{cells, Barred}
use Rattle.cells.specs.Unnamed.{barred_none}
use Rattle.cells.proofs.barred.Goals as goal

pub returns-in-Ordinary : goal.returns-in-Ordinary
returns-in-Ordinary c =
    let a = c.args in
    subst (λ (π : Profile). Barred π a.v a.n (cells a.s) 0) (sym c.in-Ordinary.is) (barred_none a.v a.n (cells a.s))
