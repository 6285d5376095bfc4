-- `rootfacts::atom_at` meets its contract. Assumes nothing.
use mathlib.Core.Path.{◌∙◌, ap}
use native.Mathlib.Omega.{arith}
use Rattle.cells.specs.Cells.{cells}
use Rattle.rootfacts.specs.NodeLaws.{variables, atom_known}
use Rattle.rootfacts.proofs.atom_at.Goals as goal

pub cell-x-requires : goal.cell-x-requires
cell-x-requires c = omega (arith, (variables _ _ _ _ c.requires.1 c.requires.0).0, c.from.ensures)

pub cell-y-requires : goal.cell-y-requires
cell-y-requires c = omega (arith, (variables _ _ _ _ c.requires.1 c.requires.0).1, c.from-2.ensures)

pub returns : goal.returns
returns c =
    let p = c.requires in
    atom_known _ _ _ _ p.1 p.0 _ _ (c.cell-x.ensures ∙ ap (cells _) c.from.ensures) (c.cell-y.ensures ∙ ap (cells _) c.from-2.ensures) _ _ c.atom_fact.ensures
