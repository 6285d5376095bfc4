-- `judge::atom` meets its contract. Assumes nothing.
use mathlib.Core.Path.{◌∙◌, ap}
use native.Mathlib.Omega.{arith}
use Rattle.std.proofs.Common.{not, eq-eqb, ne_eqb}
use Rattle.cells.specs.Cells.{cells}
use Rattle.judge.specs.Atoms.{variables, locations, same_there, same_elsewhere, diff_there, diff_elsewhere, points_to, list_from}
use Rattle.judge.proofs.atom.Goals as goal

pub overflow_mul-op : goal.overflow_mul-op
overflow_mul-op c = omega (arith, c.requires.1.inside)

pub bounds-f-k : goal.bounds-f-k
bounds-f-k c = omega (arith, c.requires.1.inside)

pub overflow_mul-k : goal.overflow_mul-k
overflow_mul-k c = omega (arith, c.requires.1.inside)

pub overflow_add-k : goal.overflow_add-k
overflow_add-k c = omega (arith, c.requires.1.inside)

pub bounds-f-k-2 : goal.bounds-f-k-2
bounds-f-k-2 c = omega (arith, c.requires.1.inside)

pub cell-x-requires : goal.cell-x-requires
cell-x-requires c = omega (arith, variables _ _ _ c.requires.1 c.requires.0)

pub overflow_mul-k-2 : goal.overflow_mul-k-2
overflow_mul-k-2 c = omega (arith, c.requires.1.inside)

pub overflow_add-k-2 : goal.overflow_add-k-2
overflow_add-k-2 c = omega (arith, c.requires.1.inside)

pub bounds-f-k-3 : goal.bounds-f-k-3
bounds-f-k-3 c = omega (arith, c.requires.1.inside)

pub cell-y-requires : goal.cell-y-requires
cell-y-requires c = omega (arith, variables _ _ _ c.requires.1 c.requires.0)

pub is_points-requires : goal.is_points-requires
is_points-requires c = locations _ _ _ c.requires.1 c.requires.0 _ _ (c.cell-x.ensures ∙ ap (cells _) c.from.ensures) (c.cell-y.ensures ∙ ap (cells _) c.from-2.ensures)

pub is_list-requires : goal.is_list-requires
is_list-requires c = (c.requires.1.few_locs, (locations _ _ _ c.requires.1 c.requires.0 _ _ (c.cell-x.ensures ∙ ap (cells _) c.from.ensures) (c.cell-y.ensures ∙ ap (cells _) c.from-2.ensures)).0, c.requires.2)

pub returns-then-x-y : goal.returns-then-x-y
returns-then-x-y c = same_there _ _ _ c.requires.1 c.requires.0 _ _ (c.cell-x.ensures ∙ ap (cells _) c.from.ensures) (c.cell-y.ensures ∙ ap (cells _) c.from-2.ensures) _ c.requires.2 _ c.in-1.is c.if-x-y.true c.is_empty.ensures

pub returns-else-x-y : goal.returns-else-x-y
returns-else-x-y c = same_elsewhere _ _ _ c.requires.1 c.requires.0 _ _ (c.cell-x.ensures ∙ ap (cells _) c.from.ensures) (c.cell-y.ensures ∙ ap (cells _) c.from-2.ensures) _ c.requires.2 _ c.in-1.is c.if-x-y.false (ne_eqb _ _ c.if-x-y.false)

pub returns-then-x-y-2 : goal.returns-then-x-y-2
returns-then-x-y-2 c = diff_elsewhere _ _ _ c.requires.1 c.requires.0 _ _ (c.cell-x.ensures ∙ ap (cells _) c.from.ensures) (c.cell-y.ensures ∙ ap (cells _) c.from-2.ensures) _ c.requires.2 _ c.in-2.is c.if-x-y-2.true c.is_empty-then-x-y-2.ensures

pub returns-else-x-y-2 : goal.returns-else-x-y-2
returns-else-x-y-2 c = diff_there _ _ _ c.requires.1 c.requires.0 _ _ (c.cell-x.ensures ∙ ap (cells _) c.from.ensures) (c.cell-y.ensures ∙ ap (cells _) c.from-2.ensures) _ c.requires.2 _ c.in-2.is c.if-x-y-2.false (ap not (eq-eqb _ _ c.if-x-y-2.false))

pub returns-in-3 : goal.returns-in-3
returns-in-3 c = points_to _ _ _ c.requires.1 c.requires.0 _ _ (c.cell-x.ensures ∙ ap (cells _) c.from.ensures) (c.cell-y.ensures ∙ ap (cells _) c.from-2.ensures) _ c.requires.2 _ c.in-3.is c.is_points.ensures

pub returns-in_default : goal.returns-in_default
returns-in_default c = list_from _ _ _ c.requires.1 c.requires.0 _ _ (c.cell-x.ensures ∙ ap (cells _) c.from.ensures) (c.cell-y.ensures ∙ ap (cells _) c.from-2.ensures) _ c.requires.2 _ (λ e. omega arith) (λ e. omega arith) (λ e. omega arith) c.is_list.ensures
