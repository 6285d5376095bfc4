-- No refusal has number 0. Assumes nothing.
use Rattle.std.specs.Prelude.{◌≡◌}
use Rattle.std.proofs.Common.{arith}
use Rattle.leaves.specs.declared.Refusal.{Refusal}
use Rattle.leaves.specs.declared.Refusal.TheVariants.{BookLength, Contents, Bounds, FormulaLength, Operator, Operand, TreeShape, ModelLength, ModelValue, NotEncodable, OutputLength, AssignmentLength, AssignmentValue, EntryKind, EntryStretch, StrayVariable, BadText, ManyNodes, ManyNames}
use Rattle.leaves.specs.Refusals.{refused}

pub never_zero : (r : Refusal) → ¬ ((refused r).number ≡ 0)
never_zero BookLength e = omega arith
never_zero Contents e = omega arith
never_zero Bounds e = omega arith
never_zero FormulaLength e = omega arith
never_zero (Operator k) e = omega arith
never_zero (Operand k) e = omega arith
never_zero (TreeShape k) e = omega arith
never_zero ModelLength e = omega arith
never_zero (ModelValue i) e = omega arith
never_zero NotEncodable e = omega arith
never_zero OutputLength e = omega arith
never_zero AssignmentLength e = omega arith
never_zero (AssignmentValue i) e = omega arith
never_zero (EntryKind i) e = omega arith
never_zero (EntryStretch i) e = omega arith
never_zero (StrayVariable x) e = omega arith
never_zero (BadText i) e = omega arith
never_zero (ManyNodes i) e = omega arith
never_zero (ManyNames i) e = omega arith
