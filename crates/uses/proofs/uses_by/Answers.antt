-- `uses::uses_by` meets its contract. Assumes nothing.
use mathlib.Core.Path.{◌≡◌}
use Prim.Native.Nat.{◌*◌, ◌≤◌}
use native.Mathlib.Omega.{arith}
use Rattle.logic.specs.Table.{op_of, operand_of}
use Rattle.logic.proofs.NodeLaws.{child_operands}
use Rattle.uses.specs.CountLaws.{atom_more, not_more, join_more, one_more_low}
use Rattle.uses.proofs.uses_by.Goals as goal

pub tally-requires : goal.tally-requires
tally-requires c =
    let a = c.args in
    let p = c.requires in
    let o = op_of a.f.now a.j in
    let e : o ≡ 8 = c.in-8.is in
    let low = child_operands a.v a.f.now a.j p.1 (omega arith) in
    (omega (arith, low.0, p.2, p.3), omega (arith, p.4 (operand_of a.f.now a.j 0), p.2))

pub tally-requires-in_default : goal.tally-requires-in_default
tally-requires-in_default c =
    let a = c.args in
    let p = c.requires in
    let o = op_of a.f.now a.j in
    let five : 5 ≤ o = omega (arith, p.1.operator.0) in
    let low = child_operands a.v a.f.now a.j p.1 five in
    (omega (arith, low.0, p.2, p.3), omega (arith, p.4 (operand_of a.f.now a.j 0), p.2))

pub tally-requires-in_default-2 : goal.tally-requires-in_default-2
tally-requires-in_default-2 c =
    let a = c.args in
    let p = c.requires in
    let o = op_of a.f.now a.j in
    let five : 5 ≤ o = omega (arith, p.1.operator.0) in
    let low = child_operands a.v a.f.now a.j p.1 five in
    (omega (arith, low.1, p.2, p.3, c.tally-in_default.auto.t), omega (arith, p.2, one_more_low a.t.now c.tally-in_default.new.t (operand_of a.f.now a.j 0) c.tally-in_default.ensures (operand_of a.f.now a.j 1) (2 * a.j) (p.4 (operand_of a.f.now a.j 1))))

pub returns-in-8 : goal.returns-in-8
returns-in-8 c =
    let a = c.args in
    not_more a.f.now a.j a.t.now c.in-8.is c.tally.new.t c.tally.ensures

pub returns-in-1-to-4 : goal.returns-in-1-to-4
returns-in-1-to-4 c =
    let a = c.args in
    atom_more a.f.now a.j a.t.now (omega arith)

pub returns-in_default : goal.returns-in_default
returns-in_default c =
    let a = c.args in
    let p = c.requires in
    let o = op_of a.f.now a.j in
    let five : 5 ≤ o = omega (arith, p.1.operator.0) in
    join_more a.f.now a.j a.t.now five (λ e. omega arith) c.tally-in_default.new.t c.tally-in_default-2.new.t c.tally-in_default.ensures c.tally-in_default-2.ensures
