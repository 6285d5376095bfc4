-- `packing::packed` meets its contract. Assumes nothing.
use native.Mathlib.Omega.{arith}
use Rattle.packing.specs.PackingLaws.{packed_none, packed_more, packed_fits}
use Rattle.packing.proofs.packed.Goals as goal

pub loop-i-init : goal.loop-i-init
loop-i-init c =
    let a = c.args in
    packed_none a.cell a.model.now (λ i. omega (arith, c.type_inv.model i)) a.from a.count

pub overflow_mul-w : goal.overflow_mul-w
overflow_mul-w c =
    let a = c.args in
    let l = c.loop-i in
    omega (arith, packed_fits a.cell a.model.now (λ i. omega (arith, c.type_inv.model i)) a.from a.count l.i c.requires.0 (omega arith))

pub overflow_add-w : goal.overflow_add-w
overflow_add-w c =
    let a = c.args in
    let l = c.loop-i in
    omega (arith, c.item.ensures.1, packed_fits a.cell a.model.now (λ i. omega (arith, c.type_inv.model i)) a.from a.count l.i c.requires.0 (omega arith))

pub loop-i-preserved : goal.loop-i-preserved
loop-i-preserved c =
    let a = c.args in
    let l = c.loop-i in
    packed_more a.cell a.model.now (λ i. omega (arith, c.type_inv.model i)) a.from a.count l.i l.w c.item.result (omega arith) (omega arith) l.invariant c.item.ensures.0
