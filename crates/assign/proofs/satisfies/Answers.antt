-- `assign::satisfies` meets its contract. Assumes nothing.
use native.Mathlib.Omega.{arith}
use Rattle.packing.specs.PackingLaws.{packed_stack}
use Rattle.assign.specs.JudgingLaws.{bytes_few, long, few_arrays, ready, within, long_satisfies, not_satisfied}
use Rattle.assign.proofs.satisfies.Goals as goal

pub packed-stack-requires : goal.packed-stack-requires
packed-stack-requires c =
    let z = c.requires in
    let a = c.args in
    let b = a.problem in
    (omega (arith, z.few_vars), omega (arith, long a.q.now b.formula.now b.v b.n a.arrays a.sets z))

pub overflow_mul-judge : goal.overflow_mul-judge
overflow_mul-judge c =
    let z = c.requires in
    let a = c.args in
    let b = a.problem in
    omega (arith, bytes_few a.arrays b.n (few_arrays a.q.now b.formula.now b.v b.n a.arrays a.sets z) z.few_locs)

pub overflow_add-judge : goal.overflow_add-judge
overflow_add-judge c =
    let z = c.requires in
    let a = c.args in
    let b = a.problem in
    omega (arith, z.few_vars, bytes_few a.arrays b.n (few_arrays a.q.now b.formula.now b.v b.n a.arrays a.sets z) z.few_locs)

pub unpack-values-requires : goal.unpack-values-requires
unpack-values-requires c =
    let z = c.requires in
    let a = c.args in
    let b = a.problem in
    (z.few_locs, few_arrays a.q.now b.formula.now b.v b.n a.arrays a.sets z, omega (arith, long a.q.now b.formula.now b.v b.n a.arrays a.sets z))

pub node-t-requires : goal.node-t-requires
node-t-requires c =
    let z = c.requires in
    let a = c.args in
    let b = a.problem in
    let e = packed_stack a.q.now (λ i. omega (arith, c.type_inv.q i)) b.v c.packed-stack.result c.packed-stack.ensures in
    (ready a.q.now b.formula.now b.v b.n a.arrays a.sets z a.profile c.packed-stack.result c.barred.result _ e c.barred.ensures c.unpack-values.ensures, z.table, omega (arith, z.table.some), within a.q.now b.formula.now b.v b.n a.arrays a.sets z a.profile c.packed-stack.result c.barred.result)

pub long_holds-requires : goal.long_holds-requires
long_holds-requires c =
    let z = c.requires in
    let a = c.args in
    let b = a.problem in
    let e = packed_stack a.q.now (λ i. omega (arith, c.type_inv.q i)) b.v c.packed-stack.result c.packed-stack.ensures in
    (ready a.q.now b.formula.now b.v b.n a.arrays a.sets z a.profile c.packed-stack.result c.barred.result _ e c.barred.ensures c.unpack-values.ensures, omega (arith, z.arrays), omega (arith, z.sets))

pub returns-then-t : goal.returns-then-t
returns-then-t c =
    let z = c.requires in
    let a = c.args in
    let b = a.problem in
    long_satisfies a.q.now b.formula.now b.v b.n a.arrays a.sets z a.profile c.packed-stack.result c.barred.result b.p c.node-t.result c.node-t.ensures c.if-t.true _ c.long_holds.ensures

pub returns-else-t : goal.returns-else-t
returns-else-t c =
    let z = c.requires in
    let a = c.args in
    let b = a.problem in
    rw c.if-t.false (not_satisfied a.q.now b.formula.now b.v b.n a.arrays a.sets z a.profile c.packed-stack.result c.barred.result b.p c.node-t.result c.node-t.ensures c.if-t.false)
