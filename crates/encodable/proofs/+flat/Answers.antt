-- `encodable::flat` meets its contract: the node number falls at every call. Assumes nothing.
use native.Mathlib.Omega.{arith}
use Rattle.logic.proofs.KnownLaws.{lower}
use Rattle.encodable.specs.EncodableLaws.{flat_atom, flat_deep, flat_first, flat_under, flat_second}
use Rattle.encodable.proofs.+flat.Goals as goal

pub flat-requires : goal.flat-requires
flat-requires t c =
    let z = c.requires in
    let a = c.args in
    let h = lower z.1.0 a.f.now z.1.1 a.k _ _ z.0 c.from-x.ensures c.from-y.ensures (omega arith) in
    (omega (arith, c.decreases, h.0), (omega (arith, h.0, z.0), z.1))

pub flat-requires-in-5-to-7 : goal.flat-requires-in-5-to-7
flat-requires-in-5-to-7 t c =
    let z = c.requires in
    let a = c.args in
    let h = lower z.1.0 a.f.now z.1.1 a.k _ _ z.0 c.from-x.ensures c.from-y.ensures (omega arith) in
    (omega (arith, c.decreases, h.0), (omega (arith, h.0, z.0), z.1))

pub flat-requires-then-flat : goal.flat-requires-then-flat
flat-requires-then-flat t c =
    let z = c.requires in
    let a = c.args in
    let h = lower z.1.0 a.f.now z.1.1 a.k _ _ z.0 c.from-x.ensures c.from-y.ensures (omega arith) in
    (omega (arith, c.decreases, h.1), (omega (arith, h.1, z.0), z.1))

pub returns-in-8 : goal.returns-in-8
returns-in-8 t c =
    let z = c.requires in
    let a = c.args in
    flat_under z.1.0 a.f.now z.1.1 a.k _ _ z.0 c.from-x.ensures c.from-y.ensures (omega arith) _ c.in-8.is c.flat.ensures

pub returns-in-1-to-4 : goal.returns-in-1-to-4
returns-in-1-to-4 t c =
    let z = c.requires in
    let a = c.args in
    flat_atom z.1.0 a.f.now z.1.1 a.k _ _ z.0 c.from-x.ensures c.from-y.ensures (omega arith)

pub returns-then-flat : goal.returns-then-flat
returns-then-flat t c =
    let z = c.requires in
    let a = c.args in
    flat_second z.1.0 a.f.now z.1.1 a.k _ _ z.0 c.from-x.ensures c.from-y.ensures (omega arith) _ _ (omega arith) c.flat-in-5-to-7.ensures c.if-flat.true c.flat-then-flat.ensures

pub returns-else-flat : goal.returns-else-flat
returns-else-flat t c =
    let z = c.requires in
    let a = c.args in
    rw c.if-flat.false (flat_first z.1.0 a.f.now z.1.1 a.k _ _ z.0 c.from-x.ensures c.from-y.ensures (omega arith) _ (omega arith) c.flat-in-5-to-7.ensures c.if-flat.false)

pub returns-in_default-2 : goal.returns-in_default-2
returns-in_default-2 t c =
    let z = c.requires in
    let a = c.args in
    flat_deep z.1.0 a.f.now z.1.1 a.k _ _ z.0 c.from-x.ensures c.from-y.ensures (omega arith) (omega arith)
