-- `encodable::encodable` meets its contract: the node number falls at every call. Assumes nothing.
use native.Mathlib.Omega.{arith}
use Rattle.logic.proofs.KnownLaws.{lower}
use Rattle.encodable.specs.EncodableLaws.{encodable_atom, encodable_under, encodable_first, encodable_guarded, encodable_second}
use Rattle.encodable.proofs.+encodable.Goals as goal

pub encodable-requires : goal.encodable-requires
encodable-requires t c =
    let z = c.requires in
    let a = c.args in
    let h = lower z.1.0 a.f.now z.1.1 a.k _ _ z.0 c.from-x.ensures c.from-y.ensures (omega arith) in
    (omega (arith, c.decreases, h.0, h.1), (omega (arith, h.0, h.1, z.0), z.1))

pub flat-requires : goal.flat-requires
flat-requires t c =
    let z = c.requires in
    let a = c.args in
    let h = lower z.1.0 a.f.now z.1.1 a.k _ _ z.0 c.from-x.ensures c.from-y.ensures (omega arith) in
    (omega (arith, h.0, h.1, z.0), z.1)

pub flat-requires-in-8 : goal.flat-requires-in-8
flat-requires-in-8 t c =
    let z = c.requires in
    let a = c.args in
    let h = lower z.1.0 a.f.now z.1.1 a.k _ _ z.0 c.from-x.ensures c.from-y.ensures (omega arith) in
    (omega (arith, h.0, h.1, z.0), z.1)

pub encodable-requires-in-5-to-6 : goal.encodable-requires-in-5-to-6
encodable-requires-in-5-to-6 t c =
    let z = c.requires in
    let a = c.args in
    let h = lower z.1.0 a.f.now z.1.1 a.k _ _ z.0 c.from-x.ensures c.from-y.ensures (omega arith) in
    (omega (arith, c.decreases, h.0, h.1), (omega (arith, h.0, h.1, z.0), z.1))

pub encodable-requires-then-encodable-2 : goal.encodable-requires-then-encodable-2
encodable-requires-then-encodable-2 t c =
    let z = c.requires in
    let a = c.args in
    let h = lower z.1.0 a.f.now z.1.1 a.k _ _ z.0 c.from-x.ensures c.from-y.ensures (omega arith) in
    (omega (arith, c.decreases, h.0, h.1), (omega (arith, h.0, h.1, z.0), z.1))

pub returns-then-encodable : goal.returns-then-encodable
returns-then-encodable t c =
    let z = c.requires in
    let a = c.args in
    encodable_guarded z.1.0 a.f.now z.1.1 a.k _ _ z.0 c.from-x.ensures c.from-y.ensures (omega arith) _ _ c.in-7.is c.encodable.ensures c.if-encodable.true c.flat.ensures

pub returns-else-encodable : goal.returns-else-encodable
returns-else-encodable t c =
    let z = c.requires in
    let a = c.args in
    rw c.if-encodable.false (encodable_first z.1.0 a.f.now z.1.1 a.k _ _ z.0 c.from-x.ensures c.from-y.ensures (omega arith) _ (λ e. omega arith) c.encodable.ensures c.if-encodable.false)

pub returns-in-8 : goal.returns-in-8
returns-in-8 t c =
    let z = c.requires in
    let a = c.args in
    encodable_under z.1.0 a.f.now z.1.1 a.k _ _ z.0 c.from-x.ensures c.from-y.ensures (omega arith) _ c.in-8.is c.flat-in-8.ensures

pub returns-in-1-to-4 : goal.returns-in-1-to-4
returns-in-1-to-4 t c =
    let z = c.requires in
    let a = c.args in
    encodable_atom z.1.0 a.f.now z.1.1 a.k _ _ z.0 c.from-x.ensures c.from-y.ensures (omega arith)

pub returns-then-encodable-2 : goal.returns-then-encodable-2
returns-then-encodable-2 t c =
    let z = c.requires in
    let a = c.args in
    encodable_second z.1.0 a.f.now z.1.1 a.k _ _ z.0 c.from-x.ensures c.from-y.ensures (omega arith) _ _ (λ e. omega arith) (λ e. omega arith) c.encodable-in-5-to-6.ensures c.if-encodable-2.true c.encodable-then-encodable-2.ensures

pub returns-else-encodable-2 : goal.returns-else-encodable-2
returns-else-encodable-2 t c =
    let z = c.requires in
    let a = c.args in
    rw c.if-encodable-2.false (encodable_first z.1.0 a.f.now z.1.1 a.k _ _ z.0 c.from-x.ensures c.from-y.ensures (omega arith) _ (λ e. omega arith) c.encodable-in-5-to-6.ensures c.if-encodable-2.false)
