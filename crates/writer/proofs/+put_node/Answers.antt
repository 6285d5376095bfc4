-- `writer::put_node` meets its contract: the node number falls at each call of itself. Assumes nothing.
use mathlib.Core.Path.{refl}
use native.Mathlib.Omega.{arith}
use Rattle.logic.specs.Table.{op_of, operand_of, tree}
use Rattle.logic.proofs.KnownLaws.{operator_some, variables, lower}
use Rattle.put.specs.PutsLaws.{room_first, room_as}
use Rattle.put.specs.PensLaws.{space_behind, writes_writes, writes_as}
use Rattle.ownwords.specs.OwnWords.{text, before, between, behind}
use Rattle.ownwords.specs.OwnWordLaws.{room_to_between, room_to_second}
use Rattle.writer.specs.TextLaws.{text_atom, text_not, text_join, room_to_a}
use Rattle.writer.proofs.+put_node.Goals as goal

pub overflow_mul-op : goal.overflow_mul-op
overflow_mul-op t c = omega (arith, c.requires.1.1.0.bytes)

pub bounds-f-k : goal.bounds-f-k
bounds-f-k t c = omega (arith, c.requires.1.1.0.bytes)

pub overflow_mul-x : goal.overflow_mul-x
overflow_mul-x t c = omega (arith, c.requires.1.1.0.bytes)

pub overflow_add-x : goal.overflow_add-x
overflow_add-x t c = omega (arith, c.requires.1.1.0.bytes)

pub bounds-f-k-2 : goal.bounds-f-k-2
bounds-f-k-2 t c = omega (arith, c.requires.1.1.0.bytes)

pub overflow_mul-y : goal.overflow_mul-y
overflow_mul-y t c = omega (arith, c.requires.1.1.0.bytes)

pub overflow_add-y : goal.overflow_add-y
overflow_add-y t c = omega (arith, c.requires.1.1.0.bytes)

pub bounds-f-k-3 : goal.bounds-f-k-3
bounds-f-k-3 t c = omega (arith, c.requires.1.1.0.bytes)

pub put_atom-requires : goal.put_atom-requires
put_atom-requires t c =
    let a = c.args in
    let p = a.pen.now in
    let z = c.requires in
    let s = operator_some z.1.0 a.f.now z.1.1.0 a.k 0 0 z.0 in
    let i = variables z.1.0 a.f.now z.1.1.0 a.k _ _ z.0 refl refl (omega arith) in
    (s.0, omega arith, omega (arith, i.0, z.1.1.1), omega (arith, i.1, z.1.1.1), room_as p.at p.out.now (text_atom z.1.0 a.f.now z.1.1.0 a.k _ _ z.0 refl refl (omega arith)) z.2)

pub returns-then-op-le4 : goal.returns-then-op-le4
returns-then-op-le4 t c =
    let a = c.args in
    let z = c.requires in
    writes_as (text_atom z.1.0 a.f.now z.1.1.0 a.k _ _ z.0 refl refl (omega arith)) c.put_atom.ensures

pub put_before-requires : goal.put_before-requires
put_before-requires t c =
    let a = c.args in
    let p = a.pen.now in
    let z = c.requires in
    let s = operator_some z.1.0 a.f.now z.1.1.0 a.k 0 0 z.0 in
    let x = operand_of a.f.now a.k 0 in
    (s.0, s.1, room_first p.at (before (op_of a.f.now a.k)) (text (tree a.f.now x)) p.out.now (room_to_a z.1.0 a.f.now z.1.1.0 a.k x _ z.0 refl refl (omega arith) p.at p.out.now z.2))

pub put_node-requires : goal.put_node-requires
put_node-requires t c =
    let a = c.args in
    let p = a.pen.now in
    let z = c.requires in
    let e = c.from.ensures in
    let i = lower z.1.0 a.f.now z.1.1.0 a.k _ _ z.0 e refl (omega arith) in
    (omega (arith, i.0, c.decreases), (omega (arith, i.0, z.0), z.1, space_behind c.put_before.ensures _ (room_to_a z.1.0 a.f.now z.1.1.0 a.k _ _ z.0 e refl (omega arith) p.at p.out.now z.2)))

pub put_behind-requires : goal.put_behind-requires
put_behind-requires t c =
    let a = c.args in
    let p = a.pen.now in
    let z = c.requires in
    let s = operator_some z.1.0 a.f.now z.1.1.0 a.k 0 0 z.0 in
    let d = text_not z.1.0 a.f.now z.1.1.0 a.k _ _ z.0 c.from.ensures refl (omega arith) c.if-op-eq8.true in
    let u = writes_writes c.put_before.ensures c.put_node.ensures in
    (s.0, s.1, space_behind u (behind (op_of a.f.now a.k)) (room_as p.at p.out.now d z.2))

pub returns-then-op-eq8 : goal.returns-then-op-eq8
returns-then-op-eq8 t c =
    let a = c.args in
    let z = c.requires in
    let d = text_not z.1.0 a.f.now z.1.1.0 a.k _ _ z.0 c.from.ensures refl (omega arith) c.if-op-eq8.true in
    writes_as d (writes_writes (writes_writes c.put_before.ensures c.put_node.ensures) c.put_behind.ensures)

pub put_between-requires : goal.put_between-requires
put_between-requires t c =
    let a = c.args in
    let p = a.pen.now in
    let z = c.requires in
    let s = operator_some z.1.0 a.f.now z.1.1.0 a.k 0 0 z.0 in
    let y = operand_of a.f.now a.k 1 in
    let d = text_join z.1.0 a.f.now z.1.1.0 a.k _ y z.0 c.from.ensures refl (omega arith) c.if-op-eq8.false in
    let u = writes_writes c.put_before.ensures c.put_node.ensures in
    (s.0, s.1, space_behind u (between (op_of a.f.now a.k)) (room_to_between (op_of a.f.now a.k) p.at _ (text (tree a.f.now y)) p.out.now (room_as p.at p.out.now d z.2)))

pub put_node-requires-2 : goal.put_node-requires-2
put_node-requires-2 t c =
    let a = c.args in
    let p = a.pen.now in
    let z = c.requires in
    let ex = c.from.ensures in
    let ey = c.from-2.ensures in
    let i = lower z.1.0 a.f.now z.1.1.0 a.k _ _ z.0 ex ey (omega arith) in
    let d = text_join z.1.0 a.f.now z.1.1.0 a.k _ _ z.0 ex ey (omega arith) c.if-op-eq8.false in
    let u = writes_writes (writes_writes c.put_before.ensures c.put_node.ensures) c.put_between.ensures in
    (omega (arith, i.1, c.decreases), (omega (arith, i.1, z.0), z.1, space_behind u _ (room_to_second (op_of a.f.now a.k) p.at _ _ p.out.now (room_as p.at p.out.now d z.2))))

pub put_behind-requires-2 : goal.put_behind-requires-2
put_behind-requires-2 t c =
    let a = c.args in
    let p = a.pen.now in
    let z = c.requires in
    let s = operator_some z.1.0 a.f.now z.1.1.0 a.k 0 0 z.0 in
    let d = text_join z.1.0 a.f.now z.1.1.0 a.k _ _ z.0 c.from.ensures c.from-2.ensures (omega arith) c.if-op-eq8.false in
    let u = writes_writes (writes_writes c.put_before.ensures c.put_node.ensures) c.put_between.ensures in
    (s.0, s.1, space_behind (writes_writes u c.put_node-2.ensures) (behind (op_of a.f.now a.k)) (room_as p.at p.out.now d z.2))

pub returns : goal.returns
returns t c =
    let a = c.args in
    let z = c.requires in
    let d = text_join z.1.0 a.f.now z.1.1.0 a.k _ _ z.0 c.from.ensures c.from-2.ensures (omega arith) c.if-op-eq8.false in
    let u = writes_writes (writes_writes c.put_before.ensures c.put_node.ensures) c.put_between.ensures in
    writes_as d (writes_writes (writes_writes u c.put_node-2.ensures) c.put_behind-2.ensures)
