-- `ownwords::put_atom` meets its contract. Assumes nothing.
use native.Mathlib.Omega.{arith}
use Rattle.put.specs.PensLaws.{space_behind, writes_writes}
use Rattle.ownwords.specs.OwnWords.{between, behind, term}
use Rattle.ownwords.specs.OwnWordLaws.{room_before, room_to_first, room_to_between, room_to_second}
use Rattle.ownwords.proofs.put_atom.Goals as goal

pub put_before-requires : goal.put_before-requires
put_before-requires c =
    let a = c.args in
    let p = a.pen.now in
    (c.requires.0, omega (arith, c.requires.1), room_before a.op p.at (term a.x) (term a.y) p.out.now c.requires.4)

pub put_term-requires : goal.put_term-requires
put_term-requires c =
    let a = c.args in
    let p = a.pen.now in
    (c.requires.2, space_behind c.put_before.ensures (term a.x) (room_to_first a.op p.at (term a.x) (term a.y) p.out.now c.requires.4))

pub put_between-requires : goal.put_between-requires
put_between-requires c =
    let a = c.args in
    let p = a.pen.now in
    let u = writes_writes c.put_before.ensures c.put_term.ensures in
    (c.requires.0, omega (arith, c.requires.1), space_behind u (between a.op) (room_to_between a.op p.at (term a.x) (term a.y) p.out.now c.requires.4))

pub put_term-requires-2 : goal.put_term-requires-2
put_term-requires-2 c =
    let a = c.args in
    let p = a.pen.now in
    let u = writes_writes (writes_writes c.put_before.ensures c.put_term.ensures) c.put_between.ensures in
    (c.requires.3, space_behind u (term a.y) (room_to_second a.op p.at (term a.x) (term a.y) p.out.now c.requires.4))

pub put_behind-requires : goal.put_behind-requires
put_behind-requires c =
    let u = writes_writes (writes_writes (writes_writes c.put_before.ensures c.put_term.ensures) c.put_between.ensures) c.put_term-2.ensures in
    (c.requires.0, omega (arith, c.requires.1), space_behind u (behind c.args.op) c.requires.4)

pub returns : goal.returns
returns c =
    let u = writes_writes (writes_writes c.put_before.ensures c.put_term.ensures) c.put_between.ensures in
    writes_writes (writes_writes u c.put_term-2.ensures) c.put_behind.ensures
