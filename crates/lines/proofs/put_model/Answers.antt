-- `lines::put_model` meets its contract. Assumes nothing.
use Prim.Native.Nat.{◌+◌, ◌-◌}
use lib.ListN.{take, drop}
use Rattle.lines.specs.Printed.{stack_word, heap_word, line, printed_value}
use Rattle.put.specs.PutsLaws.{room_first, room_as}
use Rattle.put.specs.PensLaws.{writes_writes, writes_as, space_behind}
use Rattle.lines.specs.PrintedLaws.{model_cut}
use Rattle.lines.proofs.put_model.Goals as goal

pub put_line-requires : goal.put_line-requires
put_line-requires c =
    let v = c.args.v in
    let n = c.args.n in
    let m = c.args.model.now in
    let p = c.args.pen.now in
    room_first p.at (line stack_word printed_value (take (v - 0) m)) (line heap_word printed_value (take (v + n - v) (drop v m))) p.out.now
    (room_as p.at p.out.now (model_cut v n m c.requires.1) c.requires.2)

pub put_line-requires-2 : goal.put_line-requires-2
put_line-requires-2 c =
    let v = c.args.v in
    let n = c.args.n in
    let m = c.args.model.now in
    let p = c.args.pen.now in
    space_behind c.put_line.ensures (line heap_word printed_value (take (v + n - v) (drop v m))) (room_as p.at p.out.now (model_cut v n m c.requires.1) c.requires.2)

pub returns : goal.returns
returns c =
    let a = c.args in
    writes_as (model_cut a.v a.n a.model.now c.requires.1) (writes_writes c.put_line.ensures c.put_line-2.ensures)
