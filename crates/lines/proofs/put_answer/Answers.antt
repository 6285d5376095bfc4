-- `lines::put_answer` meets its contract. Assumes nothing.
use mathlib.Core.List.{[], ◌∷◌, ◌++◌}
use Rattle.put.specs.Decimal.{numbered}
use Rattle.lines.specs.Printed.{line_feed, answer_word, place_word, tried_word, first_line}
use Rattle.put.specs.PutsLaws.{room_first}
use Rattle.put.specs.PensLaws.{writes_writes, space_behind}
use Rattle.lines.proofs.put_answer.Goals as goal

pub put_number-requires : goal.put_number-requires
unfolding first_line
put_number-requires c =
    let p = c.args.pen.now in
    let x = numbered answer_word c.args.a.number in
    let y = numbered place_word c.args.a.place in
    let z = numbered tried_word c.args.a.tried in
    room_first p.at x y p.out.now (room_first p.at (x ++ y) z p.out.now (room_first p.at (x ++ y ++ z) (line_feed ∷ []) p.out.now c.requires))

pub put_number-requires-2 : goal.put_number-requires-2
unfolding first_line
put_number-requires-2 c =
    let p = c.args.pen.now in
    let x = numbered answer_word c.args.a.number in
    let y = numbered place_word c.args.a.place in
    let z = numbered tried_word c.args.a.tried in
    space_behind c.put_number.ensures y (room_first p.at (x ++ y) z p.out.now (room_first p.at (x ++ y ++ z) (line_feed ∷ []) p.out.now c.requires))

pub put_number-requires-3 : goal.put_number-requires-3
unfolding first_line
put_number-requires-3 c =
    let p = c.args.pen.now in
    let x = numbered answer_word c.args.a.number in
    let y = numbered place_word c.args.a.place in
    let z = numbered tried_word c.args.a.tried in
    space_behind (writes_writes c.put_number.ensures c.put_number-2.ensures) z (room_first p.at (x ++ y ++ z) (line_feed ∷ []) p.out.now c.requires)

pub put-requires : goal.put-requires
unfolding first_line
put-requires c = space_behind (writes_writes (writes_writes c.put_number.ensures c.put_number-2.ensures) c.put_number-3.ensures) (line_feed ∷ []) c.requires

pub returns : goal.returns
unfolding first_line
returns c = writes_writes (writes_writes (writes_writes c.put_number.ensures c.put_number-2.ensures) c.put_number-3.ensures) c.put.ensures
