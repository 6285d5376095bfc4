-- `lines::put_line` meets its contract. Assumes nothing.
use mathlib.Core.List.{[], ◌∷◌, ◌++◌}
use Rattle.lines.specs.Printed.{line_feed, listed, line, printed_value}
use Rattle.put.specs.PutsLaws.{room_first}
use Rattle.put.specs.PensLaws.{writes_writes, space_behind}
use Rattle.lines.proofs.put_line.Goals as goal

pub put_word-requires : goal.put_word-requires
unfolding line
put_word-requires c =
    let w = c.args.word.now in
    let t = listed printed_value c.args.cells.now in
    let p = c.args.pen.now in
    room_first p.at w t p.out.now (room_first p.at (w ++ t) (line_feed ∷ []) p.out.now c.requires)

pub put_cells-requires : goal.put_cells-requires
unfolding line
put_cells-requires c =
    let t = listed printed_value c.args.cells.now in
    let p = c.args.pen.now in
    space_behind c.put_word.ensures t (room_first p.at (c.args.word.now ++ t) (line_feed ∷ []) p.out.now c.requires)

pub put-requires : goal.put-requires
unfolding line
put-requires c = space_behind (writes_writes c.put_word.ensures c.put_cells.ensures) (line_feed ∷ []) c.requires

pub returns : goal.returns
unfolding line
returns c = writes_writes (writes_writes c.put_word.ensures c.put_cells.ensures) c.put.ensures
