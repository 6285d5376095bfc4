-- `lines::put_cell` meets its contract. Assumes nothing.
use mathlib.Core.List.{[], ◌∷◌}
use Rattle.lines.specs.Printed.{space, spaced, printed_value}
use Rattle.put.specs.PutsLaws.{room_first}
use Rattle.put.specs.PensLaws.{writes_writes, space_behind}
use Rattle.lines.proofs.put_cell.Goals as goal

pub put-requires : goal.put-requires
unfolding spaced
put-requires c = let p = c.args.pen.now in room_first p.at (space ∷ []) (printed_value c.args.x) p.out.now c.requires

pub put_value-requires : goal.put_value-requires
unfolding spaced
put_value-requires c = space_behind c.put.ensures (printed_value c.args.x) c.requires

pub returns : goal.returns
unfolding spaced
returns c = writes_writes c.put.ensures c.put_value.ensures
