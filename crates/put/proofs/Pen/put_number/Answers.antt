-- `put::Pen::put_number` meets its contract. Assumes nothing.
use Rattle.put.specs.Decimal.{decimal, numbered}
use Rattle.put.specs.PutsLaws.{room_first}
use Rattle.put.specs.PensLaws.{writes_writes, space_behind}
use Rattle.put.proofs.Pen.put_number.Goals as goal

pub put_word-requires : goal.put_word-requires
unfolding numbered
put_word-requires c = let p = c.args.self.now in room_first p.at c.args.word.now (decimal c.args.x) p.out.now c.requires

pub put_decimal-requires : goal.put_decimal-requires
unfolding numbered
put_decimal-requires c = space_behind c.put_word.ensures (decimal c.args.x) c.requires

pub returns : goal.returns
unfolding numbered
returns c = writes_writes c.put_word.ensures c.put_decimal.ensures
