-- `put::Pen::put_decimal` meets its contract: the number falls at each call of itself. Assumes nothing.
use Prim.Native.Nat.{◌/◌, ◌%◌}
use native.Mathlib.Omega.{arith}
use mathlib.Core.Path.{refl}
use mathlib.Core.List.{[], ◌∷◌}
use Rattle.put.specs.Decimal.{figure, decimal}
use Rattle.put.specs.PutsLaws.{room_first, room_as}
use Rattle.put.specs.PensLaws.{writes_writes, writes_as, space_behind}
use Rattle.put.specs.DecimalLaws.{figure_one, figure_more}
use Rattle.put.proofs.Pen.+put_decimal.Goals as goal

pub put-requires : goal.put-requires
put-requires t c =
    let p = c.args.self.now in
    room_as p.at p.out.now (figure_one c.args.x c.figure_of.result c.if-x-lt10.true c.figure_of.ensures) c.requires

pub returns-then-x-lt10 : goal.returns-then-x-lt10
returns-then-x-lt10 t c = writes_as (figure_one c.args.x c.figure_of.result c.if-x-lt10.true c.figure_of.ensures) c.put.ensures

pub put_decimal-requires : goal.put_decimal-requires
put_decimal-requires t c =
    let x = c.args.x in
    let p = c.args.self.now in
    (omega arith, room_first p.at (decimal (x / 10)) (figure (x % 10) ∷ []) p.out.now (room_as p.at p.out.now (figure_more x (figure (x % 10)) c.if-x-lt10.false refl) c.requires))

pub put-requires-2 : goal.put-requires-2
put-requires-2 t c =
    let f = c.figure_of-2 in
    let p = c.args.self.now in
    space_behind c.put_decimal.ensures (f.result ∷ []) (room_as p.at p.out.now (figure_more c.args.x f.result c.if-x-lt10.false f.ensures) c.requires)

pub returns : goal.returns
returns t c =
    let f = c.figure_of-2 in
    writes_as (figure_more c.args.x f.result c.if-x-lt10.false f.ensures) (writes_writes c.put_decimal.ensures c.put-2.ensures)
