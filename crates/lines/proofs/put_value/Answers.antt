-- `lines::put_value` meets its contract. Assumes nothing.
use native.Mathlib.Omega.{arith}
use Rattle.put.specs.PutsLaws.{room_as}
use Rattle.put.specs.PensLaws.{writes_as}
use Rattle.lines.specs.PrintedLaws.{value_none, value_some}
use Rattle.lines.proofs.put_value.Goals as goal

pub put-requires : goal.put-requires
put-requires c = let p = c.args.pen.now in room_as p.at p.out.now (value_none c.args.x (omega (arith, c.if-x-eq255.true))) c.requires

pub returns-then-x-eq255 : goal.returns-then-x-eq255
returns-then-x-eq255 c = writes_as (value_none c.args.x (omega (arith, c.if-x-eq255.true))) c.put.ensures

pub put_decimal-requires : goal.put_decimal-requires
put_decimal-requires c =
    let p = c.args.pen.now in
    room_as p.at p.out.now (value_some c.args.x c.from.result (λ e. omega (arith, c.if-x-eq255.false)) c.from.ensures) c.requires

pub returns : goal.returns
returns c = writes_as (value_some c.args.x c.from.result (λ e. omega (arith, c.if-x-eq255.false)) c.from.ensures) c.put_decimal.ensures
