-- `ownwords::put_term` meets its contract. Assumes nothing.
use mathlib.Core.Path.{sym, ap}
use mathlib.Core.List.{[], ◌∷◌}
use Prim.Native.Nat.{◌+◌}
use native.Mathlib.Omega.{arith}
use Rattle.put.specs.PutsLaws.{room_first, room_as}
use Rattle.put.specs.PensLaws.{writes_writes, writes_as, space_behind}
use Rattle.ownwords.specs.OwnWords.{term}
use Rattle.ownwords.specs.OwnWordLaws.{name_is}
use Rattle.ownwords.proofs.put_term.Goals as goal

pub put_word-requires : goal.put_word-requires
put_word-requires c = let p = c.args.pen.now in room_as p.at p.out.now (sym (ap term c.if-x-eq0.true)) c.requires.1

pub returns-then-x-eq0 : goal.returns-then-x-eq0
returns-then-x-eq0 c = writes_as (sym (ap term c.if-x-eq0.true)) c.put_word.ensures

pub put-requires : goal.put-requires
put-requires c =
    let x = c.args.x in
    let p = c.args.pen.now in
    room_first p.at (118 ∷ []) ((48 + x) ∷ []) p.out.now (room_as p.at p.out.now (sym (name_is x (omega arith))) c.requires.1)

pub put-requires-2 : goal.put-requires-2
put-requires-2 c =
    let x = c.args.x in
    let p = c.args.pen.now in
    space_behind c.put.ensures ((48 + x) ∷ []) (room_as p.at p.out.now (sym (name_is x (omega arith))) c.requires.1)

pub returns : goal.returns
returns c = writes_as (sym (name_is c.args.x (omega arith))) (writes_writes c.put.ensures c.put-2.ensures)
