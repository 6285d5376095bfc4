-- `ownwords::own_bytes` meets its contract. Assumes nothing.
use native.Mathlib.Omega.{arith}
use Rattle.ownwords.specs.OwnWordLaws.{own_join, own_atom}
use Rattle.ownwords.proofs.own_bytes.Goals as goal

pub returns-then-op-gt4 : goal.returns-then-op-gt4
returns-then-op-gt4 c =
    let a = c.args in
    let w = c.known_bytes-words in
    (own_join a.op a.x a.y w.result (omega arith) w.ensures.0, omega (arith, w.ensures.1))

pub returns : goal.returns
returns c =
    let a = c.args in
    let w = c.known_bytes-words in
    let x = c.term_bytes in
    let y = c.term_bytes-2 in
    (own_atom a.op a.x a.y w.result x.result y.result (omega arith) w.ensures.0 x.ensures.0 y.ensures.0, omega (arith, w.ensures.1, x.ensures.1, y.ensures.1))
