-- `words::shut` meets its contract. Assumes nothing.
use native.Mathlib.Omega.{arith}
use Rattle.words.specs.WordLaws.{shut_misses, shut_is, no_byte}
use Rattle.words.proofs.shut.Goals as goal
use Rattle.words.proofs.shut.Goals.{then-s-e-via-then-s-e, then-s-e-via-else-s-e+then-s-e-ne41}

pub returns-then-s-e : goal.returns-then-s-e
returns-then-s-e c =
    let a = c.args in
    let k = c.skip-e in
    shut_misses a.s.now a.at k.result k.ensures
    (elim c.then-s-e.branch [
      | then-s-e-via-then-s-e w ↦ no_byte a.s.now 41 k.result w.if-s-e.true
      | then-s-e-via-else-s-e+then-s-e-ne41 w ↦ λ q. w.if-s-e-ne41.true q.1
    ])

pub returns : goal.returns
returns c =
    let a = c.args in
    let k = c.skip-e in
    (omega (arith, k.ensures.from), omega arith, shut_is a.s.now a.at k.result k.ensures (c.if-s-e.false, c.if-s-e-ne41.false))
