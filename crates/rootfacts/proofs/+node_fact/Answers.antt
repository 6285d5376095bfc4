-- `rootfacts::node_fact` meets its contract: the node number falls at every call. Assumes nothing.
use Prim.Native.Nat.{◌<◌}
use native.Mathlib.Omega.{arith}
use Rattle.rootfacts.specs.NodeLaws.{lower, readable_below, join_known, first_known}
use Rattle.rootfacts.proofs.+node_fact.Goals as goal

pub node_fact-requires : goal.node_fact-requires
node_fact-requires t c =
    let p = c.requires in
    let l : c.from.result < c.args.k = omega (arith, (lower _ _ _ _ p.0 (omega arith)).0) in
    (omega arith, (readable_below _ _ _ _ p.0 (omega arith) _ l, p.1))

pub returns-in-7 : goal.returns-in-7
returns-in-7 t c = first_known _ _ _ _ c.requires.0 (omega arith) _ _ _ c.in-7.is c.from.ensures c.node_fact.ensures

pub node_fact-a-requires : goal.node_fact-a-requires
node_fact-a-requires t c =
    let p = c.requires in
    let l : c.from-in_default.result < c.args.k = omega (arith, (lower _ _ _ _ p.0 (omega arith)).0) in
    (omega arith, (readable_below _ _ _ _ p.0 (omega arith) _ l, p.1))

pub node_fact-b-requires : goal.node_fact-b-requires
node_fact-b-requires t c =
    let p = c.requires in
    let l : c.from-in_default-2.result < c.args.k = omega (arith, (lower _ _ _ _ p.0 (omega arith)).1) in
    (omega arith, (readable_below _ _ _ _ p.0 (omega arith) _ l, p.1))

pub returns-in_default : goal.returns-in_default
returns-in_default t c = join_known _ _ _ _ c.requires.0 (omega arith) _ _ _ _ _ _ c.join_fact.ensures c.from-in_default.ensures c.from-in_default-2.ensures c.node_fact-a.ensures c.node_fact-b.ensures
