-- `rowjudge::Judge::node`, `rowjudge::Judge::join` and `rowjudge::Judge::both` meet their contracts: the node number falls at every call. Assumes nothing.
use Prim.Native.Nat.{◌≤◌}
use native.Mathlib.Omega.{arith}
use Rattle.logic.specs.Table.{op_of}
use Rattle.logic.proofs.KnownLaws.{operator_some, variables, lower}
use Rattle.rowjudge.specs.NodeLaws.{passed, failed, judged_atom, judged_conj, judged_disj, judged_but, judged_neg, judged_sep, judged_sept, judged_both, within_first, within_conj, within_disj, within_but, within_neg, within_sep, within_sept, within_join, judged_leaf, judged_join}
use Rattle.std.proofs.Common.{◌∙◌}
use Rattle.rowjudge.proofs.Judge.+both_join_node.Goals as goal
use Rattle.rowjudge.proofs.Judge.+both_join_node.Goals.{join-then-t, join-else-t, join-then-t-2, join-else-t-2, join-then-t-3, join-else-t-3, join-then-t-4, join-else-t-4, join-then-t-5, join-else-t-5, join-then-t-6, join-else-t-6, join-then-t-7, join-else-t-7, join-then-is_split, join-else-is_split, join-then-is_split-2, join-else-is_split-2, join-then-is_apart, join-else-is_apart}

pub both-node-u-requires : goal.both-node-u-requires
both-node-u-requires t c =
    let z = c.requires in
    let a = c.args in
    (omega (arith, c.decreases), (z.0, z.1, omega (arith, z.2, z.3), within_first _ _ _ _ _ _ _ _ z.5))

pub both-node-w-requires : goal.both-node-w-requires
both-node-w-requires t c =
    let z = c.requires in
    let w = z.5 in
    let u = c.node-u.ensures in (
      omega (arith, c.decreases),
      (
        z.0,
        z.1,
        omega (arith, z.2, z.4),
        record {
          array = omega (arith, w.array, u.array);
          set = omega (arith, w.second, u.set);
          arrays = omega (arith, w.arrays, u.array);
          sets = omega (arith, w.sets, u.set);
        },
      ),
    )

pub both-returns : goal.both-returns
both-returns t c = judged_both _ _ _ _ _ _ _ _ _ _ _ c.node-u.ensures c.node-w.ensures

pub join-both-t-requires : goal.join-both-t-requires
join-both-t-requires t c =
    let z = c.requires in
    let a = c.args in
    (omega (arith, c.decreases), (z.0, z.1, z.2, z.3, z.4, within_conj _ _ _ _ _ _ _ _ z.7 c.in-5.is))

pub join-both-t-requires-in-6 : goal.join-both-t-requires-in-6
join-both-t-requires-in-6 t c =
    let z = c.requires in
    let a = c.args in
    (omega (arith, c.decreases), (z.0, z.1, z.2, z.3, z.4, within_disj _ _ _ _ _ _ _ _ z.7 c.in-6.is))

pub join-both-t-requires-in-7 : goal.join-both-t-requires-in-7
join-both-t-requires-in-7 t c =
    let z = c.requires in
    let a = c.args in
    (omega (arith, c.decreases), (z.0, z.1, z.2, z.3, z.4, within_but _ _ _ _ _ _ _ _ z.7 c.in-7.is))

pub join-node-t-requires : goal.join-node-t-requires
join-node-t-requires t c =
    let z = c.requires in
    let a = c.args in
    (omega (arith, c.decreases), (z.0, z.1, omega (arith, z.2, z.3), within_neg _ _ _ _ _ _ _ _ z.7 c.in-8.is))

pub join-both-t-requires-in-9 : goal.join-both-t-requires-in-9
join-both-t-requires-in-9 t c =
    let z = c.requires in
    let a = c.args in
    (omega (arith, c.decreases), (z.0, z.1, z.2, z.3, z.4, (within_sep _ _ _ _ _ _ _ _ z.7 c.in-9.is).0))

pub join-is_split-requires : goal.join-is_split-requires
join-is_split-requires t c =
    let z = c.requires in
    let a = c.args in
    let w = within_sep _ _ _ _ _ _ _ _ z.7 c.in-9.is in
    (z.0.long, z.0.base, omega (arith, z.7.set, w.1), omega (arith, w.1), omega (arith, w.1))

pub join-is_apart-requires : goal.join-is_apart-requires
join-is_apart-requires t c =
    let z = c.requires in
    let a = c.args in
    let w = within_sep _ _ _ _ _ _ _ _ z.7 c.in-9.is in
    (z.0, omega (arith, w.0.array, w.0.arrays), omega (arith, w.1), omega (arith, w.1))

pub join-both-t-requires-in_default : goal.join-both-t-requires-in_default
join-both-t-requires-in_default t c =
    let z = c.requires in
    let a = c.args in
    (omega (arith, c.decreases), (z.0, z.1, z.2, z.3, z.4, (within_sept _ _ _ _ _ _ _ _ z.7 (omega arith)).0))

pub join-is_same-requires : goal.join-is_same-requires
join-is_same-requires t c =
    let z = c.requires in
    let a = c.args in
    let w = within_sept _ _ _ _ _ _ _ _ z.7 (omega (arith, z.5, z.6)) in
    (z.0, omega (arith, z.7.array, w.2), omega (arith, w.2), omega (arith, z.7.set, w.1))

pub join-returns-in-8 : goal.join-returns-in-8
join-returns-in-8 t c = judged_neg _ _ _ _ _ _ _ _ _ _ c.in-8.is c.node-t.ensures

pub join-is_split-requires-then-t-7 : goal.join-is_split-requires-then-t-7
join-is_split-requires-then-t-7 t c =
    let z = c.requires in
    let w = within_sept _ _ _ _ _ _ _ _ z.7 (omega arith) in
    (z.0.long, z.0.base, omega (arith, w.1), omega (arith, w.1), omega (arith, z.7.set, w.1))

pub join-is_apart-requires-then-is_split-2 : goal.join-is_apart-requires-then-is_split-2
join-is_apart-requires-then-is_split-2 t c =
    let z = c.requires in
    let w = within_sept _ _ _ _ _ _ _ _ z.7 (omega arith) in
    (z.0, omega (arith, w.2), omega (arith, w.1), omega (arith, z.7.set, w.1))

pub join-returns-after-t : goal.join-returns-after-t
join-returns-after-t t c = judged_conj _ _ _ _ _ _ _ _ _ _ _ c.in-5.is c.both-t.ensures (elim c.if-t.branch [ join-then-t w ↦ rw w.if-t.true w.result-is | join-else-t w ↦ rw w.if-t.false (w.result-is ∙ w.if-t.false) ])

pub join-returns-after-t-2 : goal.join-returns-after-t-2
join-returns-after-t-2 t c = judged_disj _ _ _ _ _ _ _ _ _ _ _ c.in-6.is c.both-t-in-6.ensures (elim c.if-t-2.branch [ join-then-t-2 w ↦ rw w.if-t-2.true (w.result-is ∙ w.if-t-2.true) | join-else-t-2 w ↦ rw w.if-t-2.false w.result-is ])

pub join-returns-after-t-3 : goal.join-returns-after-t-3
join-returns-after-t-3 t c = judged_but _ _ _ _ _ _ _ _ _ _ _ c.in-7.is c.both-t-in-7.ensures (elim c.if-t-3.branch [ join-then-t-3 w ↦ rw w.if-t-3.true w.result-is | join-else-t-3 w ↦ rw w.if-t-3.false (w.result-is ∙ w.if-t-3.false) ])

pub join-returns-after-is_split : goal.join-returns-after-is_split
join-returns-after-is_split t c =
    judged_sep _ _ _ _ _ _ _ _ _ _ _ c.if-t-4.value c.if-t-5.value c.in-9.is c.both-t-in-9.ensures
    (elim c.if-t-4.branch [ join-then-t-4 w ↦ rw w.if-t-4.true w.value-is | join-else-t-4 w ↦ rw w.if-t-4.false (w.value-is ∙ w.if-t-4.false) ])
    (elim c.if-t-5.branch [ join-then-t-5 w ↦ passed w.if-t-5.true w.is_split.ensures w.value-is | join-else-t-5 w ↦ failed w.if-t-5.false w.value-is ])
    (elim c.if-is_split.branch [ join-then-is_split w ↦ passed w.if-is_split.true w.is_apart.ensures w.result-is | join-else-is_split w ↦ failed w.if-is_split.false w.result-is ])

pub join-returns-after-is_apart : goal.join-returns-after-is_apart
join-returns-after-is_apart t c =
    judged_sept _ _ _ _ _ _ _ _ _ _ _ c.if-t-6.value c.if-t-7.value c.if-is_split-2.value (omega (arith, c.requires.5, c.requires.6)) c.both-t-in_default.ensures
    (elim c.if-t-6.branch [ join-then-t-6 w ↦ rw w.if-t-6.true w.value-is | join-else-t-6 w ↦ rw w.if-t-6.false (w.value-is ∙ w.if-t-6.false) ])
    (elim c.if-t-7.branch [ join-then-t-7 w ↦ passed w.if-t-7.true w.is_split-then-t-7.ensures w.value-is | join-else-t-7 w ↦ failed w.if-t-7.false w.value-is ])
    (elim c.if-is_split-2.branch [ join-then-is_split-2 w ↦ passed w.if-is_split-2.true w.is_apart-then-is_split-2.ensures w.value-is | join-else-is_split-2 w ↦ failed w.if-is_split-2.false w.value-is ])
    (elim c.if-is_apart.branch [ join-then-is_apart w ↦ passed w.if-is_apart.true w.is_same.ensures w.result-is | join-else-is_apart w ↦ failed w.if-is_apart.false w.result-is ])

pub node-atom-requires : goal.node-atom-requires
node-atom-requires t c =
    let z = c.requires in
    let a = c.args in
    let v = variables a.self.now.setting.v a.self.now.formula.now z.1 a.k _ _ z.2 c.from.ensures c.from-in-1-to-4.ensures (omega arith) in
    (z.0, omega (arith, z.3.array, z.3.arrays), omega (arith, z.3.set, z.3.sets), omega arith, omega arith, v.0, v.1)

pub node-join-requires : goal.node-join-requires
node-join-requires t c =
    let z = c.requires in
    let a = c.args in
    let l : 5 ≤ op_of a.self.now.formula.now a.k = omega arith in
    let ex = c.from-in-5-to-10.ensures in
    let ey = c.from-in-5-to-10-2.ensures in
    let h = lower a.self.now.setting.v a.self.now.formula.now z.1 a.k _ _ z.2 ex ey l in (
      omega (arith, c.decreases),
      (
        z.0,
        z.1,
        z.2,
        h.0,
        h.1,
        l,
        omega arith,
        within_join a.self.now.setting a.self.now.bytes.now a.self.now.formula.now z.1 a.k _ _ z.2 ex ey _ _ _ _ l z.3,
      ),
    )

pub node-returns-in-1-to-4 : goal.node-returns-in-1-to-4
node-returns-in-1-to-4 t c =
    let z = c.requires in
    let a = c.args in
    judged_leaf a.self.now.setting a.self.now.bytes.now a.self.now.formula.now z.1 a.k _ _ z.2 c.from.ensures c.from-in-1-to-4.ensures _ _ _ _ _ (omega arith) (judged_atom a.self.now.setting a.self.now.bytes.now a.self.now.arrays.now z.0 _ _ _ _ _ _ _ _ (omega arith) (omega arith) c.atom.ensures)

pub node-returns-in-5-to-10 : goal.node-returns-in-5-to-10
node-returns-in-5-to-10 t c =
    let z = c.requires in
    let a = c.args in
    judged_join a.self.now.setting a.self.now.bytes.now a.self.now.formula.now z.1 a.k _ _ z.2 c.from-in-5-to-10.ensures c.from-in-5-to-10-2.ensures _ _ _ _ _ (omega arith) c.join.ensures

pub node-returns-in_default : goal.node-returns-in_default
node-returns-in_default t c =
    let z = c.requires in
    let a = c.args in
    absurd (omega (arith, operator_some a.self.now.setting.v a.self.now.formula.now z.1 a.k 0 0 z.2))

pub node-returns-in_default-2 : goal.node-returns-in_default-2
node-returns-in_default-2 t c =
    let z = c.requires in
    let a = c.args in
    absurd (omega (arith, operator_some a.self.now.setting.v a.self.now.formula.now z.1 a.k 0 0 z.2))
