-- `treerows::Source::node`, `treerows::Source::join` and `treerows::Source::both` meet their contracts: the node number falls at every call. Assumes nothing.
use Prim.Native.Nat.{◌+◌}
use native.Mathlib.Omega.{arith}
use Rattle.std.proofs.Common.{refl}
use Rattle.logic.specs.Table.{tree}
use Rattle.rows.specs.Table.{apart_row_count}
use Rattle.rows.proofs.TableLaws.{rows_some}
use Rattle.rowbytes.specs.WrittenLaws.{row_after, space_after}
use Rattle.logic.proofs.KnownLaws.{operator_some, lower}
use Rattle.treerows.specs.TreeLaws.{first_some, next_some, two_trees, conj_rows, disj_rows, but_rows, neg_rows, sep_encoded, sept_encoded, room_first, room_second, room_none, room_conj, room_disj, room_but, room_neg, room_sep, room_sept, room_atom, atom_encoded, connective, own_room, own_encoded}
use Rattle.treerows.proofs.Source.+both_join_node.Goals as goal

pub both-node-requires : goal.both-node-requires
both-node-requires t c =
    let j = c.args.self.now in
    let z = c.requires in
    let h = lower z.2.0 j.formula.now z.2.1 c.args.k _ _ z.0 c.from-x.ensures refl z.1 in
    (omega (arith, c.decreases, h.0), (omega (arith, z.0, h.0), z.2, rw c.from-x.ensures (room_first _ _ _ _ _ _ z.3)))

pub both-node-requires-2 : goal.both-node-requires-2
both-node-requires-2 t c =
    let j = c.args.self.now in
    let z = c.requires in
    let h = lower z.2.0 j.formula.now z.2.1 c.args.k _ _ z.0 refl c.from-y.ensures z.1 in
    (omega (arith, c.decreases, h.1), (omega (arith, z.0, h.1), z.2, rw c.from-y.ensures (room_second _ _ _ _ _ _ _ _ _ _ _ z.3 (rw c.from-x.ensures at c.node.ensures.rows) c.node.ensures.kept.long)))

pub both-returns-clause-rows : goal.both-returns-clause-rows
both-returns-clause-rows t c =
    two_trees _ _ _ _ _ _ _ (room_first _ _ _ _ _ _ c.requires.3).space (rw c.from-x.ensures at c.node.ensures.rows) (rw c.from-y.ensures at c.node-2.ensures.rows)

pub join-both-first-requires : goal.join-both-first-requires
join-both-first-requires t c =
    let z = c.requires in
    (omega (arith, c.decreases), (z.0, z.1, z.2, room_none _ _ _ _ _ _ 1 (room_conj _ _ _ _ _ _ _ (own_room c.requires) c.in-5.is)))

pub join-overflow_sub-first : goal.join-overflow_sub-first
join-overflow_sub-first t c =
    omega (arith, first_some _ _ _ _ c.both-first.ensures.rows)

pub join-overflow_sub-last : goal.join-overflow_sub-last
join-overflow_sub-last t c =
    omega (arith, next_some _ _ _ _ c.both-first.ensures.rows)

pub join-put_and-requires : goal.join-put_and-requires
join-put_and-requires t c =
    space_after 1 _ c.both-first.ensures.rows.puts (room_conj _ _ _ _ _ _ _ (own_room c.requires) c.in-5.is).space c.both-first.ensures.kept.long

pub join-both-first-requires-in-6 : goal.join-both-first-requires-in-6
join-both-first-requires-in-6 t c =
    let z = c.requires in
    (omega (arith, c.decreases), (z.0, z.1, z.2, room_none _ _ _ _ _ _ 1 (room_disj _ _ _ _ _ _ _ (own_room c.requires) c.in-6.is)))

pub join-overflow_sub-first-in-6 : goal.join-overflow_sub-first-in-6
join-overflow_sub-first-in-6 t c =
    omega (arith, first_some _ _ _ _ c.both-first-in-6.ensures.rows)

pub join-overflow_sub-last-in-6 : goal.join-overflow_sub-last-in-6
join-overflow_sub-last-in-6 t c =
    omega (arith, next_some _ _ _ _ c.both-first-in-6.ensures.rows)

pub join-put_or-requires : goal.join-put_or-requires
join-put_or-requires t c =
    space_after 1 _ c.both-first-in-6.ensures.rows.puts (room_disj _ _ _ _ _ _ _ (own_room c.requires) c.in-6.is).space c.both-first-in-6.ensures.kept.long

pub join-both-first-requires-in-7 : goal.join-both-first-requires-in-7
join-both-first-requires-in-7 t c =
    let z = c.requires in
    (omega (arith, c.decreases), (z.0, z.1, z.2, room_none _ _ _ _ _ _ 2 (room_but _ _ _ _ _ _ _ (own_room c.requires) c.in-7.is)))

pub join-put_but-requires : goal.join-put_but-requires
join-put_but-requires t c =
    let q = c.both-first-in-7 in
    (first_some _ _ _ _ q.ensures.rows, next_some _ _ _ _ q.ensures.rows, space_after 2 _ q.ensures.rows.puts (room_but _ _ _ _ _ _ _ (own_room c.requires) c.in-7.is).space q.ensures.kept.long)

pub join-node-requires : goal.join-node-requires
join-node-requires t c =
    let j = c.args.self.now in
    let z = c.requires in
    let h = lower z.2.0 j.formula.now z.2.1 c.args.k _ _ z.0 c.from.ensures refl z.1 in
    (omega (arith, c.decreases, h.0), (omega (arith, z.0, h.0), z.2, rw c.from.ensures (room_neg _ _ _ _ _ _ _ (own_room c.requires) c.in-8.is).0))

pub join-overflow_sub-last-in-8 : goal.join-overflow_sub-last-in-8
join-overflow_sub-last-in-8 t c =
    let j = c.args.self.now in
    omega (arith, row_after c.node.ensures.rows, rows_some j.profile j.n (tree j.formula.now c.from.result))

pub join-put_not-requires : goal.join-put_not-requires
join-put_not-requires t c =
    space_after 1 _ (rw c.from.ensures at c.node.ensures.rows) (room_neg _ _ _ _ _ _ _ (own_room c.requires) c.in-8.is).1 c.node.ensures.kept.long

pub join-overflow_add-w : goal.join-overflow_add-w
join-overflow_add-w t c =
    omega (arith, (room_sep _ _ _ _ _ _ _ (own_room c.requires) c.in-9.is).1)

pub join-overflow_add-i : goal.join-overflow_add-i
join-overflow_add-i t c =
    omega (arith, (room_sep _ _ _ _ _ _ _ (own_room c.requires) c.in-9.is).1)

pub join-both-first-requires-in-9 : goal.join-both-first-requires-in-9
join-both-first-requires-in-9 t c =
    let z = c.requires in
    let g = (room_sep _ _ _ _ _ _ _ (own_room c.requires) c.in-9.is).0 in (
      omega (arith, c.decreases),
      (
        z.0,
        z.1,
        z.2,
        record { space = record { out = omega (arith, g.space.out); row = omega (arith, g.space.row) }; array = omega (arith, g.array); set = omega (arith, g.set) },
      ),
    )

pub join-put_sep-requires : goal.join-put_sep-requires
join-put_sep-requires t c =
    let q = c.both-first-in-9 in
    let g = room_sep _ _ _ _ _ _ _ (own_room c.requires) c.in-9.is in
    let n = row_after q.ensures.rows.puts in
    (first_some _ _ _ _ q.ensures.rows, next_some _ _ _ _ q.ensures.rows, omega (arith, g.1), record { out = omega (arith, n, g.0.space.out); row = omega (arith, n, g.0.space.row) })

pub join-overflow_add-w-in_default : goal.join-overflow_add-w-in_default
join-overflow_add-w-in_default t c =
    let g = room_sept _ _ _ _ _ _ _ (own_room c.requires) (omega (arith, connective c.requires)) in
    omega (arith, g.1, g.2)

pub join-overflow_add-w-in_default-2 : goal.join-overflow_add-w-in_default-2
join-overflow_add-w-in_default-2 t c =
    let g = room_sept _ _ _ _ _ _ _ (own_room c.requires) (omega (arith, connective c.requires)) in
    omega (arith, g.1, g.2)

pub join-overflow_add-i-in_default : goal.join-overflow_add-i-in_default
join-overflow_add-i-in_default t c =
    omega (arith, (room_sept _ _ _ _ _ _ _ (own_room c.requires) (omega (arith, connective c.requires))).1)

pub join-both-first-requires-in_default : goal.join-both-first-requires-in_default
join-both-first-requires-in_default t c =
    let z = c.requires in
    (omega (arith, c.decreases), (z.0, z.1, z.2, room_none _ _ _ _ _ _ _ (room_sept _ _ _ _ _ _ _ (own_room c.requires) (omega (arith, connective c.requires))).0))

pub join-put_sept-requires : goal.join-put_sept-requires
join-put_sept-requires t c =
    let q = c.both-first-in_default in
    let g = room_sept _ _ _ _ _ _ _ (own_room c.requires) (omega (arith, connective c.requires)) in
    (first_some _ _ _ _ q.ensures.rows, next_some _ _ _ _ q.ensures.rows, omega (arith, g.1), space_after (5 + apart_row_count c.args.self.now.profile) _ q.ensures.rows.puts g.0.space q.ensures.kept.long)

pub join-returns-in-5-clause-rows : goal.join-returns-in-5-clause-rows
join-returns-in-5-clause-rows t c =
    own_encoded c.requires _ _ (conj_rows _ _ _ _ _ _ _ _ c.in-5.is (room_conj _ _ _ _ _ _ _ (own_room c.requires) c.in-5.is).space c.both-first.ensures.rows c.put_and.ensures.puts)

pub join-returns-in-6-clause-rows : goal.join-returns-in-6-clause-rows
join-returns-in-6-clause-rows t c =
    own_encoded c.requires _ _ (disj_rows _ _ _ _ _ _ _ _ c.in-6.is (room_disj _ _ _ _ _ _ _ (own_room c.requires) c.in-6.is).space c.both-first-in-6.ensures.rows c.put_or.ensures.puts)

pub join-returns-in-7-clause-rows : goal.join-returns-in-7-clause-rows
join-returns-in-7-clause-rows t c =
    own_encoded c.requires _ _ (but_rows _ _ _ _ _ _ _ _ c.in-7.is (room_but _ _ _ _ _ _ _ (own_room c.requires) c.in-7.is).space c.both-first-in-7.ensures.rows c.put_but.ensures.puts)

pub join-returns-in-8-clause-rows : goal.join-returns-in-8-clause-rows
join-returns-in-8-clause-rows t c =
    own_encoded c.requires _ _ (neg_rows _ _ _ _ _ _ _ c.in-8.is (room_neg _ _ _ _ _ _ _ (own_room c.requires) c.in-8.is).1 (rw c.from.ensures at c.node.ensures.rows) c.put_not.ensures.puts)

pub join-returns-in-9-clause-rows : goal.join-returns-in-9-clause-rows
join-returns-in-9-clause-rows t c =
    own_encoded c.requires _ _ (sep_encoded _ _ _ _ _ _ _ _ c.in-9.is (room_sep _ _ _ _ _ _ _ (own_room c.requires) c.in-9.is).0.space c.both-first-in-9.ensures.rows c.put_sep.ensures.puts)

pub join-returns-in_default-clause-rows : goal.join-returns-in_default-clause-rows
join-returns-in_default-clause-rows t c =
    own_encoded c.requires _ _ (sept_encoded _ _ _ _ _ _ _ _ (omega (arith, connective c.requires)) (room_sept _ _ _ _ _ _ _ (own_room c.requires) (omega (arith, connective c.requires))).0.space c.both-first-in_default.ensures.rows c.put_sept.ensures.puts)

pub node-put_atom-requires : goal.node-put_atom-requires
node-put_atom-requires t c =
    let j = c.args.self.now in
    let z = c.requires in
    (omega (arith, operator_some z.1.0 j.formula.now z.1.1 c.args.k 0 0 z.0), omega arith, j.few, room_atom j.profile z.1.0 j.formula.now z.1.1 c.args.k _ _ j.n z.0 c.from.ensures c.from-in-1-to-4.ensures _ _ (omega arith) z.2)

pub node-join-requires : goal.node-join-requires
node-join-requires t c =
    let z = c.requires in
    (omega (arith, c.decreases), (z.0, omega arith, z.1, z.2))

pub node-returns-in-1-to-4-clause-rows : goal.node-returns-in-1-to-4-clause-rows
node-returns-in-1-to-4-clause-rows t c =
    let j = c.args.self.now in
    let z = c.requires in
    atom_encoded j.profile z.1.0 j.formula.now z.1.1 c.args.k _ _ j.n z.0 c.from.ensures c.from-in-1-to-4.ensures _ _ _ _ _ _ (omega arith) c.put_atom.ensures.rows
