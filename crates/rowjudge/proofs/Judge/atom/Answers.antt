-- `rowjudge::Judge::atom` meets its contract. Assumes nothing.
use native.Mathlib.Omega.{arith}
use Rattle.std.proofs.Common.{refl, eq-eqb, ne_eqb}
use Rattle.logic.proofs.Reflect.{is_eq, is_not}
use Rattle.rowjudge.specs.NodeLaws.{passed, failed, is_also}
use Rattle.rowjudge.specs.SettingLaws.{on_low, location_low, location_is}
use Rattle.rowjudge.specs.RowLaws.{is_same_atom, is_diff_atom, is_pts_atom, is_ls_atom}
use Rattle.rowjudge.proofs.Judge.atom.Goals as goal

pub heap_at-w-requires : goal.heap_at-w-requires
heap_at-w-requires c = (c.requires.0, c.requires.1, c.requires.2)

pub cell-b-requires : goal.cell-b-requires
cell-b-requires c = omega (arith, c.requires.0.few_vars, c.requires.5)

pub cell-c-requires : goal.cell-c-requires
cell-c-requires c = omega (arith, c.requires.0.few_vars, c.requires.6)

pub is_points-requires : goal.is_points-requires
is_points-requires c = let a = c.args in let z = c.requires in (location_low a.self.now.setting a.self.now.bytes.now a.self.now.arrays.now z.0 _ _ c.cell-b.ensures, location_low a.self.now.setting a.self.now.bytes.now a.self.now.arrays.now z.0 _ _ c.cell-c.ensures)

pub is_list-requires : goal.is_list-requires
is_list-requires c =
    let a = c.args in
    let z = c.requires in
    (omega (arith, z.0.few_locs), location_low a.self.now.setting a.self.now.bytes.now a.self.now.arrays.now z.0 _ _ c.cell-b.ensures, on_low a.self.now.setting a.self.now.bytes.now a.self.now.arrays.now z.0 _ _ _ c.heap_at-w.ensures.0)

pub returns-in-3 : goal.returns-in-3
returns-in-3 c =
    let a = c.args in
    let z = c.requires in
    is_pts_atom _ _ _ _ _ _ _ _ _ _ _ _ c.heap_at-w.ensures.0 c.in-3.is (location_is a.self.now.setting a.self.now.bytes.now a.self.now.arrays.now z.0 _ _ c.cell-b.ensures) (location_is a.self.now.setting a.self.now.bytes.now a.self.now.arrays.now z.0 _ _ c.cell-c.ensures)
    c.is_points.ensures

pub returns-in_default : goal.returns-in_default
returns-in_default c =
    let a = c.args in
    let z = c.requires in
    is_ls_atom _ _ _ _ _ _ _ _ _ _ _ _ c.heap_at-w.ensures.0 (omega arith) (location_is a.self.now.setting a.self.now.bytes.now a.self.now.arrays.now z.0 _ _ c.cell-b.ensures) (location_is a.self.now.setting a.self.now.bytes.now a.self.now.arrays.now z.0 _ _ c.cell-c.ensures)
    c.is_list.ensures

pub returns-then-b-c : goal.returns-then-b-c
returns-then-b-c c =
    let a = c.args in
    let z = c.requires in
    is_same_atom _ _ _ _ _ _ _ _ _ _ _ _ c.heap_at-w.ensures.0 c.in-1.is (location_is a.self.now.setting a.self.now.bytes.now a.self.now.arrays.now z.0 _ _ c.cell-b.ensures) (location_is a.self.now.setting a.self.now.bytes.now a.self.now.arrays.now z.0 _ _ c.cell-c.ensures)
    (is_also _ _ (is_eq c.cell-b.result c.cell-c.result) (passed (eq-eqb _ _ c.if-b-c.true) c.is_empty.ensures refl))

pub returns-else-b-c : goal.returns-else-b-c
returns-else-b-c c =
    let a = c.args in
    let z = c.requires in
    is_same_atom _ _ _ _ _ _ _ _ _ _ _ _ c.heap_at-w.ensures.0 c.in-1.is (location_is a.self.now.setting a.self.now.bytes.now a.self.now.arrays.now z.0 _ _ c.cell-b.ensures) (location_is a.self.now.setting a.self.now.bytes.now a.self.now.arrays.now z.0 _ _ c.cell-c.ensures)
    (is_also _ _ (is_eq c.cell-b.result c.cell-c.result) (failed (ne_eqb _ _ c.if-b-c.false) refl))

pub returns-then-b-c-2 : goal.returns-then-b-c-2
returns-then-b-c-2 c =
    let a = c.args in
    let z = c.requires in
    is_diff_atom _ _ _ _ _ _ _ _ _ _ _ _ c.heap_at-w.ensures.0 c.in-2.is (location_is a.self.now.setting a.self.now.bytes.now a.self.now.arrays.now z.0 _ _ c.cell-b.ensures) (location_is a.self.now.setting a.self.now.bytes.now a.self.now.arrays.now z.0 _ _ c.cell-c.ensures)
    (is_also _ _ (is_not _ (is_eq c.cell-b.result c.cell-c.result)) (passed (rw (ne_eqb _ _ c.if-b-c-2.true) refl) c.is_empty-then-b-c-2.ensures refl))

pub returns-else-b-c-2 : goal.returns-else-b-c-2
returns-else-b-c-2 c =
    let a = c.args in
    let z = c.requires in
    is_diff_atom _ _ _ _ _ _ _ _ _ _ _ _ c.heap_at-w.ensures.0 c.in-2.is (location_is a.self.now.setting a.self.now.bytes.now a.self.now.arrays.now z.0 _ _ c.cell-b.ensures) (location_is a.self.now.setting a.self.now.bytes.now a.self.now.arrays.now z.0 _ _ c.cell-c.ensures)
    (is_also _ _ (is_not _ (is_eq c.cell-b.result c.cell-c.result)) (failed (rw (eq-eqb _ _ c.if-b-c-2.false) refl) refl))
