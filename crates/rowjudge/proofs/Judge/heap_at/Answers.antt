-- `rowjudge::Judge::heap_at` meets its contract. Assumes nothing.
use native.Mathlib.Omega.{arith}
use Rattle.rowjudge.specs.SettingLaws.{set_inside, values_low, heap_is}
use Rattle.rowjudge.proofs.Judge.heap_at.Goals as goal

pub set-requires : goal.set-requires
set-requires c = let a = c.args in set_inside a.self.now.setting a.self.now.bytes.now a.self.now.arrays.now c.requires.0 a.s c.requires.2

pub heap_on-requires : goal.heap_on-requires
heap_on-requires c =
    let a = c.args in
    let z = c.requires in
    (omega (arith, z.0.few_arrays, z.1), z.0.few_locs, omega (arith, c.set.ensures.0, z.0.set_low a.s z.2), values_low a.self.now.setting a.self.now.bytes.now a.self.now.arrays.now z.0 a.a z.1, z.0.unpacked.rows a.a (omega (arith, z.0.few_arrays, z.1)))

pub returns : goal.returns
returns c =
    let a = c.args in
    let z = c.requires in
    (heap_is a.self.now.setting a.self.now.bytes.now a.self.now.arrays.now z.0 a.a a.s _ _ z.1 c.set.ensures.0 c.heap_on.ensures.0, c.heap_on.ensures.1)
