-- `rowjudge::Judge::long_holds` meets its contract. Assumes nothing.
use mathlib.Core.Path.{subst}
use native.Mathlib.Omega.{arith}
use Rattle.logic.specs.Heap.{Map}
use Rattle.logic.specs.Paths.{NoLongPath}
use Rattle.logic.specs.Reflect.{Is}
use Rattle.rowjudge.specs.SettingLaws.{on_low}
use Rattle.rowjudge.proofs.Judge.long_holds.Goals as goal

pub is_short-requires : goal.is_short-requires
is_short-requires c =
    let a = c.args in
    let z = c.requires in
    (omega (arith, z.0.few_locs), on_low a.self.now.setting a.self.now.bytes.now a.self.now.arrays.now z.0 _ _ _ c.heap_at.ensures.0)

pub returns : goal.returns
returns c = subst (λ (h : Map). Is c.is_short.result (NoLongPath c.args.k h)) c.heap_at.ensures.0 c.is_short.ensures
