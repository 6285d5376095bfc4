-- `rowjudge::Judge::is_apart` meets its contract. Assumes nothing.
use mathlib.Core.Path.{subst}
use Rattle.logic.specs.Heap.{Map}
use Rattle.cells.specs.Cells.{Barred}
use Rattle.rows.proofs.OnSet.{on_heap}
use Rattle.rowjudge.specs.SettingLaws.{on_few}
use Rattle.rowjudge.specs.RowLaws.{is_apart_met}
use Rattle.rowjudge.proofs.Judge.is_apart.Goals as goal

pub heap_at-requires : goal.heap_at-requires
heap_at-requires c = (c.requires.0, c.requires.1, c.requires.2)

pub met-x-requires : goal.met-x-requires
met-x-requires c = let a = c.args in let z = c.requires in (z.0.barred.small, on_few a.self.now.setting a.self.now.bytes.now a.self.now.arrays.now z.0 _ _ _ c.heap_at.ensures.0)

pub heap_at-requires-2 : goal.heap_at-requires-2
heap_at-requires-2 c = (c.requires.0, c.requires.1, c.requires.3)

pub met-y-requires : goal.met-y-requires
met-y-requires c = let a = c.args in let z = c.requires in (z.0.barred.small, on_few a.self.now.setting a.self.now.bytes.now a.self.now.arrays.now z.0 _ _ _ c.heap_at-2.ensures.0)

pub returns : goal.returns
returns c =
    let a = c.args in
    let z = c.requires in
    is_apart_met a.self.now.setting.profile a.self.now.setting.v a.self.now.setting.n _ _ _ _ _ _ _ _ _ (on_heap a.self.now.setting.v a.self.now.setting.n _ a.a a.s1 z.0.within_range)
    (subst (λ (s : Map). Barred a.self.now.setting.profile a.self.now.setting.v a.self.now.setting.n s a.self.now.setting.barred) z.0.stack z.0.barred) c.heap_at.ensures.0 c.heap_at-2.ensures.0 c.met-x.ensures c.met-y.ensures
