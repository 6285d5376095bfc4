-- `rowjudge::Judge::is_split` meets its contract. Assumes nothing.
use Rattle.std.proofs.Common.{refl, eq-eqb, ne_eqb}
use Rattle.rowjudge.specs.RowLaws.{is_splits_at}
use Rattle.rowjudge.proofs.Judge.is_split.Goals as goal

pub returns-then-x-y-eq0 : goal.returns-then-x-y-eq0
returns-then-x-y-eq0 c = let a = c.args in let g = a.self.now in is_splits_at g.bytes.now g.setting.base _ a.s a.s1 a.s2 _ _ _ _ c.requires.1 c.set-m.ensures c.set-x.ensures c.set-y.ensures (rw (eq-eqb _ _ c.if-x-y-eq0.true) refl)

pub returns-else-x-y-eq0 : goal.returns-else-x-y-eq0
returns-else-x-y-eq0 c = let a = c.args in let g = a.self.now in is_splits_at g.bytes.now g.setting.base _ a.s a.s1 a.s2 _ _ _ _ c.requires.1 c.set-m.ensures c.set-x.ensures c.set-y.ensures (rw (ne_eqb _ _ c.if-x-y-eq0.false) refl)
