-- `sweep::Quest::stack` meets its contract. Assumes nothing.
use Rattle.std.proofs.Common.{sym, ◌∙◌, eqb-true}
use Rattle.logic.specs.Table.{tree}
use Rattle.sweep.specs.SweepLaws.{given_nothing}
use Rattle.sweep.specs.StartLaws.{hopeless_passed}
use Rattle.sweep.proofs.Quest.stack.Goals as goal

pub returns-then-is_hopeless : goal.returns-then-is_hopeless
returns-then-is_hopeless c =
    let a = c.args in
    let q = c.requires in
    let s = a.self.now in
    given_nothing _ _ _ _ _ (hopeless_passed s.profile s.path (tree s.table.now s.node) a.c q.2 a.from a.to q.3 _ c.root_facts-t.ensures (eqb-true _ _ (sym c.is_hopeless.ensures ∙ c.if-is_hopeless.true)) q.4)
