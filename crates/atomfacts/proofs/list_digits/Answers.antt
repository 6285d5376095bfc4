-- `atomfacts::list_digits` meets its contract. Assumes nothing.
use borrow.Author.Tests.{eqb-true}
use Rattle.atomfacts.specs.AtomLaws.{list_at_nil, list_at_end, not_zero, list_set}
use Rattle.atomfacts.proofs.list_digits.Goals as goal
use Rattle.atomfacts.proofs.list_digits.Goals.{then-l-eq0-via-then-l-eq0, then-l-eq0-via-else-l-eq0+then-l-b}

pub returns-then-l-eq0 : goal.returns-then-l-eq0
returns-then-l-eq0 c =
    elim c.then-l-eq0.branch [
      | then-l-eq0-via-then-l-eq0 w ↦ list_at_nil _ _ _ _ w.if-l-eq0.true
      | then-l-eq0-via-else-l-eq0+then-l-b w ↦ list_at_end _ _ _ _ w.if-l-b.true
    ]

pub returns : goal.returns
returns c = list_set _ _ _ _ _ _ _ _ _ _ _ c.digit_bit-all.ensures.0 (not_zero _) (eqb-true _ _) c.drop_if-not_start.ensures c.drop_if-not_loop.ensures c.drop_if-not_nil.ensures c.drop_if.ensures
