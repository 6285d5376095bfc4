-- `entries::is_first_placed` meets its contract. Assumes nothing.
use mathlib.Core.Path.{◌∙◌}
use Prim.Native.Nat.{◌+◌}
use lib.ListN.{length}
use native.Mathlib.Omega.{arith}
use Rattle.logic.proofs.Reflect.{false_true, is_iff, is_le}
use Rattle.logic.specs.Book.{start_of, EndOk}
use Rattle.entries.proofs.is_first_placed.Goals as goal

pub returns-then-start-ne11 : goal.returns-then-start-ne11
unfolding start_of EndOk
returns-then-start-ne11 c = record { to = λ t. false_true t; from = λ q. absurd (c.if-start-ne11.true (c.word_at-start.ensures.0 ∙ q.0)) }

pub returns : goal.returns
unfolding start_of EndOk
returns c = is_iff (is_le (c.word_at-start.result + c.word_at.result) (length c.args.book.now)) (λ q. (omega (arith, c.word_at-start.ensures.0, c.if-start-ne11.false), omega (arith, q, c.word_at-start.ensures.0, c.word_at.ensures.0))) (λ q. omega (arith, q.1, c.word_at-start.ensures.0, c.word_at.ensures.0))
