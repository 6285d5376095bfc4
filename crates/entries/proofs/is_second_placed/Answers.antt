-- `entries::is_second_placed` meets its contract. Assumes nothing.
use Prim.Native.Nat.{◌+◌}
use lib.ListN.{length}
use native.Mathlib.Omega.{arith}
use Rattle.logic.proofs.Reflect.{false_true, is_iff, is_eq}
use Rattle.logic.specs.Book.{start_of, EndOk}
use Rattle.entries.proofs.is_second_placed.Goals as goal

pub returns-then-start-word_at : goal.returns-then-start-word_at
unfolding start_of EndOk
returns-then-start-word_at c = record { to = λ t. false_true t; from = λ q. absurd (omega (arith, q.0, c.if-start-word_at.true, c.word_at-2.ensures.0, c.word_at.ensures.0, c.word_at-start.ensures.0)) }

pub returns : goal.returns
unfolding start_of EndOk
returns c = is_iff (is_eq (c.word_at-start.result + c.word_at-3.result) (length c.args.book.now)) (λ q. (omega (arith, c.if-start-word_at.false, c.word_at-2.ensures.0, c.word_at.ensures.0, c.word_at-start.ensures.0), omega (arith, q, c.word_at-start.ensures.0, c.word_at-3.ensures.0))) (λ q. omega (arith, q.1, c.word_at-start.ensures.0, c.word_at-3.ensures.0))
