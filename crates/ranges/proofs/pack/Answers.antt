-- `ranges::pack` meets its contract. Assumes nothing.
use Rattle.std.proofs.Common.{refl, inl, inr}
use Rattle.std.proofs.lemmas.Result.{err_from_is_err_and}
use Rattle.logic.specs.Checks.{Answers}
use Rattle.ranges.proofs.pack.Goals as goal

pub returns-then-model-v : goal.returns-then-model-v
unfolding Answers
returns-then-model-v c = record { answer = inl (c.if-model-v.true, refl); stack = tt; heap = tt }

pub returns-in_err-in_range : goal.returns-in_err-in_range
unfolding Answers
returns-in_err-in_range c =
    let p = err_from_is_err_and c.from_residual.result c.from_residual.ensures.1 in
    rw (p.1, p.2) (record { answer = inr (c.if-model-v.false, c.in_err-in_range.ensures); stack = tt; heap = tt })

pub returns : goal.returns
unfolding Answers
returns c =
    record {
      answer = inr (c.if-model-v.false, c.in_ok-in_range.ensures);
      stack = c.packed-stack.ensures;
      heap = c.packed-heap.ensures;
    }
