-- `ranges::in_range` meets its contract. Assumes nothing.
use Rattle.std.proofs.Common.{◌+◌, ◌<◌, ℕ, get_or, refl, arith}
use Rattle.logic.specs.Checks.{upto}
use Rattle.logic.specs.CheckLaws.{Yes}
use Rattle.logic.proofs.CheckLaws.{answers_passed}
use Rattle.logic.specs.Model.{byte_checks}
use Rattle.ranges.specs.RangeLaws.{all_ok}
use Rattle.ranges.proofs.in_range.Goals as goal

pub returns-then-is_at_most-2 : goal.returns-then-is_at_most-2
returns-then-is_at_most-2 c =
    let a = c.args in
    let small : (i : ℕ) → get_or a.model.now i 0 < 256 = λ i. omega (arith, c.type_inv.model i) in
    answers_passed (upto (byte_checks a.v a.n a.model.now) (a.v + a.n)) Yes _
    (all_ok a.v a.n a.model.now small a.stack a.heap c.requires
    (c.is_at_most.ensures.to c.if-is_at_most.true)
    (c.is_at_most-then-is_at_most.ensures.to c.if-is_at_most-2.true))
    refl
