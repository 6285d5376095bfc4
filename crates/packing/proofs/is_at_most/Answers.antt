-- `packing::is_at_most` meets its contract. Assumes nothing.
use borrow.Author.Tests.{ne_eqb}
use native.Mathlib.Omega.{arith}
use Rattle.logic.proofs.Reflect.{false_true}
use Rattle.packing.specs.Limits.{low_bytes, none_high, sum_fits, is_at_most}
use Rattle.packing.proofs.is_at_most.Goals as goal

pub returns-else-w-eq0 : goal.returns-else-w-eq0
returns-else-w-eq0 c =
    let a = c.args in
    rw (ne_eqb _ _ c.if-w-eq0.false)
    (record { to = λ e. false_true e; from = λ q. absurd (c.if-w-eq0.false (none_high a.w (omega arith) a.k c.requires q)) })

pub overflow_add-result : goal.overflow_add-result
overflow_add-result c =
    let a = c.args in
    omega (arith, sum_fits a.w (omega arith) a.k c.requires (low_bytes a.w (omega arith) c.if-w-eq0.true))

pub returns-then-w-eq0 : goal.returns-then-w-eq0
returns-then-w-eq0 c =
    let a = c.args in
    is_at_most a.w (omega arith) a.k c.requires (low_bytes a.w (omega arith) c.if-w-eq0.true)
