-- `encoder::encoded` meets its contract. Assumes nothing.
use Rattle.std.proofs.Common.{refl, arith}
use Rattle.std.proofs.lemmas.Result.{err_from_is_err_and}
use Rattle.logic.proofs.OpenLaws.{vars_low, locs_low, path_low, known}
use Rattle.leaves.proofs.Refusals.{never_zero}
use Rattle.encoder.specs.EncodeLaws.{read_refused, not_encodable, too_short, writable, encoded}
use Rattle.encoder.proofs.encoded.Goals as goal

pub returns-in_err-problem : goal.returns-in_err-problem
returns-in_err-problem c =
    let a = c.args in
    let p = err_from_is_err_and c.from_residual.result c.from_residual.ensures.1 in
    rw (p.1, p.2) (read_refused a.profile a.book.now a.out.now _ c.in_err-problem.ensures.read (never_zero c.in_err-problem.field-0.0))

pub overflow_sub-formula : goal.overflow_sub-formula
overflow_sub-formula c = omega (arith, (known c.args.book.now _ _ _ _ c.in_ok-problem.ensures.bodies).some)

pub encodable-requires : goal.encodable-requires
encodable-requires c =
    let k = known c.args.book.now _ _ _ _ c.in_ok-problem.ensures.bodies in
    (omega (arith, k.some), (c.in_ok-problem.problem.v, k))

pub returns-then-not-encodable : goal.returns-then-not-encodable
returns-then-not-encodable c =
    let a = c.args in
    not_encodable a.profile a.book.now a.out.now _ _ _ _ c.in_ok-problem.ensures.bodies _ _ c.encodable.ensures c.if-not-encodable.true refl

pub overflow_cast-n : goal.overflow_cast-n
overflow_cast-n c = omega (arith, locs_low c.args.book.now _ _ _ _ c.in_ok-problem.ensures.bodies)

pub invariant_of-source : goal.invariant_of-source
invariant_of-source c = record { few = omega (arith, locs_low c.args.book.now _ _ _ _ c.in_ok-problem.ensures.bodies) }

pub row_count-rows-requires : goal.row_count-rows-requires
row_count-rows-requires c = (c.in_ok-problem.problem.v, known c.args.book.now _ _ _ _ c.in_ok-problem.ensures.bodies)

pub returns-then-out-from : goal.returns-then-out-from
returns-then-out-from c =
    let a = c.args in
    too_short a.profile a.book.now a.out.now _ _ _ _ c.in_ok-problem.ensures.bodies _ c.encodable.ensures c.if-not-encodable.false _ c.row_count-rows.ensures _ (omega (arith, c.if-out-from.true, c.from.ensures)) refl

pub overflow_cast-problem : goal.overflow_cast-problem
overflow_cast-problem c = omega (arith, vars_low c.args.book.now _ _ _ _ c.in_ok-problem.ensures.bodies)

pub overflow_cast-problem-2 : goal.overflow_cast-problem-2
overflow_cast-problem-2 c = omega (arith, path_low c.args.book.now _ _ _ _ c.in_ok-problem.ensures.bodies)

pub write-requires : goal.write-requires
write-requires c =
    let a = c.args in
    writable a.profile a.book.now a.out.now _ _ _ _ c.in_ok-problem.ensures.bodies _ c.encodable.ensures c.if-not-encodable.false _ c.row_count-rows.ensures (omega (arith, c.if-out-from.false, c.from.ensures))

pub returns : goal.returns
returns c =
    let a = c.args in
    encoded a.profile a.book.now a.out.now _ _ _ _ c.in_ok-problem.ensures.bodies _ c.encodable.ensures c.if-not-encodable.false _ c.row_count-rows.ensures _ _ (omega (arith, c.if-out-from.false, c.from.ensures)) c.write.ensures refl
