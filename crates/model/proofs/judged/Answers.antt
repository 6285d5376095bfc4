-- `model::judged` meets its contract. Assumes nothing.
use Rattle.std.proofs.Common.{◌<◌, ℕ, get_or, refl, arith}
use Rattle.std.proofs.lemmas.Result.{err_from_is_err_and}
use Rattle.logic.proofs.OpenLaws.{vars_low, locs_low}
use Rattle.leaves.proofs.Refusals.{never_zero}
use Rattle.model.specs.Judging.{model_passes, judges_book, judges_range, judged, judges_verdict, told_verdict}
use Rattle.model.proofs.judged.Goals as goal

pub returns-in_err-problem : goal.returns-in_err-problem
returns-in_err-problem c =
    let a = c.args in
    let p = err_from_is_err_and c.from_residual.result c.from_residual.ensures.1 in
    rw (p.1, p.2) (judges_book a.profile a.book.now a.model.now _ c.in_err-problem.ensures.read (never_zero c.in_err-problem.field-0.0))

pub pack-requires : goal.pack-requires
pack-requires c = let q = c.in_ok-problem.ensures.bodies in (vars_low _ _ _ _ _ q, locs_low _ _ _ _ _ q)

pub returns-in_err-packed : goal.returns-in_err-packed
returns-in_err-packed c =
    let a = c.args in
    let p = err_from_is_err_and c.from_residual-in_err-packed.result c.from_residual-in_err-packed.ensures.1 in
    rw (p.1, p.2) (judges_range a.profile a.book.now _ a.model.now _ _ _ c.in_ok-problem.ensures.bodies _ c.in_err-packed.ensures.answer (never_zero c.in_err-packed.field-0.0))

pub fits-requires : goal.fits-requires
fits-requires c =
    let a = c.args in
    let m = c.in_ok-packed.ensures in
    let small : (i : ℕ) → get_or a.model.now i 0 < 256 = λ i. omega (arith, c.type_inv.model i) in
    judged a.profile a.book.now _ a.model.now _ _ _ c.in_ok-problem.ensures.bodies small (model_passes _ _ a.model.now _ m.answer refl) _ _ m.stack m.heap

pub returns : goal.returns
returns c =
    let a = c.args in
    let m = c.in_ok-packed.ensures in
    let small : (i : ℕ) → get_or a.model.now i 0 < 256 = λ i. omega (arith, c.type_inv.model i) in
    judges_verdict a.profile a.book.now _ a.model.now _ _ _ c.in_ok-problem.ensures.bodies small (model_passes _ _ a.model.now _ m.answer refl) _ _ m.stack m.heap _
    (told_verdict c.fits.result c.fits.ensures)
