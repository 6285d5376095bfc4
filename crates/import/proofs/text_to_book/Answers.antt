-- `import::text_to_book` meets its contract. Assumes nothing.
use mathlib.Core.Path.{refl}
use native.Mathlib.Omega.{arith}
use Rattle.std.proofs.lemmas.Result.{err_from_is_err_and}
use Rattle.import.specs.WholeLaws.{import_bounds, import_refused, import_short, import_written}
use Rattle.import.proofs.text_to_book.Goals as goal
use Rattle.import.proofs.text_to_book.Goals.{then-n-via-then-n, then-n-via-else-n+then-p}

pub returns-then-n : goal.returns-then-n
returns-then-n c =
    let a = c.args in
    import_bounds a.text.now a.n a.p a.out.now _
    (λ h. elim c.then-n.branch [ then-n-via-then-n w ↦ omega (arith, h.0, w.if-n.true) | then-n-via-else-n+then-p w ↦ omega (arith, h.1, w.if-p.true) ]) refl

pub returns-in_err-draft : goal.returns-in_err-draft
returns-in_err-draft c =
    let a = c.args in
    let p = err_from_is_err_and c.from_residual.result c.from_residual.ensures.1 in
    rw (p.1, p.2) (import_refused a.text.now a.n a.p a.out.now _ c.if-n.false c.if-p.false c.in_err-draft.field-0.0 c.in_err-draft.ensures refl)

pub returns-then-out-draft : goal.returns-then-out-draft
returns-then-out-draft c =
    let a = c.args in
    import_short a.text.now a.n a.p c.in_ok-draft.draft c.in_ok-draft.ensures c.if-n.false c.if-p.false a.out.now _ refl c.if-out-draft.true

pub returns : goal.returns
returns c =
    let a = c.args in
    import_written a.text.now a.n a.p c.in_ok-draft.draft c.in_ok-draft.ensures c.if-n.false c.if-p.false a.out.now _ _ refl c.if-out-draft.false c.put_book.ensures
