-- `items::Draft::relation` meets its contract. Assumes nothing.
use mathlib.Core.Path.{refl}
use Rattle.std.proofs.lemmas.Result.{err_from_is_err_and}
use Rattle.leaves.proofs.Refusals.{never_zero}
use Rattle.words.specs.Words.{atom_of}
use Rattle.items.specs.ListLaws.{term_refused, other_refused, relation_read}
use Rattle.items.proofs.Draft.relation.Goals as goal

pub returns-in_err-first : goal.returns-in_err-first
returns-in_err-first c =
    let p = err_from_is_err_and c.from_residual.result c.from_residual.ensures.1 in
    λ depth. rw (p.1, p.2) (term_refused _ depth _ _ (atom_of c.args.word) _ _ c.in_err-first.ensures (never_zero c.in_err-first.field-0.0) refl refl)

pub returns-in_err-second : goal.returns-in_err-second
returns-in_err-second c =
    let p = err_from_is_err_and c.from_residual-in_err-second.result c.from_residual-in_err-second.ensures.1 in
    λ depth. rw (p.1, p.2)
    (other_refused _ depth _ _ (atom_of c.args.word) _ _ (c.in_ok-first.ensures.took refl) _ _ c.in_err-second.ensures (never_zero c.in_err-second.field-0.0) refl refl)

pub returns : goal.returns
returns c = λ depth. relation_read _ depth _ _ (atom_of c.args.word) _ _ (c.in_ok-first.ensures.took refl) _ _ (c.in_ok-second.ensures.took refl) c.related.ensures _ c.closed.ensures
