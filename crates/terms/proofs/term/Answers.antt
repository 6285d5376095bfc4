-- `terms::term` meets its contract. Assumes nothing.
use mathlib.Core.Path.{◌≡◌, refl, sym, subst, ◌∙◌}
use mathlib.Core.Bool.{true, false}
use Prim.Native.Nat.{ℕ, ◌+◌}
use native.Mathlib.Omega.{arith}
use lib.ListN.{get_or}
use Rattle.std.specs.Prelude.{Ok, Err}
use Rattle.std.proofs.lemmas.Result.{err_from_is_err_and}
use Rattle.grammar.specs.Phrase.{lower}
use Rattle.terms.specs.Terms.{LettersIs}
use Rattle.terms.specs.TermLaws.{no_term, term_wrong, term_ended}
use Rattle.terms.proofs.term.Goals as goal
use Rattle.terms.proofs.term.Goals.{then-s-at-via-then-s-at, then-s-at-via-else-s-at+then-not-is_lower}

pub returns-then-s-at : goal.returns-then-s-at
returns-then-s-at c =
    let a = c.args in
    no_term a.s.now a.last a.at c.requires.0
    (elim c.then-s-at.branch [
      | then-s-at-via-then-s-at w ↦ λ z q. absurd (omega (arith, q.0, w.if-s-at.true))
      | then-s-at-via-else-s-at+then-not-is_lower w ↦ λ z q. (c.requires.1 z q, subst (λ (y : ℕ). lower y ≡ false) q.1 (sym w.is_lower.ensures ∙ w.if-not-is_lower.true))
    ])

pub returns-in_err-end : goal.returns-in_err-end
returns-in_err-end c =
    let a = c.args in
    let e : lower (get_or a.s.now a.at 0) ≡ true = sym c.is_lower.ensures ∙ c.if-not-is_lower.false in
    let p = err_from_is_err_and c.from_residual.result c.from_residual.ensures.1 in
    let x = c.in_err-end.field-0.0 in
    let q : LettersIs a.s.now (get_or a.s.now a.at 0) (a.at + 1) (Err x) = subst (λ (w : ℕ). LettersIs a.s.now w (a.at + 1) (Err x)) c.from.ensures c.in_err-end.ensures in
    rw (p.1, p.2) (term_wrong a.s.now a.at c.if-s-at.false (c.requires.1 (get_or a.s.now a.at 0) (c.if-s-at.false, refl)) e a.last x q)

pub returns : goal.returns
returns c =
    let a = c.args in
    let e : lower (get_or a.s.now a.at 0) ≡ true = sym c.is_lower.ensures ∙ c.if-not-is_lower.false in
    let o = c.in_ok-end in
    let q : LettersIs a.s.now (get_or a.s.now a.at 0) (a.at + 1) (Ok (o.end, o.w)) = subst (λ (w : ℕ). LettersIs a.s.now w (a.at + 1) (Ok (o.end, o.w))) c.from.ensures o.ensures in
    term_ended a.s.now a.at c.if-s-at.false (c.requires.1 (get_or a.s.now a.at 0) (c.if-s-at.false, refl)) e a.last o.w o.end c.ended.result q c.ended.ensures
