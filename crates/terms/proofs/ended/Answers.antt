-- `terms::ended` meets its contract. Assumes nothing.
use mathlib.Core.Path.{sym, subst, ◌∙◌}
use Rattle.std.proofs.lemmas.Result.{err_from_is_err_and}
use Rattle.terms.specs.Terms.{EndsIs}
use Rattle.terms.specs.TermLaws.{dot_wrong, dot_nil, dot_missed, word_wrong, open_wrong, name_ended}
use Rattle.terms.proofs.ended.Goals as goal
use Rattle.terms.proofs.ended.Goals.{then-is_word-via-then-is_word, then-is_word-via-else-is_word+then-not-ends}

pub returns-then-w-ne-SEP : goal.returns-then-w-ne-SEP
returns-then-w-ne-SEP c = let a = c.args in dot_wrong a.s.now a.last a.w a.at c.requires.0 c.requires.2 c.if-s-at-eq46.true c.if-w-ne-SEP.true

pub returns-in_err-end : goal.returns-in_err-end
returns-in_err-end c =
    let a = c.args in
    let p = err_from_is_err_and c.from_residual.result c.from_residual.ensures.1 in
    rw (p.1, p.2) (dot_missed a.s.now a.last a.w a.at c.requires.0 c.requires.2 c.if-s-at-eq46.true c.if-w-ne-SEP.false c.in_err-end.field-0.0 c.in_err-end.ensures)

pub returns-then-s-at-eq46 : goal.returns-then-s-at-eq46
returns-then-s-at-eq46 c = let a = c.args in dot_nil a.s.now a.last a.w a.at c.requires.0 c.requires.2 c.if-s-at-eq46.true c.if-w-ne-SEP.false c.in_ok-end.end c.in_ok-end.ensures

pub returns-then-is_word : goal.returns-then-is_word
returns-then-is_word c =
    let a = c.args in
    elim c.then-is_word.branch [
      | then-is_word-via-then-is_word w ↦ word_wrong a.s.now a.last a.w a.at c.requires.0 c.requires.2 c.if-s-at-eq46.false (sym c.is_word.ensures ∙ w.if-is_word.true)
      | then-is_word-via-else-is_word+then-not-ends w ↦
          open_wrong a.s.now a.last a.w a.at c.requires.0 c.requires.2 c.if-s-at-eq46.false (sym c.is_word.ensures ∙ w.if-is_word.false) (subst (EndsIs a.s.now a.last a.at) w.if-not-ends.true w.ends.ensures)
    ]

pub returns : goal.returns
returns c = let a = c.args in name_ended a.s.now a.last a.w a.at c.requires.0 c.requires.2 c.requires.1 (sym c.is_word.ensures ∙ c.if-is_word.false) (subst (EndsIs a.s.now a.last a.at) c.if-not-ends.false c.ends.ensures)
