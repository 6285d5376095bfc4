-- `nodes::nodes` meets its contract. Assumes nothing.
use Rattle.std.specs.Prelude.{◌≡◌, ℕ}
use Rattle.std.proofs.Common.{refl, subst, add-one, arith}
use Rattle.std.proofs.lemmas.Result.{err_from_is_err_and}
use Rattle.logic.specs.Checks.{upto, Passes}
use Rattle.logic.specs.CheckLaws.{Yes}
use Rattle.logic.proofs.CheckLaws.{passes_none, passes_more, passes_of_yes, upto_refused, answers_passed}
use Rattle.logic.specs.Book.{node_checks, nodes}
use Rattle.logic.proofs.BookLaws.{node_refuses}
use Rattle.leaves.proofs.Refusals.{never_zero}
use Rattle.nodes.proofs.nodes.Goals as goal

pub loop-k-init : goal.loop-k-init
loop-k-init c = passes_none (node_checks c.args.v c.args.f.now)

pub returns-in_err-node : goal.returns-in_err-node
returns-in_err-node c =
    let a = c.args in
    let l = c.loop-k in
    let p = err_from_is_err_and c.from_residual.result c.from_residual.ensures.1 in
    rw (p.1, p.2) (upto_refused (node_checks a.v a.f.now) _ l.k _ c.loop-k-test.true l.invariant c.in_err-node.ensures (never_zero c.in_err-node.field-0.0))

pub loop-k-preserved : goal.loop-k-preserved
loop-k-preserved c =
    let a = c.args in
    let l = c.loop-k in
    rw (add-one l.k) (passes_more (node_checks a.v a.f.now) l.k l.invariant (passes_of_yes (node_checks a.v a.f.now l.k) _ (node_refuses a.v a.f.now l.k) c.in_ok-node.ensures refl))

pub returns : goal.returns
returns c =
    let a = c.args in
    let l = c.loop-k in
    let end : l.k ≡ nodes a.f.now = omega arith in
    answers_passed (upto (node_checks a.v a.f.now) (nodes a.f.now)) Yes _ (subst (λ (k : ℕ). Passes (upto (node_checks a.v a.f.now) k)) end l.invariant) refl
