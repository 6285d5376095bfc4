-- `tree::one_parent` meets its contract. Assumes nothing.
use Rattle.std.specs.Prelude.{◌≡◌, ℕ}
use Rattle.std.proofs.Common.{refl, inl, subst, add-one, arith}
use Rattle.std.proofs.Math.Path.{subst⁻¹}
use Rattle.logic.specs.Checks.{upto, Passes, Answers}
use Rattle.logic.specs.CheckLaws.{Yes}
use Rattle.logic.proofs.CheckLaws.{passes_none, passes_more, upto_refused, answers_passed}
use Rattle.logic.specs.Table.{uses}
use Rattle.logic.specs.Book.{nodes, root, use_checks}
use Rattle.leaves.proofs.Refusals.{never_zero}
use Rattle.leaves.specs.declared.Refusal.TheVariants.{TreeShape}
use Rattle.tree.proofs.one_parent.Goals as goal

pub returns-then-last-eq0 : goal.returns-then-last-eq0
returns-then-last-eq0 c =
    let a = c.args in
    answers_passed (upto (use_checks a.f.now) (root a.f.now)) Yes _
    (subst⁻¹ (λ (k : ℕ). Passes (upto (use_checks a.f.now) k)) c.if-last-eq0.true (passes_none (use_checks a.f.now))) refl

pub count-t-requires : goal.count-t-requires
count-t-requires c = (c.requires.1, c.requires.2)

pub loop-k-init : goal.loop-k-init
loop-k-init c = passes_none (use_checks c.args.f.now)

pub bounds-t-k : goal.bounds-t-k
bounds-t-k c = omega (arith, c.requires.1, c.loop-k-test.true)

pub returns-then-t-k-ne1 : goal.returns-then-t-k-ne1
unfolding Answers
returns-then-t-k-ne1 c =
    let a = c.args in
    let l = c.loop-k in
    upto_refused (use_checks a.f.now) (root a.f.now) l.k _ c.loop-k-test.true l.invariant
    (inl (λ h. omega (arith, c.if-t-k-ne1.true, c.count-t.ensures l.k, h), refl)) (never_zero (TreeShape l.k))

pub loop-k-preserved : goal.loop-k-preserved
unfolding Passes
loop-k-preserved c =
    let a = c.args in
    let l = c.loop-k in
    let used : uses a.f.now (nodes a.f.now) l.k ≡ 1 = omega (arith, c.count-t.ensures l.k, c.if-t-k-ne1.false) in
    rw (add-one l.k) (passes_more (use_checks a.f.now) l.k l.invariant (used, tt))

pub returns : goal.returns
returns c =
    let a = c.args in
    let l = c.loop-k in
    let end : l.k ≡ root a.f.now = omega arith in
    answers_passed (upto (use_checks a.f.now) (root a.f.now)) Yes _ (subst (λ (k : ℕ). Passes (upto (use_checks a.f.now) k)) end l.invariant) refl
