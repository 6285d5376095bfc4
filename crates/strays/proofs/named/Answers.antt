-- `strays::named` meets its contract. Assumes nothing.
use Rattle.std.specs.Prelude.{◌≡◌, refl, List, ℕ, zero, suc, ◌+◌, ◌-◌, ◌≤◌}
use Rattle.std.proofs.Common.{subst, inl, arith}
use Rattle.logic.specs.Numbers.{answer, yes_number, stray_variable}
use Rattle.logic.specs.Checks.{upto, Passes, Answers}
use Rattle.logic.specs.CheckLaws.{Yes}
use Rattle.logic.proofs.CheckLaws.{passes_none, passes_more, upto_refused, answers_passed}
use Rattle.logic.proofs.Reflect.{fails}
use Rattle.logic.specs.Strays.{NamedByAtom, name_checks}
use Rattle.strays.proofs.named.Goals as goal

passes_to : (f : List ℕ) (i k : ℕ) → i ≡ k → Passes (upto (name_checks f) i) → Passes (upto (name_checks f) k)
passes_to f i k e p = subst (λ (j : ℕ). Passes (upto (name_checks f) j)) e p

-- one variable more is named
one_more : (f : List ℕ) (x : ℕ) → 1 ≤ x → Passes (upto (name_checks f) (x - 1)) → NamedByAtom f x → Passes (upto (name_checks f) x)
unfolding Passes
one_more f zero l p h = absurd (omega arith)
one_more f (suc i) l p h = passes_more (name_checks f) i (passes_to f (suc i - 1) i (omega arith) p) (h, tt)

-- the next one is not
stray : (f : List ℕ) (v x : ℕ) → 1 ≤ x → x ≤ v → Passes (upto (name_checks f) (x - 1)) → ¬ NamedByAtom f x → Answers (upto (name_checks f) v) Yes (answer stray_variable x)
unfolding Answers
stray f v zero l m p n = absurd (omega arith)
stray f v (suc i) l m p n =
    upto_refused (name_checks f) v i (answer stray_variable (suc i)) m (passes_to f (suc i - 1) i (omega arith) p) (inl (n, refl)) (λ e. omega (arith, e))

pub loop-x-init : goal.loop-x-init
loop-x-init c = passes_none (name_checks c.args.f.now)

pub returns-then-not-is_marked : goal.returns-then-not-is_marked
returns-then-not-is_marked c =
    let l = c.loop-x in
    let unmarked = fails _ c.is_marked.ensures c.if-not-is_marked.true in
    stray c.args.f.now c.args.v l.x l.auto.x (omega arith) l.invariant (λ h. unmarked ((c.marks-m.ensures l.x).from h))

pub loop-x-preserved : goal.loop-x-preserved
loop-x-preserved c =
    let l = c.loop-x in
    passes_to c.args.f.now l.x (l.x + 1 - 1) (omega arith)
    (one_more c.args.f.now l.x l.auto.x l.invariant ((c.marks-m.ensures l.x).to (c.is_marked.ensures.to c.if-not-is_marked.false)))

pub returns : goal.returns
returns c =
    let a = c.args in
    answers_passed (upto (name_checks a.f.now) a.v) Yes (answer yes_number 0) (passes_to a.f.now 0 a.v (grind (arith, c.loop-x.auto.x-end)) (passes_none (name_checks a.f.now))) refl

pub returns-else-not-is_marked : goal.returns-else-not-is_marked
returns-else-not-is_marked c =
    let a = c.args in
    let l = c.loop-x in
    let all = one_more a.f.now l.x l.auto.x l.invariant ((c.marks-m.ensures l.x).to (c.is_marked.ensures.to c.if-not-is_marked.false)) in
    answers_passed (upto (name_checks a.f.now) a.v) Yes (answer yes_number 0) (passes_to a.f.now l.x a.v (omega arith) all) refl
