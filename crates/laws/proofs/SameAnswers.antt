-- Where each of two facts follows from the other, what is answered by the one is answered by the other. Assumes nothing.
use Rattle.std.proofs.Common.{inl, inr, ⊎_elim}
use Rattle.std.specs.Prelude.{◌↔◌, ℕ}
use Rattle.logic.specs.declared.Answer.{Answer}
use Rattle.logic.specs.Checks.{Checks, done, check, Passes, Answers}
use Rattle.logic.specs.Model.{Verdict}
use Rattle.logic.specs.Search.{Outcome, found, none, spent}

pub verdict_same : {P Q : Type 0} (a : Answer) → P ↔ Q → Verdict P a → Verdict Q a
verdict_same a i v = ⊎_elim (λ u. inl (i.0 u.0, u.1)) (λ u. inr (λ q. u.0 (i.1 q), u.1)) v

pub answers_more : (c : Checks) (R S : Answer → Type 0) (a : Answer) → (Passes c → R a → S a) → Answers c R a → Answers c S a
unfolding Answers Passes
answers_more done R S a f q = f tt q
answers_more (check P m k c) R S a f q = ⊎_elim inl (λ u. inr (u.0, answers_more c R S a (λ p r. f (u.0, p) r) u.1)) q

pub outcome_same : (P Q : ℕ → Type 0) (t b : ℕ) (a : Answer) → ((c : ℕ) → P c ↔ Q c) → Outcome P t b a → Outcome Q t b a
outcome_same P Q t b a i (found k q e) = found k (record { candidate = q.0.candidate; fits = (i k).0 q.0.fits; lower = λ j l y. q.0.lower j l ((i j).1 y) }, q.1) e
outcome_same P Q t b a i (none q e) = none (λ j l y. q.0 j l ((i j).1 y), q.1) e
outcome_same P Q t b a i (spent q r e) =
    spent (λ k u. q k (record { candidate = u.0.candidate; fits = (i k).1 u.0.fits; lower = λ j l y. u.0.lower j l ((i j).0 y) }, u.1))
    (λ u. r (λ j l y. u.0 j l ((i j).0 y), u.1)) e
