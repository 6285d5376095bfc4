-- `contents::is_given` meets its contract. Assumes nothing.
use Rattle.std.specs.Prelude.{Result, Ok, Err, is_ok, List, ℕ}
use Rattle.std.proofs.Common.{refl, arith, leb-true}
use Rattle.logic.specs.Checks.{Answers}
use Rattle.logic.specs.CheckLaws.{Yes}
use Rattle.logic.specs.Reflect.{Is}
use Rattle.logic.proofs.Reflect.{false_true, is_iff}
use Rattle.logic.specs.Book.{contents_checks, LaidOut}
use Rattle.logic.proofs.BookLaws.{reads_laid_out, not_laid_out}
use Rattle.leaves.specs.declared.Refusal.{Refusal}
use Rattle.leaves.specs.Refusals.{outcome}
use Rattle.leaves.proofs.Refusals.{never_zero}
use Rattle.contents.proofs.is_given.Goals as goal

laid : {A : Type 0} (s : List ℕ) (r : Result A Refusal) → Answers (contents_checks s) Yes (outcome r) → Is (is_ok r) (LaidOut s)
laid s (Ok x) q = record { to = λ t. reads_laid_out s _ q refl; from = λ g. refl }
laid s (Err e) q = record { to = λ t. false_true t; from = λ g. absurd (not_laid_out s _ q (never_zero e) g) }

pub returns-then-entry-le1 : goal.returns-then-entry-le1
returns-then-entry-le1 c =
    rw c.is_ok.ensures.value (is_iff (laid c.args.book.now c.check.result c.check.ensures) (λ g. (g, c.if-entry-le1.true)) (λ g. g.0))

pub returns-else-entry-le1 : goal.returns-else-entry-le1
returns-else-entry-le1 c = record { to = λ t. absurd (omega (arith, leb-true _ _ t, c.if-entry-le1.false)); from = λ g. absurd (omega (arith, g.1, c.if-entry-le1.false)) }
