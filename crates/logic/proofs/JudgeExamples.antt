-- An example of the judge: what it says of a model, and the test that is worked out for it. Assumes nothing.
use Rattle.std.specs.Prelude.{◌≡◌, refl, Bool, true, false}
use Rattle.std.proofs.Common.{◌∙◌, ap, ⊎_elim}
use Rattle.logic.specs.declared.Answer.{Answer}
use Rattle.logic.specs.Numbers.{yes_number, no_number}
use Rattle.logic.proofs.CheckLaws.{passes_then, answers_rest}
use Rattle.logic.specs.Tests.{pick}
use Rattle.logic.specs.Book.{book_checks, vars_of, locs_of, Accepted}
use Rattle.logic.specs.Model.{model_checks, judge_checks, FitsBook, Verdict, Judges}
use Rattle.logic.specs.Computed.{fits_book}
use Rattle.logic.specs.Reflect.{Is}
use Rattle.logic.proofs.Reflect.{is_and, is_eq, fails}
use Rattle.logic.proofs.ComputedLaws.{is_accepted, is_model}
use Rattle.logic.proofs.ModelLaws.{is_fits}
use Rattle.logic.specs.JudgeExamples.{Judged, JudgedRight, judged_test}

pub judged_right : (w : Judged) → judged_test w ≡ true → JudgedRight w
unfolding judged_test Judges Accepted
judged_right w e a q =
    let t = (is_and _ _
    (is_and _ _ (is_accepted w.book) (is_model (vars_of w.book) (locs_of w.book) w.model))
    (is_eq (pick (fits_book w.profile w.book w.model) yes_number no_number) w.number)).to e in
    let v = answers_rest (judge_checks w.book w.model) (Verdict (FitsBook w.profile w.book w.model)) a
    (passes_then (book_checks w.book) (model_checks (vars_of w.book) (locs_of w.book) w.model) t.0.0 t.0.1) q in
    number_is (fits_book w.profile w.book w.model) (is_fits w.profile w.book w.model t.0.1) t.1 v
  where
    number_is : (b : Bool) → Is b (FitsBook w.profile w.book w.model) → pick b yes_number no_number ≡ w.number → Verdict (FitsBook w.profile w.book w.model) a → a.number ≡ w.number
    number_is true i z v = ⊎_elim (λ x. ap (λ (r : Answer). r.number) x.1 ∙ z) (λ x. absurd (x.0 (i.to refl))) v
    number_is false i z v = ⊎_elim (λ x. absurd (fails false i refl x.0)) (λ x. ap (λ (r : Answer). r.number) x.1 ∙ z) v
