-- The export's statement allows one result, and each for an accepted book. Assumes nothing.
use Rattle.std.specs.Prelude.{◌≡◌, refl, List, ◌++◌, ℕ, ◌<◌, ◌≤◌, length, drop}
use Rattle.std.proofs.Common.{sym, ap, ◌∙◌, inl, inr, arith}
use Rattle.std.proofs.Math.Decide.{ℕ_discrete}
use Rattle.logic.specs.declared.Answer.{Answer}
use Rattle.logic.specs.Numbers.{answer, yes_number, output_length}
use Rattle.logic.specs.Checks.{Answers}
use Rattle.logic.specs.CheckLaws.{Yes, Refuses}
use Rattle.logic.proofs.CheckLaws.{answers_after, answers_single, yes_single}
use Rattle.logic.specs.Book.{book_checks, Accepted}
use Rattle.logic.proofs.BookLaws.{book_zero}
use Rattle.writing.specs.Writing.{text_of, export_rest, export_checks, Exports}

-- two results that the export's statement allows are equal
pub exports_single : (s o : List ℕ) (a b : Answer) (x y : List ℕ) → Exports s o a x → Exports s o b y → (a ≡ b) × (x ≡ y)
exports_single s o a b x y p q = (same, outputs (ℕ_discrete a.number yes_number))
  where
    same : a ≡ b
    same = answers_single (export_checks s o) Yes yes_single a b p.answer q.answer

    outputs : Dec (a.number ≡ yes_number) → x ≡ y
    outputs (yes e) = p.wrote e ∙ sym (q.wrote (ap (λ (r : Answer). r.number) (sym same) ∙ e))
    outputs (no e) = p.kept e ∙ sym (q.kept (λ z. e (ap (λ (r : Answer). r.number) same ∙ z)))

-- each result that the statement allows for an accepted book
module _ (s o : List ℕ) (accepted : Accepted s) where
  pub exports_written : length (text_of s) ≤ length o → Exports s o (answer yes_number 0) (text_of s ++ drop (length (text_of s)) o)
  unfolding Accepted Answers
  exports_written l =
      record { answer = answers_after (book_checks s) (export_rest s o) Yes (answer yes_number 0) accepted (inr (l, refl)); wrote = λ _. refl; kept = λ z. absurd (z refl) }

  pub exports_short : length o < length (text_of s) → Exports s o (answer output_length 0) o
  unfolding Accepted Answers
  exports_short l =
      record {
        answer = answers_after (book_checks s) (export_rest s o) Yes (answer output_length 0) accepted (inl (λ h. omega (arith, h), refl));
        wrote = λ z. absurd (omega (arith, z));
        kept = λ _. refl;
      }

-- an export with number 0 is of an accepted book
pub exported_accepted : (s o : List ℕ) (a : Answer) (o' : List ℕ) → Exports s o a o' → a.number ≡ yes_number → Accepted s
unfolding Accepted Refuses
exported_accepted s o a o' x z = (book_zero s (export_rest s o) Yes a refuses x.answer z).0
  where
    refuses : Refuses (export_rest s o)
    refuses = (omega arith, tt)
