-- "Books accepted before give their old answers." Assumes nothing.
use Rattle.std.specs.Prelude.{List, ◌↔◌, ℕ, ◌≤◌}
use Rattle.std.proofs.Common.{arith}
use Rattle.logic.specs.declared.Answer.{Answer}
use Rattle.logic.specs.Checks.{Checks, ◌then◌, Passes, Answers}
use Rattle.logic.specs.CheckLaws.{Yes}
use Rattle.logic.proofs.CheckLaws.{then_passes}
use Rattle.logic.specs.Book.{most, stretch, vars_of, locs_of, formula_of, BoundsWithin, BoundsOk, contents_checks, body_checks_within, table_checks, book_checks_within, book_checks, Reads, AcceptedWithin, Accepted}
use Rattle.logic.specs.Model.{model_checks, FitsBook, Verdict, Judges}
use Rattle.logic.specs.Search.{FitsAt, total_of, Outcome, search_rest}
use Rattle.rows.specs.Output.{encode_rest}
use Rattle.rows.specs.Assigned.{assign_rest, SatisfiesBook, Assigns}
use Rattle.writing.specs.Writing.{export_rest}
use Rattle.raised.specs.Alike.{Alike}
use Rattle.raised.proofs.AlikeLaws.{alike_same, alike_then, alike_back, alike_passes, alike_answers}
use Rattle.raised.proofs.BookAlike.{book_alike}
use Rattle.raised.proofs.OldPrints.{puts_printed_same}
use Rattle.raised.specs.OldAnswers.{OldAnswers, former_most}

module _ (k : ℕ) (l : k ≤ most) (s : List ℕ) (b : BoundsWithin k (stretch s 0)) where
  within_range : BoundsOk (stretch s 0)
  within_range = record { three = b.three; vars = omega (arith, b.vars); locs = omega (arith, b.locs); path = omega (arith, b.path) }

  book : Alike (book_checks_within k s) (book_checks s)
  book = book_alike k most s b within_range

  -- whatever is asked after the book
  same : (c : Checks) (R : Answer → Type 0) (a : Answer) → Answers (book_checks_within k s then c) R a ↔ Answers (book_checks s then c) R a
  same c R a = let i = alike_then book (alike_same c) in (alike_answers i R a, alike_answers (alike_back i) R a)

  pub old_answers : OldAnswers k s
  unfolding Accepted Reads Judges Assigns
  old_answers =
      record {
        accepted = (alike_passes book, alike_passes (alike_back book));
        read = λ a. (alike_answers book Yes a, alike_answers (alike_back book) Yes a);
        judge = λ π m a. same (model_checks (vars_of s) (locs_of s) m) (Verdict (FitsBook π s m)) a;
        search = λ π t o a o'.
            let i = same (search_rest s o) (Outcome (FitsAt π s) (total_of s) t) a in
            (λ q. record { answer = i.0 q.answer; wrote = q.wrote; kept = q.kept }, λ q. record { answer = i.1 q.answer; wrote = q.wrote; kept = q.kept });
        encode = λ π o a o'.
            let i = same (encode_rest π s o) Yes a in
            (λ q. record { number = i.0 q.number; written = q.written; refused = q.refused }, λ q. record { number = i.1 q.number; written = q.written; refused = q.refused });
        assign = λ π q a. same (assign_rest s q) (Verdict (SatisfiesBook π s q)) a;
        export = λ o a o'.
            let i = same (export_rest s o) Yes a in
            (λ q. record { answer = i.0 q.answer; wrote = q.wrote; kept = q.kept }, λ q. record { answer = i.1 q.answer; wrote = q.wrote; kept = q.kept });
        print = λ o r o'. (puts_printed_same s k most b within_range o r o', puts_printed_same s most k within_range b o r o');
      }

bounds_within : (k : ℕ) (s : List ℕ) → AcceptedWithin k s → BoundsWithin k (stretch s 0)
unfolding Passes
bounds_within k s p =
    let body = body_checks_within k (stretch s 0) (formula_of s) in
    let table = table_checks (vars_of s) (formula_of s) in
    (then_passes body table (then_passes (contents_checks s) (body then table) p).1).0.0

-- "Books accepted before give their old answers."
pub books_accepted_before : (s : List ℕ) → AcceptedWithin former_most s → Accepted s × OldAnswers former_most s
books_accepted_before s p = let q = old_answers former_most (omega arith) s (bounds_within former_most s p) in (q.accepted.0 p, q)
