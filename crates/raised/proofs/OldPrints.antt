-- What is printed for a book is the same in two benches, where its bounds are within both: the room for its model differs, and
-- nothing behind the model is printed. Assumes nothing.
use Rattle.std.specs.Prelude.{◌≡◌, refl, List, ◌++◌, ℕ, ◌+◌, ◌-◌, ◌*◌, ◌≤◌, eqb, length, take, drop}
use Rattle.std.proofs.Common.{sym, ap, ap₂, ◌∙◌, append_assoc, arith, take_at, drop_at}
use Rattle.std.proofs.Math.Decide.{ℕ_discrete}
use Rattle.std.proofs.lemmas.List.{length-replicate}
use Rattle.logic.specs.declared.Profile.TheVariants.{Strong}
use Rattle.logic.specs.declared.Answer.{Answer}
use Rattle.logic.specs.Numbers.{yes_number, output_length}
use Rattle.logic.specs.Checks.{upto, Answers}
use Rattle.logic.specs.Tests.{heap_of}
use Rattle.logic.specs.Book.{stretch, vars_of, locs_of, formula_of, BoundsWithin}
use Rattle.logic.specs.Strays.{name_checks}
use Rattle.logic.specs.Candidates.{stack_of, bytes_to, byte_of, model_of}
use Rattle.logic.proofs.CandidateLaws.{bytes_long}
use Rattle.logic.specs.Search.{FitsAt, total_of, Outcome, search_checks_within}
use Rattle.lines.specs.Printed.{printed, printed_model, first_line, line, stack_word, heap_word, printed_value}
use Rattle.lines.specs.PrintedLaws.{printed_no}
use Rattle.put.specs.Decimal.{choose, decimal}
use Rattle.print.specs.Prints.{budget, blank_within, PrintsWithin, PutsPrintedWithin}
use Rattle.raised.specs.Alike.{Alike, no_part, part}
use Rattle.raised.proofs.AlikeLaws.{alike_same, alike_then, alike_answers}
use Rattle.raised.proofs.BookAlike.{book_alike}

-- nothing behind a model is printed
printed_front : (a : Answer) (v n : ℕ) (x y : List ℕ) → length x ≡ v → length y ≡ n → (r t : List ℕ) → printed a v n ((x ++ y) ++ r) ≡ printed a v n ((x ++ y) ++ t)
unfolding printed printed_model
printed_front a v n x y p q r t =
    ap₂ (λ (c d : List ℕ). choose (eqb a.number yes_number) (first_line a ++ (line stack_word decimal c ++ line heap_word printed_value d)) (first_line a))
    (front r ∙ sym (front t)) (behind r ∙ sym (behind t))
  where
    front : (r : List ℕ) → take v ((x ++ y) ++ r) ≡ x
    front r = ap (take v) (append_assoc x y r) ∙ take_at x (y ++ r) v p

    behind : (r : List ℕ) → take n (drop v ((x ++ y) ++ r)) ≡ y
    behind r = ap (λ (z : List ℕ). take n (drop v z)) (append_assoc x y r) ∙ ap (take n) (drop_at x (y ++ r) v p) ∙ take_at y r n q

module _ (s : List ℕ) where
  room : (k : ℕ) → BoundsWithin k (stretch s 0) → vars_of s + locs_of s ≤ length (blank_within k)
  room k b = omega (arith, b.vars, b.locs, length-replicate {A = ℕ} (2 * k) 0)

  module _ (k j : ℕ) (b : BoundsWithin k (stretch s 0)) (c : BoundsWithin j (stretch s 0)) where
    search_alike : Alike (search_checks_within k s (blank_within k)) (search_checks_within j s (blank_within j))
    search_alike =
        alike_then (book_alike k j s b c)
        (alike_then (alike_same (upto (name_checks (formula_of s)) (vars_of s))) (part output_length 0 (λ _. room j c, λ _. room k b) no_part))

    prints_same : (lines : List ℕ) → PrintsWithin k s lines → PrintsWithin j s lines
    prints_same lines p = go (ℕ_discrete a.number yes_number)
      where
        a : Answer
        a = p.answer

        answered : Answers (search_checks_within j s (blank_within j)) (Outcome (FitsAt Strong s) (total_of s) budget) a
        answered = alike_answers search_alike (Outcome (FitsAt Strong s) (total_of s) budget) a p.search.answer

        go : Dec (a.number ≡ yes_number) → PrintsWithin j s lines
        go (yes e) =
            let v = vars_of s in
            let n = locs_of s in
            let i = a.tried - 1 in
            record {
              answer = a;
              model = model_of v n i ++ drop (v + n) (blank_within j);
              search = record { answer = answered; wrote = λ _. refl; kept = λ f. absurd (f e) };
              shows = p.shows ∙ ap (printed a v n) (p.search.wrote e)
                  ∙ printed_front a v n (bytes_to v (stack_of v n i)) (bytes_to n (λ ℓ. byte_of (heap_of n i ℓ))) (bytes_long v (stack_of v n i)) (bytes_long n (λ ℓ. byte_of (heap_of n i ℓ))) (drop (v + n) (blank_within k)) (drop (v + n) (blank_within j));
            }
        go (no f) =
            record {
              answer = a;
              model = blank_within j;
              search = record { answer = answered; wrote = λ e. absurd (f e); kept = λ _. refl };
              shows = p.shows ∙ sym (printed_no a (vars_of s) (locs_of s) p.model f) ∙ printed_no a (vars_of s) (locs_of s) (blank_within j) f;
            }

    pub puts_printed_same : (o : List ℕ) (r : ℕ) (o' : List ℕ) → PutsPrintedWithin k s o r o' → PutsPrintedWithin j s o r o'
    puts_printed_same o r o' p = record { lines = p.lines; prints = prints_same p.lines p.prints; size = p.size; output = p.output }
