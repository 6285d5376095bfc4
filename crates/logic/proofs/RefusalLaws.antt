-- No refusal has a number below 10: an answer with number 0, 1 or 2 says what the search found. Assumes nothing.
use Rattle.std.specs.Prelude.{◌≡◌, List}
use Rattle.std.proofs.Math.Path.{ap}
use Rattle.std.proofs.Math.Logic.{⊎_elim}
use Prim.Native.Nat.{ℕ, zero, suc, ◌<◌}
use Rattle.std.proofs.Common.{arith}
use Rattle.logic.specs.declared.Profile.{Profile}
use Rattle.logic.specs.declared.Answer.{Answer}
use Rattle.logic.specs.Numbers.{book_length}
use Rattle.logic.specs.Checks.{Checks, done, check, ◌then◌, upto, Passes, Answers}
use Rattle.logic.proofs.CheckLaws.{then_passes}
use Rattle.logic.specs.Book.{stretch, vars_of, formula_of, nodes, root, contents_checks, body_checks, node_checks, use_checks, table_checks, book_checks, Accepted}
use Rattle.logic.specs.Strays.{name_checks}
use Rattle.logic.specs.Search.{FitsAt, total_of, Outcome, room_checks, search_rest, search_checks, Searches}
use Rattle.logic.specs.RefusalLaws.{From, Answered}

module _ (k : ℕ) where
  from_then : (c d : Checks) → From k c → From k d → From k (c then d)
  unfolding From ◌then◌
  from_then done d p q = q
  from_then (check P m x c) d p q = (p.0, from_then c d p.1 q)

  from_upto : (f : ℕ → Checks) → ((i : ℕ) → From k (f i)) → (n : ℕ) → From k (upto f n)
  unfolding From upto
  from_upto f w zero = tt
  from_upto f w (suc n) = from_then (upto f n) (f n) (from_upto f w n) (w n)

  pub answers_below : (c : Checks) (R : Answer → Type 0) (a : Answer) → From k c → Answers c R a → a.number < k → Passes c × R a
  unfolding From Passes Answers
  answers_below done R a w q l = (tt, q)
  answers_below (check P m x c) R a w q l =
      ⊎_elim (λ y. let z : a.number ≡ m = ap (λ (r : Answer). r.number) y.1 in absurd (omega (arith, w.0)))
      (λ y. let r = answers_below c R a w.1 y.1 l in ((y.0, r.0), r.1)) q

book_from : (s : List ℕ) → From book_length (book_checks s)
unfolding From ◌then◌
book_from s =
    from_then 10 (contents_checks s) (body_checks (stretch s 0) (formula_of s) then table_checks (vars_of s) (formula_of s)) (omega arith, (omega arith, (omega arith, (omega arith, (omega arith, (omega arith, tt))))))
    (from_then 10 (body_checks (stretch s 0) (formula_of s)) (table_checks (vars_of s) (formula_of s)) (omega arith, (omega arith, tt))
    (from_then 10 (upto (node_checks (vars_of s) (formula_of s)) (nodes (formula_of s))) (upto (use_checks (formula_of s)) (root (formula_of s)))
    (from_upto 10 (node_checks (vars_of s) (formula_of s)) (λ i. (omega arith, (omega arith, tt))) (nodes (formula_of s)))
    (from_upto 10 (use_checks (formula_of s)) (λ i. (omega arith, tt)) (root (formula_of s)))))

rest_from : (s o : List ℕ) → From book_length (search_rest s o)
unfolding From
rest_from s o =
    from_then 10 (upto (name_checks (formula_of s)) (vars_of s)) (room_checks s o)
    (from_upto 10 (name_checks (formula_of s)) (λ i. (omega arith, tt)) (vars_of s)) (omega arith, tt)

pub searches_answered : (π : Profile) (s : List ℕ) (b : ℕ) (o : List ℕ) (a : Answer) (o' : List ℕ) → Searches π s b o a o' → a.number < book_length → Answered π s b o a
unfolding Accepted
searches_answered π s b o a o' q l =
    let r = answers_below 10 (search_checks s o) (Outcome (FitsAt π s) (total_of s) b) a (from_then 10 (book_checks s) (search_rest s o) (book_from s) (rest_from s o)) q.answer l in
    let p = then_passes (book_checks s) (search_rest s o) r.0 in
    record { accepted = p.0; rest = p.1; outcome = r.1 }
