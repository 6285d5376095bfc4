-- A model that the judge accepts is accepted in every wider book, the new locations unallocated. Assumes nothing.
use Rattle.std.specs.Prelude.{◌≡◌, refl, List, [], ◌∷◌, ◌++◌, ℕ, zero, suc, ◌+◌, ◌-◌, ◌≤◌, replicate}
use Rattle.std.proofs.Common.{sym, subst, ◌∙◌, ap, ap₂, append-nil, append_assoc, inl, add-zero, add-suc, arith, eq-eqb}
use Rattle.std.proofs.lemmas.List.{replicate-append-replicate}
use Rattle.logic.specs.declared.Profile.{Profile}
use Rattle.logic.specs.declared.Answer.{Answer}
use Rattle.logic.specs.Numbers.{answer, yes_number}
use Rattle.logic.specs.Checks.{Passes}
use Rattle.logic.proofs.CheckLaws.{answers_passed, passes_then}
use Rattle.logic.specs.Heap.{Map}
use Rattle.logic.proofs.Agree.{heap_more}
use Rattle.logic.specs.Book.{book_formula, vars_of, locs_of, book_checks, Accepted}
use Rattle.logic.proofs.BookLaws.{book_zero}
use Rattle.logic.specs.Model.{stack_in, heap_in, model_checks, judge_checks, FitsBook, Verdict, Judges}
use Rattle.logic.proofs.ModelLaws.{model_stack, model_heap_is, model_refuses, verdict_zero}
use Rattle.logic.specs.Candidates.{bytes_to, byte_of, model_bytes}
use Rattle.logic.proofs.CandidateLaws.{model_in_range, model_of_model}
use Rattle.laws.specs.Negations.{NoneUnderNegation}
use Rattle.laws.specs.Wider.{Wider, widened}
use Rattle.laws.proofs.MoreLocations.{stack_more}
use Rattle.laws.proofs.WiderBooks.{model_more}

-- the bytes of k and j more, where these are all x
bytes_more : (k j x : ℕ) (f : Map) → ((i : ℕ) → k ≤ i → f (suc i) ≡ x) → bytes_to (k + j) f ≡ bytes_to k f ++ replicate j x
unfolding bytes_to
bytes_more k zero x f h = rw add-zero (sym (append-nil (bytes_to k f)))
bytes_more k (suc j) x f h =
    let e : j + 1 ≡ suc j = omega arith in
    rw add-suc
    (ap₂ (λ (r : List ℕ) (y : ℕ). r ++ (y ∷ [])) (bytes_more k j x f h) (h (k + j) (omega arith))
    ∙ append_assoc (bytes_to k f) (replicate j x) (x ∷ [])
    ∙ ap (λ (r : List ℕ). bytes_to k f ++ r) (replicate-append-replicate j 1 x ∙ ap (λ (i : ℕ). replicate i x) e))

module _ (v n n' : ℕ) (m : List ℕ) (l : n ≤ n') (ok : Passes (model_checks v n m)) where
  -- the widened model is that of the same stack and the same heap
  widened_bytes : model_bytes v n' (stack_in v m) (heap_in v n m) ≡ widened n n' m
  widened_bytes =
      let cells : Map = λ ℓ. byte_of (heap_in v n m ℓ) in
      let e : n' ≡ n + (n' - n) = omega arith in
      ap (λ (r : List ℕ). bytes_to v (stack_in v m) ++ r) (ap (λ (k : ℕ). bytes_to k cells) e ∙ bytes_more n (n' - n) 255 cells unallocated)
      ∙ sym (append_assoc (bytes_to v (stack_in v m)) (bytes_to n cells) (replicate (n' - n) 255))
      ∙ ap (λ (r : List ℕ). r ++ replicate (n' - n) 255) (model_of_model v n m ok)
    where
      unallocated : (i : ℕ) → n ≤ i → byte_of (heap_in v n m (suc i)) ≡ 255
      unallocated i q = rw (eq-eqb (heap_in v n m (suc i)) 0 ((model_heap_is v n m ok).past (suc i) (omega arith)))

  widened_in_range : Passes (model_checks v n' (widened n n' m))
  widened_in_range =
      subst (λ (x : List ℕ). Passes (model_checks v n' x)) widened_bytes
      (model_in_range v n' (stack_in v m) (heap_in v n m) (stack_more v n n' (stack_in v m) l (model_stack v n m ok)) (heap_more n n' (heap_in v n m) l (model_heap_is v n m ok)))

pub still_fits : (π : Profile) (s t : List ℕ) → Wider s t → NoneUnderNegation (book_formula s) → Accepted t → (m : List ℕ) (r : Answer) → Judges π s m r → r.number ≡ yes_number → Judges π t (widened (locs_of s) (locs_of t) m) (answer yes_number 0)
unfolding Judges Accepted
still_fits π s t w c ok m r q e =
    let k = book_zero s (model_checks (vars_of s) (locs_of s) m) (Verdict (FitsBook π s m)) r (model_refuses (vars_of s) (locs_of s) m) q e in
    let m' = widened (locs_of s) (locs_of t) m in
    let range = subst (λ (v : ℕ). Passes (model_checks v (locs_of t) m')) w.vars (widened_in_range (vars_of s) (locs_of s) (locs_of t) m w.locs k.1.0) in
    answers_passed (judge_checks t m') (Verdict (FitsBook π t m')) (answer yes_number 0) (passes_then (book_checks t) (model_checks (vars_of t) (locs_of t) m') ok range)
    (inl (model_more π s t w c m k.1.0 (verdict_zero (FitsBook π s m) r k.1.1 e), refl))
