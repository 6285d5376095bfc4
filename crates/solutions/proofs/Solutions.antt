-- Demand 2, second half, over bytes: the assignments that satisfy the table of a book have exactly the models that fit the book, by
-- the statements of the judge of assignments and of the model judge. Assumes nothing.
use Rattle.std.specs.Prelude.{◌≡◌, refl, List, ℕ, suc, ◌+◌, ◌-◌, ◌*◌, ◌<◌, length, get_or}
use Rattle.std.proofs.Common.{sym, subst, subst₂, ◌∙◌, ap, ap₂, inl, arith, ext_get_or, lt-ltb, eq-eqb, ne_eqb}
use Rattle.std.proofs.Math.Decide.{dec_lt, ℕ_discrete}
use Rattle.logic.specs.declared.Profile.{Profile}
use Rattle.logic.specs.declared.Answer.{Answer}
use Rattle.logic.specs.Numbers.{answer}
use Rattle.logic.specs.Checks.{Passes}
use Rattle.logic.specs.CheckLaws.{Refuses}
use Rattle.logic.proofs.CheckLaws.{passes_then, answers_passed, refuses_upto}
use Rattle.logic.specs.Heap.{Map}
use Rattle.logic.specs.Paths.{NoLongPath}
use Rattle.logic.specs.Book.{book_formula, vars_of, locs_of, path_of, book_checks, Accepted}
use Rattle.logic.proofs.BookLaws.{accepted_whole, book_zero}
use Rattle.logic.specs.Model.{stack_in, heap_in, digit_of, model_checks, judge_checks, Fits, FitsBook, Verdict, Judges}
use Rattle.logic.proofs.ModelLaws.{model_stack, model_heap_is, verdict_zero, model_refuses}
use Rattle.rows.specs.Assignment.{on, model_heap}
use Rattle.rows.specs.Table.{arrays, sets, Encodable}
use Rattle.rows.proofs.TableHolds.{satisfies_condition}
use Rattle.rows.proofs.Symbols.{condition_kept}
use Rattle.rows.proofs.Encoding.{assignment_fits, fits_assignment}
use Rattle.rows.specs.Assigned.{assigned, assigned_in, value_checks, SatisfiesBook, assign_rest, assign_checks, Assigns}
use Rattle.solutions.proofs.AssignedLaws.{assigned_in_range}
use Rattle.solutions.specs.ModelOf.{model_in}
use Rattle.solutions.proofs.ModelOfLaws.{model_of_stack, model_of_heap, model_of_passes}
use Rattle.solutions.specs.BytesOf.{bytes_of}
use Rattle.solutions.proofs.BytesOfLaws.{bytes_agree, bytes_pass}
use Rattle.solutions.specs.Solutions.{Comes}

assignment_refuses : (s q : List ℕ) → Refuses (assign_rest s q)
unfolding Refuses
assignment_refuses s q =
    let a = arrays (book_formula s) in
    (omega arith, (omega arith, refuses_upto (value_checks (vars_of s) (locs_of s) a q) (λ i. (omega arith, tt)) (vars_of s + a * locs_of s + sets (book_formula s))))

few_locations : (s : List ℕ) → Passes (book_checks s) → locs_of s < 255
few_locations s ok = let w = accepted_whole s (unfold Accepted in ok) in omega (arith, w.bounds.locs)

-- (a) every assignment that satisfies the table of a book has a model that fits the book: "the stack and array 0 on set 0"
pub satisfied_fits : (π : Profile) (s q : List ℕ) (a : Answer) → Assigns π s q a → a.number ≡ 0 → Judges π s (model_in s q) (answer 0 0)
unfolding Assigns Judges Passes
satisfied_fits π s q a p e =
    let v = vars_of s in
    let n = locs_of s in
    let k = arrays (book_formula s) in
    let y = book_zero s (assign_rest s q) (Verdict (SatisfiesBook π s q)) a (assignment_refuses s q) p e in
    let r = assigned_in_range v n k (sets (book_formula s)) q y.1.0.1 in
    let few = few_locations s y.0 in
    let f = assignment_fits π v n (path_of s) (book_formula s) y.1.0.0 (assigned_in s q) r (verdict_zero (SatisfiesBook π s q) a y.1.1 e) in
    answers_passed (judge_checks s (model_in s q)) (Verdict (FitsBook π s (model_in s q))) (answer 0 0)
    (passes_then (book_checks s) (model_checks v n (model_in s q)) y.0 (model_of_passes v n k q r few (omega arith)))
    (inl (subst₂ (λ (x y : Map). Fits π v n (path_of s) (book_formula s) x y) (sym (model_of_stack v n k q r few (omega arith))) (sym (model_of_heap v n k q r few (omega arith))) f, refl))

-- two models in range with the same stack and the same heap are the same bytes
digit_same : (x y : ℕ) → digit_of x ≡ digit_of y → x ≡ y
digit_same x y = go (ℕ_discrete x 255) (ℕ_discrete y 255)
  where
    go : Dec (x ≡ 255) → Dec (y ≡ 255) → digit_of x ≡ digit_of y → x ≡ y
    go (yes d) (yes e) z = d ∙ sym e
    go (yes d) (no e) z = absurd (omega (arith, rw (eq-eqb x 255 d, ne_eqb y 255 e) at z))
    go (no d) (yes e) z = absurd (omega (arith, rw (ne_eqb x 255 d, eq-eqb y 255 e) at z))
    go (no d) (no e) z = omega (arith, rw (ne_eqb x 255 d, ne_eqb y 255 e) at z)

model_same : (v n : ℕ) (m m' : List ℕ) → length m ≡ v + n → length m' ≡ v + n → stack_in v m ≡ stack_in v m' → heap_in v n m ≡ heap_in v n m' → m ≡ m'
unfolding stack_in heap_in
model_same v n m m' l l' es eh = ext_get_or 0 m m' (l ∙ sym l') (λ i h. at i (omega arith) (dec_lt i v))
  where
    at : (i : ℕ) → i < v + n → Dec (i < v) → get_or m i 0 ≡ get_or m' i 0
    at i h (yes d) = rw (lt-ltb i v d) at (ap (λ (f : Map). f (suc i)) es)
    at i h (no d) =
        let j = i - v in
        let e : v + j ≡ i = omega arith in
        let c : j < n = omega arith in
        ap (λ (x : ℕ). get_or m x 0) (sym e) ∙ digit_same (get_or m (v + j) 0) (get_or m' (v + j) 0) (rw (lt-ltb j n c) at (ap (λ (f : Map). f (suc j)) eh)) ∙ ap (λ (x : ℕ). get_or m' x 0) e

pub fits_satisfied : (π : Profile) (s m : List ℕ) (a : Answer) → Judges π s m a → a.number ≡ 0 → Encodable (book_formula s) → Comes π s m
unfolding Assigns Judges Passes
fits_satisfied π s m a p e c =
    let v = vars_of s in
    let n = locs_of s in
    let k = arrays (book_formula s) in
    let b = sets (book_formula s) in
    let y = book_zero s (model_checks v n m) (Verdict (FitsBook π s m)) a (model_refuses v n m) p e in
    let few = few_locations s y.0 in
    let f = fits_assignment π v n (path_of s) (book_formula s) c (stack_in v m) (heap_in v n m) (model_stack v n m y.1.0) (model_heap_is v n m y.1.0) (verdict_zero (FitsBook π s m) a y.1.1 e) in
    let q = bytes_of v n k b f.is in
    let g = bytes_agree v n k b f.is f.within_range in
    let ok = bytes_pass v n k b f.is f.within_range in
    let r = assigned_in_range v n k b q ok in
    let old = (satisfies_condition π v n (path_of s) f.is (book_formula s)).0 f.satisfies in
    let heap : model_heap f.is ≡ model_heap (assigned v n k q) = ap₂ on (g.array 0 (omega arith)) (g.set 0 (omega arith)) in
    let sat = (satisfies_condition π v n (path_of s) (assigned v n k q) (book_formula s)).1
    (condition_kept π v n (book_formula s) f.is (assigned v n k q) 0 0 1 1 (omega arith) (omega arith) g old.0, subst (NoLongPath (path_of s)) heap old.1) in
    record {
      bytes = q;
      satisfies = answers_passed (assign_checks s q) (Verdict (SatisfiesBook π s q)) (answer 0 0)
          (passes_then (book_checks s) (assign_rest s q) y.0 (c, ok)) (inl (sat, refl));
      model = model_same v n (model_in s q) m (model_of_passes v n k q r few (omega arith)).0 y.1.0.0
          (model_of_stack v n k q r few (omega arith) ∙ sym g.stack ∙ f.stack)
          (model_of_heap v n k q r few (omega arith) ∙ sym heap ∙ f.heap);
    }
