-- Every model of a book has exactly one that is matched by name, and the other way round. Assumes nothing.
use Rattle.std.specs.Prelude.{◌≡◌, refl, List, ℕ, suc, ◌+◌, ◌<◌, ◌≤◌}
use Rattle.std.proofs.Common.{sym, ap₂, ◌∙◌, zero-le, arith}
use Rattle.std.proofs.Math.Path.{ap}
use Rattle.std.proofs.Math.Decide.{dec_le}
use Rattle.logic.specs.Heap.{Map, Stack}
use Rattle.logic.specs.Book.{vars_of, locs_of, book_formula, Accepted}
use Rattle.logic.proofs.BookLaws.{accepted_whole}
use Rattle.logic.specs.declared.Profile.{Profile}
use Rattle.logic.specs.Model.{stack_in, heap_in, FitsBook}
use Rattle.logic.proofs.ModelLaws.{model_stack, model_heap_is}
use Rattle.logic.proofs.NumberLaws.{same_in_base}
use Rattle.logic.specs.Candidates.{model_bytes}
use Rattle.logic.proofs.CandidateLaws.{stack_in_base, stack_in_model, heap_in_model, model_in_range, model_of_model}
use Rattle.grammar.specs.SaysLaws.{Iff}
use Rattle.writing.proofs.TreeLaws.{formula_within}
use Rattle.writing.proofs.NumberLaws.{number_low, number_onto, number_one}
use Rattle.writing.specs.Matching.{book_again, renumbered, AllNamed, FitsText, ModelOf, Matched}
use Rattle.writing.proofs.RoundTrip.{names_in, round_trip}

-- models with the same stack and the same heap are the same
one_model : (s m m' : List ℕ) → ModelOf s m → ModelOf s m' → ((x : ℕ) → x ≤ vars_of s → stack_in (vars_of s) m x ≡ stack_in (vars_of s) m' x)
    → heap_in (vars_of s) (locs_of s) m ≡ heap_in (vars_of s) (locs_of s) m' → m ≡ m'
one_model s m m' ok ok' e h =
    let v = vars_of s in
    let n = locs_of s in
    let k = stack_in_base v n (stack_in v m) (model_stack v n m ok) in
    let k' = stack_in_base v n (stack_in v m') (model_stack v n m' ok') in
    sym (model_of_model v n m ok) ∙ ap₂ (model_bytes v n) (same_in_base (n + 1) v (stack_in v m) (stack_in v m') k k' (λ i l. e (suc i) l)) h ∙ model_of_model v n m' ok'

-- the stack with g for the variables up to v, and 0 for others
at : {v y : ℕ} → (y ≤ v → ℕ) → Dec (y ≤ v) → ℕ
at g (yes l) = g l
at g (no l) = 0

cut : (v : ℕ) → ((y : ℕ) → y ≤ v → ℕ) → Map
cut v g y = at (g y) (dec_le y v)

cut_has : (v : ℕ) (g : (y : ℕ) → y ≤ v → ℕ) (y : ℕ) (P : ℕ → Type 0) → ((l : y ≤ v) → P (g y l)) → (v < y → P 0) → P (cut v g y)
unfolding cut at
cut_has v g y P f h = go (dec_le y v)
  where
    go : (d : Dec (y ≤ v)) → P (at (g y) d)
    go (yes l) = f l
    go (no l) = h (omega arith)

cut_stack : (v n : ℕ) (g : (y : ℕ) → y ≤ v → ℕ) → ((l : 0 ≤ v) → g 0 l ≡ 0) → ((y : ℕ) (l : y ≤ v) → g y l ≤ n) → Stack v n (cut v g)
cut_stack v n g e h =
    record {
      nil = cut_has v g 0 (λ z. z ≡ 0) e (λ l. absurd (omega arith));
      low = λ y. cut_has v g y (λ z. z ≤ n) (h y) (λ _. zero-le);
      past = λ y l. cut_has v g y (λ z. z ≡ 0) (λ k. absurd (omega arith)) (λ _. refl);
    }

module _ (s : List ℕ) (accepted : Accepted s) (all : AllNamed s) where
  few : locs_of s < 255
  few = omega (arith, (accepted_whole s accepted).bounds.locs)

  onto : (y : ℕ) → y ≤ vars_of s → (x : ℕ) × (x ≤ vars_of s) × (renumbered s x ≡ y)
  onto y l = number_onto (vars_of s) (book_formula s) (formula_within s accepted) (names_in s accepted all) y l

  one : (x y : ℕ) → x ≤ vars_of s → y ≤ vars_of s → renumbered s x ≡ renumbered s y → x ≡ y
  one x y l h e = number_one (vars_of s) (book_formula s) (formula_within s accepted) (names_in s accepted all) x y l h e

  low : (x : ℕ) → x ≤ vars_of s → renumbered s x ≤ vars_of s
  low x l = number_low (vars_of s) (book_formula s) (formula_within s accepted) (names_in s accepted all) x l

  -- the model with that stack, and with the heap of the model m
  module _ (m : List ℕ) (ok : ModelOf s m) (g : (y : ℕ) → y ≤ vars_of s → ℕ) (nil : (l : 0 ≤ vars_of s) → g 0 l ≡ 0) (short : (y : ℕ) (l : y ≤ vars_of s) → g y l ≤ locs_of s) where
    with_stack : List ℕ
    with_stack = model_bytes (vars_of s) (locs_of s) (cut (vars_of s) g) (heap_in (vars_of s) (locs_of s) m)

    with_range : ModelOf s with_stack
    unfolding with_stack
    with_range = model_in_range (vars_of s) (locs_of s) (cut (vars_of s) g) (heap_in (vars_of s) (locs_of s) m) (cut_stack (vars_of s) (locs_of s) g nil short) (model_heap_is (vars_of s) (locs_of s) m ok)

    with_at : (y c : ℕ) → y ≤ vars_of s → ((l : y ≤ vars_of s) → g y l ≡ c) → stack_in (vars_of s) with_stack y ≡ c
    unfolding with_stack
    with_at y c h e =
        ap (λ (S : Map). S y) (stack_in_model (vars_of s) (locs_of s) (cut (vars_of s) g) (heap_in (vars_of s) (locs_of s) m) (cut_stack (vars_of s) (locs_of s) g nil short))
        ∙ cut_has (vars_of s) g y (λ z. z ≡ c) e (λ l. absurd (omega arith))

    with_heap : heap_in (vars_of s) (locs_of s) with_stack ≡ heap_in (vars_of s) (locs_of s) m
    unfolding with_stack
    with_heap = heap_in_model (vars_of s) (locs_of s) (cut (vars_of s) g) (heap_in (vars_of s) (locs_of s) m) few (model_heap_is (vars_of s) (locs_of s) m ok)

  -- the model m of the book has its model of the book again
  pub matched_there : (m : List ℕ) → ModelOf s m → (m' : List ℕ) × ModelOf s m' × Matched s m m'
  matched_there m ok =
      let S = model_stack (vars_of s) (locs_of s) m ok in
      let g : (y : ℕ) → y ≤ vars_of s → ℕ = λ y l. stack_in (vars_of s) m (onto y l).0 in
      let nil : (l : 0 ≤ vars_of s) → g 0 l ≡ 0 = λ l. ap (stack_in (vars_of s) m) (one (onto 0 l).0 0 (onto 0 l).1 l (onto 0 l).2) ∙ S.nil in
      let short : (y : ℕ) (l : y ≤ vars_of s) → g y l ≤ locs_of s = λ y l. S.low (onto y l).0 in (
        with_stack m ok g nil short,
        with_range m ok g nil short,
        record {
          stack = λ x l. with_at m ok g nil short (renumbered s x) (stack_in (vars_of s) m x) (low x l)
              (λ h. ap (stack_in (vars_of s) m) (one (onto (renumbered s x) h).0 x (onto (renumbered s x) h).1 l (onto (renumbered s x) h).2));
          heap = with_heap m ok g nil short;
        },
      )

  -- and each of those is had so
  pub matched_back : (m' : List ℕ) → ModelOf s m' → (m : List ℕ) × ModelOf s m × Matched s m m'
  matched_back m' ok =
      let T = model_stack (vars_of s) (locs_of s) m' ok in
      let g : (x : ℕ) → x ≤ vars_of s → ℕ = λ x l. stack_in (vars_of s) m' (renumbered s x) in
      let nil : (l : 0 ≤ vars_of s) → g 0 l ≡ 0 = λ l. T.nil in
      let short : (x : ℕ) (l : x ≤ vars_of s) → g x l ≤ locs_of s = λ x l. T.low (renumbered s x) in (
        with_stack m' ok g nil short,
        with_range m' ok g nil short,
        record { stack = λ x l. sym (with_at m' ok g nil short x (stack_in (vars_of s) m' (renumbered s x)) l (λ h. refl)); heap = sym (with_heap m' ok g nil short) },
      )

  pub matched_one : (m m' m'' : List ℕ) → ModelOf s m' → ModelOf s m'' → Matched s m m' → Matched s m m'' → m' ≡ m''
  matched_one m m' m'' ok ok' p q =
      one_model s m' m'' ok ok'
      (λ y l.
      let x = onto y l in
      let e = p.stack x.0 x.1 ∙ sym (q.stack x.0 x.1) in
      ap (stack_in (vars_of s) m') (sym x.2) ∙ e ∙ ap (stack_in (vars_of s) m'') x.2) (p.heap ∙ sym q.heap)

  pub one_matched : (m k m' : List ℕ) → ModelOf s m → ModelOf s k → Matched s m m' → Matched s k m' → m ≡ k
  one_matched m k m' ok ok' p q = one_model s m k ok ok' (λ x l. sym (p.stack x l) ∙ q.stack x l) (sym p.heap ∙ q.heap)

  -- so some model fits the book exactly if some model fits the book again
  pub some_fits : FitsText s → (π : Profile) → Iff ((m : List ℕ) × ModelOf s m × FitsBook π s m) ((m : List ℕ) × ModelOf s m × FitsBook π (book_again s) m)
  some_fits fits π =
      let same = (round_trip s accepted all fits).2 in
      record {
        to = λ q. let w = matched_there q.0 q.1 in (w.0, w.1, (same π q.0 w.0 q.1 w.1 w.2).to q.2);
        from = λ q. let w = matched_back q.0 q.1 in (w.0, w.1, (same π w.0 q.0 w.1 q.1 w.2).from q.2);
      }
