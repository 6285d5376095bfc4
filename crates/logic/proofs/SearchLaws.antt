-- What the search's statement gives: it allows one answer and one output, how its answers come about, and that the search that
-- is worked out is the one that it allows. Assumes nothing.
use Rattle.std.specs.Prelude.{◌≡◌, refl, Bool, true, false, List, ◌++◌, ℕ, zero, suc, ◌+◌, ◌-◌, ◌<◌, ◌≤◌, ltb, length, drop}
use Rattle.std.proofs.Common.{sym, ◌∙◌, ap, inl, ⊎_elim, not-suc-le-zero, eq-or-lt_of_le, le_of_suc-le-suc, arith, lt-ltb, le-ltb, le-leb}
use Rattle.std.proofs.Math.Decide.{dec_lt, dec_le, ℕ_discrete}
use Rattle.std.proofs.lemmas.Bool.{lt-leb}
use Rattle.logic.specs.declared.Profile.{Profile}
use Rattle.logic.specs.declared.Answer.{Answer}
use Rattle.logic.specs.Numbers.{answer, yes_number, no_number, spent_number, output_length}
use Rattle.logic.specs.Checks.{upto, Passes, Answers}
use Rattle.logic.specs.CheckLaws.{Single, Yes}
use Rattle.logic.proofs.CheckLaws.{answers_single, answers_refused, answers_other, answers_after, answers_passed, answers_rest, passes_then}
use Rattle.logic.specs.Tests.{pick, heap_of}
use Rattle.logic.specs.Reflect.{Is}
use Rattle.logic.proofs.Reflect.{fails}
use Rattle.logic.proofs.Agree.{heap_of_heap}
use Rattle.logic.proofs.ModelLaws.{fits_is}
use Rattle.logic.specs.Book.{formula_of, book_formula, book_checks, vars_of, locs_of, path_of, Reads, Accepted}
use Rattle.logic.specs.Candidates.{stack_of, model_of}
use Rattle.logic.proofs.CandidateLaws.{stack_of_stack}
use Rattle.logic.specs.Search.{FitsAt, total_of, Lowest, searched, Outcome, found, none, spent, room_checks, search_rest, search_checks, Searches}
use Rattle.logic.specs.Strays.{name_checks}
use Rattle.logic.specs.Trials.{fits_at, first, outcome_of}

-- ---- one answer and one output

pub lowest_single : (P : ℕ → Type 0) (t k j : ℕ) → Lowest P t k → Lowest P t j → k ≡ j
lowest_single P t k j p q = go (dec_lt k j) (dec_lt j k)
  where
    go : Dec (k < j) → Dec (j < k) → k ≡ j
    go (yes l) w = absurd (q.lower k l p.fits)
    go (no l) (yes w) = absurd (p.lower j w q.fits)
    go (no l) (no w) = omega arith

pub outcome_single : (P : ℕ → Type 0) (t b : ℕ) → Single (Outcome P t b)
outcome_single P t b x y (found k p e) (found j q f) = e ∙ ap (λ (m : ℕ). searched yes_number (m + 1)) (lowest_single P t k j p.0 q.0) ∙ sym f
outcome_single P t b x y (found k p e) (none q f) = absurd (q.0 k p.0.candidate p.0.fits)
outcome_single P t b x y (found k p e) (spent q w f) = absurd (q k p)
outcome_single P t b x y (none p e) (found j q f) = absurd (p.0 j q.0.candidate q.0.fits)
outcome_single P t b x y (none p e) (none q f) = e ∙ sym f
outcome_single P t b x y (none p e) (spent q w f) = absurd (w p)
outcome_single P t b x y (spent p w e) (found j q f) = absurd (p j q)
outcome_single P t b x y (spent p w e) (none q f) = absurd (w q)
outcome_single P t b x y (spent p w e) (spent q u f) = e ∙ sym f

pub searches_single : (π : Profile) (s : List ℕ) (b : ℕ) (o : List ℕ) (a c : Answer) (x y : List ℕ) → Searches π s b o a x → Searches π s b o c y → (a ≡ c) × (x ≡ y)
searches_single π s b o a c x y p q = (same, bytes (ℕ_discrete a.number yes_number))
  where
    same : a ≡ c
    same = answers_single (search_checks s o) (Outcome (FitsAt π s) (total_of s) b) (outcome_single (FitsAt π s) (total_of s) b) a c p.answer q.answer

    bytes : Dec (a.number ≡ yes_number) → x ≡ y
    bytes (yes e) =
        p.wrote e
        ∙ ap (λ (r : Answer). model_of (vars_of s) (locs_of s) (r.tried - 1) ++ drop (vars_of s + locs_of s) o) same
        ∙ sym (q.wrote (ap (λ (r : Answer). r.number) (sym same) ∙ e))
    bytes (no e) = p.kept e ∙ sym (q.kept (λ z. e (ap (λ (r : Answer). r.number) same ∙ z)))

-- ---- how the answers come about

module _ (P : ℕ → Type 0) (t b : ℕ) where
  pub outcome_found : (k : ℕ) → k < t → k < b → P k → ((i : ℕ) → i < k → ¬ P i) → Outcome P t b (searched yes_number (k + 1))
  outcome_found k l m p q = found k (record { candidate = l; fits = p; lower = q }, m) refl

  pub outcome_none : t ≤ b → ((i : ℕ) → i < t → ¬ P i) → Outcome P t b (searched no_number t)
  outcome_none l q = none (q, l) refl

  pub outcome_spent : b < t → ((i : ℕ) → i < b → ¬ P i) → Outcome P t b (searched spent_number b)
  outcome_spent l q = spent (λ k w. q k w.1 w.0.fits) (λ w. absurd (omega (arith, w.1))) refl

module _ (π : Profile) (s : List ℕ) (b : ℕ) (o : List ℕ) where
  pub searches_refused : (a : Answer) → Reads s a → ¬ (a.number ≡ 0) → Searches π s b o a o
  unfolding Reads
  searches_refused a q f =
      record {
        answer = answers_refused (book_checks s) (Outcome (FitsAt π s) (total_of s) b) (search_rest s o) a q f;
        wrote = λ e. absurd (f e);
        kept = λ e. refl;
      }

  module _ (ok : Accepted s) where
    -- a stray variable, or too short an output
    pub searches_rest : (a : Answer) → Answers (search_rest s o) Yes a → ¬ (a.number ≡ 0) → Searches π s b o a o
    unfolding Accepted
    searches_rest a q f =
        record {
          answer = answers_after (book_checks s) (search_rest s o) (Outcome (FitsAt π s) (total_of s) b) a ok (answers_other (search_rest s o) (Outcome (FitsAt π s) (total_of s) b) a q f);
          wrote = λ e. absurd (f e);
          kept = λ e. refl;
        }

    -- "whatever it would find"
    pub searches_short : Passes (upto (name_checks (formula_of s)) (vars_of s)) → length o < vars_of s + locs_of s → Searches π s b o (answer output_length 0) o
    unfolding Answers
    searches_short named l =
        searches_rest (answer output_length 0)
        (answers_after (upto (name_checks (formula_of s)) (vars_of s)) (room_checks s o) Yes (answer output_length 0) named (inl (λ w. absurd (omega arith), refl))) (λ e. absurd (omega arith))

    module _ (rest : Passes (search_rest s o)) (a : Answer) (q : Outcome (FitsAt π s) (total_of s) b a) where
      pub outcome_answers : Answers (search_checks s o) (Outcome (FitsAt π s) (total_of s) b) a
      unfolding Accepted
      outcome_answers =
          answers_after (book_checks s) (search_rest s o) (Outcome (FitsAt π s) (total_of s) b) a ok (answers_passed (search_rest s o) (Outcome (FitsAt π s) (total_of s) b) a rest q)

      pub searches_wrote : (o' : List ℕ) → a.number ≡ yes_number → o' ≡ model_of (vars_of s) (locs_of s) (a.tried - 1) ++ drop (vars_of s + locs_of s) o → Searches π s b o a o'
      searches_wrote o' e w = record { answer = outcome_answers; wrote = λ _. w; kept = λ f. absurd (f e) }

      pub searches_kept : ¬ (a.number ≡ yes_number) → Searches π s b o a o
      searches_kept f = record { answer = outcome_answers; wrote = λ e. absurd (f e); kept = λ _. refl }

  -- what a search of an accepted book says, where atoms name its variables and there is room
  pub searches_outcome : (a : Answer) (o' : List ℕ) → Accepted s → Passes (search_rest s o) → Searches π s b o a o' → Outcome (FitsAt π s) (total_of s) b a
  unfolding Accepted
  searches_outcome a o' ok rest q =
      answers_rest (search_checks s o) (Outcome (FitsAt π s) (total_of s) b) a (passes_then (book_checks s) (search_rest s o) ok rest) q.answer

-- ---- the search, worked out

pub is_fits_at : (π : Profile) (s : List ℕ) (c : ℕ) → Is (fits_at π s c) (FitsAt π s c)
unfolding fits_at
is_fits_at π s c =
    fits_is π (vars_of s) (locs_of s) (path_of s) (book_formula s) (stack_of (vars_of s) (locs_of s) c) (heap_of (locs_of s) c)
    (stack_of_stack (vars_of s) (locs_of s) c).low (heap_of_heap (locs_of s) c)

-- k is the lowest number below t at which the test passes, or t
record First (f : ℕ → Bool) (t k : ℕ) : Type 0 where
  le : k ≤ t
  here : k < t → f k ≡ true
  lower : (i : ℕ) → i < k → f i ≡ false

first_is : (f : ℕ → Bool) (t : ℕ) → First f t (first t f)
unfolding first
first_is f zero = record { le = omega arith; here = λ l. absurd (not-suc-le-zero l); lower = λ i l. absurd (not-suc-le-zero l) }
first_is f (suc t) = go (first_is f t) (dec_lt (first t f) t) (f t) refl
  where
    below : First f t (first t f) → ¬ (first t f < t) → f t ≡ false → (i : ℕ) → i < suc t → f i ≡ false
    below r l e i q =
        ⊎_elim (λ (z : i ≡ t). ap f z ∙ e) (λ (z : i < t). r.lower i (omega (arith, r.le))) (eq-or-lt_of_le (le_of_suc-le-suc q))

    go : First f t (first t f) → Dec (first t f < t) → (x : Bool) → f t ≡ x → First f (suc t) (pick (ltb (first t f) t) (first t f) (pick (f t) t (suc t)))
    go r (yes l) x e = rw (lt-ltb (first t f) t l) (record { le = omega arith; here = λ _. r.here l; lower = r.lower })
    go r (no l) true e = rw (le-ltb (first t f) t (omega arith), e) (record { le = omega arith; here = λ _. e; lower = λ i q. r.lower i (omega (arith, r.le)) })
    go r (no l) false e = rw (le-ltb (first t f) t (omega arith), e) (record { le = omega arith; here = λ q. absurd (omega arith); lower = below r l e })

module _ (P : ℕ → Type 0) (f : ℕ → Bool) (is : (i : ℕ) → Is (f i) (P i)) (t b : ℕ) where
  pub outcome_worked_out : Outcome P t b (outcome_of t b (first t f))
  unfolding outcome_of
  outcome_worked_out = go (first t f) (first_is f t) (dec_lt (first t f) t) (dec_lt (first t f) b) (dec_le t b)
    where
      none_below : (k : ℕ) → First f t k → (i : ℕ) → i < k → ¬ P i
      none_below k r i l = fails (f i) (is i) (r.lower i l)

      go : (k : ℕ) → First f t k → Dec (k < t) → Dec (k < b) → Dec (t ≤ b) → Outcome P t b (outcome_of t b k)
      go k r (yes l) (yes m) w = rw (lt-ltb k t l, lt-ltb k b m) (outcome_found P t b k l m ((is k).to (r.here l)) (none_below k r))
      go k r (yes l) (no m) w = rw (lt-ltb k t l, le-ltb k b (omega arith)) (outcome_spent P t b (omega arith) (λ i q. none_below k r i (omega arith)))
      go k r (no l) m (yes w) = rw (le-ltb k t (omega arith), le-leb t b w) (outcome_none P t b w (λ i q. none_below k r i (omega arith)))
      go k r (no l) m (no w) = rw (le-ltb k t (omega arith), lt-leb t b (omega arith)) (outcome_spent P t b (omega arith) (λ i q. none_below k r i (omega arith)))
