-- The letters of a name that are read can go on to a name. Assumes nothing.
use Rattle.std.specs.Prelude.{◌≡◌, refl, Bool, true, false, List, [], ◌∷◌, ◌++◌, ◌⊎◌, ℕ, suc, ◌≤◌, ◌<◌, zero, eqb, leb, ltb, length, get_or}
use Rattle.std.proofs.Common.{sym, ap, ◌∙◌, subst, inl, inr, eq-or-lt_of_le, le_of_suc-le-suc, add-one, arith, length-append, get_or-append-add, eqb-true, ltb-true}
use Rattle.std.proofs.Math.ListN.{get_or-append}
use Rattle.logic.proofs.Reflect.{false_true}
use Rattle.logic.specs.Tests.{same_bytes}
use Rattle.grammar.specs.Phrase.{Word, joins, denies, relates, Term, nil_term, name_term, Phrase, emp, relate, spelling, lower, letter, Name, choose, longest}
use Rattle.grammar.specs.Phrase.Join.{sep_word}
use Rattle.grammar.specs.Grammar.{deepest, blank}
use Rattle.grammar.specs.Machine.{Frame, only_one, first_of, second_of, Spot, start, later, Mode, item, gap, empty, head, word, arg, name, nil, shut, over, words, reserved, viable, past, termed, begun, step, dead, closing, opened}
use Rattle.grammar.proofs.Spellings.{lower_letter, spelling_reserved}
use Rattle.grammar.specs.Begun.{Begun, Fine}

pub viable_short : (x : List ℕ) → viable x ≡ true → length x ≤ longest
viable_short x h = go (ltb (length x) longest) refl (eqb (length x) longest) refl
  where
    go : (a : Bool) → ltb (length x) longest ≡ a → (b : Bool) → eqb (length x) longest ≡ b → length x ≤ longest
    go true e b f = omega (arith, ltb-true (length x) longest e)
    go false e true f = omega (arith, eqb-true (length x) longest f)
    go false e false f = false_true (rw (e, f) at h)

pub begun_name : (x : List ℕ) → Begun x → reserved x ≡ false → Name x
begun_name x q r =
    record {
      some = q.some;
      short = viable_short x q.can;
      first = q.first;
      letters = q.letters;
      free = λ c e. false_true (sym r ∙ subst (λ (z : List ℕ). reserved z ≡ true) e (spelling_reserved c));
    }

fine_pick : (c : Bool) (A B : Mode) → (c ≡ true → Fine A) → (c ≡ false → Fine B) → Fine (choose c A B)
fine_pick true A B f g = f refl
fine_pick false A B f g = g refl

fine_past : (e : Bool) (F : Phrase) (σ : List Frame) → Fine (past e F σ)
fine_past e F [] = tt
fine_past e F (only_one ∷ σ) = tt
fine_past e F (second_of c G ∷ σ) = tt
fine_past true F (first_of c ∷ σ) = tt
fine_past false F (first_of c ∷ σ) = tt

fine_termed : (x : Term) (p : Spot) (σ : List Frame) → Fine (termed x p σ)
fine_termed x (start c) σ = tt
fine_termed x (later c y) σ = tt

fine_closing : (x : Term) (p : Spot) (σ : List Frame) → Fine (closing x p σ)
fine_closing x (start c) σ = tt
fine_closing x (later c y) σ = fine_past false (relate c y x) σ

fine_opened : (σ : List Frame) → Fine (opened σ)
fine_opened σ = fine_pick (leb (suc (length σ)) deepest) _ _ (λ _. tt) (λ _. tt)

fine_begun : (cs : List Word) (b : ℕ) (σ : List Frame) → Fine (begun cs b σ)
unfolding begun
fine_begun [] b σ = tt
fine_begun (c ∷ cs) b σ = fine_pick (eqb b (get_or (spelling c) 0 0)) _ _ (λ _. tt) (λ _. fine_begun cs b σ)

begun_one : (b : ℕ) → lower b ≡ true → Begun (b ∷ [])
begun_one b h = record { some = omega arith; first = h; letters = λ k l. at k l; can = refl }
  where
    at : (k : ℕ) → k < 1 → letter (get_or (b ∷ []) k 0) ≡ true
    at zero l = lower_letter b h
    at (suc k) l = absurd (omega arith)

begun_more : (x : List ℕ) (b : ℕ) → Begun x → letter b ≡ true → viable (x ++ (b ∷ [])) ≡ true → Begun (x ++ (b ∷ []))
begun_more x b q h v =
    record {
      some = omega (arith, q.some, length-append x (b ∷ []));
      first = subst (λ (c : ℕ). lower c ≡ true) (sym (get_or-append x (b ∷ []) 0 0 q.some)) q.first;
      letters = λ k l. at k (eq-or-lt_of_le (le_of_suc-le-suc (subst (λ (m : ℕ). k < m) (length-append x (b ∷ []) ∙ add-one (length x)) l)));
      can = v;
    }
  where
    at : (k : ℕ) → (k ≡ length x) ⊎ (k < length x) → letter (get_or (x ++ (b ∷ [])) k 0) ≡ true
    at k (inl e) = subst (λ (c : ℕ). letter c ≡ true) (sym (ap (λ (m : ℕ). get_or (x ++ (b ∷ [])) m 0) (e ∙ omega arith) ∙ get_or-append-add x (b ∷ []) 0 0)) h
    at k (inr l) = subst (λ (c : ℕ). letter c ≡ true) (sym (get_or-append x (b ∷ []) 0 k l)) (q.letters k l)

pub fine_step : (m : Mode) (b : ℕ) → Fine m → Fine (step m b)
unfolding step
fine_step (item σ) b v = fine_pick (blank b) _ _ (λ _. tt) (λ _. fine_pick (eqb b 40) _ _ (λ _. fine_opened σ) (λ _. fine_pick (eqb b 115) _ _ (λ _. tt) (λ _. tt)))
fine_step (gap σ) b v = fine_pick (blank b) _ _ (λ _. tt) (λ _. fine_pick (eqb b 40) _ _ (λ _. fine_opened σ) (λ _. tt))
fine_step (empty c [] σ) b v = fine_pick (eqb b c) _ _ (λ _. fine_past true emp σ) (λ _. tt)
fine_step (empty c (d ∷ r) σ) b v = fine_pick (eqb b c) _ _ (λ _. tt) (λ _. tt)
fine_step (head σ) b v = fine_pick (blank b) _ _ (λ _. tt) (λ _. fine_begun words b σ)
fine_step (word (relates c) [] σ) b v = fine_pick (blank b) _ _ (λ _. tt) (λ _. tt)
fine_step (word (joins c) [] σ) b v = fine_pick (blank b) _ _ (λ _. tt) (λ _. fine_pick (eqb b 40) _ _ (λ _. fine_opened (first_of c ∷ σ)) (λ _. tt))
fine_step (word denies [] σ) b v = fine_pick (blank b) _ _ (λ _. tt) (λ _. fine_pick (eqb b 40) _ _ (λ _. fine_opened (only_one ∷ σ)) (λ _. tt))
fine_step (word c (d ∷ r) σ) b v = fine_pick (eqb b d) _ _ (λ _. tt) (λ _. tt)
fine_step (arg p σ) b v = fine_pick (blank b) _ _ (λ _. tt) (λ _. fine_pick (lower b) _ _ (λ e. begun_one b e) (λ _. tt))
fine_step (name x p σ) b v =
    fine_pick (letter b) _ _ (λ e. fine_pick (viable (x ++ (b ∷ []))) _ _ (λ f. begun_more x b v e f) (λ _. tt))
    (λ _. fine_pick (eqb b 46) _ _ (λ _. fine_pick (same_bytes (spelling (joins sep_word)) x) _ _ (λ _. tt) (λ _. tt))
    (λ _. fine_pick (reserved x) _ _ (λ _. tt) (λ _. fine_pick (blank b) _ _ (λ _. fine_termed (name_term x) p σ) (λ _. fine_pick (eqb b 41) _ _ (λ _. fine_closing (name_term x) p σ) (λ _. tt)))))
fine_step (nil (c ∷ r) p σ) b v = fine_pick (eqb b c) _ _ (λ _. tt) (λ _. tt)
fine_step (nil [] p σ) b v = fine_pick (blank b) _ _ (λ _. fine_termed nil_term p σ) (λ _. fine_pick (eqb b 41) _ _ (λ _. fine_closing nil_term p σ) (λ _. tt))
fine_step (shut F σ) b v = fine_pick (blank b) _ _ (λ _. tt) (λ _. fine_pick (eqb b 41) _ _ (λ _. fine_past false F σ) (λ _. tt))
fine_step (over F) b v = fine_pick (blank b) _ _ (λ _. tt) (λ _. tt)
fine_step dead b v = tt
