-- What the judge and the search answer for an imported book speaks of the text, in its own words; and neither more locations nor
-- longer paths lose a model of it. Assumes nothing.
use Rattle.std.proofs.Common.{sym, ◌∙◌, subst, ⊎_elim, arith}
use Rattle.std.specs.Prelude.{List, ◌↔◌, ℕ, zero, suc, ◌+◌, ◌≤◌, length}
use Rattle.logic.specs.declared.Profile.{Profile}
use Rattle.logic.specs.declared.Answer.{Answer}
use Rattle.logic.specs.Checks.{upto, Passes, Answers}
use Rattle.logic.proofs.CheckLaws.{answers_split, passes_none, passes_more, passes_then}
use Rattle.logic.specs.Heap.{Map, Stack, Heap}
use Rattle.logic.specs.Formula.{Form}
use Rattle.logic.specs.Formula.Form.{same, diff, pts, ls, conj, disj, but, neg, sep, sept}
use Rattle.logic.specs.Tests.{heap_of}
use Rattle.logic.proofs.Agree.{heap_of_heap}
use Rattle.logic.specs.Book.{book_checks, vars_of, locs_of, path_of, formula_of, book_formula, Accepted}
use Rattle.logic.specs.Model.{stack_in, heap_in, model_checks, Fits, FitsBook, Verdict, Judges}
use Rattle.logic.proofs.ModelLaws.{model_stack, model_heap_is}
use Rattle.logic.specs.Candidates.{total, stack_of}
use Rattle.logic.proofs.CandidateLaws.{stack_of_stack}
use Rattle.logic.specs.Strays.{NamedByAtom, name_checks}
use Rattle.logic.specs.Search.{CandidateFits, Outcome, room_checks, search_rest, Searches}
use Rattle.logic.proofs.SearchLaws.{searches_outcome}
use Rattle.laws.specs.Negations.{NoSeptraction, NoneUnderNegation}
use Rattle.laws.proofs.SameAnswers.{verdict_same, answers_more, outcome_same}
use Rattle.laws.specs.NeverNone.{NeverNone}
use Rattle.laws.proofs.LongerBooks.{found_never_none_longer}
use Rattle.laws.proofs.WiderBooks.{found_never_none}
use Rattle.grammar.specs.Phrase.{Term, Phrase, emp, join, deny, relate}
use Rattle.grammar.specs.Phrase.Join.{and_word, or_word, sep_word, wand_word}
use Rattle.grammar.specs.Phrase.Atom.{equal_word, distinct_word, pto_word, ls_word}
use Rattle.grammar.specs.Meaning.{names_of, number_of, form_of, meaning}
use Rattle.grammar.specs.SaysLaws.{Iff}
use Rattle.grammar.proofs.SaysLaws.{says_holds}
use Rattle.imported.specs.Imported.{names_in, TextFits, NoWand, Imported}

both_ways : {P Q : Type 0} → Iff P Q → P ↔ Q
both_ways i = (i.to, i.from)

-- no variable up to v is stray
all_are_named : (f : List ℕ) (v : ℕ) → ((x : ℕ) → 1 ≤ x → x ≤ v → NamedByAtom f x) → Passes (upto (name_checks f) v)
unfolding Passes
all_are_named f zero q = passes_none (name_checks f)
all_are_named f (suc v) q = passes_more (name_checks f) v (all_are_named f v (λ x l h. q x l (omega arith))) (q (suc v) (omega arith) (omega arith), tt)

module _ (s : List ℕ) (n p : ℕ) (F : Phrase) (b : List ℕ) (i : Imported s n p F b) where
  -- bounds and formula of the book are those of the text
  as_text : (P : ℕ → ℕ → ℕ → Form → Type 0) → P (vars_of b) (locs_of b) (path_of b) (book_formula b) → P (names_in F) n p (meaning F)
  as_text P q =
      subst (λ (G : Form). P (names_in F) n p G) i.formula
      (subst (λ (k : ℕ). P (names_in F) n k (book_formula b)) i.path
      (subst (λ (k : ℕ). P (names_in F) k (path_of b) (book_formula b)) i.locs
      (subst (λ (k : ℕ). P k (locs_of b) (path_of b) (book_formula b)) i.vars q)))

  meaning_fits : (π : Profile) (S H : Map) → Stack (names_in F) n S → Heap n H → Iff (Fits π (names_in F) n p (meaning F) S H) (TextFits π n p F S H)
  meaning_fits π S H ks kh =
      let q = says_holds π (names_in F) n (number_of (names_of F)) S ks.low F H kh in
      record { to = λ y. (q.from y.0, y.1); from = λ y. (q.to y.0, y.1) }

  -- ---- the judge

  -- it refuses no more than the model, and speaks of the text's formula
  pub judged_meaning : (π : Profile) (m : List ℕ) (r : Answer) → Judges π b m r → Answers (model_checks (names_in F) n m) (Verdict (Fits π (names_in F) n p (meaning F) (stack_in (names_in F) m) (heap_in (names_in F) n m))) r
  unfolding Judges Accepted
  judged_meaning π m r q =
      as_text (λ v l k G. Answers (model_checks v l m) (Verdict (Fits π v l k G (stack_in v m) (heap_in v l m))) r)
      (⊎_elim (λ u. absurd (u.1 i.accepted)) (λ u. u.1) (answers_split (book_checks b) (model_checks (vars_of b) (locs_of b) m) (Verdict (FitsBook π b m)) r q))

  -- in the text's own words
  pub judged_text : (π : Profile) (m : List ℕ) (r : Answer) → Judges π b m r → Answers (model_checks (names_in F) n m) (Verdict (TextFits π n p F (stack_in (names_in F) m) (heap_in (names_in F) n m))) r
  judged_text π m r q =
      answers_more (model_checks (names_in F) n m) _ (Verdict (TextFits π n p F (stack_in (names_in F) m) (heap_in (names_in F) n m))) r
      (λ k u. verdict_same r (both_ways (meaning_fits π (stack_in (names_in F) m) (heap_in (names_in F) n m) (model_stack (names_in F) n m k) (model_heap_is (names_in F) n m k))) u) (judged_meaning π m r q)

  -- ---- the search

  -- atoms name every variable, so that 25 never comes, and 20 not where there is room
  rest_passes : (o : List ℕ) → names_in F + n ≤ length o → Passes (search_rest b o)
  unfolding Passes
  rest_passes o l =
      passes_then (upto (name_checks (formula_of b)) (vars_of b)) (room_checks b o) (all_are_named (formula_of b) (vars_of b) i.named) (omega (arith, i.vars, i.locs), tt)

  -- with room for a model it is not refused, and speaks of the text's formula
  pub searched_meaning : (π : Profile) (c : ℕ) (o : List ℕ) (r : Answer) (o' : List ℕ) → names_in F + n ≤ length o → Searches π b c o r o' → Outcome (CandidateFits π (names_in F) n p (meaning F)) (total (names_in F) n) c r
  searched_meaning π c o r o' l q =
      as_text (λ v l k G. Outcome (CandidateFits π v l k G) (total v l) c r) (searches_outcome π b c o r o' i.accepted (rest_passes o l) q)

  -- in the text's own words
  pub searched_text : (π : Profile) (c : ℕ) (o : List ℕ) (r : Answer) (o' : List ℕ) → names_in F + n ≤ length o → Searches π b c o r o'
      → Outcome (λ k. TextFits π n p F (stack_of (names_in F) n k) (heap_of n k)) (total (names_in F) n) c r
  searched_text π c o r o' l q =
      outcome_same (CandidateFits π (names_in F) n p (meaning F)) (λ k. TextFits π n p F (stack_of (names_in F) n k) (heap_of n k)) (total (names_in F) n) c r
      (λ k. both_ways (meaning_fits π (stack_of (names_in F) n k) (heap_of n k) (stack_of_stack (names_in F) n k) (heap_of_heap n k))) (searched_meaning π c o r o' l q)

-- ---- more locations and longer paths

no_wand : (ν : Term → ℕ) (F : Phrase) → NoWand F → NoSeptraction (form_of ν F)
unfolding NoWand NoSeptraction form_of
no_wand ν emp q = tt
no_wand ν (join and_word F G) q = (no_wand ν F q.0, no_wand ν G q.1)
no_wand ν (join or_word F G) q = (no_wand ν F q.0, no_wand ν G q.1)
no_wand ν (join sep_word F G) q = (no_wand ν F q.0, no_wand ν G q.1)
no_wand ν (join wand_word F G) q = absurd q
no_wand ν (deny F) q = no_wand ν F q
no_wand ν (relate equal_word x y) q = (tt, tt)
no_wand ν (relate distinct_word x y) q = (tt, tt)
no_wand ν (relate pto_word x y) q = tt
no_wand ν (relate ls_word x y) q = tt

-- where no septraction stands, none stands under a negation
none_under : (F : Form) → NoSeptraction F → NoneUnderNegation F
unfolding NoSeptraction NoneUnderNegation
none_under (same x y) q = tt
none_under (diff x y) q = tt
none_under (pts x y) q = tt
none_under (ls x y) q = tt
none_under (conj a b) q = (none_under a q.0, none_under b q.1)
none_under (disj a b) q = (none_under a q.0, none_under b q.1)
none_under (but a b) q = (none_under a q.0, q.1)
none_under (neg a) q = q
none_under (sep a b) q = (none_under a q.0, none_under b q.1)
none_under (sept a b) q = absurd q

-- a text without `wand` that is found at n and p is never none at a larger n, a larger p, or both
pub text_never_none : (π : Profile) (s : List ℕ) (n n' p p' : ℕ) (F : Phrase) (b b' : List ℕ) → n ≤ n' → p ≤ p' → Imported s n p F b → Imported s n' p' F b' → NoWand F → NeverNone π b b'
text_never_none π s n n' p p' F b b' l m i j w =
    found_never_none π b b'
    (record { vars = i.vars ∙ sym j.vars; path = omega (arith, m, i.path, j.path); formula = i.table ∙ sym j.table; locs = omega (arith, l, i.locs, j.locs) })
    (subst NoneUnderNegation (sym i.formula) (none_under (meaning F) (no_wand (number_of (names_of F)) F w)))

-- and every text that is found at p is never none at a larger p
pub text_never_none_longer : (π : Profile) (s : List ℕ) (n p p' : ℕ) (F : Phrase) (b b' : List ℕ) → p ≤ p' → Imported s n p F b → Imported s n p' F b' → NeverNone π b b'
text_never_none_longer π s n p p' F b b' m i j =
    found_never_none_longer π b b'
    (record { vars = i.vars ∙ sym j.vars; locs = i.locs ∙ sym j.locs; formula = i.table ∙ sym j.table; path = omega (arith, m, i.path, j.path) })
