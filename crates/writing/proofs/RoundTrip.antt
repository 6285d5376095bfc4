-- "Reading the text back .. gives a formula that holds on exactly the same models of the same bounds once variables are matched by
-- name". Assumes nothing.
use Rattle.std.specs.Prelude.{◌≡◌, refl, List, ℕ, ◌≤◌, length}
use Rattle.std.proofs.Common.{sym, ap, ◌∙◌, subst, arith}
use Rattle.logic.specs.Heap.{Map, Named}
use Rattle.logic.specs.Book.{vars_of, locs_of, path_of, book_formula, Accepted, Whole}
use Rattle.logic.proofs.BookLaws.{accepted_whole}
use Rattle.logic.specs.Paths.{NoLongPath}
use Rattle.logic.specs.declared.Profile.{Profile}
use Rattle.logic.specs.Model.{stack_in, heap_in, Fits, FitsBook}
use Rattle.logic.proofs.ModelLaws.{model_stack, model_heap_is}
use Rattle.grammar.specs.Meaning.{names_of, number_of, meaning}
use Rattle.grammar.specs.SaysLaws.{Iff}
use Rattle.grammar.specs.Import.{Good}
use Rattle.imported.specs.Named.{NamedIn}
use Rattle.imported.specs.Imported.{Imported}
use Rattle.imported.proofs.ImportedLaws.{book_imported}
use Rattle.writing.specs.Writing.{text_of}
use Rattle.writing.proofs.WritingLaws.{write_means}
use Rattle.writing.proofs.TreeLaws.{formula_within, formula_names}
use Rattle.writing.proofs.TermLaws.{text_plain}
use Rattle.writing.proofs.NumberLaws.{names_long, number_low, number_onto}
use Rattle.writing.proofs.LimitLaws.{within_limits}
use Rattle.writing.proofs.RoundLaws.{iff_self, iff_both, round}
use Rattle.writing.specs.Matching.{phrase_in, book_again, renumbered, AllNamed, FitsText, ModelOf, Matched}

module _ (s : List ℕ) (accepted : Accepted s) where
  book : Whole s
  book = accepted_whole s accepted

  module _ (all : AllNamed s) where
    pub names_in : (x : ℕ) → 1 ≤ x → x ≤ vars_of s → NamedIn (book_formula s) x
    names_in x l h = formula_names s accepted x (all x l h)

    same_vars : length (names_of (phrase_in s)) ≡ vars_of s
    same_vars = names_long (vars_of s) (book_formula s) (formula_within s accepted) names_in

    module _ (fits : FitsText s) where
      -- the text is well formed, and there is nothing to complain of
      pub text_good : Good (text_of s) (phrase_in s)
      unfolding text_of
      text_good =
          let m = write_means (phrase_in s) (text_plain s accepted) fits.deep in
          within_limits _ (phrase_in s) m.0 m.1 fits.small (omega (arith, same_vars, book.bounds.vars))

      again : Imported (text_of s) (locs_of s) (path_of s) (phrase_in s) (book_again s)
      again = book_imported (text_of s) (phrase_in s) text_good (locs_of s) (path_of s) book.bounds.locs book.bounds.path

      -- the book again has the same bounds, and its formula is what the text means
      fits_again : (π : Profile) (m : List ℕ) → FitsBook π (book_again s) m ≡ Fits π (vars_of s) (locs_of s) (path_of s) (meaning (phrase_in s)) (stack_in (vars_of s) m) (heap_in (vars_of s) (locs_of s) m)
      fits_again π m = rw (again.vars, again.locs, again.path, again.formula, same_vars) refl

    module _ (π : Profile) (m m' : List ℕ) (ok : ModelOf s m) (ok' : ModelOf s m') (q : Matched s m m') where
      abbrev S : Map
      S = stack_in (vars_of s) m

      abbrev T : Map
      T = stack_in (vars_of s) m'

      named_there : (ℓ : ℕ) → Named (vars_of s) S ℓ → Named (vars_of s) T ℓ
      named_there ℓ u = (renumbered s u.0, number_low (vars_of s) (book_formula s) (formula_within s accepted) names_in u.0 u.1, q.stack u.0 u.1 ∙ u.2)

      named_back : (ℓ : ℕ) → Named (vars_of s) T ℓ → Named (vars_of s) S ℓ
      named_back ℓ u =
          let x = number_onto (vars_of s) (book_formula s) (formula_within s accepted) names_in u.0 u.1 in
          (x.0, x.1, sym (q.stack x.0 x.1) ∙ ap T x.2 ∙ u.2)

      same_truth : Iff (Fits π (vars_of s) (locs_of s) (path_of s) (meaning (phrase_in s)) T (heap_in (vars_of s) (locs_of s) m)) (FitsBook π s m)
      same_truth =
          iff_both _ _ _ _
          (round π (vars_of s) (locs_of s) S T (number_of (names_of (phrase_in s))) (model_stack (vars_of s) (locs_of s) m ok).low q.stack named_there named_back
          (model_stack (vars_of s) (locs_of s) m' ok').low (book_formula s) (formula_within s accepted) (heap_in (vars_of s) (locs_of s) m) (model_heap_is (vars_of s) (locs_of s) m ok))
          (iff_self (NoLongPath (path_of s) (heap_in (vars_of s) (locs_of s) m)))

      same_models : FitsText s → Iff (FitsBook π s m) (FitsBook π (book_again s) m')
      same_models fits =
          let e = ap (Fits π (vars_of s) (locs_of s) (path_of s) (meaning (phrase_in s)) T) q.heap in
          let i = fits_again fits π m' ∙ e in
          record { to = λ u. subst (λ (A : Type 0). A) (sym i) (same_truth.from u); from = λ u. same_truth.to (subst (λ (A : Type 0). A) i u) }

-- the request's sentence: the text is read as the formula that was written, over as many variables, and in both profiles a model
-- fits the one book exactly if the model that is matched by name fits the other
pub round_trip : (s : List ℕ) → Accepted s → AllNamed s → FitsText s
    → Good (text_of s) (phrase_in s) × (length (names_of (phrase_in s)) ≡ vars_of s)
    × ((π : Profile) (m m' : List ℕ) → ModelOf s m → ModelOf s m' → Matched s m m' → Iff (FitsBook π s m) (FitsBook π (book_again s) m'))
round_trip s a all fits = (text_good s a all fits, same_vars s a all, λ π m m' ok ok' q. same_models s a all π m m' ok ok' q fits)
