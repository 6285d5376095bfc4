-- An import with number 0 wrote the book of what the text means. Assumes nothing.
use Rattle.std.specs.Prelude.{◌≡◌, refl, List, [], ◌∷◌, ◌++◌, ℕ, zero, suc, ◌≤◌, length, get_or, drop}
use Rattle.std.proofs.Common.{sym, ap, ◌∙◌, subst, append-nil, ⊎_elim, arith}
use Rattle.logic.specs.declared.Answer.{Answer}
use Rattle.logic.specs.Numbers.{yes_number, bounds}
use Rattle.logic.specs.Checks.{Answers}
use Rattle.logic.specs.Book.{most, stretch, vars_of, formula_of}
use Rattle.grammar.specs.Phrase.{Phrase}
use Rattle.grammar.specs.Listing.{listing}
use Rattle.grammar.specs.ListingLaws.{Has}
use Rattle.grammar.proofs.ListingLaws.{listing_long, has_listing}
use Rattle.grammar.specs.Meaning.{names_of, meaning, book_for}
use Rattle.grammar.proofs.NumberLaws.{more_same}
use Rattle.grammar.proofs.BookOfLaws.{formula_is, bounds_are}
use Rattle.grammar.specs.Import.{Good, Imports}
use Rattle.grammar.proofs.ImportLaws.{few_nodes, book_is, reads_zero}
use Rattle.logic.specs.Strays.{NamedByAtom}
use Rattle.imported.proofs.NamedLaws.{every_named, table_names}
use Rattle.imported.specs.Imported.{names_in, Imported}

module _ (s : List ℕ) (F : Phrase) (g : Good s F) (n p : ℕ) where
  has : Has (listing 0 (meaning F)) 0 (meaning F)
  has = subst (λ (z : List ℕ). Has z 0 (meaning F)) (append-nil (listing 0 (meaning F))) (has_listing (meaning F) 0 [] [] (omega arith))

  bounds_of : stretch (book_for n p F) 0 ≡ names_in F ∷ n ∷ p ∷ []
  bounds_of = bounds_are (names_in F) n p (meaning F) (few_nodes s F g)

  table_of : formula_of (book_for n p F) ≡ listing 0 (meaning F)
  table_of = formula_is (names_in F) n p (meaning F) (few_nodes s F g)

  vars_of_is : vars_of (book_for n p F) ≡ names_in F
  vars_of_is = ap (λ (b : List ℕ). get_or b 0 0) bounds_of

  -- every variable is named by an atom
  import_named : (x : ℕ) → 1 ≤ x → x ≤ vars_of (book_for n p F) → NamedByAtom (formula_of (book_for n p F)) x
  import_named zero l h = absurd (omega arith)
  import_named (suc i) l h =
      let q = table_names (listing 0 (meaning F)) (suc i) (meaning F) 0 has (every_named F [] (names_of F) (more_same (names_of F)) i (omega arith) (omega (arith, vars_of_is))) in
      subst (λ (f : List ℕ). NamedByAtom f (suc i)) (sym table_of) (q.0, omega (arith, q.1, listing_long 0 (meaning F)), q.2, q.3)

  pub book_imported : n ≤ most → p ≤ most → Imported s n p F (book_for n p F)
  book_imported ln lp =
      let q = book_is s F g n p ln lp in
      record {
        good = g;
        book = refl;
        accepted = q.0;
        formula = q.1;
        table = table_of;
        vars = vars_of_is;
        locs = ap (λ (b : List ℕ). get_or b 1 0) bounds_of;
        path = ap (λ (b : List ℕ). get_or b 2 0) bounds_of;
        named = import_named;
      }

-- number 0: the book of what the text means stands at the front of the output
pub import_writes : (s : List ℕ) (n p : ℕ) (o : List ℕ) (a : Answer) (o' : List ℕ) → Imports s n p o a o' → a.number ≡ yes_number
    → (F : Phrase) × (b : List ℕ) × Imported s n p F b × (o' ≡ b ++ drop (length b) o)
unfolding Answers
import_writes s n p o a o' i z =
    ⊎_elim (λ u. let y : bounds ≡ 0 = ap (λ (r : Answer). r.number) (sym u.1) ∙ z in absurd (omega arith))
    (λ u. let r = reads_zero most s n p o a u.1 z in (r.0, book_for n p r.0, book_imported s r.0 r.1 n p u.0.0 u.0.1, i.wrote z r.0 r.1)) i.answer
