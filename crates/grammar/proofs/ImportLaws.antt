-- The import's statement allows one result, and the book that it writes is accepted and has the formula that the text means.
-- Assumes nothing.
use Rattle.std.specs.Prelude.{◌≡◌, List, [], ◌++◌, ℕ, ◌≤◌, ◌<◌, length}
use Rattle.std.proofs.Math.Path.{refl, ap}
use Rattle.std.proofs.Common.{sym, ap₂, ◌∙◌, subst, append-nil, ⊎_elim, arith}
use Rattle.std.proofs.Math.Logic.{inl, inr}
use Rattle.std.proofs.Math.Decide.{ℕ_discrete}
use Rattle.std.proofs.Math.ListN.{drop}
use Rattle.grammar.proofs.NumberLaws.{all_in, all_within}
use Rattle.logic.specs.Book.{most, most_nodes, book_formula, Accepted}
use Rattle.logic.specs.CheckLaws.{Single}
use Rattle.logic.proofs.CheckLaws.{answers_single}
use Rattle.logic.specs.Checks.{Answers}
use Rattle.logic.specs.Numbers.{answer, yes_number, bounds, output_length}
use Rattle.logic.specs.declared.Answer.{Answer}
use Rattle.grammar.specs.Phrase.{Phrase}
use Rattle.grammar.specs.Places.{ComplaintWithin, bad_at, passes_at, name_over_at}
use Rattle.grammar.specs.Outcome.{refused, outcome, Outcome, taken}
use Rattle.grammar.specs.Listing.{size_of}
use Rattle.grammar.specs.Meaning.{number_of, names_of, meaning, book_for}
use Rattle.grammar.specs.Import.{GoodWithin, Good, ReadingWithin, Reading, complains, no_room, reads, import_checks, Imports}
use Rattle.grammar.proofs.Forward.{one_meaning}
use Rattle.grammar.specs.PlaceLaws.{trace}
use Rattle.grammar.specs.Verdicts.{Only, Taken, Settled}
use Rattle.grammar.proofs.Verdicts.{only_refused, settled, refused_single}
use Rattle.grammar.proofs.MeaningLaws.{nodes_reads, names_reads}
use Rattle.grammar.proofs.BookOfLaws.{formula_of_book, book_accepted}

one_good : (s : List ℕ) (F G : Phrase) → Good s F → Good s G → F ≡ G
one_good s F G a b = (one_meaning s F G a.events b.events a.means b.means).0

reading_single : (s : List ℕ) (n p : ℕ) (o : List ℕ) → Single (Reading s n p o)
reading_single s n p o a b (complains m q r e) (complains m' q' r' e') = let z = refused_single s m q m' q' r r' in e ∙ ap₂ answer z.0 z.1 ∙ sym e'
reading_single s n p o a b (complains m q r e) (no_room F g l e') = absurd (g.none m q r.complaint)
reading_single s n p o a b (complains m q r e) (reads F g l e') = absurd (g.none m q r.complaint)
reading_single s n p o a b (no_room F g l e) (complains m q r e') = absurd (g.none m q r.complaint)
reading_single s n p o a b (no_room F g l e) (no_room G h k e') = e ∙ sym e'
reading_single s n p o a b (no_room F g l e) (reads G h k e') = absurd (omega (arith, ap (λ (X : Phrase). length (book_for n p X)) (one_good s F G g h)))
reading_single s n p o a b (reads F g l e) (complains m q r e') = absurd (g.none m q r.complaint)
reading_single s n p o a b (reads F g l e) (no_room G h k e') = absurd (omega (arith, ap (λ (X : Phrase). length (book_for n p X)) (one_good s F G g h)))
reading_single s n p o a b (reads F g l e) (reads G h k e') = e ∙ sym e'

-- a text that is not complained of is within the limits
module _ (s : List ℕ) (F : Phrase) (g : Good s F) where
  taken_as : (ns : List (List ℕ)) × (k : ℕ) × Taken s ns k F
  taken_as = go (outcome [] 0 (trace s)) (settled s)
    where
      go : (o : Outcome) → Settled s o → (ns : List (List ℕ)) × (k : ℕ) × Taken s ns k F
      go (refused m q) h = absurd (g.none m q h.complaint)
      go (taken ns k G) h = (ns, k, subst (Taken s ns k) (one_meaning s G F h.events g.events h.means g.means).0 h)

  pub few_names : length (names_of F) ≤ most
  few_names =
      let t = taken_as.2 in
      omega (arith, t.few_names, ap length (t.names ∙ names_reads s [] t.means.body))

  pub few_nodes : size_of (meaning F) ≤ most_nodes
  few_nodes =
      let t = taken_as.2 in
      omega (arith, t.few_nodes, t.nodes, nodes_reads s (number_of (names_of F)) 0 t.means.body)

  -- "the book that formula"
  pub book_is : (n p : ℕ) → n ≤ most → p ≤ most → Accepted (book_for n p F) × (book_formula (book_for n p F) ≡ meaning F)
  book_is n p ln lp = (
    book_accepted (length (names_of F)) n p (meaning F) few_nodes few_names ln lp (all_within F (names_of F) (all_in F [] (names_of F) ([], sym (append-nil (names_of F))))),
    formula_of_book (length (names_of F)) n p (meaning F) few_nodes,
  )

-- no complaint has number 0
complaint_number : (w : ℕ) (s : List ℕ) (m q : ℕ) → ComplaintWithin w s m q → 1 ≤ m
complaint_number w s m q (bad_at k h) = omega arith
complaint_number w s m q (passes_at es r f h) = omega arith
complaint_number w s m q (name_over_at es r f h) = omega arith

pub reads_zero : (w : ℕ) (s : List ℕ) (n p : ℕ) (o : List ℕ) (a : Answer) → ReadingWithin w s n p o a → a.number ≡ yes_number → (F : Phrase) × GoodWithin w s F
reads_zero w s n p o a (complains m q r e) z = let y : m ≡ 0 = ap (λ (x : Answer). x.number) (sym e) ∙ z in absurd (omega (arith, complaint_number w s m q r.complaint))
reads_zero w s n p o a (no_room F g l e) z = (F, g)
reads_zero w s n p o a (reads F g l e) z = (F, g)

-- two results that the statement allows are equal
pub imports_single : (s : List ℕ) (n p : ℕ) (o : List ℕ) (a b : Answer) (x y : List ℕ) → Imports s n p o a x → Imports s n p o b y → (a ≡ b) × (x ≡ y)
unfolding Answers
imports_single s n p o a b x y i j =
    let same_bytes = answers_single (import_checks n p) (Reading s n p o) (reading_single s n p o) a b i.answer j.answer in
    (same_bytes, go same_bytes (ℕ_discrete a.number yes_number))
  where
    go : a ≡ b → Dec (a.number ≡ yes_number) → x ≡ y
    go e (yes z) =
        let w : b.number ≡ yes_number = ap (λ (r : Answer). r.number) (sym e) ∙ z in
        let F : (F : Phrase) × Good s F = ⊎_elim (λ u. let v : bounds ≡ 0 = ap (λ (r : Answer). r.number) (sym u.1) ∙ z in absurd (omega arith)) (λ u. reads_zero most s n p o a u.1 z) i.answer in
        i.wrote z F.0 F.1 ∙ sym (j.wrote w F.0 F.1)
    go e (no z) = i.kept z ∙ sym (j.kept (λ w. z (ap (λ (r : Answer). r.number) e ∙ w)))

-- ---- each result that the statement allows

module _ (s : List ℕ) (n p : ℕ) (o : List ℕ) where
  pub imports_bounds : ¬ ((n ≤ most) × (p ≤ most)) → Imports s n p o (answer bounds 0) o
  unfolding Answers
  imports_bounds f = record { answer = inl (f, refl); wrote = λ z. absurd (omega (arith, z)); kept = λ _. refl }

  module _ (ln : n ≤ most) (lp : p ≤ most) where
    pub imports_refused : (m q : ℕ) → Only s m q → Imports s n p o (answer m q) o
    unfolding Answers
    imports_refused m q u =
        record { answer = inr ((ln, lp), complains m q (only_refused s m q u) refl); wrote = λ z F g. absurd (g.none m q u.complaint); kept = λ _. refl }

    module _ (F : Phrase) (g : Good s F) where
      pub imports_short : length o < length (book_for n p F) → Imports s n p o (answer output_length 0) o
      unfolding Answers
      imports_short l = record { answer = inr ((ln, lp), no_room F g l refl); wrote = λ z. absurd (omega (arith, z)); kept = λ _. refl }

      pub imports_written : length (book_for n p F) ≤ length o → Imports s n p o (answer yes_number 0) (book_for n p F ++ drop (length (book_for n p F)) o)
      unfolding Answers
      imports_written l =
          record {
            answer = inr ((ln, lp), reads F g l refl);
            wrote = λ z H h. ap (λ (X : Phrase). book_for n p X ++ drop (length (book_for n p X)) o) (one_good s F H g h);
            kept = λ z. absurd (z refl);
          }
