-- Texts whose `=` and `distinct` stand outside every `sep`: both profiles give them the same answers. Assumes nothing.
use Rattle.std.proofs.Common.{sym, subst, arith}
use Rattle.std.specs.Prelude.{List, ◌↔◌, ℕ}
use Rattle.std.proofs.Math.Logic.{inl, inr, ⊎_elim}
use Rattle.logic.specs.declared.Profile.{Profile}
use Rattle.logic.specs.declared.Profile.TheVariants.{Strong, Ordinary}
use Rattle.logic.specs.declared.Answer.{Answer}
use Rattle.logic.specs.Heap.{Map, Stack, Disjoint, Empty}
use Rattle.logic.specs.Formula.{Form}
use Rattle.logic.specs.Holds.{Holds}
use Rattle.logic.specs.Book.{vars_of, locs_of, book_formula}
use Rattle.logic.specs.Model.{Judges}
use Rattle.logic.specs.Search.{Searches}
use Rattle.laws.proofs.Profiles.{same_truth}
use Rattle.laws.specs.ProfileAnswers.{Alike}
use Rattle.laws.proofs.ProfileAnswers.{alike_judged, alike_searched}
use Rattle.grammar.specs.Phrase.{Term, Phrase, emp, join, deny, relate}
use Rattle.grammar.specs.Phrase.Join.{and_word, or_word, sep_word, wand_word}
use Rattle.grammar.specs.Phrase.Atom.{equal_word, distinct_word, pto_word, ls_word}
use Rattle.grammar.specs.Meaning.{names_of, number_of, form_of}
use Rattle.imported.specs.Imported.{Imported}
use Rattle.imported.specs.TextProfiles.{Piece, OutsideSep}
use Rattle.imported.proofs.TextProfiles.{piece_plain}

module _ (ν : Term → ℕ) where
  module _ (v n : ℕ) (s : Map) (ks : Stack v n s) where
    -- an empty piece meets nothing
    empty_apart : (g r : Map) → Empty g → Disjoint Strong v s g r
    empty_apart g r e =
        record {
          alone = λ ℓ q. q.0 (e ℓ);
          meet = λ ℓ x y. absurd (⊎_elim (λ f. f (e ℓ)) (λ q. omega (arith, q.1, e q.0)) x);
        }

    -- so an equation beside anything holds alike
    outside_alike : (F : Phrase) → OutsideSep F → (h : Map) → Holds Ordinary v n (form_of ν F) s h ↔ Holds Strong v n (form_of ν F) s h
    unfolding OutsideSep Piece Holds form_of
    outside_alike emp q h = (λ y. y, λ y. y)
    outside_alike (join wand_word F G) q h = absurd q
    outside_alike (join and_word F G) q h =
        let f = outside_alike F q.0 h in
        let g = outside_alike G q.1 h in
        (λ y. (f.0 y.0, g.0 y.1), λ y. (f.1 y.0, g.1 y.1))
    outside_alike (join or_word F G) q h =
        let f = outside_alike F q.0 h in
        let g = outside_alike G q.1 h in
        (⊎_elim (λ y. inl (f.0 y)) (λ y. inr (g.0 y)), ⊎_elim (λ y. inl (f.1 y)) (λ y. inr (g.1 y)))
    outside_alike (join sep_word F G) q h = same_truth v n s ks (form_of ν (join sep_word F G)) (piece_plain ν (join sep_word F G) q) h
    outside_alike (deny F) q h = let f = outside_alike F q h in (λ y z. y (f.1 z), λ y z. y (f.0 z))
    outside_alike (relate equal_word x y) q h =
        (λ z. (z.0, z.1, z.2, empty_apart z.0 z.1 z.4.1, z.4, z.5), λ z. (z.0, z.1, z.2, record { alone = z.3.alone; meet = λ ℓ a b. tt }, z.4, z.5))
    outside_alike (relate distinct_word x y) q h =
        (λ z. (z.0, z.1, z.2, empty_apart z.0 z.1 z.4.1, z.4, z.5), λ z. (z.0, z.1, z.2, record { alone = z.3.alone; meet = λ ℓ a b. tt }, z.4, z.5))
    outside_alike (relate pto_word x y) q h = (λ z. z, λ z. z)
    outside_alike (relate ls_word x y) q h = (λ z. z, λ z. z)

module _ (s : List ℕ) (n p : ℕ) (F : Phrase) (b : List ℕ) (i : Imported s n p F b) (q : OutsideSep F) (π ρ : Profile) where
  alike : Alike (vars_of b) (locs_of b) (book_formula b)
  alike t ks h =
      subst (λ (G : Form). Holds Ordinary (vars_of b) (locs_of b) G t h ↔ Holds Strong (vars_of b) (locs_of b) G t h) (sym i.formula)
      (outside_alike (number_of (names_of F)) (vars_of b) (locs_of b) t ks F q h)

  -- the judge's answers for the text's book, and the search's with the output
  pub text_judged_alike : (m : List ℕ) (a : Answer) → Judges π b m a → Judges ρ b m a
  text_judged_alike = alike_judged b alike π ρ

  pub text_searched_alike : (c : ℕ) (o : List ℕ) (a : Answer) (o' : List ℕ) → Searches π b c o a o' → Searches ρ b c o a o'
  text_searched_alike = alike_searched b alike π ρ
