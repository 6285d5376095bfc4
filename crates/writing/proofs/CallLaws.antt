-- An export and then an import: what is read back has the same models. Assumes nothing.
use Rattle.std.specs.Prelude.{◌≡◌, List, ◌++◌, ℕ, ◌≤◌, length, drop}
use Rattle.std.proofs.Common.{ap, ◌∙◌}
use Rattle.std.proofs.Math.Path.{subst}
use Rattle.logic.specs.declared.Answer.{Answer}
use Rattle.logic.specs.Numbers.{answer, yes_number}
use Rattle.logic.specs.Book.{locs_of, path_of, most_nodes, Accepted}
use Rattle.logic.proofs.BookLaws.{accepted_whole}
use Rattle.grammar.specs.Phrase.{Phrase}
use Rattle.grammar.specs.Listing.{size_of}
use Rattle.grammar.specs.Meaning.{meaning, book_for}
use Rattle.grammar.specs.Import.{Good, Imports}
use Rattle.grammar.proofs.ImportLaws.{few_nodes, imports_single, imports_written}
use Rattle.imported.proofs.ImportedLaws.{book_imported, import_writes}
use Rattle.writing.specs.Writing.{text_of, Exports}
use Rattle.writing.proofs.ExportLaws.{exported_accepted}
use Rattle.writing.proofs.TermLaws.{text_plain}
use Rattle.writing.proofs.DepthLaws.{read_deep, read_same}
use Rattle.writing.specs.Matching.{phrase_in, book_again, AllNamed, FitsText, SameModels}
use Rattle.writing.proofs.RoundTrip.{text_good, round_trip}

module _ (s : List ℕ) (accepted : Accepted s) where
  -- a text that is not complained of "fits in 64 nodes and depth 16", and means what was written
  good_fits : (G : Phrase) → Good (text_of s) G → (G ≡ phrase_in s) × FitsText s
  unfolding text_of
  good_fits G g =
      let e = read_same (phrase_in s) G g.events (text_plain s accepted) g.means in
      (e, record { deep = read_deep (phrase_in s) G g.events (text_plain s accepted) g.means; small = subst (λ (F : Phrase). size_of (meaning F) ≤ most_nodes) e (few_nodes _ G g) })

  -- an import with number 0 took the text as what was written, and wrote its book
  pub taken_fits : (o : List ℕ) (a : Answer) (o' : List ℕ) → Imports (text_of s) (locs_of s) (path_of s) o a o' → a.number ≡ yes_number
      → FitsText s × (o' ≡ book_again s ++ drop (length (book_again s)) o)
  taken_fits o a o' i z =
      let q = import_writes (text_of s) (locs_of s) (path_of s) o a o' i z in
      let g = good_fits q.0 q.2.good in
      let e = q.2.book ∙ ap (book_for (locs_of s) (path_of s)) g.0 in
      (g.1, q.3 ∙ ap (λ (b : List ℕ). b ++ drop (length b) o) e)

  module _ (all : AllNamed s) (fits : FitsText s) where
    -- and a text that fits is taken, where there is room for its book
    pub fits_taken : (o : List ℕ) (a : Answer) (o' : List ℕ) → Imports (text_of s) (locs_of s) (path_of s) o a o' → length (book_again s) ≤ length o → a ≡ answer yes_number 0
    fits_taken o a o' i l =
        let w = (accepted_whole s accepted).bounds in
        (imports_single (text_of s) (locs_of s) (path_of s) o a (answer yes_number 0) o' _ i
        (imports_written (text_of s) (locs_of s) (path_of s) o w.locs w.path (phrase_in s) (text_good s accepted all fits) l)).0

    pub same_models_again : SameModels s (book_again s)
    same_models_again =
        let t = round_trip s accepted all fits in
        let w = (accepted_whole s accepted).bounds in
        let i = book_imported (text_of s) (phrase_in s) t.0 (locs_of s) (path_of s) w.locs w.path in
        record { accepted = i.accepted; vars = i.vars ∙ t.1; locs = i.locs; path = i.path; fits = t.2 }

-- the export of a book whose every variable is named, and then the import of its text with the book's n and p, both with number 0:
-- the book that is written has the same models
pub export_import : (s o : List ℕ) (a : Answer) (o' : List ℕ) → Exports s o a o' → a.number ≡ yes_number → AllNamed s
    → (r : List ℕ) (b : Answer) (r' : List ℕ) → Imports (text_of s) (locs_of s) (path_of s) r b r' → b.number ≡ yes_number
    → SameModels s (book_again s) × (r' ≡ book_again s ++ drop (length (book_again s)) r)
export_import s o a o' x z all r b r' i y =
    let k = exported_accepted s o a o' x z in
    let q = taken_fits s k r b r' i y in
    (same_models_again s k all q.0, q.1)
