-- What is found of a whole text, and the book that is written. Assumes nothing: these are definitions.
use Rattle.std.specs.Prelude.{◌≡◌, Result, Ok, Err, List, [], ◌++◌, ℕ, ◌+◌, ◌*◌, drop}
use Rattle.logic.specs.Book.{head_of}
use Rattle.leaves.specs.declared.Refusal.{Refusal}
use Rattle.leaves.specs.Refusals.{refused as told}
use Rattle.grammar.specs.Phrase.{Phrase}
use Rattle.grammar.specs.PlaceLaws.{trace}
use Rattle.grammar.specs.Listing.{size_of, listing}
use Rattle.grammar.specs.Meaning.{names_of, meaning}
use Rattle.grammar.specs.Outcome.{outcome, taken, refused}
use Rattle.names.specs.Names.{held}
use Rattle.items.specs.declared.Draft.{Draft}
use Rattle.items.specs.Readings.{Fine, bytes_of}

module _ (s : List ℕ) where
  -- the text is read: the draft holds the names and the nodes of what it means
  pub record Whole (d : Draft) : Type 0 where
    pub phrase : Phrase
    pub fine : Fine d
    pub names : held d.names ≡ names_of phrase
    pub nodes : d.nodes.count ≡ size_of (meaning phrase)
    pub bytes : bytes_of d ≡ listing 0 (meaning phrase)
    pub takes : outcome [] 0 (trace s) ≡ taken (held d.names) d.nodes.count phrase

  -- or it is refused
  abbrev pub WholeIs : Result Draft Refusal → Type 0
  WholeIs (Ok d) = Whole d
  WholeIs (Err x) = outcome [] 0 (trace s) ≡ refused (told x).number (told x).place

-- the book of the draft's names and nodes, at the front of the output o
abbrev pub written : Draft → ℕ → ℕ → List ℕ → List ℕ
written d n p o = head_of 2 d.names.count n p (3 * d.nodes.count) ++ (bytes_of d ++ drop (14 + 3 * d.nodes.count) o)
