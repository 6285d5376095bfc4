-- What proofs/Verdicts speaks of. Assumes nothing: these are definitions.
use Rattle.std.specs.Prelude.{◌≡◌, ◌⊎◌, ℕ, ◌≤◌, ◌<◌, length}
use mathlib.Core.List.{List, []}
use Rattle.logic.specs.Book.{most, most_nodes}
use Rattle.grammar.specs.Phrase.{Phrase}
use Rattle.grammar.specs.Grammar.{Event, Means}
use Rattle.grammar.specs.Places.{Complaint}
use Rattle.grammar.specs.Outcome.{refused, Outcome, taken, nodes_from, names_from}

-- number m at place q, and every other complaint is at a higher place
pub record Only (s : List ℕ) (m q : ℕ) : Type 0 where
  pub complaint : Complaint s m q
  pub others : (m' q' : ℕ) → Complaint s m' q' → ((m' ≡ m) × (q' ≡ q)) ⊎ (q < q')

-- the text is read, within the limits, and there is no complaint
pub record Taken (s : List ℕ) (ns : List (List ℕ)) (k : ℕ) (F : Phrase) : Type 0 where
  pub events : List Event
  pub means : Means s F events
  pub names : ns ≡ names_from [] events
  pub nodes : k ≡ nodes_from 0 events
  pub few_names : length ns ≤ most
  pub few_nodes : k ≤ most_nodes
  pub none : (m q : ℕ) → ¬ Complaint s m q

abbrev pub Settled : List ℕ → Outcome → Type 0
Settled s (refused m q) = Only s m q
Settled s (taken ns k F) = Taken s ns k F
