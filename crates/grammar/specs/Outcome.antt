-- The first of 26, 27 and 28 that a text comes to. Assumes nothing: these are definitions.
use Rattle.std.specs.Prelude.{not, List, [], ◌∷◌, ℕ, ◌+◌, eqb, leb, length}
use Rattle.logic.specs.Numbers.{bad_text, many_nodes, many_names}
use Rattle.logic.specs.Book.{most, most_nodes}
use Rattle.logic.specs.Tests.{andb}
use Rattle.grammar.specs.Phrase.{choose, Phrase}
use Rattle.grammar.specs.Grammar.{Event, named, finished}
use Rattle.grammar.specs.Machine.{Trace, read, bad, event}
use Rattle.grammar.specs.Places.{known, note}

-- how many nodes the events make, after k others
unfoldable pub nodes_from : ℕ → List Event → ℕ
nodes_from k [] = k
nodes_from k (named x i j ∷ es) = nodes_from k es
nodes_from k (finished q m ∷ es) = nodes_from (k + m) es

-- the names of the events, after others
unfoldable pub names_from : List (List ℕ) → List Event → List (List ℕ)
names_from ns [] = ns
names_from ns (named x i j ∷ es) = names_from (note ns x) es
names_from ns (finished q m ∷ es) = names_from ns es

-- a formula over these names, with so many nodes; or a number and a place
pub data Outcome : Type 0 where
  taken : List (List ℕ) → ℕ → Phrase → Outcome
  refused : ℕ → ℕ → Outcome

-- after the names ns and k nodes
unfoldable pub outcome : List (List ℕ) → ℕ → Trace → Outcome
outcome ns k (read F) = taken ns k F
outcome ns k (bad i) = refused bad_text i
outcome ns k (event (named x i j) t) =
    let r = outcome (note ns x) k t in
    choose (andb (not (known ns x)) (eqb (length ns) most)) (refused many_names i) r
outcome ns k (event (finished q m) t) =
    let r = outcome ns (k + m) t in
    choose (leb (k + m) most_nodes) r (refused many_nodes q)
