-- What proofs/LowestLaws speaks of. Assumes nothing: these are definitions.
use Rattle.std.specs.Prelude.{◌≡◌, List, ◌⊎◌, ℕ, ◌≤◌, ◌<◌, length}
use Rattle.logic.specs.Book.{most, most_nodes}
use Rattle.logic.specs.Numbers.{many_nodes, many_names}
use Rattle.grammar.specs.Grammar.{Event}
use Rattle.grammar.specs.Places.{PassesAt, NameOverAt}
use Rattle.grammar.specs.Machine.{Trace, emits}
use Rattle.grammar.specs.Outcome.{refused, outcome, nodes_from, names_from}

-- no limit is passed
abbrev pub Clean : List (List ℕ) → ℕ → List Event → Type 0
Clean ns k es = ((q : ℕ) → ¬ PassesAt k es q) × ((i : ℕ) → ¬ NameOverAt most ns es i)

-- number m is the first at place q, and nothing else is there or before
pub data Excess (ns : List (List ℕ)) (k : ℕ) (es : List Event) : ℕ → ℕ → Type 0 where
  nodes_first : (q : ℕ) → PassesAt k es q → ((r : ℕ) → PassesAt k es r → q ≤ r) → ((i : ℕ) → NameOverAt most ns es i → q < i) → Excess ns k es many_nodes q
  names_first : (i : ℕ) → NameOverAt most ns es i → ((r : ℕ) → NameOverAt most ns es r → i ≤ r) → ((q : ℕ) → PassesAt k es q → i < q) → Excess ns k es many_names i

-- the events are gone through one by one
abbrev pub Sifted : List (List ℕ) → ℕ → List Event → Trace → Type 0
Sifted ns k es t =
    ((m : ℕ) × (q : ℕ) × (outcome ns k (emits es t) ≡ refused m q) × Excess ns k es m q)
    ⊎ (Clean ns k es × (outcome ns k (emits es t) ≡ outcome (names_from ns es) (nodes_from k es) t) × (length (names_from ns es) ≤ most) × (nodes_from k es ≤ most_nodes))
