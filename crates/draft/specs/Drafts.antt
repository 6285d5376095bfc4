-- The nodes that have been read so far, as the code holds them. Assumes nothing: these are definitions.
use Rattle.std.specs.Prelude.{◌≡◌, Option, None, Some, List, [], ◌∷◌, ◌++◌, ℕ, ◌+◌, ◌-◌, ◌*◌, ◌≤◌, ◌<◌, length, take}
use Rattle.logic.specs.Book.{most_nodes}
use Rattle.grammar.specs.Phrase.{Join}
use Rattle.grammar.specs.Phrase.Join.{and_word, or_word, sep_word, wand_word}
use Rattle.draft.specs.declared.Nodes.{Nodes}

-- the nodes that a list of two formulas adds behind theirs; m is the node behind the first's, n the one behind the second's
abbrev pub join_tail : Join → ℕ → ℕ → List ℕ
join_tail and_word m n = 5 ∷ (m - 1) ∷ (n - 1) ∷ []
join_tail or_word m n = 6 ∷ (m - 1) ∷ (n - 1) ∷ []
join_tail sep_word m n = 9 ∷ (m - 1) ∷ (n - 1) ∷ []
join_tail wand_word m n = 8 ∷ (n - 1) ∷ 0 ∷ 10 ∷ (m - 1) ∷ n ∷ 8 ∷ (n + 1) ∷ 0 ∷ []

-- operator 9 over the atom, which is node n, and the negation of nil ≠ nil
abbrev pub any_tail : ℕ → ℕ → ℕ → ℕ → List ℕ
any_tail op x y n = op ∷ x ∷ y ∷ 2 ∷ 0 ∷ 0 ∷ 8 ∷ (n + 1) ∷ 0 ∷ 9 ∷ n ∷ (n + 2) ∷ []

-- the table has room for the most nodes, and holds so many
pub record Ready (d : Nodes) : Type 0 where
  pub long : length d.table ≡ 3 * most_nodes
  pub few : d.count ≤ most_nodes

-- the bytes of the nodes so far
abbrev pub bytes_in : Nodes → List ℕ
bytes_in d = take (3 * d.count) d.table

-- u is d with k nodes more, which are bs
pub record Adds (d : Nodes) (k : ℕ) (bs : List ℕ) (u : Nodes) : Type 0 where
  pub ready : Ready u
  pub nodes : u.count ≡ d.count + k
  pub bytes : bytes_in u ≡ bytes_in d ++ bs

-- the same, or there is nothing and they would be too many
pub record NodesIs (d : Nodes) (k : ℕ) (bs : List ℕ) (r : Option (Unit {0})) (u : Nodes) : Type 0 where
  pub fits : r ≡ Some tt → Adds d k bs u
  pub passes : r ≡ None → most_nodes < d.count + k
