-- What proofs/ProfileExample speaks of. Assumes nothing: these are definitions.
use Rattle.std.specs.Prelude.{List, [], ◌∷◌, ℕ}
use Rattle.grammar.specs.Phrase.{bytes}

abbrev pub beside_text : List ℕ
beside_text = bytes "(sep (ls x sep.nil) (= x x))"

-- its formula, as the import writes it: a row of Examples
abbrev pub beside_formula : List ℕ
beside_formula = 4 ∷ 1 ∷ 0 ∷ 1 ∷ 1 ∷ 1 ∷ 2 ∷ 0 ∷ 0 ∷ 8 ∷ 2 ∷ 0 ∷ 9 ∷ 1 ∷ 3 ∷ 9 ∷ 0 ∷ 4 ∷ []
