-- What proofs/Examples speaks of. Assumes nothing: these are definitions.
use Rattle.std.specs.Prelude.{List, [], ◌∷◌, ℕ}

-- "P1's book is 02 01 0B 00 03 00 02 0E 00 03 00 01 01 01 03 01 01."
abbrev pub p1 : List ℕ
p1 = 2 ∷ 1 ∷ 11 ∷ 0 ∷ 3 ∷ 0 ∷ 2 ∷ 14 ∷ 0 ∷ 3 ∷ 0 ∷ 1 ∷ 1 ∷ 1 ∷ 3 ∷ 1 ∷ 1 ∷ []
