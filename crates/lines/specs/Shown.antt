-- The lines that document 01 shows for P1's book. Assumes nothing: these are definitions.
use Rattle.std.specs.Prelude.{List, [], ◌∷◌, ◌++◌, ℕ}

-- "answer 0 place 0 tried 6", "stack 1" and "heap 1", each with its line feed
abbrev pub p1_shown : List ℕ
p1_shown =
    (97 ∷ 110 ∷ 115 ∷ 119 ∷ 101 ∷ 114 ∷ 32 ∷ 48 ∷ 32 ∷ 112 ∷ 108 ∷ 97 ∷ 99 ∷ 101 ∷ 32 ∷ 48 ∷ 32 ∷ 116 ∷ 114 ∷ 105 ∷ 101 ∷ 100 ∷ 32 ∷ 54 ∷ 10 ∷ [])
    ++ (115 ∷ 116 ∷ 97 ∷ 99 ∷ 107 ∷ 32 ∷ 49 ∷ 10 ∷ [])
    ++ (104 ∷ 101 ∷ 97 ∷ 112 ∷ 32 ∷ 49 ∷ 10 ∷ [])
