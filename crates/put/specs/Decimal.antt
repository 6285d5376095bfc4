-- Numbers as they are written: in decimal, and after a word. Assumes nothing: these are definitions.
use Rattle.std.specs.Prelude.{Bool, true, false, List, [], ◌∷◌, ◌++◌, ℕ, zero, suc, ◌+◌, ◌/◌, ◌%◌, ltb}

abbrev pub choose : Bool → List ℕ → List ℕ → List ℕ
choose true a b = a
choose false a b = b

-- the digits 0 to 9 are the bytes 48 to 57
abbrev pub figure : ℕ → ℕ
figure d = 48 + d

-- x in decimal, the highest digit first and no zero before it; 0 is "0". A number x has at most x + 1 digits
unfoldable pub digits : ℕ → ℕ → List ℕ
digits zero x = []
digits (suc k) x = choose (ltb x 10) (figure x ∷ []) (digits k (x / 10) ++ (figure (x % 10) ∷ []))

unfoldable pub decimal : ℕ → List ℕ
decimal x = digits (suc x) x

-- a word, and a number after it
unfoldable pub numbered : List ℕ → ℕ → List ℕ
numbered w x = w ++ decimal x
