-- What proofs/Finish speaks of. Assumes nothing: these are definitions.
use Rattle.std.specs.Prelude.{List, [], ◌∷◌, ◌++◌, ℕ}
use Rattle.grammar.specs.Phrase.{Word, joins, denies, relates, choose}
use Rattle.grammar.specs.Machine.{Frame, only_one, first_of, second_of, Spot, start, later, Mode, item, gap, empty, head, word, arg, name, nil, shut, over, reserved, dead}

-- bytes that close the lists σ after a formula, and after a term
unfoldable pub closing_bytes : List Frame → List ℕ
closing_bytes [] = []
closing_bytes (only_one ∷ σ) = 41 ∷ closing_bytes σ
closing_bytes (second_of c G ∷ σ) = 41 ∷ closing_bytes σ
closing_bytes (first_of c ∷ σ) = 32 ∷ 115 ∷ 101 ∷ 112 ∷ 46 ∷ 101 ∷ 109 ∷ 112 ∷ 41 ∷ closing_bytes σ

abbrev pub after_term : Spot → List Frame → List ℕ
after_term (start c) σ = 32 ∷ 97 ∷ 41 ∷ closing_bytes σ
after_term (later c x) σ = 41 ∷ closing_bytes σ

abbrev pub after_word : Word → List Frame → List ℕ
after_word (relates c) σ = 32 ∷ 97 ∷ 32 ∷ 97 ∷ 41 ∷ closing_bytes σ
after_word (joins c) σ = 32 ∷ 115 ∷ 101 ∷ 112 ∷ 46 ∷ 101 ∷ 109 ∷ 112 ∷ closing_bytes (first_of c ∷ σ)
after_word denies σ = 32 ∷ 115 ∷ 101 ∷ 112 ∷ 46 ∷ 101 ∷ 109 ∷ 112 ∷ closing_bytes (only_one ∷ σ)

-- bytes that make a well-formed text of what was read up to the mode
abbrev pub finish : Mode → List ℕ
finish (item σ) = 115 ∷ 101 ∷ 112 ∷ 46 ∷ 101 ∷ 109 ∷ 112 ∷ closing_bytes σ
finish (gap σ) = 32 ∷ 115 ∷ 101 ∷ 112 ∷ 46 ∷ 101 ∷ 109 ∷ 112 ∷ closing_bytes σ
finish (empty c r σ) = c ∷ (r ++ closing_bytes σ)
finish (head σ) = 110 ∷ 111 ∷ 116 ∷ after_word denies σ
finish (word w r σ) = r ++ after_word w σ
finish (arg p σ) = 97 ∷ after_term p σ
finish (name x p σ) = choose (reserved x) (97 ∷ after_term p σ) (after_term p σ)
finish (nil r p σ) = r ++ after_term p σ
finish (shut F σ) = 41 ∷ closing_bytes σ
finish (over F) = []
finish dead = []
