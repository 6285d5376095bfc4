-- What proofs/NumberLaws speaks of. Assumes nothing: these are definitions.
use Rattle.std.specs.Prelude.{◌≡◌, true, List, ◌++◌, ℕ}
use Rattle.grammar.specs.Phrase.{Term, nil_term, name_term, Phrase, emp, join, deny, relate}
use Rattle.grammar.specs.Places.{known}

-- ms has the names ns, and others behind them
abbrev pub More : List (List ℕ) → List (List ℕ) → Type 0
More ns ms = (zs : List (List ℕ)) × (ms ≡ ns ++ zs)

-- every name of a phrase is one of ms
abbrev pub TermIn : List (List ℕ) → Term → Type 0
TermIn ms nil_term = Unit {0}
TermIn ms (name_term x) = known ms x ≡ true

unfoldable pub AllIn : List (List ℕ) → Phrase → Type 0
AllIn ms emp = Unit {0}
AllIn ms (join c F G) = AllIn ms F × AllIn ms G
AllIn ms (deny F) = AllIn ms F
AllIn ms (relate c x y) = TermIn ms x × TermIn ms y
