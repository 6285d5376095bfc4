-- What proofs/WritingLaws speaks of. Assumes nothing: these are definitions.
use Rattle.std.specs.Prelude.{◌≡◌, true, List, [], ◌∷◌, ℕ}
use Prim.Native.Char.{code}
use Rattle.grammar.specs.Phrase.{Term, nil_term, name_term, Phrase, emp, join, deny, relate, letter}
use Rattle.grammar.specs.Machine.{Mode}
use Rattle.grammar.specs.Halts.{after, lives}

-- from mode m the bytes x lead to mode n
pub record Walks (m : Mode) (x : List ℕ) (n : Mode) : Type 0 where
  pub to : after m x ≡ n
  pub alive_on : lives m x ≡ true

-- ---- terms

-- a term that is nil or one of the names v1, v2, ..
pub data Plain : Term → Type 0 where
  nil_plain : Plain nil_term
  name_plain : {d : ℕ} → letter d ≡ true → Plain (name_term (code "v" ∷ d ∷ []))

-- ---- formulas

-- every term of the phrase has the property T
unfoldable pub EachTerm : (Term → Type 0) → Phrase → Type 0
EachTerm T emp = Unit {0}
EachTerm T (join c F G) = EachTerm T F × EachTerm T G
EachTerm T (deny F) = EachTerm T F
EachTerm T (relate c x y) = T x × T y
