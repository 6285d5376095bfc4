-- What proofs/TextProfiles speaks of. Assumes nothing: these are definitions.
use Rattle.grammar.specs.Phrase.{Phrase, emp, join, deny, relate}
use Rattle.grammar.specs.Phrase.Join.{and_word, or_word, sep_word, wand_word}
use Rattle.grammar.specs.Phrase.Atom.{equal_word, distinct_word, pto_word, ls_word}

-- no `=`, `distinct`, `not` and `wand`: what a `sep` may join
unfoldable pub Piece : Phrase → Type 0
Piece emp = Unit {0}
Piece (join wand_word F G) = ⊥
Piece (join and_word F G) = Piece F × Piece G
Piece (join or_word F G) = Piece F × Piece G
Piece (join sep_word F G) = Piece F × Piece G
Piece (deny F) = ⊥
Piece (relate equal_word x y) = ⊥
Piece (relate distinct_word x y) = ⊥
Piece (relate pto_word x y) = Unit {0}
Piece (relate ls_word x y) = Unit {0}

-- "where `=` and `distinct` stand outside every `sep`"; so does `not`, and there is no `wand`
unfoldable pub OutsideSep : Phrase → Type 0
OutsideSep emp = Unit {0}
OutsideSep (join wand_word F G) = ⊥
OutsideSep (join and_word F G) = OutsideSep F × OutsideSep G
OutsideSep (join or_word F G) = OutsideSep F × OutsideSep G
OutsideSep (join sep_word F G) = Piece F × Piece G
OutsideSep (deny F) = OutsideSep F
OutsideSep (relate c x y) = Unit {0}
