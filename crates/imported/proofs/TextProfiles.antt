-- What a `sep` joins, where `=` and `distinct` stand outside every `sep`, has no operator 8. Assumes nothing.
use Rattle.std.specs.Prelude.{ℕ}
use Rattle.laws.specs.Negations.{NoNegation}
use Rattle.grammar.specs.Phrase.{Term, Phrase, emp, join, deny, relate}
use Rattle.grammar.specs.Phrase.Join.{and_word, or_word, sep_word, wand_word}
use Rattle.grammar.specs.Phrase.Atom.{equal_word, distinct_word, pto_word, ls_word}
use Rattle.grammar.specs.Meaning.{form_of}
use Rattle.imported.specs.TextProfiles.{Piece}

module _ (ν : Term → ℕ) where
  pub piece_plain : (F : Phrase) → Piece F → NoNegation (form_of ν F)
  unfolding Piece NoNegation form_of
  piece_plain emp q = tt
  piece_plain (join wand_word F G) q = absurd q
  piece_plain (join and_word F G) q = (piece_plain F q.0, piece_plain G q.1)
  piece_plain (join or_word F G) q = (piece_plain F q.0, piece_plain G q.1)
  piece_plain (join sep_word F G) q = (piece_plain F q.0, piece_plain G q.1)
  piece_plain (deny F) q = absurd q
  piece_plain (relate equal_word x y) q = absurd q
  piece_plain (relate distinct_word x y) q = absurd q
  piece_plain (relate pto_word x y) q = tt
  piece_plain (relate ls_word x y) q = tt
