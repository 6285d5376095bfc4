-- What proofs/Traces speaks of. Assumes nothing: these are definitions.
use Rattle.std.specs.Prelude.{Bool, true, false, List, [], ◌∷◌}
use Rattle.grammar.specs.Phrase.{Phrase, emp}
use Rattle.grammar.specs.Grammar.{Event}
use Rattle.grammar.specs.Machine.{Trace, read, bad, event}

unfoldable pub events_of : Trace → List Event
events_of (read F) = []
events_of (bad i) = []
events_of (event e t) = e ∷ events_of t

unfoldable pub phrase_of_trace : Trace → Phrase
phrase_of_trace (read F) = F
phrase_of_trace (bad i) = emp
phrase_of_trace (event e t) = phrase_of_trace t

-- the text is read to its end
unfoldable pub whole : Trace → Bool
whole (read F) = true
whole (bad i) = false
whole (event e t) = whole t
