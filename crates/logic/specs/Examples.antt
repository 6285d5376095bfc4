-- What proofs/Examples speaks of. Assumes nothing: these are definitions.
use Rattle.logic.specs.JudgeExamples.{Judged, JudgedRight}
use Rattle.logic.specs.SearchExamples.{Searched, SearchedRight}

-- an example of the judge or of the search
pub data Row : Type 0 where
  judge : Judged → Row
  search : Searched → Row

-- every result that the judge's or the search's statement allows is the row's
unfoldable pub Right : Row → Type 0
Right (judge w) = JudgedRight w
Right (search w) = SearchedRight w
