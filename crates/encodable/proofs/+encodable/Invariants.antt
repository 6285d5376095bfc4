-- What the loops keep, and what falls.
use Rattle.encodable.proofs.+encodable.Given as goal

abbrev pub decreases-encodable : goal.decreases-encodable
decreases-encodable l = l.k
