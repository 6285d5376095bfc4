-- What the loops keep, and what falls.
use Rattle.encodable.proofs.+flat.Given as goal

abbrev pub decreases-flat : goal.decreases-flat
decreases-flat l = l.k
