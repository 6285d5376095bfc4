-- What the loops keep, and what falls.
use Rattle.rootfacts.proofs.+node_fact.Given as goal

abbrev pub decreases-node_fact : goal.decreases-node_fact
decreases-node_fact l = l.k
