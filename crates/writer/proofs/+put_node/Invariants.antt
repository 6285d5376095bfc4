-- What the loops keep, and what falls.
use Rattle.writer.proofs.+put_node.Given as goal

abbrev pub decreases-put_node : goal.decreases-put_node
decreases-put_node l = l.k
