-- What falls.
use Prim.Native.Nat.{◌+◌, ◌*◌, ◌-◌}
use lib.ListN.{length}
use Rattle.items.proofs.Draft.+item_list_pair_single.Given as goal

abbrev pub decreases-item : goal.decreases-item
decreases-item l = 2 * (length l.s.now - l.at)

abbrev pub decreases-list : goal.decreases-list
decreases-list l = 2 * (length l.s.now - l.at)

abbrev pub decreases-pair : goal.decreases-pair
decreases-pair l = 2 * (length l.s.now - l.at) + 1

abbrev pub decreases-single : goal.decreases-single
decreases-single l = 2 * (length l.s.now - l.at) + 1
