-- `packing::table_of` meets its contract. Assumes nothing.
use Prim.Native.Nat.{◌*◌}
use Rattle.logic.specs.Book.{most_nodes}
use Rattle.packing.specs.SameTable.{table_same}
use Rattle.packing.proofs.table_of.Goals as goal

pub returns : goal.returns
returns c = table_same c.args.f.now _ (3 * most_nodes) c.copy_from_slice.ensures.after
