-- What the loop keeps.
use Rattle.rows.specs.Row.{bytes_of}
use Rattle.rows.specs.Table.{chains}
use Rattle.rowbytes.specs.Written.{Puts, Kept}
use Rattle.ownrows.proofs.put_chains.Given as goal

abbrev pub invariant-loop-k : goal.invariant-loop-k
invariant-loop-k l = Kept l.initial.w l.w × Puts l.initial.w.next l.k 0 0 (bytes_of (chains l.a l.s l.x l.y l.k)) l.w.next l.initial.w.out.now l.w.out.now
