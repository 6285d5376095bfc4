-- What the loop keeps.
use mathlib.Core.Path.{◌≡◌}
use Rattle.rows.specs.Row.{bytes_of}
use Rattle.rows.specs.Table.{ors, so_far}
use Rattle.rowbytes.specs.Written.{Puts, Kept}
use Rattle.ownrows.proofs.put_ors.Given as goal

abbrev pub invariant-loop-k : goal.invariant-loop-k
invariant-loop-k l = Kept l.initial.w l.w × Puts l.initial.w.next l.k 0 0 (bytes_of (ors l.r l.initial.w.next.row l.k)) l.w.next l.initial.w.out.now l.w.out.now × (l.last ≡ so_far l.r l.initial.w.next.row l.k)
