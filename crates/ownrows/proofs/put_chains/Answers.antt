-- `ownrows::put_chains` meets its contract. Assumes nothing.
use Rattle.std.proofs.Common.{refl, arith}
use Rattle.rowbytes.specs.WrittenLaws.{kept_then}
use Rattle.ownrows.specs.OwnRowLaws.{chains_none, chains_more}
use Rattle.ownrows.proofs.put_chains.Goals as goal

pub loop-k-init : goal.loop-k-init
loop-k-init c = (record { same = refl; long = refl }, chains_none _ _ _ _ _ _)

pub loop-k-preserved : goal.loop-k-preserved
loop-k-preserved c =
    let l = c.loop-k in
    let a = c.args in
    let q = c.put_row.ensures in
    (kept_then l.invariant.0 q.kept, chains_more a.a a.s a.x a.y l.k (omega (arith, c.requires.1.out)) l.invariant.1 c.chain.ensures q.puts)
