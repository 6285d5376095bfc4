-- `ownrows::put_ors` meets its contract. Assumes nothing.
use Rattle.std.proofs.Common.{refl, ℕ, ◌+◌, ap, arith}
use Rattle.rowbytes.specs.WrittenLaws.{row_after, kept_then}
use Rattle.ownrows.specs.OwnRowLaws.{ors_none, ors_more, so_far_start, so_far_next}
use Rattle.ownrows.proofs.put_ors.Goals as goal

pub loop-k-init : goal.loop-k-init
loop-k-init c = (record { same = refl; long = refl }, ors_none _ _ _ _, so_far_start _ _)

pub loop-k-preserved : goal.loop-k-preserved
loop-k-preserved c =
    let l = c.loop-k in
    let a = c.args in
    let q = c.put_or.ensures in (
      kept_then l.invariant.0 q.kept,
      ors_more a.r _ l.k _ _ (omega (arith, c.requires.1.out)) l.invariant.1 l.invariant.2 (ap (λ (x : ℕ). a.r + x + 1) c.from.ensures) q.puts,
      so_far_next _ _ _ _ (row_after l.invariant.1),
    )
