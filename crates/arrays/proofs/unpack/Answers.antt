-- `arrays::unpack` meets its contract. Assumes nothing.
use mathlib.Core.Path.{◌≡◌, refl, ◌∙◌, ap}
use mathlib.Core.List.{[]}
use Prim.Native.Nat.{◌+◌, ◌*◌, ◌<◌}
use native.Mathlib.Omega.{arith}
use lib.ListN.{length, length-set, get_or-replicate, replicate}
use borrow.Author.Count.{below_none}
use Rattle.logic.specs.Book.{most}
use Rattle.rows.specs.Assigned.{array_in}
use Rattle.rows.specs.Bounds.{most_arrays}
use Rattle.arrays.specs.Unpacked.{values_of}
use Rattle.arrays.specs.UnpackLaws.{set_below, set_each, bytes_are, row_array}
use Rattle.arrays.proofs.unpack.Goals as goal

pub loop-i-init : goal.loop-i-init
loop-i-init c = (refl, below_none _, λ k l. ap length (get_or-replicate most_arrays k (replicate most 0) [] l))

pub loop-i-preserved : goal.loop-i-preserved
loop-i-preserved c =
    let l = c.loop-i in
    let a = c.args in
    let at = a.v + l.i * a.n in
    let in_arrays : l.i < length l.a = omega (arith, c.requires.1, l.invariant.0) in (
      simp length-set l.invariant.0,
      set_below (λ k y. values_of y ≡ array_in a.v a.n a.arrays a.q.now k) [] l.a l.i c.row.result in_arrays l.invariant.1
          (row_array a.v a.n a.arrays at l.i a.q.now c.row.result c.loop-i-test.true refl (λ j. c.row.ensures.0 j ∙ bytes_are a.q.now at a.n j)),
      set_each (λ y. length y ≡ most) [] l.a l.i most_arrays c.row.result in_arrays l.invariant.2 c.row.ensures.1,
    )
