-- `candidates::Candidate::at` meets its contract. Assumes nothing.
use Prim.Native.Nat.{ℕ, ◌+◌, ◌/◌}
use mathlib.Core.Path.{refl, subst}
use native.Mathlib.Nat.{one-le-pow}
use native.Mathlib.Omega.{arith}
use Rattle.candidates.specs.Counter.{Unpacks}
use Rattle.candidates.specs.UnpackLaws.{at_range, at_number}
use Rattle.candidates.proofs.Candidate.at.Goals as goal

pub nonzero_div-i : goal.nonzero_div-i
nonzero_div-i c = let n = c.args.n in omega (arith, c.power.ensures.0, one-le-pow n (n + 2) (omega arith))

pub returns : goal.returns
returns c =
    let a = c.args in
    let q = c.requires in
    let h = c.unpacked in
    let s = c.unpacked-2 in
    let us = subst (λ (x : ℕ). Unpacks (a.n + 1) a.v (a.i / x) s.result) c.power.ensures.0 s.ensures in
    (at_range a.v a.n a.i h.result s.result q.0 q.1 h.ensures us, refl, refl, at_number a.v a.n a.i h.result s.result q.0 q.1 h.ensures us)
