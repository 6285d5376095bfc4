-- `assignment::above` meets its contract. Assumes nothing.
use Rattle.std.proofs.Common.{◌≡◌, ℕ, ◌+◌, ◌≤◌, sym, ap₂, ◌∙◌, zero-le, arith}
use Rattle.std.specs.Prelude.{Bool, true, false, leb, ltb}
use Rattle.std.proofs.Math.Decide.{dec_le}
use borrow.Author.Tests.{le-leb, le-ltb, lt-leb, lt-ltb}
use mir.Val.{bool_byte}
use Rattle.logic.specs.Table.{op_of}
use Rattle.logic.specs.Tests.{pick}
use Rattle.logic.proofs.Weight.{sum_start, sum_more}
use Rattle.assignment.proofs.above.Goals as goal

-- a node counts where its operator is above o
one_above : (o x : ℕ) → bool_byte (ltb o x) ≡ pick (leb x o) 0 1
one_above o x = go (dec_le x o)
  where
    go : Dec (x ≤ o) → bool_byte (ltb o x) ≡ pick (leb x o) 0 1
    go (yes l) = rw (le-leb x o l, le-ltb o x l)
    go (no l) = rw (lt-leb x o (omega arith), lt-ltb o x (omega arith))

one_few : (b : Bool) → pick b 0 1 ≤ 1
one_few true = omega arith
one_few false = omega arith

pub loop-k-init : goal.loop-k-init
loop-k-init c = let a = c.args in (zero-le, sym (sum_start (λ j. pick (leb (op_of a.f.now j) a.o) 0 1)))

pub loop-k-preserved : goal.loop-k-preserved
loop-k-preserved c =
    let l = c.loop-k in
    let a = c.args in
    let x = op_of a.f.now l.k in
    let e = c.from-r.ensures ∙ one_above a.o x in
    let few : c.from-r.result ≤ 1 = rw e (one_few (leb x a.o)) in (
      omega (arith, few),
      ap₂ ◌+◌ l.invariant.1 e ∙ sym (sum_more (λ j. pick (leb (op_of a.f.now j) a.o) 0 1) l.k),
    )
