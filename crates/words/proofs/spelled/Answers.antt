-- `words::spelled` meets its contract. Assumes nothing.
use native.Mathlib.Omega.{arith}
use lib.ListN.{get_or}
use Rattle.std.specs.Prelude.{◌≡◌, ◌+◌, Ok, Err}
use Rattle.std.proofs.Common.{length}
use Rattle.words.specs.WordLaws.{spelled_end, spelled_miss, spelled_step, no_byte}
use Rattle.words.proofs.spelled.Goals as goal
use Rattle.words.proofs.spelled.Goals.{then-s-e-via-then-s-e, then-s-e-via-else-s-e+then-s-e-2}

pub loop-i-init : goal.loop-i-init
loop-i-init c =
    let a = c.args in
    let e : a.at + 0 ≡ a.at = omega arith in
    (omega arith, λ r h. rw e at h)

pub returns-then-s-e : goal.returns-then-s-e
returns-then-s-e c =
    let s = c.args.s.now in
    let x = c.args.letters.now in
    let l = c.loop-i in
    let e = c.args.at + l.i in
    l.invariant.1 (Err (record { at = e })) (spelled_miss s x l.i e c.loop-i-test.true
    (elim c.then-s-e.branch [
      | then-s-e-via-then-s-e w ↦ no_byte s (get_or x l.i 0) e w.if-s-e.true
      | then-s-e-via-else-s-e+then-s-e-2 w ↦ λ q. w.if-s-e-2.true q.1
    ]) l.invariant.0)

pub loop-i-preserved : goal.loop-i-preserved
loop-i-preserved c =
    let l = c.loop-i in
    let e : c.args.at + (l.i + 1) ≡ c.args.at + l.i + 1 = omega arith in
    (omega arith, λ r h. l.invariant.1 r (spelled_step c.args.s.now c.args.letters.now l.i (c.args.at + l.i) r c.loop-i-test.true (c.if-s-e.false, c.if-s-e-2.false) (rw e at h)))

pub returns : goal.returns
returns c =
    let l = c.loop-i in
    let e : length c.args.letters.now ≡ l.i = omega (arith, c.loop-i-test.false) in
    rw e (l.invariant.1 (Ok (c.args.at + l.i)) (spelled_end c.args.s.now c.args.letters.now l.i (c.args.at + l.i) c.loop-i-test.false l.invariant.0))
