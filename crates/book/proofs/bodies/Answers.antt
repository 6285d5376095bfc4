-- `book::bodies` meets its contract. Assumes nothing.
use Rattle.std.specs.Prelude.{◌≡◌, List, ℕ, zero, suc, ◌<◌, ◌≤◌, length, get_or}
use Rattle.std.proofs.Common.{refl, inl, inr, below_more, arith}
use Rattle.logic.specs.Checks.{Answers}
use Rattle.logic.specs.Book.{most, BoundsOk}
use Rattle.book.proofs.bodies.Goals as goal

-- a byte over the most is one of the three
too_large : (b : List ℕ) (i : ℕ) → i < length b → most < get_or b i 0 → ¬ BoundsOk b
too_large b i l m ok = go i l m
  where
    go : (i : ℕ) → i < length b → most < get_or b i 0 → ⊥
    go zero l m = omega (arith, ok.vars)
    go (suc zero) l m = omega (arith, ok.locs)
    go (suc (suc zero)) l m = omega (arith, ok.path)
    go (suc (suc (suc i))) l m = omega (arith, ok.three)

in_bounds : (b : List ℕ) (i : ℕ) → length b ≡ 3 → length b ≤ i → ((k : ℕ) → k < i → get_or b k 0 ≤ most) → BoundsOk b
in_bounds b i three l low = record { three = three; vars = low 0 (omega arith); locs = low 1 (omega arith); path = low 2 (omega arith) }

pub returns-then-b-ne3 : goal.returns-then-b-ne3
unfolding Answers
returns-then-b-ne3 c = inl (λ h. omega (arith, h.three), refl)

pub loop-bound-preserved : goal.loop-bound-preserved
loop-bound-preserved c = below_more _ _ c.loop-bound.invariant (omega (arith, c.from.ensures))

pub returns-then-from-gt-MOST : goal.returns-then-from-gt-MOST
unfolding Answers
returns-then-from-gt-MOST c = inl (too_large c.args.b.now c.loop-bound.bound-index c.loop-bound-test.true (omega (arith, c.from.ensures)), refl)

pub returns-then-f-eq0 : goal.returns-then-f-eq0
unfolding Answers
returns-then-f-eq0 c = inr (in_bounds c.args.b.now _ (omega arith) c.loop-bound-test.false c.loop-bound.invariant, inl (λ h. omega (arith, h.0), refl))

pub returns-then-f-ne0 : goal.returns-then-f-ne0
unfolding Answers
returns-then-f-ne0 c = inr (in_bounds c.args.b.now _ (omega arith) c.loop-bound-test.false c.loop-bound.invariant, inl (λ h. omega (arith, h.1), refl))

pub returns : goal.returns
unfolding Answers
returns c = inr (in_bounds c.args.b.now _ (omega arith) c.loop-bound-test.false c.loop-bound.invariant, inr ((omega arith, omega arith), refl))
