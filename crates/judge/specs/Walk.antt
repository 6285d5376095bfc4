-- The walk along the stretch of the allocated set in the table of pairs, which is the trial of its parts upward. Assumes nothing.
use Rattle.std.specs.Prelude.{◌≡◌, Bool, false, List, ℕ, suc, ◌+◌, ◌≤◌}
use Rattle.std.proofs.Common.{sym, subst, ◌∙◌, ap, arith}
use Rattle.logic.specs.Heap.{Heap}
use Rattle.logic.specs.Tests.{within}
use Rattle.cells.specs.Cells.{most, cells, Taken}
use Rattle.pairs.specs.Pairs.{part_at, Inside}
use Rattle.pairs.specs.PairLaws.{inside_next}
use Rattle.judge.specs.Setting.{Trying, Walking}
use Rattle.judge.specs.Trial.{trying_first, trying_next}

-- the trial is at the part m that stands at the walk's place
pub walk_trying : (t : List ℕ) (F : ℕ → Bool) (a i m : ℕ) → m ≡ part_at t i → Walking t F a i → Trying F a m
walk_trying t F a i m e q = subst (Trying F a) (sym e) q.trying

pub walk_first : (t : List ℕ) (F : ℕ → Bool) (a i : ℕ) → Inside t i a → part_at t i ≡ 0 → Walking t F a i
walk_first t F a i n e = record { inside = n; trying = subst (Trying F a) (sym e) (trying_first F a) }

module _ (n w a : ℕ) (few : n ≤ most) (kw : Heap n (cells w)) (k : Taken w a) where
  pub walk_next : (F : ℕ → Bool) → ((i : ℕ) → within n i (cells w) ≡ false → F i ≡ false) → (t : List ℕ) (i m : ℕ) → m ≡ part_at t i → Walking t F a i → ¬ (m ≡ a) → F m ≡ false → Walking t F a (i + 1)
  walk_next F out t i m e q ne fm =
      let at = inside_next t i a q.inside (λ z. ne (e ∙ z)) in
      let on = trying_next n w a few kw k F out (part_at t i) q.trying (ap F (sym e) ∙ fm) in
      let one : suc i ≡ i + 1 = omega arith in
      subst (Walking t F a) one (record { inside = at.0; trying = subst (Trying F a) (sym at.1) on })
