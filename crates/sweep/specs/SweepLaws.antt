-- Laws of the way through a range: where it starts, one step of it, and how it ends. Assumes nothing.
use Rattle.std.specs.Prelude.{◌≡◌, ℕ, ◌%◌, ◌<◌, ◌≤◌, None, Some}
use Rattle.std.proofs.Common.{sym, ◌∙◌, ap, ap₂, mod-eq_of_lt, arith}
use Rattle.std.proofs.Math.Path.{subst, subst₂}
use Rattle.std.proofs.Math.Decide.{dec_lt}
use Rattle.logic.specs.Heap.{Map}
use Rattle.logic.specs.Tests.{heap_of}
use Rattle.logic.specs.Candidates.{total, stack_of, number_of}
use Rattle.logic.proofs.CandidateLaws.{stack_of_number, heap_of_its_number}
use Rattle.logic.specs.Search.{Lowest}
use Rattle.cells.specs.Cells.{cells}
use Rattle.candidates.specs.declared.Candidate.{Candidate}
use Rattle.candidates.specs.Counter.{WithinBounds, number, Passes}
use Rattle.skips.specs.Ranges.{Passed, FitInRange, Gives}
use Rattle.skips.specs.Blocks.{weight, after, Skippable}
use Rattle.skips.proofs.BlockLaws.{in_block, after_above, weight_some, block_whole_stack}
use Rattle.sweep.specs.declared.Found.{Found}
use Rattle.sweep.specs.Sweep.{At, Going, Given}

-- ---- the stack and the heap of a candidate are those of its number

module _ (v n i : ℕ) (c : Candidate) (q : At v n i c) where
  pub at_stack : stack_of v n i ≡ cells c.stack
  at_stack =
      subst (λ (k : ℕ). stack_of v n k ≡ cells c.stack) q.number_is
      (subst₂ (λ (x y : ℕ). stack_of x y (number c) ≡ cells c.stack) q.vars q.locs
      (stack_of_number c.vars c.locs (cells c.stack) (cells c.heap) q.range.stack q.range.heap))

  pub at_heap : heap_of n i ≡ cells c.heap
  at_heap =
      subst (λ (k : ℕ). heap_of n k ≡ cells c.heap) q.number_is
      (subst (λ (y : ℕ). heap_of y (number c) ≡ cells c.heap) q.locs
      (heap_of_its_number c.vars c.locs (cells c.stack) (cells c.heap) q.range.stack q.range.heap))

  pub at_number : (s : Map) → cells c.stack ≡ s → number_of v n s (cells c.heap) ≡ i
  at_number s e =
      sym (ap₂ (λ (x : ℕ) (y : Map). number_of x n y (cells c.heap)) q.vars e)
      ∙ ap (λ (y : ℕ). number_of c.vars y (cells c.stack) (cells c.heap)) (sym q.locs)
      ∙ q.number_is

-- the stack stays in the block of all heaps
pub same_stack : (v n from to i : ℕ) (a c : Candidate) → At v n from a → At v n i c → from ≤ i → i < to → to ≤ after (weight n n) from → cells c.stack ≡ cells a.stack
same_stack v n from to i a c qa qc l m e =
    sym (at_stack v n i c qc)
    ∙ block_whole_stack n from i v n (omega arith) (in_block (λ _. Unit {0}) 0 (weight n n) from (weight_some n n) i l (omega arith))
    ∙ at_stack v n from a qa

module _ (v n : ℕ) (P : ℕ → Type 0) (from to : ℕ) where
  pub going_start : (c : Candidate) → WithinBounds c → c.vars ≡ v → c.locs ≡ n → (from < to → number c ≡ from) → Going v n P from to from c
  going_start c ok ev en e =
      record { range = ok; vars = ev; locs = en; number_is = e; from_on = omega arith; passed = λ x l m k a b w. absurd (omega arith) }

  module _ (i : ℕ) (c : Candidate) (g : Going v n P from to i c) (l : i < to) where
    pub going_at : At v n i c
    going_at = record { range = g.range; vars = g.vars; locs = g.locs; number_is = g.number_is l }

    -- the block of i was passed over, as far as it is in the range
    pub going_on : (w j : ℕ) (r : Candidate) → 0 < w → to ≤ total v n → Passes w c r → j ≡ after w i → ((k : ℕ) → i ≤ k → k < j → k < to → ¬ Lowest P (total v n) k) → Going v n P from to j r
    going_on w j r p h x e f =
        record {
          range = x.range;
          vars = x.vars ∙ g.vars;
          locs = x.locs ∙ g.locs;
          number_is = λ m. x.number_is ∙ ap₂ (λ (a b : ℕ). after w a % b) (g.number_is l) (ap₂ total g.vars g.locs) ∙ ap (λ (a : ℕ). a % total v n) (sym e) ∙ mod-eq_of_lt (omega arith);
          from_on = omega (arith, g.from_on, after_above P 0 w i p);
          passed = λ y a b k q m z. go y a b k q m z (dec_lt k i);
        }
      where
        go : (y : ℕ) → y ≤ j → y ≤ to → (k : ℕ) → from ≤ k → k < y → Lowest P (total v n) k → Dec (k < i) → ⊥
        go y a b k q m z (yes u) = g.passed i (omega arith) (omega arith) k q u z
        go y a b k q m z (no u) = f k (omega arith) (omega arith) (omega arith) z

    pub given_found : to ≤ total v n → P i → Given v n P from to (Some (record { number = i; at = c }))
    unfolding Gives
    given_found h y = record { reply = fit; at = going_at }
      where
        fit : FitInRange P (total v n) from to i
        fit = record { from_on = g.from_on; before = l; candidate = omega arith; fits = y; passed = g.passed i (omega arith) (omega arith) }

  -- nothing is given back where the whole range was passed
  pub given_nothing : Passed P (total v n) from to → Given v n P from to None
  unfolding Gives
  given_nothing q = record { reply = q; at = tt }

  pub going_past : (i : ℕ) (c : Candidate) → Going v n P from to i c → to ≤ i → Passed P (total v n) from to
  going_past i c g l = g.passed to l (omega arith)

  -- the block of `from` was passed over
  pub passed_block : (w : ℕ) → 0 < w → Skippable P (total v n) w from → to ≤ after w from → Passed P (total v n) from to
  passed_block w p f h k a b = f k (in_block P 0 w from p k a (omega arith))

-- the number after a block is higher
pub number_rises : (n j i r : ℕ) → r ≡ after (weight n j) i → i < r
number_rises n j i r e = omega (arith, after_above (λ _. Unit {0}) 0 (weight n j) i (weight_some n j), e)

-- ---- a piece of the range, from i to m

module _ (v n : ℕ) (P : ℕ → Type 0) (i m : ℕ) where
  pub piece_passed : Given v n P i m None → Passed P (total v n) i m
  unfolding Gives
  piece_passed q = q.reply

module _ (v n : ℕ) (P : ℕ → Type 0) (i m : ℕ) (r : Found) (q : Given v n P i m (Some r)) where
  pub piece_fit : FitInRange P (total v n) i m r.number
  unfolding Gives
  piece_fit = q.reply

  -- what a piece gives back is what the whole does
  pub piece_found : (from to : ℕ) (c : Candidate) → Going v n P from to i c → i < to → m ≤ to → Given v n P from to (Some r)
  unfolding Gives
  piece_found from to c g l h =
      let x = piece_fit in
      record {
        reply = record {
          from_on = omega (arith, g.from_on, x.from_on);
          before = omega (arith, x.before);
          candidate = x.candidate;
          fits = x.fits;
          passed = λ k a b z. go x k a b z (dec_lt k i);
        };
        at = q.at;
      }
    where
      go : FitInRange P (total v n) i m r.number → (k : ℕ) → from ≤ k → k < r.number → Lowest P (total v n) k → Dec (k < i) → ⊥
      go x k a b z (yes u) = g.passed i (omega arith) (omega arith) k a u z
      go x k a b z (no u) = x.passed k (omega arith) b z
