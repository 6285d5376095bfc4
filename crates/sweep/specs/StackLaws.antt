-- Laws of the way through the heaps of one stack. Assumes nothing.
use Rattle.std.specs.Prelude.{◌≡◌, refl, List, ℕ, ◌*◌, ◌^◌, ◌<◌, ◌≤◌, Option, None, Some, IfSome}
use Rattle.std.proofs.Common.{sym, ◌∙◌}
use Rattle.std.proofs.Math.Path.{subst, subst₂}
use native.Mathlib.Omega.{arith}
use Rattle.logic.specs.Heap.{Map, Heap}
use Rattle.logic.specs.Table.{tree}
use Rattle.logic.specs.Model.{Fits}
use Rattle.logic.specs.Candidates.{total}
use Rattle.logic.specs.Search.{CandidateFits}
use Rattle.cells.specs.Cells.{most, cells}
use Rattle.judge.specs.declared.Setting.{Setting}
use Rattle.judge.specs.Setting.{stack_of}
use Rattle.candidates.specs.declared.Candidate.{Candidate}
use Rattle.candidates.specs.Counter.{Passes}
use Rattle.candidates.specs.CounterLaws.{total_low}
use Rattle.skips.specs.Blocks.{weight, after, Skippable}
use Rattle.skips.proofs.BlockLaws.{in_block, weight_some}
use Rattle.skips.proofs.BlockFacts.{skip_tried}
use Rattle.blocks.specs.Over.{Over}
use Rattle.sweep.specs.Sweep.{At, low_of, Going, Facing}
use Rattle.sweep.specs.SweepLaws.{at_stack, at_heap, at_number, same_stack, going_at, going_on}

module _ (f : List ℕ) (b : Setting) (k : ℕ) (t : List ℕ) (u : ℕ) (a : Candidate) (from to : ℕ) (q : Facing f b k t u a from to) where
  -- what the candidates are hunted for
  abbrev pub Wanted : ℕ → Type 0
  Wanted = CandidateFits b.profile b.vars b.locs b.path (tree f k)

  module _ (i : ℕ) (c : Candidate) (g : Going b.vars b.locs Wanted from to i c) (l : i < to) where
    here : At b.vars b.locs i c
    here = going_at b.vars b.locs Wanted from to i c g l

    stack_is : cells c.stack ≡ stack_of b
    stack_is = same_stack b.vars b.locs from to i a c q.start here g.from_on l q.same ∙ q.stack

    pub heap_range : Heap b.locs (cells c.heap)
    heap_range = subst (λ (n : ℕ). Heap n (cells c.heap)) g.locs g.range.heap

    pub number_small : i ≤ 10 ^ most * 10 ^ most
    number_small = omega (arith, q.inside, total_low b.vars b.locs q.ready.few_vars q.ready.few_locs)

    -- the judge's word on the heap is that on the candidate
    pub heap_fits : Fits b.profile b.vars b.locs b.path (tree f k) (stack_of b) (cells c.heap) → Wanted i
    heap_fits y =
        subst₂ (λ (s h : Map). Fits b.profile b.vars b.locs b.path (tree f k) s h)
        (sym (at_stack b.vars b.locs i c here ∙ stack_is)) (sym (at_heap b.vars b.locs i c here)) y

    fits_heap : Wanted i → Fits b.profile b.vars b.locs b.path (tree f k) (stack_of b) (cells c.heap)
    fits_heap y =
        subst₂ (λ (s h : Map). Fits b.profile b.vars b.locs b.path (tree f k) s h)
        (at_stack b.vars b.locs i c here ∙ stack_is) (at_heap b.vars b.locs i c here) y

    -- the block at level j is passed over, or the candidate was judged
    block_over : (j : Option ℕ) → IfSome j (λ x. (x < b.locs) × Over t u b.locs c.heap x) → (j ≡ None → ¬ Fits b.profile b.vars b.locs b.path (tree f k) (stack_of b) (cells c.heap)) → Skippable Wanted (total b.vars b.locs) (weight b.locs (low_of j)) i
    unfolding Over
    block_over None o s = skip_tried b.profile b.vars b.locs b.path (tree f k) i (λ y. s refl (fits_heap y))
    block_over (Some j) o s =
        subst (Skippable Wanted (total b.vars b.locs) (weight b.locs j))
        (at_number b.vars b.locs i c here (stack_of b) stack_is)
        (o.1 b.profile b.vars b.path (tree f k) (stack_of b) q.ready.stack q.unnamed q.facts)

    pub heap_over : (j : Option ℕ) → IfSome j (λ x. (x < b.locs) × Over t u b.locs c.heap x) → (j ≡ None → ¬ Fits b.profile b.vars b.locs b.path (tree f k) (stack_of b) (cells c.heap)) → (d : Candidate) → Passes (weight c.locs (low_of j)) c d → (x : ℕ) → x ≡ after (weight b.locs (low_of j)) i → Going b.vars b.locs Wanted from to x d
    heap_over j o s d z x w =
        let n = b.locs in
        let p = weight_some n (low_of j) in
        let skip = block_over j o s in
        going_on b.vars n Wanted from to i c g l (weight n (low_of j)) x d p q.inside
        (subst (λ (y : ℕ). Passes (weight y (low_of j)) c d) g.locs z) w
        (λ y v m h. skip y (in_block Wanted 0 (weight n (low_of j)) i p y v (omega (arith, w))))
