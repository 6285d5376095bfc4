-- The unnamed locations of the lowest candidate that fits are in order too. Assumes nothing.
use Rattle.std.specs.Prelude.{ℕ, suc, ◌+◌, ◌<◌, ◌≤◌}
use Rattle.std.proofs.Common.{subst, arith}
use Rattle.logic.specs.declared.Profile.{Profile}
use Rattle.logic.specs.Heap.{Map, Named}
use Rattle.logic.specs.Formula.{Form}
use Rattle.logic.specs.Tests.{heap_of}
use Rattle.logic.proofs.Agree.{heap_of_heap}
use Rattle.logic.specs.Candidates.{total, value_of, stack_of, number_of}
use Rattle.logic.proofs.CandidateLaws.{heap_in_base, number_of_candidate}
use Rattle.logic.specs.Search.{CandidateFits, Lowest}
use Rattle.laws.proofs.RenumberingLaws.{new_heap_is}
use Rattle.laws.specs.Exchange.{exchange, exchanged_heap}
use Rattle.laws.proofs.ExchangeLaws.{exchange_renumbering}
use Rattle.skips.specs.Order.{Lower}
use Rattle.skips.proofs.Order.{lower_lt}
use Rattle.skips.proofs.LowestLaws.{lowest_swap, stack_stays}

module _ (π : Profile) (v n p : ℕ) (F : Form) (c : ℕ) (q : Lowest (CandidateFits π v n p F) (total v n) c) where
  module _ (a b : ℕ) (la : 1 ≤ a) (ma : a ≤ n) (lb : 1 ≤ b) (mb : b ≤ n) (ua : ¬ Named v (stack_of v n c) a) (ub : ¬ Named v (stack_of v n c) b) where
    -- the heap is not above what it gives by an exchange of two unnamed locations
    pub unnamed_in_order : value_of (n + 2) n (heap_of n c) ≤ value_of (n + 2) n (exchanged_heap a b (heap_of n c))
    unnamed_in_order =
        let m : c ≤ number_of v n (stack_of v n c) (exchanged_heap a b (heap_of n c)) = subst (λ (s : Map). c ≤ number_of v n s (exchanged_heap a b (heap_of n c))) (stack_stays π v n p F c q a b la ma lb mb ua ub) (lowest_swap π v n p F c q a b la ma lb mb) in
        omega (arith, m, number_of_candidate v n c q.candidate)

    pub heap_not_lower : ¬ Lower n (λ i. exchanged_heap a b (heap_of n c) (suc i)) (λ i. heap_of n c (suc i))
    heap_not_lower r =
        let h = heap_of n c in
        let w = exchange_renumbering a b n la ma lb mb in
        let kh = new_heap_is n (exchange a b) (exchange a b) w h (heap_of_heap n c) in
        let l : value_of (n + 2) n (exchanged_heap a b h) < value_of (n + 2) n h = lower_lt (n + 2) n (λ i. exchanged_heap a b h (suc i)) (λ i. h (suc i)) (λ i. (heap_in_base n (exchanged_heap a b h) kh).low (suc i)) r in
        absurd (omega (arith, l, unnamed_in_order))
