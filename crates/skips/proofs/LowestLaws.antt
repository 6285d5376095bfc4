-- The lowest candidate that fits is not above what it gives by a renumbering: its variables are named in order. Assumes nothing.
use Rattle.std.specs.Prelude.{◌≡◌, refl, ℕ, suc, ◌+◌, ◌-◌, ◌*◌, ◌^◌, ◌<◌, ◌≤◌}
use Rattle.std.proofs.Common.{arith}
use Rattle.std.proofs.Math.Path.{fun_ext}
use Rattle.std.proofs.Math.Decide.{dec_le, dec_lt}
use Rattle.std.proofs.Math.Arith.{digits_lt}
use Rattle.logic.specs.declared.Profile.{Profile}
use Rattle.logic.specs.Heap.{Map, Named}
use Rattle.logic.specs.Formula.{Form}
use Rattle.logic.specs.Tests.{heap_of}
use Rattle.logic.proofs.Agree.{heap_of_heap}
use Rattle.logic.specs.Candidates.{total, value_of, stack_of, number_of}
use Rattle.logic.proofs.NumberLaws.{value_lt}
use Rattle.logic.proofs.CandidateLaws.{stack_of_stack, stack_in_base, heap_in_base, number_of_candidate}
use Rattle.logic.specs.Search.{CandidateFits, Lowest}
use Rattle.laws.specs.Renumbering.{Renumbering, new_stack, renumbered_candidate}
use Rattle.laws.proofs.RenumberingLaws.{new_stack_is, new_heap_is}
use Rattle.laws.proofs.RenumberedAnswers.{candidate_renumbered}
use Rattle.laws.specs.Exchange.{exchange, exchanged_stack, exchanged_heap, exchanged_candidate}
use Rattle.laws.proofs.ExchangeLaws.{exchange_second, exchange_other, exchange_renumbering}
use Rattle.skips.specs.Order.{Lower}
use Rattle.skips.proofs.Order.{lower_lt}

module _ (π : Profile) (v n p : ℕ) (F : Form) (c : ℕ) (q : Lowest (CandidateFits π v n p F) (total v n) c) where
  pub lowest_renumbered : (to from : Map) → Renumbering n to from → c ≤ renumbered_candidate v n to from c
  lowest_renumbered to from w = go (dec_lt (renumbered_candidate v n to from c) c)
    where
      go : Dec (renumbered_candidate v n to from c < c) → c ≤ renumbered_candidate v n to from c
      go (yes l) = absurd (q.lower (renumbered_candidate v n to from c) l ((candidate_renumbered v n to from w c π p F).0 q.fits))
      go (no l) = omega arith

  pub lowest_swap : (a b : ℕ) → 1 ≤ a → a ≤ n → 1 ≤ b → b ≤ n → c ≤ exchanged_candidate v n a b c
  lowest_swap a b la ma lb mb = lowest_renumbered (exchange a b) (exchange a b) (exchange_renumbering a b n la ma lb mb)

  -- ---- the variables

  -- no exchange gives a lower stack
  stack_not_lower : (a b : ℕ) → 1 ≤ a → a ≤ n → 1 ≤ b → b ≤ n → ¬ Lower v (λ i. exchanged_stack a b (stack_of v n c) (suc i)) (λ i. stack_of v n c (suc i))
  stack_not_lower a b la ma lb mb r =
      let s = stack_of v n c in
      let h = heap_of n c in
      let w = exchange_renumbering a b n la ma lb mb in
      let ks = new_stack_is n (exchange a b) (exchange a b) w v s (stack_of_stack v n c) in
      let kh = new_heap_is n (exchange a b) (exchange a b) w h (heap_of_heap n c) in
      let l : value_of (n + 1) v (exchanged_stack a b s) < value_of (n + 1) v s = lower_lt (n + 1) v (λ i. exchanged_stack a b s (suc i)) (λ i. s (suc i)) (λ i. (stack_in_base v n (exchanged_stack a b s) ks).low (suc i)) r in
      let m : number_of v n (exchanged_stack a b s) (exchanged_heap a b h) < value_of (n + 1) v s * (n + 2) ^ n = digits_lt l (value_lt (n + 2) n (exchanged_heap a b h) (heap_in_base n (exchanged_heap a b h) kh)) in
      absurd (omega (arith, m, lowest_swap a b la ma lb mb, number_of_candidate v n c q.candidate))

  -- a variable's location is at most one over those of the variables above it
  pub labels_in_order : (x top : ℕ) → x < v → ((y : ℕ) → suc x < y → y ≤ v → stack_of v n c y ≤ top) → stack_of v n c (suc x) ≤ suc top
  unfolding new_stack
  labels_in_order x top l m = go (dec_le (stack_of v n c (suc x)) (suc top))
    where
      s : Map
      s = stack_of v n c

      go : Dec (s (suc x) ≤ suc top) → s (suc x) ≤ suc top
      go (yes e) = e
      go (no e) =
          let b = s (suc x) in
          let a = b - 1 in
          let low : s (suc x) ≤ n = (stack_of_stack v n c).low (suc x) in
          absurd (stack_not_lower a b (omega arith) (omega arith) (omega arith) (omega arith) (record {
            place = x;
            within = l;
            less = omega (arith, exchange_second a b b refl);
            same = λ i u w. exchange_other a b (s (suc i)) (λ (z : s (suc i) ≡ a). omega (arith, m (suc i) (omega arith) (omega arith))) (λ (z : s (suc i) ≡ b). omega (arith, m (suc i) (omega arith) (omega arith)));
          }))

  -- ---- the unnamed locations

  module _ (a b : ℕ) (la : 1 ≤ a) (ma : a ≤ n) (lb : 1 ≤ b) (mb : b ≤ n) (ua : ¬ Named v (stack_of v n c) a) (ub : ¬ Named v (stack_of v n c) b) where
    pub stack_stays : exchanged_stack a b (stack_of v n c) ≡ stack_of v n c
    unfolding new_stack
    stack_stays = fun_ext λ x. exchange_other a b (stack_of v n c x) (unnamed a la ua x) (unnamed b lb ub x)
      where
        unnamed : (ℓ : ℕ) → 1 ≤ ℓ → ¬ Named v (stack_of v n c) ℓ → (x : ℕ) → ¬ (stack_of v n c x ≡ ℓ)
        unnamed ℓ l u x e = go (dec_le x v)
          where
            go : Dec (x ≤ v) → ⊥
            go (yes m) = u (x, m, e)
            go (no m) = absurd (omega (arith, e, (stack_of_stack v n c).past x (omega arith)))
