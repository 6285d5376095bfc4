-- With more locations what held still holds, where no septraction stands under a negation; and no truth changes, where there is
-- no septraction. Assumes nothing.
use Rattle.std.specs.Prelude.{ℕ, ◌≤◌}
use Rattle.std.proofs.Common.{arith}
use Rattle.std.proofs.Math.Logic.{inl, inr, ⊎_elim}
use Rattle.logic.specs.declared.Profile.{Profile}
use Rattle.logic.specs.Heap.{Map, Stack}
use Rattle.logic.specs.Formula.{Form}
use Rattle.logic.specs.Formula.Form.{same, diff, pts, ls, conj, disj, but, neg, sep, sept}
use Rattle.logic.specs.Holds.{Holds}
use Rattle.logic.proofs.Agree.{heap_more}
use Rattle.laws.specs.Negations.{NoSeptraction, NoneUnderNegation}

pub stack_more : (v n n' : ℕ) (s : Map) → n ≤ n' → Stack v n s → Stack v n' s
stack_more v n n' s l k = record { nil = k.nil; low = λ x. omega (arith, k.low x); past = k.past }

module _ (π : Profile) (v : ℕ) where
  -- without septraction the truth is the same at all n and n', both ways
  pub same_truth : (F : Form) (n n' : ℕ) (s h : Map) → NoSeptraction F → Holds π v n F s h → Holds π v n' F s h
  unfolding NoSeptraction Holds
  same_truth (same x y) n n' s h c q = q
  same_truth (diff x y) n n' s h c q = q
  same_truth (pts x y) n n' s h c q = q
  same_truth (ls x y) n n' s h c q = q
  same_truth (conj a b) n n' s h c q = (same_truth a n n' s h c.0 q.0, same_truth b n n' s h c.1 q.1)
  same_truth (disj a b) n n' s h c q = ⊎_elim (λ y. inl (same_truth a n n' s h c.0 y)) (λ y. inr (same_truth b n n' s h c.1 y)) q
  same_truth (but a b) n n' s h c q = (same_truth a n n' s h c.0 q.0, λ y. q.1 (same_truth b n' n s h c.1 y))
  same_truth (neg a) n n' s h c q = λ y. q (same_truth a n' n s h c y)
  same_truth (sep a b) n n' s h c q =
      (q.0, q.1, q.2, q.3, same_truth a n n' s q.0 c.0 q.4, same_truth b n n' s q.1 c.1 q.5)
  same_truth (sept a b) n n' s h c q = absurd c

  -- what holds at n holds at every n' from n on, with the same stack and the same heap: an added heap still serves
  pub holds_more : (F : Form) (n n' : ℕ) (s h : Map) → n ≤ n' → NoneUnderNegation F → Holds π v n F s h → Holds π v n' F s h
  unfolding NoneUnderNegation Holds
  holds_more (same x y) n n' s h l c q = q
  holds_more (diff x y) n n' s h l c q = q
  holds_more (pts x y) n n' s h l c q = q
  holds_more (ls x y) n n' s h l c q = q
  holds_more (conj a b) n n' s h l c q = (holds_more a n n' s h l c.0 q.0, holds_more b n n' s h l c.1 q.1)
  holds_more (disj a b) n n' s h l c q = ⊎_elim (λ y. inl (holds_more a n n' s h l c.0 y)) (λ y. inr (holds_more b n n' s h l c.1 y)) q
  holds_more (but a b) n n' s h l c q = (holds_more a n n' s h l c.0 q.0, λ y. q.1 (same_truth b n' n s h c.1 y))
  holds_more (neg a) n n' s h l c q = λ y. q (same_truth a n' n s h c y)
  holds_more (sep a b) n n' s h l c q =
      (q.0, q.1, q.2, q.3, holds_more a n n' s q.0 l c.0 q.4, holds_more b n n' s q.1 l c.1 q.5)
  holds_more (sept a b) n n' s h l c q =
      (q.0, q.1, heap_more n n' q.0 l q.2, q.3, q.4, holds_more a n n' s q.0 l c.0 q.5, holds_more b n n' s q.1 l c.1 q.6)
