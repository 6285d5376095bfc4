-- Which blocks hold no lowest fit, for the candidate with stack s and heap h: so a hunt that has the two never takes a number
-- apart. Assumes nothing.
use Rattle.std.specs.Prelude.{◌≡◌}
use Rattle.std.proofs.Common.{sym}
use Rattle.std.proofs.Math.Path.{subst₂}
use Prim.Native.Nat.{ℕ, suc, ◌+◌, ◌<◌, ◌≤◌}
use Rattle.logic.specs.declared.Profile.{Profile}
use Rattle.logic.specs.Heap.{Map, Stack, Heap, Named}
use Rattle.logic.specs.Formula.{Form}
use Rattle.logic.specs.Paths.{Path}
use Rattle.logic.specs.Tests.{heap_of}
use Rattle.logic.specs.Digits.{num_of}
use Rattle.logic.specs.Candidates.{stack_of, number_of}
use Rattle.logic.proofs.CandidateLaws.{stack_of_number, heap_of_its_number}
use Rattle.laws.specs.Exchange.{exchanged_heap}
use Rattle.skips.specs.Counts.{incoming, above}
use Rattle.skips.specs.Facts.{Digits, Caps, Hopeless}
use Rattle.skips.specs.Blocks.{most_outgoing}
use Rattle.skips.specs.BlockFacts.{SkippableAt}
use Rattle.skips.proofs.BlockFacts.{skip_label, skip_hopeless, skip_digit, skip_crowded, skip_long, skip_worse}

module _ (π : Profile) (v n p : ℕ) (F : Form) (s h : Map) (ks : Stack v n s) (kh : Heap n h) where
  i : ℕ
  i = number_of v n s h

  -- what is so of s and h is so of the candidate's
  there : (Q : Map → Map → Type 0) → Q s h → Q (stack_of v n i) (heap_of n i)
  unfolding i
  there Q q = subst₂ Q (sym (stack_of_number v n s h ks kh)) (sym (heap_of_its_number v n s h ks kh)) q

  pub label_here : (x top : ℕ) → x < v → ((y : ℕ) → suc x < y → y ≤ v → s y ≤ top) → suc top < s (suc x) → SkippableAt π v n p F (number_of v n s h) (n + x)
  unfolding i
  label_here x top l m f =
      skip_label π v n p F i x top l (there (λ t _. (y : ℕ) → suc x < y → y ≤ v → t y ≤ top) m) (there (λ t _. suc top < t (suc x)) f)

  pub hopeless_here : Hopeless π v n F s → SkippableAt π v n p F (number_of v n s h) n
  unfolding i
  hopeless_here none = skip_hopeless π v n p F i (there (λ t _. Hopeless π v n F t) none)

  module _ (j : ℕ) (low : j ≤ n) where
    pub digit_here : (ℓ : ℕ) → j < ℓ → (P : ℕ → Type 0) → Digits π v n F s ℓ P → ¬ P (h ℓ) → SkippableAt π v n p F (number_of v n s h) j
    unfolding i
    digit_here ℓ l P f none = skip_digit π v n p F i j low ℓ l P (there (λ t _. Digits π v n F t ℓ P) f) (there (λ _ g. ¬ P (g ℓ)) none)

    pub crowded_here : (ℓ k : ℕ) → Caps π v n F s ℓ k → most_outgoing j h ℓ + k < incoming n (above (suc j) h) ℓ + 1 → SkippableAt π v n p F (number_of v n s h) j
    unfolding i
    crowded_here ℓ k f m =
        skip_crowded π v n p F i j low ℓ k (there (λ t _. Caps π v n F t ℓ k) f) (there (λ _ g. most_outgoing j g ℓ + k < incoming n (above (suc j) g) ℓ + 1) m)

    pub long_here : (k : ℕ) → p < k → Path k (above (suc j) h) → SkippableAt π v n p F (number_of v n s h) j
    unfolding i
    long_here k l q = skip_long π v n p F i j low k l (there (λ _ g. Path k (above (suc j) g)) q)

    pub worse_here : (a : ℕ) → 1 ≤ a → suc a ≤ n → ¬ Named v s a → ¬ Named v s (suc a) → (r base k : ℕ) → j ≤ r → (j ≡ a → suc a ≤ r) → n ≤ r + k → n + 2 ≤ base → num_of base k (λ x. exchanged_heap a (suc a) h (suc (r + x))) < num_of base k (λ x. h (suc (r + x))) → SkippableAt π v n p F (number_of v n s h) j
    unfolding i
    worse_here a la ma ua ub r base k jr far nk big less =
        skip_worse π v n p F i j low a la ma (there (λ t _. ¬ Named v t a) ua) (there (λ t _. ¬ Named v t (suc a)) ub) r base k jr far nk big
        (there (λ _ g. num_of base k (λ x. exchanged_heap a (suc a) g (suc (r + x))) < num_of base k (λ x. g (suc (r + x)))) less)
