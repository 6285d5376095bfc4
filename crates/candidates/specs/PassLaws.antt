-- The number of the first candidate after a block. Assumes nothing.
use Rattle.std.specs.Prelude.{◌≡◌, refl, ℕ, ◌+◌, ◌-◌, ◌*◌, ◌/◌, ◌%◌, ◌^◌, ◌<◌, ◌≤◌}
use Rattle.std.proofs.Common.{sym, ◌∙◌, zero-mul, mul-one, div-one, div-mul-le_self, arith}
use Rattle.std.proofs.Math.Path.{ap, ap₂}
use Rattle.std.proofs.Math.Nat.{mod-eq_of_lt, mod_self, pow-zero, one-le-pow}
use Rattle.std.proofs.Math.Decide.{dec_lt}
use Rattle.std.proofs.Math.Arith.{digits_lt}
use Rattle.logic.specs.Heap.{Stack}
use Rattle.logic.specs.Candidates.{value_of, total}
use Rattle.logic.proofs.NumberLaws.{value_lt}
use Rattle.logic.proofs.CandidateLaws.{stack_in_base, in_base_stack, heap_in_base, in_base_heap}
use Rattle.cells.specs.Cells.{word, cells}
use Rattle.skips.specs.Blocks.{weight, after}
use Rattle.skips.proofs.BlockLaws.{weight_first, weight_heap, weight_stack}
use Rattle.skips.proofs.AfterLaws.{after_more, after_heap, after_stack, after_le, after_some}
use Rattle.candidates.specs.declared.Candidate.{Candidate}
use Rattle.candidates.specs.Counter.{Bumps, WithinBounds, number, Next, Passes}
use Rattle.candidates.specs.CounterLaws.{candidate, first_range, value_zero, zero_value, number_low, number_carried}

-- after a block of one comes the next number
pub after_one : (w x : ℕ) → w ≡ 1 → after w x ≡ x + 1
after_one w x e = ap (λ (y : ℕ). after y x) e ∙ mul-one (x / 1 + 1) ∙ ap (λ (y : ℕ). y + 1) (div-one x)

module _ (c : Candidate) (ok : WithinBounds c) (j : ℕ) (lj : j ≤ c.locs) (h : ℕ) (up : Bumps (c.locs + 2) c.locs j c.heap h) where
  S : ℕ
  S = value_of (c.locs + 1) c.vars (cells c.stack)

  P : ℕ
  P = (c.locs + 2) ^ c.locs

  A : ℕ
  A = after ((c.locs + 2) ^ j) (value_of (c.locs + 2) c.locs (cells c.heap))

  most_after : A ≤ P
  unfolding A P
  most_after = after_le (c.locs + 2) j c.locs (value_of (c.locs + 2) c.locs (cells c.heap)) (omega arith) lj (value_lt (c.locs + 2) c.locs (cells c.heap) (heap_in_base c.locs (cells c.heap) ok.heap))

  some_after : 1 ≤ A
  unfolding A
  some_after = after_some ((c.locs + 2) ^ j) (value_of (c.locs + 2) c.locs (cells c.heap)) (one-le-pow j (c.locs + 2) (omega arith))

  stack_low : S < (c.locs + 1) ^ c.vars
  unfolding S
  stack_low = value_lt (c.locs + 1) c.vars (cells c.stack) (stack_in_base c.vars c.locs (cells c.stack) ok.stack)

  value_is : value_of (c.locs + 2) c.locs (cells h) ≡ A % P
  unfolding A P
  value_is = up.value

  number_after : after (weight c.locs j) (number c) ≡ S * P + (A - 1) + 1
  unfolding A S P
  number_after = after_heap c.vars c.locs (cells c.stack) (cells c.heap) ok.heap j lj ∙ omega (arith, some_after)

  range : (s : ℕ) → Stack c.vars c.locs (cells s) → WithinBounds (candidate h s c.vars c.locs)
  range s k = record { few_vars = ok.few_vars; few_locs = ok.few_locs; stack = k; heap = in_base_heap c.locs (cells h) up.base }

  pub pass_low : h < word → ¬ (h ≡ 0) → Passes (weight c.locs j) c (candidate h c.stack c.vars c.locs)
  unfolding P S
  pass_low fits some = go (dec_lt A P)
    where
      go : Dec (A < P) → Passes (weight c.locs j) c (candidate h c.stack c.vars c.locs)
      go (yes l) =
          record {
            range = range c.stack ok.stack;
            vars = refl;
            locs = refl;
            number_is = ap (λ (x : ℕ). S * P + x) (value_is ∙ mod-eq_of_lt l ∙ omega (arith, some_after)) ∙ number_low (A - 1) S P ((c.locs + 1) ^ c.vars) stack_low (omega (arith, some_after)) ∙ ap (λ (x : ℕ). x % ((c.locs + 1) ^ c.vars * P)) (sym number_after);
            stack_kept = λ _. refl;
          }
      go (no l) =
          let last : A ≡ P = omega (arith, most_after) in
          absurd (some (zero_value (c.locs + 2) c.locs h fits up.base (value_is ∙ ap (λ (x : ℕ). x % P) last ∙ mod_self P)))

  pub pass_carried : h ≡ 0 → (s : ℕ) → Bumps (c.locs + 1) c.vars 0 c.stack s → Passes (weight c.locs j) c (candidate h s c.vars c.locs)
  unfolding P S
  pass_carried none s st =
      record {
        range = range s (in_base_stack c.vars c.locs (cells s) st.base);
        vars = refl;
        locs = refl;
        number_is = ap₂ (λ (x y : ℕ). x * P + y) (st.value ∙ ap (λ (x : ℕ). x % (c.locs + 1) ^ c.vars) (after_one ((c.locs + 1) ^ 0) S (pow-zero (c.locs + 1)))) empty ∙ number_carried (A - 1) S P ((c.locs + 1) ^ c.vars) stack_low (last (dec_lt A P)) ∙ ap (λ (x : ℕ). x % ((c.locs + 1) ^ c.vars * P)) (sym number_after);
        stack_kept = λ f. absurd (f none);
      }
    where
      empty : value_of (c.locs + 2) c.locs (cells h) ≡ 0
      empty = ap (λ (x : ℕ). value_of (c.locs + 2) c.locs (cells x)) none ∙ value_zero (c.locs + 2) c.locs

      last : Dec (A < P) → A - 1 + 1 ≡ P
      last (yes l) = let z : A ≡ 0 = sym (mod-eq_of_lt l) ∙ sym value_is ∙ empty in absurd (omega (arith, some_after))
      last (no l) = omega (arith, most_after, some_after)

-- ---- a block of the stack's digits

times_mod : (a q p : ℕ) → a ≤ q → 0 < p → a % q * p + 0 ≡ a * p % (q * p)
times_mod a q p l s = go (dec_lt a q)
  where
    go : Dec (a < q) → a % q * p + 0 ≡ a * p % (q * p)
    go (yes m) = ap (λ (x : ℕ). x * p + 0) (mod-eq_of_lt m) ∙ sym (mod-eq_of_lt (digits_lt {r = 0} m s)) ∙ ap (λ (x : ℕ). x % (q * p)) (omega arith)
    go (no m) =
        let e : a ≡ q = omega arith in
        ap (λ (x : ℕ). x % q * p + 0) e
        ∙ ap (λ (x : ℕ). x * p + 0) (mod_self q)
        ∙ ap (λ (x : ℕ). x + 0) (zero-mul p)
        ∙ sym (mod_self (q * p))
        ∙ ap (λ (x : ℕ). x * p % (q * p)) (sym e)

pub pass_stack : (c : Candidate) → WithinBounds c → (x : ℕ) → x ≤ c.vars → (s : ℕ) → Bumps (c.locs + 1) c.vars x c.stack s → Passes (weight c.locs (c.locs + x)) c (candidate 0 s c.vars c.locs)
pass_stack c ok x l s up =
    let n = c.locs in
    let v = c.vars in
    let S = value_of (n + 1) v (cells c.stack) in
    let low = value_lt (n + 1) v (cells c.stack) (stack_in_base v n (cells c.stack) ok.stack) in
    record {
      range = record { few_vars = ok.few_vars; few_locs = ok.few_locs; stack = in_base_stack v n (cells s) up.base; heap = (first_range v n ok.few_vars ok.few_locs).heap };
      vars = refl;
      locs = refl;
      number_is = ap₂ (λ (a b : ℕ). a * (n + 2) ^ n + b) up.value (value_zero (n + 2) n)
          ∙ times_mod (after ((n + 1) ^ x) S) ((n + 1) ^ v) ((n + 2) ^ n) (after_le (n + 1) x v S (omega arith) l low) (one-le-pow n (n + 2) (omega arith))
          ∙ ap (λ (a : ℕ). a % total v n) (sym (after_stack v n (cells c.stack) (cells c.heap) ok.heap x));
      stack_kept = λ f. absurd (f refl);
    }

-- a block of one: the next candidate
pub passes_next : (c r : Candidate) → Passes (weight c.locs 0) c r → Next c r
passes_next c r q =
    record {
      range = q.range;
      vars = q.vars;
      locs = q.locs;
      number_is = q.number_is ∙ ap (λ (x : ℕ). x % total c.vars c.locs) (after_one (weight c.locs 0) (number c) (weight_first c.locs));
      stack_kept = q.stack_kept;
    }

-- ---- weights

pub weight_below : (n j : ℕ) → j < n → (n + 2) ^ j ≡ weight n j
weight_below n j l = sym (weight_heap n j (omega arith))

pub weight_from : (n j : ℕ) → n ≤ j → (n + 2) ^ n * (n + 1) ^ (j - n) ≡ weight n j
weight_from n j l = sym (weight_stack n (j - n)) ∙ ap (weight n) (omega arith)

pub after_most : (w i m : ℕ) → w ≤ m → i ≤ m → after w i ≤ m + m
after_most w i m l k = omega (arith, after_more w i, div-mul-le_self i w)
