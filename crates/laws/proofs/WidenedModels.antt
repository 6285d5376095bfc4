-- The widened model has the same stack and the same heap. Assumes nothing.
use Rattle.std.specs.Prelude.{◌≡◌, refl, List, ℕ, zero, suc, ◌+◌, ◌-◌, ◌<◌, ◌≤◌, ltb, length, get_or, replicate}
use Rattle.std.proofs.Common.{◌∙◌, arith, get_or-append-add}
use Rattle.std.proofs.Math.Path.{ap, fun_ext}
use Rattle.std.proofs.Math.Decide.{dec_lt}
use Rattle.std.proofs.Math.ListN.{get_or-append}
use Rattle.std.proofs.lemmas.List.{get_or-replicate}
use borrow.Author.Tests.{lt-ltb, le-ltb}
use Rattle.logic.specs.Tests.{pick}
use Rattle.logic.specs.Model.{stack_in, heap_in, digit_of}
use Rattle.laws.specs.Wider.{widened}

module _ (v n n' : ℕ) (m : List ℕ) (long : length m ≡ v + n) (l : n ≤ n') where
  old_byte : (i : ℕ) → i < v + n → get_or (widened n n' m) i 0 ≡ get_or m i 0
  old_byte i q = get_or-append m (replicate (n' - n) 255) 0 i (omega arith)

  new_byte : (i : ℕ) → n ≤ i → i < n' → get_or (widened n n' m) (v + i) 0 ≡ 255
  new_byte i q u =
      let e : v + i ≡ length m + (i - n) = omega arith in
      ap (λ (j : ℕ). get_or (widened n n' m) j 0) e
      ∙ get_or-append-add m (replicate (n' - n) 255) (i - n) 0
      ∙ get_or-replicate (n' - n) (i - n) 255 0 (omega arith)

  pub widened_stack : stack_in v (widened n n' m) ≡ stack_in v m
  unfolding stack_in
  widened_stack = fun_ext λ x. go x
    where
      at : (i : ℕ) → Dec (i < v) → pick (ltb i v) (get_or (widened n n' m) i 0) 0 ≡ pick (ltb i v) (get_or m i 0) 0
      at i (yes q) = ap (λ (y : ℕ). pick (ltb i v) y 0) (old_byte i (omega arith))
      at i (no q) = rw (le-ltb i v (omega arith))

      go : (x : ℕ) → stack_in v (widened n n' m) x ≡ stack_in v m x
      go zero = refl
      go (suc i) = at i (dec_lt i v)

  pub widened_heap : heap_in v n' (widened n n' m) ≡ heap_in v n m
  unfolding heap_in
  widened_heap = fun_ext λ ℓ. go ℓ
    where
      at : (i : ℕ) → Dec (i < n) → Dec (i < n') → pick (ltb i n') (digit_of (get_or (widened n n' m) (v + i) 0)) 0 ≡ pick (ltb i n) (digit_of (get_or m (v + i) 0)) 0
      at i (yes q) u = rw (lt-ltb i n q, lt-ltb i n' (omega arith)) (ap digit_of (old_byte (v + i) (omega arith)))
      at i (no q) (yes u) = rw (le-ltb i n (omega arith), lt-ltb i n' u) (ap digit_of (new_byte i (omega arith) u))
      at i (no q) (no u) = rw (le-ltb i n (omega arith), le-ltb i n' (omega arith))

      go : (ℓ : ℕ) → heap_in v n' (widened n n' m) ℓ ≡ heap_in v n m ℓ
      go zero = refl
      go (suc i) = at i (dec_lt i n) (dec_lt i n')
