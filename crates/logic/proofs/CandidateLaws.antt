-- Candidates, stacks and heaps, and model bytes are each other's inverse, whatever v and n are. Assumes nothing.
use Rattle.std.specs.Prelude.{◌≡◌, refl, List, [], ◌∷◌, ◌⊎◌, ltb, length, get_or}
use Rattle.std.proofs.Common.{sym, subst, ◌∙◌, ap, ap₂, inl, inr, ⊎_elim, div-lt_iff_lt-mul, div-add-mod', mod-lt, eq-or-lt_of_le, le_of_suc-le-suc, not-suc-le-zero, arith, length-append, get_or-append-add, ext_get_or, lt-ltb, le-ltb, eq-eqb, ne_eqb}
use Rattle.std.proofs.Math.Path.{fun_ext}
use Prim.Native.Nat.{ℕ, zero, suc, ◌+◌, ◌-◌, ◌*◌, ◌/◌, ◌%◌, ◌^◌, ◌<◌, ◌≤◌}
use Rattle.std.proofs.Math.Nat.{one-le-pow}
use Rattle.std.proofs.Math.Decide.{dec_lt, ℕ_discrete}
use Rattle.std.proofs.Math.Arith.{digits_lt, digits_div}
use Rattle.std.proofs.Math.ListN.{get_or-append}
use Rattle.std.proofs.lemmas.List.{get_or_at}
use Rattle.logic.specs.Checks.{upto, Passes}
use Rattle.logic.proofs.CheckLaws.{passes_none, passes_more}
use Rattle.logic.specs.Heap.{Map, Stack, Heap}
use Rattle.logic.specs.Tests.{pick, heap_of}
use Rattle.logic.proofs.Agree.{heap_of_heap}
use Rattle.logic.specs.Model.{stack_in, heap_in, digit_of, ByteOk, byte_checks, model_checks}
use Rattle.logic.proofs.ModelLaws.{model_stack, model_heap_is}
use Rattle.logic.specs.Candidates.{total, InBase, value_of, digits_of, stack_of, number_of, bytes_to, byte_of, model_bytes, model_of, candidate_of}
use Rattle.logic.proofs.NumberLaws.{value_lt, digits_in_base, value_digits, digits_value, digits_mod_pow}

-- ---- stacks and heaps are digits

pub stack_in_base : (v n : ℕ) (s : Map) → Stack v n s → InBase (n + 1) v s
stack_in_base v n s k = record { nil = k.nil; low = λ i. omega (arith, k.low i); past = k.past }

pub in_base_stack : (v n : ℕ) (s : Map) → InBase (n + 1) v s → Stack v n s
in_base_stack v n s r = record { nil = r.nil; low = λ i. omega (arith, r.low i); past = r.past }

pub heap_in_base : (n : ℕ) (h : Map) → Heap n h → InBase (n + 2) n h
heap_in_base n h k = record { nil = k.nil; low = λ i. omega (arith, k.low i); past = k.past }

pub in_base_heap : (n : ℕ) (h : Map) → InBase (n + 2) n h → Heap n h
in_base_heap n h r = record { nil = r.nil; past = r.past; low = λ i. omega (arith, r.low i) }

pub stack_of_stack : (v n c : ℕ) → Stack v n (stack_of v n c)
stack_of_stack v n c = in_base_stack v n (stack_of v n c) (digits_in_base (n + 1) v (c / (n + 2) ^ n) (omega arith))

pub heap_of_digits : (n c : ℕ) → heap_of n c ≡ digits_of (n + 2) n c
unfolding heap_of digits_of
heap_of_digits n c = fun_ext λ ℓ. go ℓ
  where
    go : (ℓ : ℕ) → heap_of n c ℓ ≡ digits_of (n + 2) n c ℓ
    go zero = refl
    go (suc i) = refl

-- ---- a candidate's number and its stack and heap

module _ (v n : ℕ) (s h : Map) (ks : Stack v n s) (kh : Heap n h) where
  pub number_lt : number_of v n s h < total v n
  number_lt = digits_lt (value_lt (n + 1) v s (stack_in_base v n s ks)) (value_lt (n + 2) n h (heap_in_base n h kh))

  pub stack_of_number : stack_of v n (number_of v n s h) ≡ s
  stack_of_number =
      ap (digits_of (n + 1) v) (digits_div (value_of (n + 1) v s) (value_lt (n + 2) n h (heap_in_base n h kh)))
      ∙ ap (digits_of (n + 1) v) (omega arith)
      ∙ digits_value (n + 1) v 0 s (stack_in_base v n s ks)

  pub heap_of_its_number : heap_of n (number_of v n s h) ≡ h
  heap_of_its_number = heap_of_digits n (number_of v n s h) ∙ digits_value (n + 2) n (value_of (n + 1) v s) h (heap_in_base n h kh)

pub number_of_candidate : (v n c : ℕ) → c < total v n → number_of v n (stack_of v n c) (heap_of n c) ≡ c
number_of_candidate v n c l =
    ap₂ (λ (x y : ℕ). x * (n + 2) ^ n + y)
    (value_digits (n + 1) v (c / (n + 2) ^ n) (omega arith) ((div-lt_iff_lt-mul p).1 l))
    (ap (value_of (n + 2) n) (heap_of_digits n c ∙ digits_mod_pow (n + 2) n c (omega arith)) ∙ value_digits (n + 2) n (c % (n + 2) ^ n) (omega arith) (mod-lt c p))
    ∙ div-add-mod' c ((n + 2) ^ n)
  where
    p : 0 < (n + 2) ^ n
    p = one-le-pow n (n + 2) (omega arith)

-- ---- a model's bytes and its stack and heap

pub bytes_long : (k : ℕ) (m : Map) → length (bytes_to k m) ≡ k
unfolding bytes_to
bytes_long zero m = refl
bytes_long (suc k) m = simp length-append (omega (arith, bytes_long k m))

pub bytes_at : (k : ℕ) (m : Map) (i : ℕ) → i < k → get_or (bytes_to k m) i 0 ≡ m (suc i)
unfolding bytes_to
bytes_at zero m i l = absurd (not-suc-le-zero l)
bytes_at (suc k) m i l =
    ⊎_elim
    (λ (e : i ≡ k). rw e (get_or_at (bytes_to k m) (m (suc k)) [] 0 k (bytes_long k m)))
    (λ (q : i < k). get_or-append (bytes_to k m) (m (suc k) ∷ []) 0 i (subst (λ (x : ℕ). i < x) (sym (bytes_long k m)) q) ∙ bytes_at k m i q)
    (eq-or-lt_of_le (le_of_suc-le-suc l))

byte_digit : (d : ℕ) → d < 256 → digit_of (byte_of d) ≡ d
byte_digit d l = go (ℕ_discrete d 0)
  where
    go : Dec (d ≡ 0) → digit_of (byte_of d) ≡ d
    go (yes e) = rw (eq-eqb d 0 e) (sym e)
    go (no e) = rw (ne_eqb d 0 e, ne_eqb (d - 1) 255 (λ (z : d - 1 ≡ 255). omega arith)) (omega arith)

digit_byte : (x : ℕ) → byte_of (digit_of x) ≡ x
digit_byte x = go (ℕ_discrete x 255)
  where
    go : Dec (x ≡ 255) → byte_of (digit_of x) ≡ x
    go (yes e) = rw (eq-eqb x 255 e) (sym e)
    go (no e) = rw (ne_eqb x 255 e, ne_eqb (suc x) 0 (λ (z : suc x ≡ 0). omega arith)) (omega arith)

module _ (v n : ℕ) (s h : Map) where
  pub model_long : length (model_bytes v n s h) ≡ v + n
  model_long = simp length-append (omega (arith, bytes_long v s, bytes_long n (λ ℓ. byte_of (h ℓ))))

  stack_byte : (i : ℕ) → i < v → get_or (model_bytes v n s h) i 0 ≡ s (suc i)
  stack_byte i l =
      get_or-append (bytes_to v s) (bytes_to n (λ ℓ. byte_of (h ℓ))) 0 i (subst (λ (x : ℕ). i < x) (sym (bytes_long v s)) l) ∙ bytes_at v s i l

  cell_byte : (i : ℕ) → i < n → get_or (model_bytes v n s h) (v + i) 0 ≡ byte_of (h (suc i))
  cell_byte i l =
      ap (λ (x : ℕ). get_or (model_bytes v n s h) (x + i) 0) (sym (bytes_long v s))
      ∙ get_or-append-add (bytes_to v s) (bytes_to n (λ ℓ. byte_of (h ℓ))) i 0
      ∙ bytes_at n (λ ℓ. byte_of (h ℓ)) i l

  pub stack_in_model : Stack v n s → stack_in v (model_bytes v n s h) ≡ s
  unfolding stack_in
  stack_in_model k = fun_ext λ x. go x
    where
      at : (i : ℕ) → Dec (i < v) → pick (ltb i v) (get_or (model_bytes v n s h) i 0) 0 ≡ s (suc i)
      at i (yes l) = rw (lt-ltb i v l) (stack_byte i l)
      at i (no l) = rw (le-ltb i v (omega arith)) (sym (k.past (suc i) (omega arith)))

      go : (x : ℕ) → stack_in v (model_bytes v n s h) x ≡ s x
      go zero = sym k.nil
      go (suc i) = at i (dec_lt i v)

  -- 255 is no value: "the value 0 to n, or 255 for unallocated"
  pub heap_in_model : n < 255 → Heap n h → heap_in v n (model_bytes v n s h) ≡ h
  unfolding heap_in
  heap_in_model few k = fun_ext λ ℓ. go ℓ
    where
      at : (i : ℕ) → Dec (i < n) → pick (ltb i n) (digit_of (get_or (model_bytes v n s h) (v + i) 0)) 0 ≡ h (suc i)
      at i (yes l) = rw (lt-ltb i n l) (ap digit_of (cell_byte i l) ∙ byte_digit (h (suc i)) (omega (arith, k.low (suc i))))
      at i (no l) = rw (le-ltb i n (omega arith)) (sym (k.past (suc i) (omega arith)))

      go : (ℓ : ℕ) → heap_in v n (model_bytes v n s h) ℓ ≡ h ℓ
      go zero = sym k.nil
      go (suc i) = at i (dec_lt i n)

  pub model_in_range : Stack v n s → Heap n h → Passes (model_checks v n (model_bytes v n s h))
  unfolding Passes
  model_in_range ks kh = (model_long, up (v + n) (λ i l. (ok i l (dec_lt i v), tt)))
    where
      up : (k : ℕ) → ((i : ℕ) → i < k → Passes (byte_checks v n (model_bytes v n s h) i)) → Passes (upto (byte_checks v n (model_bytes v n s h)) k)
      up zero q = passes_none (byte_checks v n (model_bytes v n s h))
      up (suc k) q = passes_more (byte_checks v n (model_bytes v n s h)) k (up k (λ i l. q i (omega arith))) (q k (omega arith))

      cell_ok : (d : ℕ) → d ≤ suc n → Dec (d ≡ 0) → (byte_of d ≤ n) ⊎ (byte_of d ≡ 255)
      cell_ok d l (yes e) = rw (eq-eqb d 0 e) (inr refl)
      cell_ok d l (no e) = rw (ne_eqb d 0 e) (inl (omega arith))

      ok : (i : ℕ) → i < v + n → Dec (i < v) → ByteOk v n (model_bytes v n s h) i
      ok i l (yes q) = inl (subst (λ (x : ℕ). x ≤ n) (sym (stack_byte i q)) (ks.low (suc i)))
      ok i l (no q) =
          let j = i - v in
          let e : i ≡ v + j = omega arith in
          let b : get_or (model_bytes v n s h) i 0 ≡ byte_of (h (suc j)) = ap (λ (x : ℕ). get_or (model_bytes v n s h) x 0) e ∙ cell_byte j (omega arith) in
          ⊎_elim (λ (z : byte_of (h (suc j)) ≤ n). inl (subst (λ (x : ℕ). x ≤ n) (sym b) z)) (λ z. inr (omega arith, b ∙ z))
          (cell_ok (h (suc j)) (kh.low (suc j)) (ℕ_discrete (h (suc j)) 0))

-- a model in range is that of its stack and heap
pub model_of_model : (v n : ℕ) (m : List ℕ) → Passes (model_checks v n m) → model_bytes v n (stack_in v m) (heap_in v n m) ≡ m
unfolding Passes stack_in heap_in
model_of_model v n m ok =
    ext_get_or 0 (model_bytes v n (stack_in v m) (heap_in v n m)) m (model_long v n (stack_in v m) (heap_in v n m) ∙ sym ok.0)
    (λ i l. each i (subst (λ (x : ℕ). i < x) (model_long v n (stack_in v m) (heap_in v n m)) l) (dec_lt i v))
  where
    stack_is : (i : ℕ) → i < v → stack_in v m (suc i) ≡ get_or m i 0
    stack_is i l = rw (lt-ltb i v l)

    heap_is : (i : ℕ) → i < n → heap_in v n m (suc i) ≡ digit_of (get_or m (v + i) 0)
    heap_is i l = rw (lt-ltb i n l)

    each : (i : ℕ) → i < v + n → Dec (i < v) → get_or (model_bytes v n (stack_in v m) (heap_in v n m)) i 0 ≡ get_or m i 0
    each i l (yes q) = stack_byte v n (stack_in v m) (heap_in v n m) i q ∙ stack_is i q
    each i l (no q) =
        let j = i - v in
        let e : i ≡ v + j = omega arith in
        let b : j < n = omega arith in
        ap (λ (x : ℕ). get_or (model_bytes v n (stack_in v m) (heap_in v n m)) x 0) e
        ∙ cell_byte v n (stack_in v m) (heap_in v n m) j b
        ∙ ap byte_of (heap_is j b)
        ∙ digit_byte (get_or m (v + j) 0)
        ∙ ap (λ (x : ℕ). get_or m x 0) (sym e)

-- ---- a candidate's number and its model bytes

pub candidate_of_model : (v n c : ℕ) → n < 255 → c < total v n → candidate_of v n (model_of v n c) ≡ c
candidate_of_model v n c few l =
    ap₂ (number_of v n) (stack_in_model v n (stack_of v n c) (heap_of n c) (stack_of_stack v n c))
    (heap_in_model v n (stack_of v n c) (heap_of n c) few (heap_of_heap n c))
    ∙ number_of_candidate v n c l

module _ (v n : ℕ) (m : List ℕ) (ok : Passes (model_checks v n m)) where
  pub candidate_lt : candidate_of v n m < total v n
  candidate_lt = number_lt v n (stack_in v m) (heap_in v n m) (model_stack v n m ok) (model_heap_is v n m ok)

  pub model_of_candidate : model_of v n (candidate_of v n m) ≡ m
  model_of_candidate =
      ap₂ (model_bytes v n) (stack_of_number v n (stack_in v m) (heap_in v n m) (model_stack v n m ok) (model_heap_is v n m ok))
      (heap_of_its_number v n (stack_in v m) (heap_in v n m) (model_stack v n m ok) (model_heap_is v n m ok))
      ∙ model_of_model v n m ok
