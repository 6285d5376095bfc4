-- Arrays that are unpacked row by row. Assumes nothing.
use Rattle.std.specs.Prelude.{◌≡◌, refl, List, ℕ, zero, suc, ◌+◌, ◌*◌, ◌<◌, ◌≤◌, ltb, length, get_or, set, take, drop, ◌-◌}
use Rattle.std.proofs.Common.{sym, subst, ◌∙◌, ap, ⊎_elim, eq-or-lt_of_le, le_of_suc-le-suc, mul-le-mul_right, suc-mul, ne_of_lt, add-one, arith, get_or-set_same, get_or-set_other, lt-ltb, le-ltb}
use Rattle.std.proofs.Math.Path.{fun_ext}
use Rattle.std.proofs.Math.Decide.{dec_lt, ℕ_discrete}
use Rattle.std.proofs.lemmas.List.{get_or-take, get_or-drop, length-take}
use Rattle.std.proofs.Math.ListN.{get_or-eq_default}
use Rattle.logic.specs.Tests.{pick}
use Rattle.rows.specs.Assigned.{array_in}
use Rattle.arrays.specs.Unpacked.{values_of}

-- what holds of each entry below i, and of x at i, holds of each below i + 1 once x is stored at i
pub set_below : {A : Type 0} (P : ℕ → A → Type 0) (d : A) (l : List A) (i : ℕ) (x : A) → i < length l
    → ((k : ℕ) → k < i → P k (get_or l k d)) → P i x → (k : ℕ) → k < i + 1 → P k (get_or (set l i x) k d)
set_below P d l i x h all here k lt =
    ⊎_elim
    (λ e. subst (λ (m : ℕ). P m (get_or (set l i x) m d)) (sym e) (subst (P i) (sym (get_or-set_same l i x d h)) here))
    (λ less. subst (P k) (sym (get_or-set_other l i k x d (λ e. ne_of_lt less e))) (all k less))
    (eq-or-lt_of_le (le_of_suc-le-suc (subst (λ (m : ℕ). k < m) (add-one i) lt)))

-- what holds of each entry and of x holds of each entry once x is stored
pub set_each : {A : Type 0} (P : A → Type 0) (d : A) (l : List A) (i n : ℕ) (x : A) → i < length l → ((k : ℕ) → k < n → P (get_or l k d)) → P x → (k : ℕ) → k < n → P (get_or (set l i x) k d)
set_each P d l i n x h all here k lt = go (ℕ_discrete k i)
  where
    go : Dec (k ≡ i) → P (get_or (set l i x) k d)
    go (yes e) = subst P (sym (ap (λ (m : ℕ). get_or (set l i x) m d) e ∙ get_or-set_same l i x d h)) here
    go (no e) = subst P (sym (get_or-set_other l i k x d e)) (all k lt)

-- the n bytes from a place on, as code cuts them out
pub bytes_are : (q : List ℕ) (at n j : ℕ) → get_or (take (at + n - at) (drop at q)) j 0 ≡ pick (ltb j n) (get_or q (at + j) 0) 0
bytes_are q at n j = go (dec_lt j n)
  where
    size : at + n - at ≡ n
    size = omega arith

    go : Dec (j < n) → get_or (take (at + n - at) (drop at q)) j 0 ≡ pick (ltb j n) (get_or q (at + j) 0) 0
    go (yes l) = rw (size, lt-ltb j n l) (get_or-take n (drop at q) j 0 l ∙ get_or-drop at q j 0)
    go (no l) = rw (size, le-ltb j n (omega arith)) (get_or-eq_default (take n (drop at q)) 0 {n = j} (omega (arith, length-take n (drop at q))))

pub rows_fit : (i n m : ℕ) → i < m → i * n + n ≤ m * n
rows_fit i n m h = subst (λ (k : ℕ). k ≤ m * n) (suc-mul i n) (mul-le-mul_right n h)

-- a row is its array
pub row_array : (v n a at i : ℕ) (q r : List ℕ) → i < a → at ≡ v + i * n → ((j : ℕ) → get_or r j 0 ≡ pick (ltb j n) (get_or q (at + j) 0) 0) → values_of r ≡ array_in v n a q i
unfolding values_of array_in
row_array v n a at i q r l e f = fun_ext λ ℓ. go ℓ
  where
    go : (ℓ : ℕ) → values_of r ℓ ≡ array_in v n a q i ℓ
    go zero = refl
    go (suc j) = f j ∙ rw (lt-ltb i a l, e)
