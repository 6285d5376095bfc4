-- A rule of a table, of any kind of entry, proved at all of its entries by one test that computes. Assumes nothing.
use Rattle.std.specs.Prelude.{◌≡◌, Bool, true, length, get_or}
use Rattle.std.proofs.Common.{◌∙◌, add-zero, zero-add, add-suc, suc-add, le_of_suc-le-suc, not-suc-le-zero}
use Rattle.std.proofs.Math.Path.{subst, sym}
use mathlib.Core.List.{List, [], ◌∷◌}
use Prim.Native.Nat.{ℕ, zero, suc, ◌+◌, ◌<◌}
use Rattle.logic.specs.Tests.{andb}
use Rattle.logic.proofs.Reflect.{is_and, is_self}

module _ {A : Type 0} where
  -- the test passes at each entry, of which the first has number i
  unfoldable pub every : (ℕ → A → Bool) → ℕ → List A → Bool
  every f i [] = true
  every f i (x ∷ xs) = let r = every f (suc i) xs in andb (f i x) r

  entry_from : (d : A) (f : ℕ → A → Bool) (xs : List A) (i : ℕ) → every f i xs ≡ true → (k : ℕ) → k < length xs → f (i + k) (get_or xs k d) ≡ true
  unfolding every
  entry_from d f [] i t k h = absurd (not-suc-le-zero h)
  entry_from d f (x ∷ xs) i t zero h =
      subst (λ (m : ℕ). f m x ≡ true) (sym (add-zero i)) ((is_and (f i x) (every f (suc i) xs) (is_self (f i x)) (is_self (every f (suc i) xs))).to t).0
  entry_from d f (x ∷ xs) i t (suc k) h =
      subst (λ (m : ℕ). f m (get_or xs k d) ≡ true) (suc-add i k ∙ sym (add-suc i k))
      (entry_from d f xs (suc i) ((is_and (f i x) (every f (suc i) xs) (is_self (f i x)) (is_self (every f (suc i) xs))).to t).1 k (le_of_suc-le-suc h))

  pub entry_of : (d : A) (f : ℕ → A → Bool) (xs : List A) → every f 0 xs ≡ true → (k : ℕ) → k < length xs → f k (get_or xs k d) ≡ true
  entry_of d f xs t k h = subst (λ (m : ℕ). f m (get_or xs k d) ≡ true) (zero-add k) (entry_from d f xs 0 t k h)
