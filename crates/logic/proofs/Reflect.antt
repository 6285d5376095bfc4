-- A test that says whether a fact holds, and how the tests' connectives follow those of the facts. Assumes nothing.
use Rattle.std.specs.Prelude.{◌≡◌, Bool, true, false, not, List, [], ◌∷◌, ◌⊎◌, eqb, leb, ltb, length, get_or, drop}
use Rattle.std.proofs.Math.Path.{refl, subst}
use Rattle.std.proofs.Common.{sym, ap, ap₂, ◌∙◌, not-suc-le-zero, eq-or-lt_of_le, le_of_suc-le-suc, eqb-true, eq-eqb, leb-true, le-leb, ltb-true, lt-ltb}
use Rattle.std.proofs.Math.Logic.{inl, inr, ⊎_elim}
use Prim.Native.Nat.{ℕ, zero, suc, ◌<◌, ◌≤◌}
use Rattle.std.proofs.Math.Decide.{ℕ_discrete}
use native.Mathlib.Omega.{arith}
use Rattle.logic.specs.Tests.{andb, orb, same_bytes, any, all}
use Rattle.logic.specs.Reflect.{Is}

pub false_true : {P : Type 0} → false ≡ true → P
false_true e = let z : ◌≡◌ {A = ℕ} 0 1 = cc in absurd (omega arith)

pub is_iff : {b : Bool} {P Q : Type 0} → Is b P → (P → Q) → (Q → P) → Is b Q
is_iff i f g = record { to = λ e. f (i.to e); from = λ q. i.from (g q) }

pub is_self : (b : Bool) → Is b (b ≡ true)
is_self b = record { to = λ e. e; from = λ e. e }

pub is_eq : (m n : ℕ) → Is (eqb m n) (m ≡ n)
is_eq m n = record { to = eqb-true m n; from = eq-eqb m n }

pub is_le : (m n : ℕ) → Is (leb m n) (m ≤ n)
is_le m n = record { to = leb-true m n; from = le-leb m n }

pub is_lt : (m n : ℕ) → Is (ltb m n) (m < n)
is_lt m n = record { to = ltb-true m n; from = lt-ltb m n }

pub is_and : (a b : Bool) {P Q : Type 0} → Is a P → Is b Q → Is (andb a b) (P × Q)
is_and true b i j = record { to = λ e. (i.to refl, j.to e); from = λ q. j.from q.1 }
is_and false b i j = record { to = λ e. false_true e; from = λ q. i.from q.0 }

pub is_or : (a b : Bool) {P Q : Type 0} → Is a P → Is b Q → Is (orb a b) (P ⊎ Q)
is_or true b i j = record { to = λ e. inl (i.to refl); from = λ q. refl }
is_or false b i j = record { to = λ e. inr (j.to e); from = λ q. ⊎_elim (λ p. false_true (i.from p)) (λ p. j.from p) q }

pub is_not : (a : Bool) {P : Type 0} → Is a P → Is (not a) (¬ P)
is_not true i = record { to = λ e. false_true e; from = λ f. absurd (f (i.to refl)) }
is_not false i = record { to = λ e p. false_true (i.from p); from = λ f. refl }

pub is_same_bytes : (xs ys : List ℕ) → Is (same_bytes xs ys) (xs ≡ ys)
unfolding same_bytes
is_same_bytes [] [] = record { to = λ e. refl; from = λ q. refl }
is_same_bytes [] (y ∷ ys) = record { to = λ e. false_true e; from = λ q. absurd (omega (arith, ap length q)) }
is_same_bytes (x ∷ xs) [] = record { to = λ e. false_true e; from = λ q. absurd (omega (arith, ap length q)) }
is_same_bytes (x ∷ xs) (y ∷ ys) =
    is_iff (is_and (eqb x y) (same_bytes xs ys) (is_eq x y) (is_same_bytes xs ys))
    (λ q. ap₂ (λ (u : ℕ) (us : List ℕ). u ∷ us) q.0 q.1)
    (λ q. (ap (λ (l : List ℕ). get_or l 0 0) q, ap (drop 1) q))

module _ (f : ℕ → Bool) (P : ℕ → Type 0) where
  pub is_all : (k : ℕ) → ((i : ℕ) → i < k → Is (f i) (P i)) → Is (all k f) ((i : ℕ) → i < k → P i)
  unfolding all
  is_all zero h = record { to = λ e i l. absurd (not-suc-le-zero l); from = λ q. refl }
  is_all (suc k) h =
      is_iff (is_and (all k f) (f k) (is_all k (λ i l. h i (omega arith))) (h k (omega arith)))
      (λ q i l. ⊎_elim (λ (e : i ≡ k). subst P (sym e) q.1) (λ (m : i < k). q.0 i m) (eq-or-lt_of_le (le_of_suc-le-suc l)))
      (λ q. (λ i l. q i (omega arith), q k (omega arith)))

  pub is_any : (k : ℕ) → ((i : ℕ) → i < k → Is (f i) (P i)) → Is (any k f) ((i : ℕ) × (i < k) × P i)
  unfolding any
  is_any zero h = record { to = λ e. false_true e; from = λ q. absurd (not-suc-le-zero q.1) }
  is_any (suc k) h =
      is_iff (is_or (any k f) (f k) (is_any k (λ i l. h i (omega arith))) (h k (omega arith)))
      (⊎_elim (λ q. (q.0, omega (arith, q.1), q.2)) (λ q. (k, omega arith, q)))
      (λ q. ⊎_elim (λ (e : q.0 ≡ k). inr (subst P e q.2)) (λ (m : q.0 < k). inl (q.0, m, q.2)) (eq-or-lt_of_le (le_of_suc-le-suc q.1)))

-- two tests of one fact are equal
pub is_same : (a b : Bool) {P : Type 0} → Is a P → Is b P → a ≡ b
is_same true b i j = sym (j.from (i.to refl))
is_same false true i j = i.from (j.to refl)
is_same false false i j = refl

-- where the test does not pass, the fact does not hold
pub fails : (b : Bool) {P : Type 0} → Is b P → b ≡ false → ¬ P
fails b i e p = false_true (sym e ∙ i.from p)

-- and where the fact does not hold, the test does not pass
pub refutes : (b : Bool) {P : Type 0} → Is b P → ¬ P → b ≡ false
refutes true i f = absurd (f (i.to refl))
refutes false i f = refl

-- a fact that a test says is decided
pub decided : (b : Bool) {P : Type 0} → Is b P → P ⊎ (¬ P)
decided true i = inl (i.to refl)
decided false i = inr (λ p. false_true (i.from p))

-- a double negation of an equation of numbers
pub same_of_not : (a b : ℕ) → ¬ ¬ (a ≡ b) → a ≡ b
same_of_not a b f = go (ℕ_discrete a b)
  where
    go : Dec (a ≡ b) → a ≡ b
    go (yes e) = e
    go (no e) = absurd (f e)
