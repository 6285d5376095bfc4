-- Laws of the order of refusals: one answer at most, and how the checks of two parts make the checks of both. Assumes nothing.
use Rattle.std.specs.Prelude.{◌≡◌, ◌⊎◌}
use Rattle.std.proofs.Common.{sym, ◌∙◌, ap, inl, inr, not-suc-le-zero, eq-or-lt_of_le, le_of_suc-le-suc, arith}
use Rattle.std.proofs.Math.Logic.{⊎_elim}
use Prim.Native.Nat.{ℕ, zero, suc, ◌<◌}
use Rattle.logic.specs.declared.Answer.{Answer}
use Rattle.logic.specs.Checks.{Checks, done, check, ◌then◌, upto, Passes, Answers}
use Rattle.logic.specs.CheckLaws.{Single, Yes, Refuses}

pub answers_single : (c : Checks) (R : Answer → Type 0) → Single R → Single (Answers c R)
unfolding Answers
answers_single done R one a b p q = one a b p q
answers_single (check P m k c) R one a b p q =
    ⊎_elim (λ x. ⊎_elim (λ y. x.1 ∙ sym y.1) (λ y. absurd (x.0 y.0)) q)
    (λ x. ⊎_elim (λ y. absurd (y.0 x.0)) (λ y. answers_single c R one a b x.1 y.1) q) p

pub yes_single : Single Yes
yes_single a b p q = p ∙ sym q

pub answers_passed : (c : Checks) (R : Answer → Type 0) (a : Answer) → Passes c → R a → Answers c R a
unfolding Passes Answers
answers_passed done R a p r = r
answers_passed (check P m k c) R a p r = inr (p.0, answers_passed c R a p.1 r)

-- what an answer says where every part holds
pub answers_rest : (c : Checks) (R : Answer → Type 0) (a : Answer) → Passes c → Answers c R a → R a
unfolding Passes Answers
answers_rest done R a p q = q
answers_rest (check P m k c) R a p q = ⊎_elim (λ x. absurd (x.0 p.0)) (λ x. answers_rest c R a p.1 x.1) q

-- number 0 is no refusal's: every part holds, and what is left says the rest
pub answers_zero : (c : Checks) (R : Answer → Type 0) (a : Answer) → Refuses c → Answers c R a → a.number ≡ 0 → Passes c × R a
unfolding Refuses Passes Answers
answers_zero done R a w q e = (tt, q)
answers_zero (check P m k c) R a w q e =
    ⊎_elim (λ x. let z : m ≡ 0 = ap (λ (r : Answer). r.number) (sym x.1) ∙ e in absurd (omega (arith, w.0)))
    (λ x. let y = answers_zero c R a w.1 x.1 e in ((x.0, y.0), y.1)) q

pub passes_of_yes : (c : Checks) (a : Answer) → Refuses c → Answers c Yes a → a.number ≡ 0 → Passes c
passes_of_yes c a w q e = (answers_zero c Yes a w q e).0

pub fails_of_refused : (c : Checks) (a : Answer) → Answers c Yes a → ¬ (a.number ≡ 0) → ¬ Passes c
fails_of_refused c a q f p = f (ap (λ (r : Answer). r.number) (answers_rest c Yes a p q))

-- a refusal stays whatever is checked after it
pub answers_refused : (c : Checks) (R : Answer → Type 0) (d : Checks) (a : Answer) → Answers c Yes a → ¬ (a.number ≡ 0) → Answers (c then d) R a
unfolding Answers ◌then◌
answers_refused done R d a q f = absurd (f (ap (λ (r : Answer). r.number) q))
answers_refused (check P m k c) R d a q f = ⊎_elim inl (λ x. inr (x.0, answers_refused c R d a x.1 f)) q

-- a refusal is one whatever the answer would be where every part holds
pub answers_other : (c : Checks) (R : Answer → Type 0) (a : Answer) → Answers c Yes a → ¬ (a.number ≡ 0) → Answers c R a
unfolding Answers
answers_other done R a q f = absurd (f (ap (λ (r : Answer). r.number) q))
answers_other (check P m k c) R a q f = ⊎_elim inl (λ x. inr (x.0, answers_other c R a x.1 f)) q

-- the checks after those that passed
pub answers_after : (c d : Checks) (R : Answer → Type 0) (a : Answer) → Passes c → Answers d R a → Answers (c then d) R a
unfolding Passes Answers ◌then◌
answers_after done d R a p q = q
answers_after (check P m k c) d R a p q = inr (p.0, answers_after c d R a p.1 q)

-- an answer to c's parts and then d's: c refuses, or c's parts hold and it is an answer to d's
pub answers_split : (c d : Checks) (R : Answer → Type 0) (a : Answer) → Answers (c then d) R a → (Answers c Yes a × (¬ Passes c)) ⊎ (Passes c × Answers d R a)
unfolding Passes Answers ◌then◌
answers_split done d R a q = inr (tt, q)
answers_split (check P m k c) d R a q =
    ⊎_elim (λ x. inl (inl x, λ p. x.0 p.0))
    (λ x. ⊎_elim (λ y. inl (inr (x.0, y.0), λ p. y.1 p.1)) (λ y. inr ((x.0, y.0), y.1)) (answers_split c d R a x.1)) q

pub passes_then : (c d : Checks) → Passes c → Passes d → Passes (c then d)
unfolding Passes ◌then◌
passes_then done d p q = q
passes_then (check P m k c) d p q = (p.0, passes_then c d p.1 q)

pub then_passes : (c d : Checks) → Passes (c then d) → Passes c × Passes d
unfolding Passes ◌then◌
then_passes done d p = (tt, p)
then_passes (check P m k c) d p = let q = then_passes c d p.1 in ((p.0, q.0), q.1)

pub refuses_then : (c d : Checks) → Refuses c → Refuses d → Refuses (c then d)
unfolding Refuses ◌then◌
refuses_then done d p q = q
refuses_then (check P m k c) d p q = (p.0, refuses_then c d p.1 q)

module _ (f : ℕ → Checks) where
  pub refuses_upto : ((k : ℕ) → Refuses (f k)) → (n : ℕ) → Refuses (upto f n)
  unfolding upto Refuses
  refuses_upto w zero = tt
  refuses_upto w (suc n) = refuses_then (upto f n) (f n) (refuses_upto w n) (w n)

  pub passes_none : Passes (upto f 0)
  unfolding upto Passes
  passes_none = tt

  pub passes_more : (k : ℕ) → Passes (upto f k) → Passes (f k) → Passes (upto f (suc k))
  unfolding upto
  passes_more k p q = passes_then (upto f k) (f k) p q

  pub passes_at : (n : ℕ) → Passes (upto f n) → (k : ℕ) → k < n → Passes (f k)
  unfolding upto
  passes_at zero p k l = absurd (not-suc-le-zero l)
  passes_at (suc n) p k l =
      let q = then_passes (upto f n) (f n) p in
      ⊎_elim (λ (e : k ≡ n). rw e q.1) (λ (m : k < n). passes_at n q.0 k m) (eq-or-lt_of_le (le_of_suc-le-suc l))

  -- the first that is refused, where those before it passed
  pub upto_refused : (n k : ℕ) (a : Answer) → k < n → Passes (upto f k) → Answers (f k) Yes a → ¬ (a.number ≡ 0) → Answers (upto f n) Yes a
  unfolding upto
  upto_refused zero k a l p q w = absurd (not-suc-le-zero l)
  upto_refused (suc n) k a l p q w =
      ⊎_elim (λ (e : k ≡ n). here e) (λ (m : k < n). there (upto_refused n k a m p q w)) (eq-or-lt_of_le (le_of_suc-le-suc l))
    where
      here : k ≡ n → Answers (upto f (suc n)) Yes a
      here e = rw (← e) (answers_after (upto f k) (f k) Yes a p q)

      there : Answers (upto f n) Yes a → Answers (upto f (suc n)) Yes a
      there r = answers_refused (upto f n) Yes (f n) a r w
