-- The digits of a node from those of its children: one rule an operator. Assumes nothing.
use Rattle.std.specs.Prelude.{◌≡◌, ◌⊎◌, ℕ, suc, ◌<◌, ◌≤◌}
use Rattle.std.proofs.Common.{sym, ◌∙◌, eq-or-lt_of_le, arith}
use Rattle.std.proofs.Math.Path.{subst, ap}
use Rattle.std.proofs.Math.Logic.{inl, inr, ⊎_elim}
use Rattle.std.proofs.Math.Decide.{ℕ_discrete}
use Rattle.logic.specs.declared.Profile.{Profile}
use Rattle.logic.specs.Heap.{Map, Heap, Allocated, Parts}
use Rattle.logic.specs.Formula.{Form}
use Rattle.logic.specs.Formula.Form.{same, diff, pts, ls, conj, disj, but, neg, sep, sept}
use Rattle.logic.specs.Holds.{Points, Chain, Holds}
use Rattle.logic.proofs.Reflect.{same_of_not}
use Rattle.logic.proofs.Agree.{first_heap, second_heap}
use Rattle.skips.specs.Facts.{Digits, Hopeless, PointsDigit, ListCell, ListDigit, AnyDigit, SepDigit, SeptDigit, May}

-- a whole is a heap where its two parts are
pub whole_heap : (n : ℕ) (g r u : Map) → Parts g r u → Heap n g → Heap n r → Heap n u
whole_heap n g r u p k q =
    record {
      nil = at 0 k.nil q.nil;
      past = λ ℓ l. at ℓ (k.past ℓ l) (q.past ℓ l);
      low = λ ℓ. ⊎_elim (λ (e : (g ℓ ≡ u ℓ) × (r ℓ ≡ 0)). omega (arith, e.0, k.low ℓ)) (λ (e : (g ℓ ≡ 0) × (r ℓ ≡ u ℓ)). omega (arith, e.1, q.low ℓ)) (p ℓ);
    }
  where
    at : (ℓ : ℕ) → g ℓ ≡ 0 → r ℓ ≡ 0 → u ℓ ≡ 0
    at ℓ a b = ⊎_elim (λ (e : (g ℓ ≡ u ℓ) × (r ℓ ≡ 0)). sym e.0 ∙ a) (λ (e : (g ℓ ≡ 0) × (r ℓ ≡ u ℓ)). sym e.1 ∙ b) (p ℓ)

-- an allocated location is not nil's
pub allocated_some : (n : ℕ) (h : Map) (ℓ : ℕ) → Heap n h → Allocated h ℓ → ¬ (ℓ ≡ 0)
allocated_some n h ℓ k f e = f (ap h e ∙ k.nil)

points_digit : (a b : ℕ) (h : Map) (ℓ : ℕ) → Points a b h → PointsDigit a b ℓ (h ℓ)
points_digit a b h ℓ q = go (ℕ_discrete ℓ a)
  where
    go : Dec (ℓ ≡ a) → PointsDigit a b ℓ (h ℓ)
    go (yes e) = inl (e, ap h e ∙ q.here)
    go (no e) = inr (e, same_of_not (h ℓ) 0 (λ f. e (q.only ℓ f)))

points_some : (n a b : ℕ) (h : Map) → Heap n h → Points a b h → ¬ (a ≡ 0)
points_some n a b h k q = allocated_some n h a k (λ z. absurd (omega (arith, z, q.here)))

-- a chain's cells
module _ (n k a b : ℕ) (h : Map) (g : Heap n h) (c : Chain k a b h) where
  chain_some : (i : ℕ) → i < k → Allocated h (c.at i)
  chain_some i l z = absurd (omega (arith, z, c.link i l))

  chain_cell : (i : ℕ) → i < k → ListCell n a b (c.at i) (c.at (suc i))
  chain_cell i l =
      record {
        no_nil = allocated_some n h (c.at i) g (chain_some i l);
        no_end = λ e. c.different i k l (omega arith) (e ∙ sym c.last);
        no_start = λ e. c.different 0 (suc i) (omega arith) (omega arith) (c.first ∙ sym e);
        no_loop = λ e. c.different i (suc i) (omega arith) (omega arith) (sym e);
        end = λ e. last (eq-or-lt_of_le l) e;
        low = omega (arith, c.link i l, g.low (c.at i));
      }
    where
      last : (suc i ≡ k) ⊎ (suc i < k) → c.at (suc i) ≡ 0 → b ≡ 0
      last (inl e) z = sym c.last ∙ ap c.at (sym e) ∙ z
      last (inr m) z = absurd (allocated_some n h (c.at (suc i)) g (chain_some (suc i) m) z)

  list_digit : 1 ≤ k → (ℓ : ℕ) → ListDigit n a b ℓ (h ℓ)
  list_digit l ℓ = go (ℕ_discrete (h ℓ) 0)
    where
      go : Dec (h ℓ ≡ 0) → ListDigit n a b ℓ (h ℓ)
      go (yes z) = inl (λ e. chain_some 0 l (ap h (c.first ∙ sym e) ∙ z), z)
      go (no f) =
          let q = c.only ℓ f in
          inr (c.at (suc q.0), ap h (sym q.2) ∙ c.link q.0 q.1, subst (λ (x : ℕ). ListCell n a b x (c.at (suc q.0))) q.2 (chain_cell q.0 q.1))

  list_some : 1 ≤ k → ¬ (a ≡ 0)
  list_some l e = allocated_some n h (c.at 0) g (chain_some 0 l) (c.first ∙ e)

  list_ends : 1 ≤ k → ¬ (a ≡ b)
  list_ends l e = c.different 0 k l (omega arith) (c.first ∙ e ∙ sym c.last)

module _ (π : Profile) (v n : ℕ) (s : Map) (ℓ : ℕ) where
  -- a larger set
  pub digits_more : (F : Form) (P Q : ℕ → Type 0) → ((d : ℕ) → d ≤ suc n → P d → Q d) → Digits π v n F s ℓ P → Digits π v n F s ℓ Q
  unfolding Digits
  digits_more F P Q m f h k q = m (h ℓ) (k.low ℓ) (f h k q)

  -- no information
  pub digits_any : (F : Form) → Digits π v n F s ℓ (AnyDigit n ℓ)
  unfolding Digits
  digits_any F h k q = (k.low ℓ, λ e. ap h e ∙ k.nil)

  pub digits_same : (x y : ℕ) → Digits π v n (same x y) s ℓ (May n s ℓ (same x y))
  unfolding Digits Holds May
  digits_same x y h k q = (q.0, q.1 ℓ)

  pub digits_diff : (x y : ℕ) → Digits π v n (diff x y) s ℓ (May n s ℓ (diff x y))
  unfolding Digits Holds May
  digits_diff x y h k q = (q.0, q.1 ℓ)

  pub digits_pts : (x y : ℕ) → Digits π v n (pts x y) s ℓ (May n s ℓ (pts x y))
  unfolding Digits Holds May
  digits_pts x y h k q = (points_some n (s x) (s y) h k q, points_digit (s x) (s y) h ℓ q)

  pub digits_ls : (x y : ℕ) → Digits π v n (ls x y) s ℓ (May n s ℓ (ls x y))
  unfolding Digits Holds May
  digits_ls x y h k q =
      ⊎_elim (λ q. inl (q.0, q.1 ℓ))
      (λ q. inr (list_ends n q.0 (s x) (s y) h k q.2 q.1, list_some n q.0 (s x) (s y) h k q.2 q.1, list_digit n q.0 (s x) (s y) h k q.2 q.1 ℓ))
      q

  pub digits_but : (a b : Form) (P : ℕ → Type 0) → Digits π v n a s ℓ P → Digits π v n (but a b) s ℓ P
  unfolding Digits Holds
  digits_but a b P f h k q = f h k q.0

  module _ (a b : Form) (P Q : ℕ → Type 0) (f : Digits π v n a s ℓ P) (g : Digits π v n b s ℓ Q) where
    pub digits_conj : Digits π v n (conj a b) s ℓ (λ d. P d × Q d)
    unfolding Digits Holds
    digits_conj h k q = (f h k q.0, g h k q.1)

    pub digits_disj : Digits π v n (disj a b) s ℓ (λ d. P d ⊎ Q d)
    unfolding Digits Holds
    digits_disj h k q = ⊎_elim (λ q. inl (f h k q)) (λ q. inr (g h k q)) q

    pub digits_sep : Digits π v n (sep a b) s ℓ (SepDigit P Q)
    unfolding Digits Holds
    digits_sep h k q =
        let u = f q.0 (first_heap n q.0 q.1 h q.2 k) q.4 in
        let w = g q.1 (second_heap n q.0 q.1 h q.2 k) q.5 in
        ⊎_elim (λ e. inl (subst P e.0 u, subst Q e.1 w)) (λ e. inr (subst P e.0 u, subst Q e.1 w)) (q.2 ℓ)

    -- the heap is the whole without what was added
    pub digits_sept : Digits π v n (sept a b) s ℓ (SeptDigit P Q)
    unfolding Digits Holds
    digits_sept h k q =
        let u = f q.0 q.2 q.5 in
        let w = g q.1 (whole_heap n q.0 h q.1 q.3 q.2 k) q.6 in
        ⊎_elim (λ e. inr (e.1, (q.0 ℓ, u, subst Q (sym e.0) w))) (λ e. inl (subst P e.0 u, subst Q (sym e.1) w)) (q.3 ℓ)

  -- where no digit may stand, nothing holds; and then any digits are right
  pub hopeless : (F : Form) (P : ℕ → Type 0) → Digits π v n F s ℓ P → ((d : ℕ) → d ≤ suc n → ¬ P d) → Hopeless π v n F s
  unfolding Digits Hopeless
  hopeless F P f none h k q = none (h ℓ) (k.low ℓ) (f h k q)

  pub digits_hopeless : (F : Form) (P : ℕ → Type 0) → Hopeless π v n F s → Digits π v n F s ℓ P
  unfolding Digits Hopeless
  digits_hopeless F P none h k q = absurd (none h k q)

  -- a disjunction one side of which cannot hold has the other's digits
  module _ (a b : Form) (P : ℕ → Type 0) where
    pub digits_second : Hopeless π v n a s → Digits π v n b s ℓ P → Digits π v n (disj a b) s ℓ P
    unfolding Digits Hopeless Holds
    digits_second none g h k q = ⊎_elim (λ e. absurd (none h k e)) (λ e. g h k e) q

    pub digits_first : Hopeless π v n b s → Digits π v n a s ℓ P → Digits π v n (disj a b) s ℓ P
    unfolding Digits Hopeless Holds
    digits_first none f h k q = ⊎_elim (λ e. f h k e) (λ e. absurd (none h k e)) q

  -- the digit at ℓ of a heap on which F holds is allowed
  pub may_holds : (F : Form) → Digits π v n F s ℓ (May n s ℓ F)
  unfolding May
  may_holds (same x y) = digits_same x y
  may_holds (diff x y) = digits_diff x y
  may_holds (pts x y) = digits_pts x y
  may_holds (ls x y) = digits_ls x y
  may_holds (conj a b) = digits_conj a b (May n s ℓ a) (May n s ℓ b) (may_holds a) (may_holds b)
  may_holds (disj a b) = digits_disj a b (May n s ℓ a) (May n s ℓ b) (may_holds a) (may_holds b)
  may_holds (but a b) = digits_but a b (May n s ℓ a) (may_holds a)
  may_holds (neg a) = digits_any (neg a)
  may_holds (sep a b) = digits_sep a b (May n s ℓ a) (May n s ℓ b) (may_holds a) (may_holds b)
  may_holds (sept a b) = digits_sept a b (May n s ℓ a) (May n s ℓ b) (may_holds a) (may_holds b)
