-- Laws of the cells that point to a location: over the parts of a heap, above a level, and on one cell or a list. Assumes nothing.
use Rattle.std.specs.Prelude.{◌≡◌, Bool, ◌⊎◌, eqb, ltb}
use Rattle.std.proofs.Math.Path.{refl, ap}
use Rattle.std.proofs.Common.{sym, ◌∙◌, le_of_suc-le-suc, eq-or-lt_of_le, arith, eq-eqb, ne_eqb, lt-ltb, le-ltb}
use Rattle.std.proofs.Math.Bool.{true, false}
use Rattle.std.proofs.Math.Logic.{inl, inr, ⊎_elim}
use Prim.Native.Nat.{ℕ, zero, suc, zero-le, pred, ◌+◌, ◌<◌, ◌≤◌}
use Rattle.std.proofs.Math.Decide.{ℕ_discrete, dec_lt}
use Rattle.logic.specs.Heap.{Map, Heap, Allocated, Parts, Empty}
use Rattle.logic.specs.Holds.{Points, Chain, Segment}
use Rattle.logic.specs.Tests.{pick, without}
use Rattle.logic.proofs.Reflect.{same_of_not}
use Rattle.logic.proofs.Agree.{allocated_low, first_heap}
use Rattle.logic.proofs.Without.{without_heap}
use Rattle.logic.proofs.Chains.{chain_less}
use Rattle.skips.specs.Counts.{hit, incoming, outgoing, above, smaller, larger}
use Rattle.skips.proofs.DigitRules.{allocated_some}

-- ---- one digit

pub hit_none : (ℓ : ℕ) → hit 0 ℓ ≡ 0
unfolding hit
hit_none ℓ = rw (ne_eqb 0 (suc ℓ) (λ (e : 0 ≡ suc ℓ). omega arith))

pub hit_le : (d ℓ : ℕ) → hit d ℓ ≤ 1
unfolding hit
hit_le d ℓ = go (eqb d (suc ℓ))
  where
    go : (b : Bool) → pick b 1 0 ≤ 1
    go true = omega arith
    go false = omega arith

pub hit_is : (x ℓ : ℕ) → x ≡ ℓ → hit (suc x) ℓ ≡ 1
unfolding hit
hit_is x ℓ e = rw (eq-eqb (suc x) (suc ℓ) (ap suc e))

pub hit_not : (x ℓ : ℕ) → ¬ (x ≡ ℓ) → hit (suc x) ℓ ≡ 0
unfolding hit
hit_not x ℓ f = rw (ne_eqb (suc x) (suc ℓ) (λ (e : suc x ≡ suc ℓ). f (omega arith)))

pub out_none : (h : Map) (ℓ : ℕ) → h ℓ ≡ 0 → outgoing h ℓ ≡ 0
unfolding outgoing
out_none h ℓ e = rw (eq-eqb (h ℓ) 0 e)

pub out_some : (h : Map) (ℓ : ℕ) → Allocated h ℓ → outgoing h ℓ ≡ 1
unfolding outgoing
out_some h ℓ f = rw (ne_eqb (h ℓ) 0 f)

pub out_same : (g h : Map) (ℓ : ℕ) → g ℓ ≡ h ℓ → outgoing g ℓ ≡ outgoing h ℓ
unfolding outgoing
out_same g h ℓ e = rw e

pub out_le : (h : Map) (ℓ : ℕ) → outgoing h ℓ ≤ 1
unfolding outgoing
out_le h ℓ = go (eqb (h ℓ) 0)
  where
    go : (b : Bool) → pick b 0 1 ≤ 1
    go true = omega arith
    go false = omega arith

-- ---- many cells

module _ (ℓ : ℕ) where
  pub incoming_le : (k : ℕ) (h : Map) → incoming k h ℓ ≤ k
  unfolding incoming
  incoming_le zero h = zero-le
  incoming_le (suc k) h = omega (arith, incoming_le k h, hit_le (h (suc k)) ℓ)

  -- heaps with the same digits
  pub incoming_same : (k : ℕ) (g h : Map) → ((i : ℕ) → g i ≡ h i) → incoming k g ℓ ≡ incoming k h ℓ
  unfolding incoming
  incoming_same zero g h e = refl
  incoming_same (suc k) g h e = rw (incoming_same k g h e, e (suc k))

  pub incoming_none : (k : ℕ) (h : Map) → ((i : ℕ) → i ≤ k → h i ≡ 0) → incoming k h ℓ ≡ 0
  unfolding incoming
  incoming_none zero h e = refl
  incoming_none (suc k) h e = omega (arith, incoming_none k h (λ i l. e i (omega arith)), ap (λ (d : ℕ). hit d ℓ) (e (suc k) (omega arith)), hit_none ℓ)

  -- fewer cells
  pub incoming_sub : (k : ℕ) (g h : Map) → ((i : ℕ) → (g i ≡ h i) ⊎ (g i ≡ 0)) → incoming k g ℓ ≤ incoming k h ℓ
  unfolding incoming
  incoming_sub zero g h e = zero-le
  incoming_sub (suc k) g h e =
      ⊎_elim (λ (q : g (suc k) ≡ h (suc k)). omega (arith, incoming_sub k g h e, ap (λ (d : ℕ). hit d ℓ) q))
      (λ (q : g (suc k) ≡ 0). omega (arith, incoming_sub k g h e, ap (λ (d : ℕ). hit d ℓ) q, hit_none ℓ))
      (e (suc k))

  -- two parts together
  pub incoming_parts : (k : ℕ) (g r h : Map) → Parts g r h → incoming k h ℓ ≡ incoming k g ℓ + incoming k r ℓ
  unfolding incoming
  incoming_parts zero g r h p = refl
  incoming_parts (suc k) g r h p =
      ⊎_elim
      (λ (q : (g (suc k) ≡ h (suc k)) × (r (suc k) ≡ 0)).
      omega (arith, incoming_parts k g r h p, ap (λ (d : ℕ). hit d ℓ) q.0, ap (λ (d : ℕ). hit d ℓ) q.1, hit_none ℓ))
      (λ (q : (g (suc k) ≡ 0) × (r (suc k) ≡ h (suc k))).
      omega (arith, incoming_parts k g r h p, ap (λ (d : ℕ). hit d ℓ) q.0, ap (λ (d : ℕ). hit d ℓ) q.1, hit_none ℓ))
      (p (suc k))

  pub out_parts : (g r h : Map) → Parts g r h → outgoing h ℓ ≡ outgoing g ℓ + outgoing r ℓ
  out_parts g r h p =
      ⊎_elim
      (λ (q : (g ℓ ≡ h ℓ) × (r ℓ ≡ 0)). omega (arith, out_same g h ℓ q.0, out_none r ℓ q.1))
      (λ (q : (g ℓ ≡ 0) × (r ℓ ≡ h ℓ)). omega (arith, out_same r h ℓ q.1, out_none g ℓ q.0))
      (p ℓ)

  -- ---- one cell

  only_below : (k a : ℕ) (h : Map) → ((i : ℕ) → ¬ (i ≡ a) → h i ≡ 0) → k < a → incoming k h ℓ ≡ 0
  only_below k a h e l = incoming_none k h (λ i m. e i (λ (z : i ≡ a). omega arith))

  incoming_one : (k a : ℕ) (h : Map) → ((i : ℕ) → ¬ (i ≡ a) → h i ≡ 0) → ¬ (a ≡ 0) → a ≤ k → incoming k h ℓ ≡ hit (h a) ℓ
  unfolding incoming
  incoming_one zero a h e f l = absurd (omega arith)
  incoming_one (suc k) a h e f l =
      ⊎_elim
      (λ (q : a ≡ suc k). omega (arith, only_below k a h e (omega arith), ap (λ (i : ℕ). hit (h i) ℓ) q))
      (λ (q : a < suc k). omega (arith, incoming_one k a h e f (le_of_suc-le-suc q), ap (λ (d : ℕ). hit d ℓ) (e (suc k) (λ (z : suc k ≡ a). omega arith)), hit_none ℓ))
      (eq-or-lt_of_le l)

  -- in(ℓ) + [ℓ is a] = out(ℓ) + [ℓ is b]
  unfoldable pub Even : ℕ → Map → ℕ → ℕ → Type 0
  Even n h a b = incoming n h ℓ + hit (suc a) ℓ ≡ outgoing h ℓ + hit (suc b) ℓ

  pub points_even : (n a b : ℕ) (h : Map) → Heap n h → Points a b h → Even n h a b
  unfolding Even
  points_even n a b h k q =
      omega (arith, incoming_one n a h none (allocated_some n h a k some) (allocated_low n h a k some), ap (λ (d : ℕ). hit d ℓ) q.here, out (ℕ_discrete a ℓ))
    where
      some : Allocated h a
      some z = absurd (omega (arith, z, q.here))

      none : (i : ℕ) → ¬ (i ≡ a) → h i ≡ 0
      none i f = same_of_not (h i) 0 (λ g. f (q.only i g))

      out : Dec (a ≡ ℓ) → outgoing h ℓ ≡ hit (suc a) ℓ
      out (yes e) = out_some h ℓ (λ z. some (ap h e ∙ z)) ∙ sym (hit_is a ℓ e)
      out (no f) = out_none h ℓ (none ℓ (λ e. f (sym e))) ∙ sym (hit_not a ℓ f)

  -- a heap with nothing in it
  pub empty_even : (n a b : ℕ) (h : Map) → a ≡ b → Empty h → Even n h a b
  unfolding Even
  empty_even n a b h e q = omega (arith, incoming_none n h (λ i l. q i), out_none h ℓ (q ℓ), ap (λ (x : ℕ). hit (suc x) ℓ) e)

  -- ---- a list: its first cell, and the rest

  -- the cell at a alone
  alone : ℕ → Map → Map
  alone a h i = pick (eqb i a) (h i) 0

  alone_parts : (a : ℕ) (h : Map) → Parts (alone a h) (without a h) h
  unfolding alone without
  alone_parts a h i = go (eqb i a)
    where
      go : (b : Bool) → ((pick b (h i) 0 ≡ h i) × (pick b 0 (h i) ≡ 0)) ⊎ ((pick b (h i) 0 ≡ 0) × (pick b 0 (h i) ≡ h i))
      go true = inl (refl, refl)
      go false = inr (refl, refl)

  alone_points : (a x : ℕ) (h : Map) → h a ≡ suc x → Points a x (alone a h)
  unfolding alone
  alone_points a x h e = record { here = rw (eq-eqb a a refl) e; only = λ i f. same_of_not i a (λ g. f (rw (ne_eqb i a g))) }

  suc_pred : (x : ℕ) → ¬ (x ≡ 0) → x ≡ suc (pred x)
  suc_pred x f = omega arith

  together : (n a x b : ℕ) (g r h : Map) → Parts g r h → Even n g a x → Even n r x b → Even n h a b
  unfolding Even
  together n a x b g r h p u w = omega (arith, u, w, incoming_parts n g r h p, out_parts g r h p)

  chain_even : (k n a b : ℕ) (h : Map) → Heap n h → Chain k a b h → Even n h a b
  chain_even zero n a b h g c = empty_even n a b h (sym c.first ∙ c.last) (λ i. same_of_not (h i) 0 (λ f. absurd (omega (arith, (c.only i f).1))))
  chain_even (suc k) n a b h g c =
      let q = chain_less k a b h c in
      let u = chain_even k n (pred (h a)) b (without a h) (without_heap n a h g) q.1 in
      let p = alone_parts a h in
      let w = points_even n a (pred (h a)) (alone a h) (first_heap n (alone a h) (without a h) h p g) (alone_points a (pred (h a)) h (suc_pred (h a) q.0)) in
      together n a (pred (h a)) b (alone a h) (without a h) h p w u

  pub segment_even : (n a b : ℕ) (h : Map) → Heap n h → Segment a b h → Even n h a b
  segment_even n a b h g q = ⊎_elim (λ q. empty_even n a b h q.0 q.1) (λ q. chain_even q.0 n a b h g q.2) q

-- ---- the smaller and the larger

pub smaller_is : (a b : ℕ) → (smaller a b ≡ a) ⊎ (smaller a b ≡ b)
unfolding smaller
smaller_is a b = go (ltb a b)
  where
    go : (c : Bool) → (pick c a b ≡ a) ⊎ (pick c a b ≡ b)
    go true = inl refl
    go false = inr refl

pub larger_is : (a b : ℕ) → (larger a b ≡ a) ⊎ (larger a b ≡ b)
unfolding larger
larger_is a b = go (ltb a b)
  where
    go : (c : Bool) → (pick c b a ≡ a) ⊎ (pick c b a ≡ b)
    go true = inr refl
    go false = inl refl

pub larger_le : (a b : ℕ) → (a ≤ larger a b) × (b ≤ larger a b)
unfolding larger
larger_le a b = go (dec_lt a b)
  where
    go : Dec (a < b) → (a ≤ pick (ltb a b) b a) × (b ≤ pick (ltb a b) b a)
    go (yes l) = rw (lt-ltb a b l) (omega arith, omega arith)
    go (no l) = rw (le-ltb a b (omega arith)) (omega arith, omega arith)

-- ---- above a level

pub above_sub : (j : ℕ) (h : Map) (i : ℕ) → (above j h i ≡ h i) ⊎ (above j h i ≡ 0)
unfolding above
above_sub j h i = go (ltb i j)
  where
    go : (b : Bool) → (pick b 0 (h i) ≡ h i) ⊎ (pick b 0 (h i) ≡ 0)
    go true = inr refl
    go false = inl refl

pub above_same : (j : ℕ) (g h : Map) → ((i : ℕ) → j ≤ i → g i ≡ h i) → (i : ℕ) → above j g i ≡ above j h i
unfolding above
above_same j g h e i = go (dec_lt i j)
  where
    go : Dec (i < j) → pick (ltb i j) 0 (g i) ≡ pick (ltb i j) 0 (h i)
    go (yes l) = rw (lt-ltb i j l)
    go (no l) = rw (le-ltb i j (omega arith)) (e i (omega arith))
