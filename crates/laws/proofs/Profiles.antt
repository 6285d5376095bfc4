-- Without operator 8 both profiles give every model the same answer: a heap on which such a formula holds is tied to the named
-- locations, and two tied heaps meet nowhere else. Assumes nothing.
use Rattle.std.specs.Prelude.{◌≡◌, refl, ◌⊎◌, ◌↔◌, ℕ, zero, suc, ◌<◌, ◌≤◌}
use Rattle.std.proofs.Common.{sym, ◌∙◌, ap, zero-le, eq-or-lt_of_le, arith}
use Rattle.std.proofs.Math.Logic.{inl, inr, ⊎_elim}
use Rattle.std.proofs.Math.Decide.{dec_le, dec_lt}
use Rattle.logic.specs.declared.Profile.TheVariants.{Strong, Ordinary}
use Rattle.logic.specs.Heap.{Map, Stack, Allocated, Value, Locs, Named, Parts, Empty}
use Rattle.logic.specs.Formula.{Form}
use Rattle.logic.specs.Formula.Form.{same, diff, pts, ls, conj, disj, but, neg, sep, sept}
use Rattle.logic.specs.Holds.{Points, Chain, Segment, Holds}
use Rattle.logic.specs.Model.{Fits}
use Rattle.laws.specs.Negations.{NoNegation}

module _ (v : ℕ) (s : Map) where
  -- but for named locations, each value is allocated, each cell is some cell's value, and no two cells have one value
  pub record Tied (h : Map) : Type 0 where
    pub held : (j ℓ : ℕ) → Value h j ℓ → Named v s ℓ ⊎ Allocated h ℓ
    pub met : (ℓ : ℕ) → Allocated h ℓ → Named v s ℓ ⊎ ((j : ℕ) × Value h j ℓ)
    pub once : (i j ℓ : ℕ) → Value h i ℓ → Value h j ℓ → Named v s ℓ ⊎ (i ≡ j)

  some : (h : Map) (j ℓ : ℕ) → Value h j ℓ → Allocated h j
  some h j ℓ e z = absurd (omega (arith, e, z))

  tied_empty : (h : Map) → Empty h → Tied h
  tied_empty h e =
      record { held = λ j ℓ q. absurd (some h j ℓ q (e j)); met = λ ℓ f. absurd (f (e ℓ)); once = λ i j ℓ q r. absurd (some h i ℓ q (e i)) }

  -- the value of a cell is one location
  value_one : (h : Map) (j a b : ℕ) → Value h j a → Value h j b → a ≡ b
  value_one h j a b p q = omega (arith, p, q)

  module _ (a b : ℕ) (h : Map) (na : Named v s a) (nb : Named v s b) where
    named_as : (x y : ℕ) → x ≡ y → Named v s y → Named v s x
    named_as x y e q = (q.0, q.1, q.2 ∙ sym e)

    tied_points : Points a b h → Tied h
    tied_points q =
        record {
          held = λ j ℓ e. let at = q.only j (some h j ℓ e) in inl (named_as ℓ b (omega (arith, e, q.here, ap h at)) nb);
          met = λ ℓ f. inl (named_as ℓ a (q.only ℓ f) na);
          once = λ i j ℓ e f. inr (q.only i (some h i ℓ e) ∙ sym (q.only j (some h j ℓ f)));
        }

    module _ (k : ℕ) (c : Chain k a b h) where
      -- where a cell stands on the chain, and that its value is the next location
      next : (j ℓ : ℕ) → Value h j ℓ → (i : ℕ) × (i < k) × (c.at i ≡ j) × (c.at (suc i) ≡ ℓ)
      next j ℓ e =
          let q = c.only j (some h j ℓ e) in
          (q.0, q.1, q.2, value_one h (c.at q.0) (c.at (suc q.0)) ℓ (c.link q.0 q.1) (ap h q.2 ∙ e))

      tied_chain : Tied h
      tied_chain = record { held = held'; met = λ ℓ f. let q = c.only ℓ f in met' q.0 ℓ q.1 q.2; once = once' }
        where
          held' : (j ℓ : ℕ) → Value h j ℓ → Named v s ℓ ⊎ Allocated h ℓ
          held' j ℓ e = let q = next j ℓ e in go q.0 q.1 q.3
            where
              go : (i : ℕ) → i < k → c.at (suc i) ≡ ℓ → Named v s ℓ ⊎ Allocated h ℓ
              go i l d =
                  ⊎_elim (λ (z : suc i ≡ k). inl (named_as ℓ b (sym d ∙ ap c.at z ∙ c.last) nb))
                  (λ (z : suc i < k). inr (λ y. some h (c.at (suc i)) (c.at (suc (suc i))) (c.link (suc i) z) (ap h d ∙ y))) (eq-or-lt_of_le l)

          met' : (i ℓ : ℕ) → i < k → c.at i ≡ ℓ → Named v s ℓ ⊎ ((j : ℕ) × Value h j ℓ)
          met' zero ℓ l e = inl (named_as ℓ a (sym e ∙ c.first) na)
          met' (suc i) ℓ l e = inr (c.at i, c.link i (omega arith) ∙ ap suc e)

          once' : (i j ℓ : ℕ) → Value h i ℓ → Value h j ℓ → Named v s ℓ ⊎ (i ≡ j)
          once' i j ℓ e f =
              let q = next i ℓ e in
              let r = next j ℓ f in
              inr (sym q.2 ∙ ap c.at (alike q.0 r.0 q.1 r.1 (q.3 ∙ sym r.3) (dec_lt q.0 r.0) (dec_lt r.0 q.0)) ∙ r.2)
            where
              alike : (x y : ℕ) → x < k → y < k → c.at (suc x) ≡ c.at (suc y) → Dec (x < y) → Dec (y < x) → x ≡ y
              alike x y l m e (yes d) w = absurd (c.different (suc x) (suc y) (omega arith) m e)
              alike x y l m e (no d) (yes w) = absurd (c.different (suc y) (suc x) (omega arith) l (sym e))
              alike x y l m e (no d) (no w) = omega arith

  in_tied : (g : Map) → Tied g → (ℓ : ℕ) → Locs g ℓ → Named v s ℓ ⊎ Allocated g ℓ
  in_tied g t ℓ q = ⊎_elim inr (λ y. t.held y.0 ℓ y.1) q

  -- ---- two parts of a heap
  module _ (g r h : Map) (pt : Parts g r h) where
    -- a cell of the whole is one of the first part or of the second, with its value
    which : (j ℓ : ℕ) → Value h j ℓ → Value g j ℓ ⊎ Value r j ℓ
    which j ℓ e = ⊎_elim (λ q. inl (q.0 ∙ e)) (λ q. inr (q.1 ∙ e)) (pt j)

    first_value : (j ℓ : ℕ) → Value g j ℓ → Value h j ℓ
    first_value j ℓ e = ⊎_elim (λ q. sym q.0 ∙ e) (λ q. absurd (some g j ℓ e q.0)) (pt j)

    second_value : (j ℓ : ℕ) → Value r j ℓ → Value h j ℓ
    second_value j ℓ e = ⊎_elim (λ q. absurd (some r j ℓ e q.1)) (λ q. sym q.1 ∙ e) (pt j)

    first_allocated : (ℓ : ℕ) → Allocated g ℓ → Allocated h ℓ
    first_allocated ℓ f z = ⊎_elim (λ q. f (q.0 ∙ z)) (λ q. f q.0) (pt ℓ)

    second_allocated : (ℓ : ℕ) → Allocated r ℓ → Allocated h ℓ
    second_allocated ℓ f z = ⊎_elim (λ q. f q.1) (λ q. f (q.1 ∙ z)) (pt ℓ)

    where_allocated : (ℓ : ℕ) → Allocated h ℓ → Allocated g ℓ ⊎ Allocated r ℓ
    where_allocated ℓ f = ⊎_elim (λ q. inl (λ z. f (sym q.0 ∙ z))) (λ q. inr (λ z. f (sym q.1 ∙ z))) (pt ℓ)

    module _ (alone : (ℓ : ℕ) → ¬ (Allocated g ℓ × Allocated r ℓ)) where
      -- operator 9: the parts are tied, and so is the whole
      module _ (tg : Tied g) (tr : Tied r) where
        parts_meet : (ℓ : ℕ) → Locs g ℓ → Locs r ℓ → Named v s ℓ
        parts_meet ℓ x y = ⊎_elim (λ n. n) (λ f. ⊎_elim (λ n. n) (λ e. absurd (alone ℓ (f, e))) (in_tied r tr ℓ y)) (in_tied g tg ℓ x)

        tied_whole : Tied h
        tied_whole =
            record {
              held = λ j ℓ e. ⊎_elim (λ q. ⊎_elim inl (λ f. inr (first_allocated ℓ f)) (tg.held j ℓ q)) (λ q. ⊎_elim inl (λ f. inr (second_allocated ℓ f)) (tr.held j ℓ q)) (which j ℓ e);
              met = λ ℓ f. ⊎_elim (λ q. ⊎_elim inl (λ y. inr (y.0, first_value y.0 ℓ y.1)) (tg.met ℓ q)) (λ q. ⊎_elim inl (λ y. inr (y.0, second_value y.0 ℓ y.1)) (tr.met ℓ q)) (where_allocated ℓ f);
              once = λ i j ℓ e f. ⊎_elim
                  (λ p. ⊎_elim (λ q. tg.once i j ℓ p q) (λ q. inl (parts_meet ℓ (inr (i, p)) (inr (j, q)))) (which j ℓ f))
                  (λ p. ⊎_elim (λ q. inl (parts_meet ℓ (inr (j, q)) (inr (i, p)))) (λ q. tr.once i j ℓ p q) (which j ℓ f)) (which i ℓ e);
            }

      -- operator 10: the added piece and the whole are tied, and so is what it was added to
      module _ (tg : Tied g) (th : Tied h) where
        added_meet : (ℓ : ℕ) → Locs g ℓ → Locs r ℓ → Named v s ℓ
        added_meet ℓ x y = ⊎_elim (λ n. n) (λ f. ⊎_elim (λ e. absurd (alone ℓ (f, e))) (λ e. other f e.0 e.1) y) (in_tied g tg ℓ x)
          where
            other : Allocated g ℓ → (j : ℕ) → Value r j ℓ → Named v s ℓ
            other f j e = ⊎_elim (λ n. n) (λ q. ⊎_elim (λ n. n) (λ z. absurd (alone j (λ d. some g q.0 ℓ q.1 (ap g z ∙ d), some r j ℓ e))) (th.once q.0 j ℓ (first_value q.0 ℓ q.1) (second_value j ℓ e))) (tg.met ℓ f)

        tied_rest : Tied r
        tied_rest =
            record {
              held = λ j ℓ e. ⊎_elim inl (λ f. ⊎_elim (λ q. inl (added_meet ℓ (inl q) (inr (j, e)))) inr (where_allocated ℓ f)) (th.held j ℓ (second_value j ℓ e));
              met = λ ℓ f. ⊎_elim inl (λ q. ⊎_elim (λ e. inl (added_meet ℓ (inr (q.0, e)) (inl f))) (λ e. inr (q.0, e)) (which q.0 ℓ q.1)) (th.met ℓ (second_allocated ℓ f));
              once = λ i j ℓ e f. th.once i j ℓ (second_value i ℓ e) (second_value j ℓ f);
            }

module _ (v n : ℕ) (s : Map) (ks : Stack v n s) where
  -- every variable's location is named: what is past v is nil
  variable : (x : ℕ) → Named v s (s x)
  variable x = go (dec_le x v)
    where
      go : Dec (x ≤ v) → Named v s (s x)
      go (yes l) = (x, l, refl)
      go (no l) = (0, zero-le, ks.nil ∙ sym (ks.past x (omega arith)))

  tied_segment : (x y : ℕ) (h : Map) → Segment (s x) (s y) h → Tied v s h
  tied_segment x y h q = ⊎_elim (λ e. tied_empty v s h e.1) (λ e. tied_chain v s (s x) (s y) h (variable x) (variable y) e.0 e.2) q

  -- a heap on which a formula without operator 8 holds is tied
  tied : (F : Form) → NoNegation F → (h : Map) → Holds Ordinary v n F s h → Tied v s h
  unfolding NoNegation Holds
  tied (same x y) c h q = tied_empty v s h q.1
  tied (diff x y) c h q = tied_empty v s h q.1
  tied (pts x y) c h q = tied_points v s (s x) (s y) h (variable x) (variable y) q
  tied (ls x y) c h q = tied_segment x y h q
  tied (conj a b) c h q = tied a c.0 h q.0
  tied (disj a b) c h q = ⊎_elim (λ y. tied a c.0 h y) (λ y. tied b c.1 h y) q
  tied (but a b) c h q = tied a c.0 h q.0
  tied (neg a) c h q = absurd c
  tied (sep a b) c h q = tied_whole v s q.0 q.1 h q.2 q.3.alone (tied a c.0 q.0 q.4) (tied b c.1 q.1 q.5)
  tied (sept a b) c h q = tied_rest v s q.0 h q.1 q.3 q.4.alone (tied a c.0 q.0 q.5) (tied b c.1 q.1 q.6)

  pub same_truth : (F : Form) → NoNegation F → (h : Map) → Holds Ordinary v n F s h ↔ Holds Strong v n F s h
  unfolding NoNegation Holds
  same_truth (same x y) c h = (λ q. q, λ q. q)
  same_truth (diff x y) c h = (λ q. q, λ q. q)
  same_truth (pts x y) c h = (λ q. q, λ q. q)
  same_truth (ls x y) c h = (λ q. q, λ q. q)
  same_truth (conj a b) c h =
      let f = same_truth a c.0 h in
      let g = same_truth b c.1 h in
      (λ q. (f.0 q.0, g.0 q.1), λ q. (f.1 q.0, g.1 q.1))
  same_truth (disj a b) c h =
      let f = same_truth a c.0 h in
      let g = same_truth b c.1 h in
      (⊎_elim (λ q. inl (f.0 q)) (λ q. inr (g.0 q)), ⊎_elim (λ q. inl (f.1 q)) (λ q. inr (g.1 q)))
  same_truth (but a b) c h =
      let f = same_truth a c.0 h in
      let g = same_truth b c.1 h in
      (λ q. (f.0 q.0, λ y. q.1 (g.1 y)), λ q. (f.1 q.0, λ y. q.1 (g.0 y)))
  same_truth (neg a) c h = absurd c
  same_truth (sep a b) c h = (
    λ q. (
      q.0,
      q.1,
      q.2,
      record { alone = q.3.alone; meet = parts_meet v s q.0 q.1 h q.2 q.3.alone (tied a c.0 q.0 q.4) (tied b c.1 q.1 q.5) },
      (same_truth a c.0 q.0).0 q.4,
      (same_truth b c.1 q.1).0 q.5,
    ),
    λ q. (
      q.0,
      q.1,
      q.2,
      record { alone = q.3.alone; meet = λ ℓ x y. tt },
      (same_truth a c.0 q.0).1 q.4,
      (same_truth b c.1 q.1).1 q.5,
    ),
  )
  same_truth (sept a b) c h = (
    λ q. (
      q.0,
      q.1,
      q.2,
      q.3,
      record { alone = q.4.alone; meet = added_meet v s q.0 h q.1 q.3 q.4.alone (tied a c.0 q.0 q.5) (tied b c.1 q.1 q.6) },
      (same_truth a c.0 q.0).0 q.5,
      (same_truth b c.1 q.1).0 q.6,
    ),
    λ q. (
      q.0,
      q.1,
      q.2,
      q.3,
      record { alone = q.4.alone; meet = λ ℓ x y. tt },
      (same_truth a c.0 q.0).1 q.5,
      (same_truth b c.1 q.1).1 q.6,
    ),
  )

  -- "both profiles give every model the same answer"
  pub same_fits : (p : ℕ) (F : Form) → NoNegation F → (h : Map) → Fits Ordinary v n p F s h ↔ Fits Strong v n p F s h
  same_fits p F c h = (λ q. ((same_truth F c h).0 q.0, q.1), λ q. ((same_truth F c h).1 q.0, q.1))
