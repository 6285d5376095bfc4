-- Facts of a node from those of its children, by bits. Assumes nothing.
use Rattle.std.specs.Prelude.{◌≡◌, refl, ◌⊎◌, ℕ, suc, ◌+◌, ◌-◌, ◌*◌, ◌%◌, ◌^◌, ◌<◌, ◌≤◌, min, max}
use Rattle.std.proofs.Common.{sym, subst, ◌∙◌, ap, inl, inr, ⊎_elim, one-mul, mod-eq_of_lt, lt_of_le_of_lt, arith, eqb-true, lt-ltb, le-ltb}
use Rattle.std.proofs.Math.Nat.{pow-le-pow_right, one-le-pow}
use Rattle.std.proofs.Math.Decide.{dec_lt}
use Rattle.std.specs.Int.Bits.{bit_and, bit_or}
use Rattle.logic.specs.declared.Profile.{Profile}
use Rattle.logic.specs.Heap.{Map}
use Rattle.logic.specs.Formula.{Form}
use Rattle.logic.specs.Formula.Form.{conj, disj, sep, sept}
use Rattle.logic.specs.Tests.{in_part, digit}
use Rattle.logic.proofs.Reflect.{is_self, is_and, is_or, false_true}
use Rattle.cells.specs.Cells.{most, word}
use Rattle.cells.specs.Sets.{in_and, in_or, in_nothing, in_all}
use Rattle.skips.specs.Counts.{smaller, larger}
use Rattle.skips.specs.Facts.{Hopeless, Caps, Needs, AnyDigit, SepDigit, SeptDigit}
use Rattle.skips.proofs.DigitRules.{hopeless, digits_hopeless, digits_more, digits_any, digits_conj, digits_disj, digits_first, digits_second, digits_sep, digits_sept}
use Rattle.skips.proofs.BoundRules.{caps_hopeless, needs_hopeless, caps_more, caps_any, caps_conj, caps_disj, caps_sep, caps_sept, caps_first, caps_second, needs_more, needs_any, needs_conj, needs_disj, needs_sep, needs_sept, needs_first, needs_second}
use Rattle.facts.specs.declared.fact.Fact.{Fact}
use Rattle.facts.specs.Known.{In, Known, JoinedAs, AnyAs, Together, Kept}

-- ---- the smaller and the larger

pub smaller_there : (a b : ℕ) → a < b → a ≡ smaller a b
unfolding smaller
smaller_there a b l = rw (lt-ltb a b l)

pub smaller_elsewhere : (a b : ℕ) → b ≤ a → b ≡ smaller a b
unfolding smaller
smaller_elsewhere a b l = rw (le-ltb a b l)

pub larger_there : (a b : ℕ) → a < b → b ≡ larger a b
unfolding larger
larger_there a b l = rw (lt-ltb a b l)

pub larger_elsewhere : (a b : ℕ) → b ≤ a → a ≡ larger a b
unfolding larger
larger_elsewhere a b l = rw (le-ltb a b l)

-- they are std's
pub min_smaller : (a b : ℕ) → min a b ≡ smaller a b
min_smaller a b = go (dec_lt a b)
  where
    go : Dec (a < b) → min a b ≡ smaller a b
    go (yes l) = omega (arith, smaller_there a b l)
    go (no l) = omega (arith, smaller_elsewhere a b (omega arith))

pub max_larger : (a b : ℕ) → max a b ≡ larger a b
max_larger a b = go (dec_lt a b)
  where
    go : Dec (a < b) → max a b ≡ larger a b
    go (yes l) = omega (arith, larger_there a b l)
    go (no l) = omega (arith, larger_elsewhere a b (omega arith))

-- ---- bits

pub in_both : (a b d : ℕ) → In a d → In b d → In (bit_and a b) d
in_both a b d p q = in_and a b (suc d) ∙ (is_and (in_part a (suc d)) (in_part b (suc d)) (is_self (in_part a (suc d))) (is_self (in_part b (suc d)))).from (p, q)

pub in_either : (a b d : ℕ) → In a d ⊎ In b d → In (bit_or a b) d
in_either a b d p = in_or a b (suc d) ∙ (is_or (in_part a (suc d)) (in_part b (suc d)) (is_self (in_part a (suc d))) (is_self (in_part b (suc d)))).from p

pub in_none : (d : ℕ) → ¬ In 0 d
in_none d p = false_true (sym (in_nothing (suc d)) ∙ p)

in_first : (c : ℕ) → In c 0 → c % 2 ≡ 1
unfolding in_part digit
in_first c p = eqb-true (c % 2) 1 p

pub in_one : In 1 0
unfolding in_part digit
in_one = refl

pub digit_bit_law : (d : ℕ) → d ≤ 15 → ((1 * 2 ^ d) % word ≡ 2 ^ d) × ((1 * 2 ^ d) % word < 2 ^ 16)
digit_bit_law d h =
    let m : 2 ^ d ≤ 2 ^ 15 = pow-le-pow_right {n = 2} (omega arith) h in
    let e : (1 * 2 ^ d) % word ≡ 2 ^ d = ap (λ (x : ℕ). x % word) (one-mul (2 ^ d)) ∙ mod-eq_of_lt (lt_of_le_of_lt m (omega arith)) in
    (e, subst (λ (x : ℕ). x < 2 ^ 16) (sym e) (lt_of_le_of_lt m (omega arith)))

pub bit_some : (d p : ℕ) → p ≡ 2 ^ d → 1 ≤ p
bit_some d p e = subst (λ (x : ℕ). 1 ≤ x) (sym e) (one-le-pow d 2 (omega arith))

-- ---- m where c has digit 0

pub kept_nothing : (m c : ℕ) → ¬ (c % 2 ≡ 1) → Kept m c 0
kept_nothing m c f = record { small = omega arith; has = λ d p q. absurd (f (in_first c q)) }

-- ---- the connectives

module _ (π : Profile) (v n : ℕ) (F : Form) (s : Map) (ℓ : ℕ) (few : n ≤ most) where
  caps_together : (i j r : ℕ) → Together i j r → Caps π v n F s ℓ (i + j - 1) → Caps π v n F s ℓ r
  caps_together i j r q f =
      ⊎_elim (λ (e : r ≡ i + j - 1). subst (Caps π v n F s ℓ) (sym e) f)
      (λ (e : r ≡ 255). caps_more π v n s ℓ F (n + 1) r (omega arith) (caps_any π v n s ℓ F)) q.1

  needs_together : (i j r : ℕ) → Together i j r → Needs π v n F s ℓ (i + j - 1) → Needs π v n F s ℓ r
  needs_together i j r q f =
      ⊎_elim (λ (e : r ≡ i + j - 1). subst (Needs π v n F s ℓ) (sym e) f)
      (λ (e : r ≡ 255). needs_more π v n s ℓ F 2 r (omega arith) (needs_any π v n s ℓ F)) q.1

-- where nothing holds, every fact is right
pub hopeless_known : (π : Profile) (v n : ℕ) (F : Form) (s : Map) (ℓ : ℕ) (r : Fact) → Hopeless π v n F s → Known π v n F s ℓ r
hopeless_known π v n F s ℓ r none =
    record {
      digits = digits_hopeless π v n s ℓ F (In r.digits) none;
      caps = caps_hopeless π v n s ℓ F r.cap none;
      needs = needs_hopeless π v n s ℓ F r.need none;
    }

-- where no digit may stand, nothing holds
pub no_digit_hopeless : (π : Profile) (v n : ℕ) (F : Form) (s : Map) (ℓ : ℕ) (r : Fact) → r.digits ≡ 0 → Known π v n F s ℓ r → Hopeless π v n F s
no_digit_hopeless π v n F s ℓ r e q =
    hopeless π v n s ℓ F (In r.digits) q.digits (λ d _ p. in_none d (subst (λ (x : ℕ). In x d) e p))

module _ (a b r : Fact) where
  pub joined_conj : r.digits ≡ bit_and a.digits b.digits → r.cap ≡ smaller a.cap b.cap → r.need ≡ smaller a.need b.need → JoinedAs conj a b r
  joined_conj ed ey ez =
      record {
        known = λ π v n A B s ℓ few p q. record {
          digits = digits_more π v n s ℓ (conj A B) (λ d. In a.digits d × In b.digits d) (In r.digits) (λ d _ w. subst (λ (x : ℕ). In x d) (sym ed) (in_both a.digits b.digits d w.0 w.1)) (digits_conj π v n s ℓ A B (In a.digits) (In b.digits) p.digits q.digits);
          caps = subst (Caps π v n (conj A B) s ℓ) (sym ey) (caps_conj π v n s ℓ A B a.cap b.cap p.caps q.caps);
          needs = subst (Needs π v n (conj A B) s ℓ) (sym ez) (needs_conj π v n s ℓ A B a.need b.need p.needs q.needs);
        };
      }

  pub joined_disj : r.digits ≡ bit_or a.digits b.digits → r.cap ≡ larger a.cap b.cap → r.need ≡ larger a.need b.need → JoinedAs disj a b r
  joined_disj ed ey ez =
      record {
        known = λ π v n A B s ℓ few p q. record {
          digits = digits_more π v n s ℓ (disj A B) (λ d. In a.digits d ⊎ In b.digits d) (In r.digits) (λ d _ w. subst (λ (x : ℕ). In x d) (sym ed) (in_either a.digits b.digits d w)) (digits_disj π v n s ℓ A B (In a.digits) (In b.digits) p.digits q.digits);
          caps = subst (Caps π v n (disj A B) s ℓ) (sym ey) (caps_disj π v n s ℓ A B a.cap b.cap p.caps q.caps);
          needs = subst (Needs π v n (disj A B) s ℓ) (sym ez) (needs_disj π v n s ℓ A B a.need b.need p.needs q.needs);
        };
      }

  pub joined_sep : (x y : ℕ) → Kept a.digits b.digits x → Kept b.digits a.digits y → r.digits ≡ bit_or x y → Together a.cap b.cap r.cap → Together a.need b.need r.need → JoinedAs sep a b r
  joined_sep x y kx ky ed tz tw =
      record {
        known = λ π v n A B s ℓ few p q. record {
          digits = digits_more π v n s ℓ (sep A B) (SepDigit (In a.digits) (In b.digits)) (In r.digits) (λ d _ u. subst (λ (z : ℕ). In z d) (sym ed) (in_either x y d (⊎_elim (λ u. inl (kx.has d u.0 u.1)) (λ u. inr (ky.has d u.1 u.0)) u))) (digits_sep π v n s ℓ A B (In a.digits) (In b.digits) p.digits q.digits);
          caps = caps_together π v n (sep A B) s ℓ few a.cap b.cap r.cap tz (caps_sep π v n s ℓ A B a.cap b.cap p.caps q.caps);
          needs = needs_together π v n (sep A B) s ℓ few a.need b.need r.need tw (needs_sep π v n s ℓ A B a.need b.need p.needs q.needs);
        };
      }

  pub joined_sept : (x y : ℕ) → Kept b.digits a.digits x → (bit_and a.digits b.digits ≡ 0) ⊎ (y ≡ 1) → r.digits ≡ bit_or x y → Together b.cap a.need r.cap → Together b.need a.cap r.need → JoinedAs sept a b r
  joined_sept x y kx ey ed tz tw =
      record {
        known = λ π v n A B s ℓ few p q. record {
          digits = digits_more π v n s ℓ (sept A B) (SeptDigit (In a.digits) (In b.digits)) (In r.digits) (λ d _ u. subst (λ (z : ℕ). In z d) (sym ed) (in_either x y d (⊎_elim (λ u. inl (kx.has d u.1 u.0)) (λ u. inr (met d u.0 u.1)) u))) (digits_sept π v n s ℓ A B (In a.digits) (In b.digits) p.digits q.digits);
          caps = caps_together π v n (sept A B) s ℓ few b.cap a.need r.cap tz (caps_sept π v n s ℓ A B a.need b.cap p.needs q.caps);
          needs = needs_together π v n (sept A B) s ℓ few b.need a.cap r.need tw (needs_sept π v n s ℓ A B a.cap b.need p.caps q.needs);
        };
      }
    where
      met : (d : ℕ) → d ≡ 0 → ((e : ℕ) × In a.digits e × In b.digits e) → In y d
      met d z u =
          ⊎_elim (λ (k : bit_and a.digits b.digits ≡ 0). absurd (in_none u.0 (subst (λ (m : ℕ). In m u.0) k (in_both a.digits b.digits u.0 u.1 u.2))))
          (λ (k : y ≡ 1). subst (λ (m : ℕ). In y m) (sym z) (subst (λ (m : ℕ). In m 0) (sym k) in_one)) ey

module _ (a b : Fact) where
  -- a cannot hold: b's facts are those of both
  pub joined_second : a.digits ≡ 0 → JoinedAs disj a b b
  joined_second e =
      record {
        known = λ π v n A B s ℓ few p q. record {
          digits = digits_second π v n s ℓ A B (In b.digits) (no_digit_hopeless π v n A s ℓ a e p) q.digits;
          caps = caps_second π v n s ℓ A B b.cap (no_digit_hopeless π v n A s ℓ a e p) q.caps;
          needs = needs_second π v n s ℓ A B b.need (no_digit_hopeless π v n A s ℓ a e p) q.needs;
        };
      }

  pub joined_first : b.digits ≡ 0 → JoinedAs disj a b a
  joined_first e =
      record {
        known = λ π v n A B s ℓ few p q. record {
          digits = digits_first π v n s ℓ A B (In a.digits) (no_digit_hopeless π v n B s ℓ b e q) p.digits;
          caps = caps_first π v n s ℓ A B a.cap (no_digit_hopeless π v n B s ℓ b e q) p.caps;
          needs = needs_first π v n s ℓ A B a.need (no_digit_hopeless π v n B s ℓ b e q) p.needs;
        };
      }

-- ---- any formula

pub any_as : (n p : ℕ) (r : Fact) → (p ≡ 2 ^ (n + 2)) × (p < 2 ^ 16) → r.digits ≡ p - 1 → r.cap ≡ n + 1 → r.need ≡ 2 → AnyAs n r
any_as n p r q ed ec en =
    record {
      known = λ π v F s ℓ. record {
        digits = digits_more π v n s ℓ F (AnyDigit n ℓ) (In r.digits) (λ d l _. ap (λ (x : ℕ). in_part x (suc d)) (ed ∙ ap (λ (x : ℕ). x - 1) q.0) ∙ in_all (n + 2) d (omega arith)) (digits_any π v n s ℓ F);
        caps = subst (Caps π v n F s ℓ) (sym ec) (caps_any π v n s ℓ F);
        needs = subst (Needs π v n F s ℓ) (sym en) (needs_any π v n s ℓ F);
      };
    }
