-- Laws of the sets of the locations that are not named, and that are barred, as code works them out. Assumes nothing.
use Rattle.std.specs.Prelude.{◌≡◌, Bool, not, ℕ, zero, suc, ◌+◌, ◌*◌, ◌-◌, ◌/◌, ◌^◌, ◌<◌, ◌≤◌, leb}
use Rattle.std.proofs.Common.{sym, subst, ◌∙◌, ap, inl, inr, ⊎_elim, zero-le, suc-le-suc, lt_of_lt_of_le, pow-suc, add-one, arith, le-leb}
use Rattle.std.proofs.Math.Nat.{pow-le-pow_right, one-le-pow}
use Rattle.std.proofs.Math.Decide.{dec_le}
use Rattle.std.specs.Int.Bits.{bit_or, bit_xor}
use Rattle.std.proofs.lemmas.Nat.{or_lt, xor_lt}
use Rattle.std.proofs.lemmas.Bool.{lt-leb}
use Rattle.logic.specs.declared.Profile.TheVariants.{Strong, Ordinary}
use Rattle.logic.specs.Heap.{Map, Named}
use Rattle.logic.specs.Tests.{pick, pickb, in_part}
use Rattle.logic.specs.Reflect.{Is}
use Rattle.logic.proofs.Reflect.{false_true, is_iff, is_eq, is_or, is_not}
use Rattle.cells.specs.Cells.{most, full, cells, Barred}
use Rattle.cells.specs.Loops.{Naming}
use Rattle.cells.specs.Below.{some_more, some_less}
use Rattle.cells.specs.Sets.{in_nil, in_or, in_xor, in_pow, in_nothing, in_past, in_all, in_half}
use Rattle.cells.specs.Packing.{cells_nil}

pub bit_up_to_lt : (d n : ℕ) → d ≤ n → 2 ^ d < 2 ^ suc n
bit_up_to_lt d n l = lt_of_lt_of_le (rw (pow-suc 2 d) (twice (one-le-pow d 2 (omega arith)))) (pow-le-pow_right {n = 2} (omega arith) {i = suc d} {j = suc n} (suc-le-suc l))
  where
    twice : {x : ℕ} → 1 ≤ x → x < x * 2
    twice h = omega arith

-- bit d, where d is at most n
pub is_bit_up_to : (d n r j : ℕ) → r ≡ pick (leb d n) (2 ^ d) 0 → Is (in_part r (suc j)) ((j ≡ d) × (j ≤ n))
is_bit_up_to d n r j e = go (dec_le d n)
  where
    low : d ≤ n → j ≡ d → j ≤ n
    low l q = omega arith

    high : ¬ (d ≤ n) → (j ≡ d) × (j ≤ n) → ⊥
    high l q = omega (arith, q.0, q.1)

    go : Dec (d ≤ n) → Is (in_part r (suc j)) ((j ≡ d) × (j ≤ n))
    go (yes l) =
        subst (λ (b : Bool). Is b ((j ≡ d) × (j ≤ n))) (sym (ap (λ (x : ℕ). in_part x (suc j)) (e ∙ rw (le-leb d n l)) ∙ in_pow d j))
        (is_iff (is_eq j d) (λ q. (q, low l q)) (λ q. q.0))
    go (no l) =
        subst (λ (b : Bool). Is b ((j ≡ d) × (j ≤ n))) (sym (ap (λ (x : ℕ). in_part x (suc j)) (e ∙ rw (lt-leb d n (omega arith))) ∙ in_nothing (suc j)))
        (record { to = λ t. false_true t; from = λ q. absurd (high l q) })

-- no variable is passed yet but nil
pub naming_none : (n s : ℕ) → Naming n s 1 0
naming_none n s =
    record {
      small = one-le-pow (suc n) 2 (omega arith);
      member = λ j l. record {
        to = λ t. false_true (sym (in_nothing (suc (suc j))) ∙ t);
        from = λ q. absurd (none j q.0 q.1 q.2);
      };
    }
  where
    none : (j x : ℕ) → x < 1 → ¬ (cells s x ≡ suc j)
    none j zero l e = absurd (omega (arith, cells_nil s, e))
    none j (suc i) l e = absurd (omega arith)

-- the next variable's location d is noted in r
pub naming_more : (n s x m d r : ℕ) → d ≡ cells s x → r ≡ pick (leb d n) (2 ^ d) 0 → r < 2 ^ suc n → Naming n s x m → Naming n s (x + 1) (bit_or m r)
naming_more n s x m d r ed e small q =
    record {
      small = or_lt (suc n) m r q.small small;
      member = λ j l.
          subst (λ (b : Bool). Is b ((y : ℕ) × (y < x + 1) × (cells s y ≡ suc j))) (sym (in_or m r (suc (suc j))))
          (is_iff (is_or (in_part m (suc (suc j))) (in_part r (suc (suc j))) (q.member j l) (is_bit_up_to d n r (suc j) e))
          (λ o. some_more (λ y. cells s y ≡ suc j) x (⊎_elim inl (λ p. inr (sym ed ∙ sym p.0)) o))
          (λ o. ⊎_elim inl (λ p. inr (sym p ∙ sym ed, l)) (some_less (λ y. cells s y ≡ suc j) x o)));
    }

-- every variable is passed
pub naming_all : (v n s x m p : ℕ) → n ≤ most → x ≡ v + 1 → p ≡ 2 ^ (n + 1) → Naming n s x m → Barred Strong v n (cells s) (bit_xor (p - 1) m / 2)
naming_all v n s x m p few z e q = rw (e, add-one) (record { small = half; member = each })
  where
    all_bits : 2 ^ suc n - 1 < 2 ^ suc n
    all_bits = let l = one-le-pow (suc n) 2 (omega arith) in omega arith

    half : bit_xor (2 ^ suc n - 1) m / 2 < full
    half =
        let l = xor_lt (suc n) (2 ^ suc n - 1) m all_bits q.small in
        let k = pow-le-pow_right {n = 2} (omega arith) {i = suc n} {j = suc most} (omega arith) in
        omega arith

    is_marked : (j : ℕ) → suc j ≤ n → Is (in_part m (suc (suc j))) (Named v (cells s) (suc j))
    is_marked j l = is_iff (q.member j l) (λ o. (o.0, omega (arith, o.1), o.2)) (λ o. (o.0, omega (arith, o.1), o.2))

    each : (j : ℕ) → Is (in_part (bit_xor (2 ^ suc n - 1) m / 2) j) ((j ≤ n) × (¬ Named v (cells s) j))
    each zero =
        record {
          to = λ t. false_true (sym (in_nil (bit_xor (2 ^ suc n - 1) m / 2)) ∙ t);
          from = λ o. absurd (o.1 (0, zero-le, cells_nil s));
        }
    each (suc j) =
        subst (λ (b : Bool). Is b ((suc j ≤ n) × (¬ Named v (cells s) (suc j))))
        (sym (in_half (bit_xor (2 ^ suc n - 1) m) j ∙ in_xor (2 ^ suc n - 1) m (suc (suc j)))) (go (dec_le (suc j) n))
      where
        go : Dec (suc j ≤ n) → Is (pickb (in_part (2 ^ suc n - 1) (suc (suc j))) (not (in_part m (suc (suc j)))) (in_part m (suc (suc j)))) ((suc j ≤ n) × (¬ Named v (cells s) (suc j)))
        go (yes l) =
            rw (in_all (suc n) (suc j) (suc-le-suc l))
            (is_iff (is_not (in_part m (suc (suc j))) (is_marked j l)) (λ f. (l, f)) (λ o. o.1))
        go (no l) =
            rw (in_past (suc n) (2 ^ suc n - 1) (suc (suc j)) all_bits (omega arith), in_past (suc n) m (suc (suc j)) q.small (omega arith))
            (record { to = λ t. false_true t; from = λ o. absurd (l o.0) })

-- the ordinary profile bars no location
pub barred_none : (v n : ℕ) (s : Map) → Barred Ordinary v n s 0
barred_none v n s =
    record { small = omega arith; member = λ ℓ. record { to = λ e. false_true (sym (in_nothing ℓ) ∙ e); from = λ q. absurd (q.1 tt) } }
