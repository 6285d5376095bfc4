-- Laws of the cells that may be added to a heap: the heap's values, its locations, and where a cell may be and point. Assumes
-- nothing.
use Rattle.std.specs.Prelude.{◌≡◌, refl, Bool, true, false, ◌⊎◌, ℕ, zero, suc, ◌+◌, ◌*◌, ◌-◌, ◌/◌, ◌%◌, ◌^◌, ◌<◌, ◌≤◌, eqb}
use Rattle.std.proofs.Common.{sym, subst, ◌∙◌, ap, inl, inr, ⊎_elim, not-suc-le-zero, lt_of_le_of_lt, arith}
use Rattle.std.proofs.Math.Nat.{pow-le-pow_right, div-div-eq-div-mul}
use Rattle.std.proofs.Math.Decide.{dec_lt, ℕ_discrete}
use Rattle.std.specs.Int.Bits.{bit_and, bit_or}
use Rattle.std.proofs.lemmas.Nat.{and_le_r, or_lt}
use Rattle.logic.specs.Heap.{Heap, Value, Locs}
use Rattle.logic.specs.Tests.{andb, orb, digit, in_part}
use Rattle.logic.proofs.Digits.{digit_lt}
use Rattle.logic.specs.Reflect.{Is}
use Rattle.logic.proofs.Reflect.{false_true, is_iff, is_self, is_eq, is_and, is_or}
use Rattle.logic.proofs.Agree.{is_allocated}
use Rattle.cells.specs.Cells.{most, full, cells, Taken, Values, Met, Source, Target}
use Rattle.cells.specs.Loops.{Noting, NoSource}
use Rattle.cells.specs.Below.{some_more, some_less}
use Rattle.cells.specs.Bits.{digit_is}
use Rattle.cells.specs.Sets.{in_nil, in_and, in_or, in_nothing, in_pow}
use Rattle.cells.specs.Packing.{cells_nil}

-- ---- the values

pub noting_none : (w : ℕ) → Noting w 1 0
noting_none w =
    record {
      small = omega arith;
      member = λ j. record {
        to = λ t. false_true (sym (in_nothing (suc (suc j))) ∙ t);
        from = λ q. absurd (none j q.0 q.1 q.2);
      };
    }
  where
    none : (j ℓ : ℕ) → ℓ < 1 → ¬ Value (cells w) ℓ j
    none j zero l e = absurd (omega (arith, cells_nil w, e))
    none j (suc i) l e = absurd (omega arith)

-- the next cell's digit d is noted in b
pub noting_more : (w l v d b : ℕ) → Heap most (cells w) → d ≡ cells w l → b ≡ 2 ^ d → Noting w l v → Noting w (l + 1) (bit_or v b)
noting_more w l v d b k ed e q =
    record {
      small = or_lt (most + 2) v b q.small (subst (λ (y : ℕ). y < 2 ^ (most + 2)) (sym e) (lt_of_le_of_lt (pow-le-pow_right {n = 2} (omega arith) low) (omega arith)));
      member = λ j.
          subst (λ (c : Bool). Is c ((ℓ : ℕ) × (ℓ < l + 1) × Value (cells w) ℓ j))
          (sym (in_or v b (suc (suc j)) ∙ ap (λ (y : ℕ). orb (in_part v (suc (suc j))) (in_part y (suc (suc j)))) e ∙ ap (orb (in_part v (suc (suc j)))) (in_pow d (suc j))))
          (is_iff (is_or (in_part v (suc (suc j))) (eqb (suc j) d) (q.member j) (is_eq (suc j) d))
          (λ o. some_more (λ ℓ. Value (cells w) ℓ j) l (⊎_elim inl (λ e. inr (sym ed ∙ sym e)) o))
          (λ o. ⊎_elim inl (λ e. inr (sym e ∙ sym ed)) (some_less (λ ℓ. Value (cells w) ℓ j) l o)));
    }
  where
    low : d ≤ suc most
    low = rw ed (k.low l)

quarter_in : (v i : ℕ) → in_part (v / 4) (suc i) ≡ in_part v (suc (suc (suc i)))
unfolding in_part digit
quarter_in v i = ap (λ (y : ℕ). eqb (digit 2 y i) 1) (sym (div-div-eq-div-mul v 2 2))

pub noting_all : (w l v : ℕ) → Heap most (cells w) → most < l → Noting w l v → Values w (v / 4)
noting_all w l v k z q = record { small = quarter q.small; member = each }
  where
    quarter : v < 2 ^ (most + 2) → v / 4 < full
    quarter l = omega arith

    -- a cell is at a location up to the most
    below : (j ℓ : ℕ) → Value (cells w) ℓ j → ℓ < l
    below j ℓ e = go (dec_lt ℓ l)
      where
        go : Dec (ℓ < l) → ℓ < l
        go (yes h) = h
        go (no h) = absurd (omega (arith, k.past ℓ (omega arith), e))

    each : (j : ℕ) → Is (in_part (v / 4) j) ((¬ (j ≡ 0)) × ((ℓ : ℕ) × Value (cells w) ℓ j))
    each zero = record { to = λ t. false_true (sym (in_nil (v / 4)) ∙ t); from = λ o. absurd (o.0 refl) }
    each (suc i) =
        subst (λ (b : Bool). Is b ((¬ (suc i ≡ 0)) × ((ℓ : ℕ) × Value (cells w) ℓ (suc i)))) (sym (quarter_in v i))
        (is_iff (q.member (suc i)) (λ o. (λ e. absurd (omega (arith, e)), (o.0, o.2))) (λ o. (o.1.0, below (suc i) o.1.0 o.1.1, o.1.1)))

-- ---- the locations that are met
pub met_nothing : (u w : ℕ) → u ≡ 0 → Met u w 0
met_nothing u w e =
    record {
      small = omega arith;
      member = λ j. record {
        to = λ t. false_true (sym (in_nothing j) ∙ t);
        from = λ q. false_true (sym (in_nothing j) ∙ ap (λ (x : ℕ). in_part x j) (sym e) ∙ q.1);
      };
    }

pub met_law : (u w v a : ℕ) → u < full → Values w v → Taken w a → Met u w (bit_and (bit_or v a) u)
met_law u w v a h vs t = record { small = lt_of_le_of_lt (and_le_r (bit_or v a) u) h; member = each }
  where
    some : (j : ℕ) → in_part u j ≡ true → ¬ (j ≡ 0)
    some j i e = false_true (sym (in_nil u) ∙ ap (in_part u) (sym e) ∙ i)

    is_loc : (j : ℕ) → Is (orb (in_part v j) (in_part a j)) (((¬ (j ≡ 0)) × ((ℓ : ℕ) × Value (cells w) ℓ j)) ⊎ (¬ (cells w j ≡ 0)))
    is_loc j = is_or (in_part v j) (in_part a j) (vs.member j) (rw (t.member j) (is_allocated (cells w) j))

    each : (j : ℕ) → Is (in_part (bit_and (bit_or v a) u) j) (Locs (cells w) j × (in_part u j ≡ true))
    each j =
        is_iff (subst (λ (b : Bool). Is b ((((¬ (j ≡ 0)) × ((ℓ : ℕ) × Value (cells w) ℓ j)) ⊎ (¬ (cells w j ≡ 0))) × (in_part u j ≡ true))) (sym (in_and (bit_or v a) u j ∙ ap (λ (b : Bool). andb b (in_part u j)) (in_or v a j)))
        (is_and (orb (in_part v j) (in_part a j)) (in_part u j) (is_loc j) (is_self (in_part u j))))
        (λ q. (⊎_elim (λ o. inr o.1) inl q.0, q.1))
        (λ q. (⊎_elim inr (λ o. inl (some j q.1, o)) q.0, q.1))

-- ---- where an added cell may be
no_bit : (x : ℕ) → x < 2 → Is (eqb x 0) (¬ (eqb x 1 ≡ true))
no_bit zero l = record { to = λ _ t. false_true t; from = λ _. refl }
no_bit (suc zero) l = record { to = λ t. false_true t; from = λ f. absurd (f refl) }
no_bit (suc (suc x)) l = absurd (omega arith)

pub not_source : (w met l d : ℕ) → d ≡ cells w l → ¬ (d ≡ 0) → Is false (Source w met l)
not_source w met l d e n = record { to = λ t. false_true t; from = λ q. absurd (n (e ∙ q.0)) }

pub source_law : (w met l d : ℕ) → 1 ≤ l → d ≡ cells w l → d ≡ 0 → Is (eqb (met / 2 ^ (l - 1) % 2) 0) (Source w met l)
unfolding in_part
source_law w met zero d h e z = absurd (not-suc-le-zero h)
source_law w met (suc i) d h e z =
    let o : suc i - 1 ≡ i = omega arith in
    rw (o, digit_is 2 met i) (is_iff (no_bit (digit 2 met i) (digit_lt 2 met i (omega arith))) (λ q. (sym e ∙ z, q)) (λ q. q.1))

pub no_source_next : (w met top l : ℕ) → 0 < l → NoSource w met top l → ¬ Source w met l → NoSource w met top (l - 1)
no_source_next w met top l h f n ℓ k m = go (ℕ_discrete ℓ l)
  where
    above : ¬ (ℓ ≡ l) → l < ℓ
    above e = omega arith

    go : Dec (ℓ ≡ l) → ¬ Source w met ℓ
    go (yes e) = subst (λ (i : ℕ). ¬ Source w met i) (sym e) n
    go (no e) = f ℓ (above e) m

-- ---- where it may point
fourfold : (met d : ℕ) → eqb (digit 2 (4 * met) (suc d)) 1 ≡ in_part met d
unfolding in_part digit
fourfold met zero = let e : 4 * met / 2 % 2 ≡ 0 = omega arith in rw e
fourfold met (suc i) = let e : 4 * met / 2 / 2 ≡ met = omega arith in rw e

fourfold_even : (met : ℕ) → eqb (digit 2 (4 * met) 0) 1 ≡ false
unfolding digit
fourfold_even met = let e : 4 * met % 2 ≡ 0 = omega arith in rw e

pub target_law : (met d : ℕ) → Is (eqb (4 * met / 2 ^ d % 2) 0) (Target met d)
target_law met d =
    rw (digit_is 2 (4 * met) d)
    (is_iff (no_bit (digit 2 (4 * met) d) (digit_lt 2 (4 * met) d (omega arith))) (λ f j e t. f (at_suc j e ∙ t)) (λ f t. none d refl t f))
  where
    at_suc : (j : ℕ) → d ≡ suc j → eqb (digit 2 (4 * met) d) 1 ≡ in_part met j
    at_suc j e = ap (λ (x : ℕ). eqb (digit 2 (4 * met) x) 1) e ∙ fourfold met j

    none : (x : ℕ) → d ≡ x → eqb (digit 2 (4 * met) d) 1 ≡ true → ¬ Target met d
    none zero e t f = false_true (sym (ap (λ (x : ℕ). eqb (digit 2 (4 * met) x) 1) e ∙ fourfold_even met) ∙ t)
    none (suc j) e t f = f j e (sym (at_suc j e) ∙ t)
