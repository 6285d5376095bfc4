-- The walk along a path: how far it has come, one step of it, and how it ends. Assumes nothing.
use Rattle.std.specs.Prelude.{◌≡◌, refl, Bool, true, false, ◌⊎◌}
use Rattle.std.proofs.Common.{sym, subst, ◌∙◌, inl, inr, not-suc-le-zero, eq-or-lt_of_le, le_of_suc-le-suc, add-zero}
use Rattle.std.proofs.Math.Path.{ap}
use Rattle.std.proofs.Math.Logic.{⊎_elim}
use Prim.Native.Nat.{ℕ, zero, suc, zero-le, pred, ◌+◌, ◌*◌, ◌-◌, ◌/◌, ◌%◌, ◌^◌, ◌<◌, ◌≤◌}
use Rattle.std.proofs.Math.Numerals.{add-one}
use native.Mathlib.Omega.{arith}
use Rattle.std.specs.Int.Bits.{bit_or}
use Rattle.std.proofs.Math.Dec.{eqb}
use Rattle.logic.specs.Heap.{Heap, Allocated}
use Rattle.logic.specs.Tests.{orb, digit, in_part, stepped}
use Rattle.logic.specs.Paths.{NoLongPath}
use Rattle.logic.specs.PathLaws.{PathFrom}
use Rattle.logic.proofs.PathLaws.{path_stepped, none_long}
use Rattle.logic.specs.Reflect.{Is}
use Rattle.logic.proofs.Reflect.{false_true, is_iff, is_eq, is_self, is_or, decided}
use Rattle.cells.specs.Cells.{most, cells}
use Rattle.cells.specs.Bits.{digit_shr}
use Rattle.cells.specs.Sets.{in_nothing, in_or, in_pow}
use Rattle.cells.specs.Packing.{cells_nil, cell_none, cell_law}

-- the digit d is noted in m, in bit d
abbrev pub Noted : ℕ → ℕ → Type 0
Noted m d = in_part m (suc d) ≡ true

-- i links from l lead to the location with digit d; m has 0, and the digits of the locations on the way, the last too
pub record Along (w l i d m : ℕ) : Type 0 where
  pub here : d ≡ suc (stepped (cells w) l i)
  pub some : (j : ℕ) → j < i → Allocated (cells w) (stepped (cells w) l j)
  pub different : (j k : ℕ) → j < k → k ≤ i → ¬ (stepped (cells w) l j ≡ stepped (cells w) l k)
  pub nothing : Noted m 0
  pub met : (ℓ : ℕ) → Is (in_part m (suc (suc ℓ))) ((j : ℕ) × (j ≤ i) × (stepped (cells w) l j ≡ ℓ))

-- after i steps of the walk: all were links, or one was missed and there is no long path
pub record Walk (p w l i d m missed : ℕ) : Type 0 where
  pub low : d ≤ suc most
  pub on : ¬ Noted missed 0 → Along w l i d m
  pub off : Noted missed 0 → ¬ PathFrom (suc p) l (cells w)

-- ---- what is noted

is_more : (m x b d : ℕ) → b ≡ 2 ^ x → Is (in_part (bit_or m b) (suc d)) (Noted m d ⊎ (d ≡ x))
is_more m x b d e =
    subst (λ (c : Bool). Is c (Noted m d ⊎ (d ≡ x)))
    (sym (in_or m b (suc d) ∙ ap (λ (y : ℕ). orb (in_part m (suc d)) (in_part y (suc d))) e ∙ ap (orb (in_part m (suc d))) (in_pow x d)))
    (is_or (in_part m (suc d)) (eqb d x) (is_self (in_part m (suc d))) (is_eq d x))

-- whether a digit is noted, as code tests for it
is_noted : (r m d : ℕ) → Is (in_part (bit_or r (m / 2 ^ d)) 1) (Noted r 0 ⊎ Noted m d)
unfolding in_part
is_noted r m d =
    subst (λ (c : Bool). Is c (Noted r 0 ⊎ Noted m d))
    (sym (in_or r (m / 2 ^ d) 1 ∙ ap (λ (y : ℕ). orb (in_part r 1) (eqb y 1)) (digit_shr 2 m d 0 ∙ ap (digit 2 m) (add-zero d))))
    (is_or (in_part r 1) (in_part m (suc d)) (is_self (in_part r 1)) (is_self (in_part m (suc d))))

-- the next digit, as code works it out
pub next_none : (w d : ℕ) → d < 2 → 0 ≡ cells w (d - 1)
next_none w d l = cell_none w (d - 1) (omega arith)

pub next_some : (w d : ℕ) → 2 ≤ d → w / 2 ^ (8 * (d - 2)) % 256 ≡ cells w (d - 1)
next_some w d l = let e : d - 2 ≡ d - 1 - 1 = omega arith in rw e (cell_law w (d - 1) (λ z. absurd (omega arith)))

pub next_low : (w d e : ℕ) → Heap most (cells w) → e ≡ cells w (d - 1) → e ≤ suc most
next_low w d e k c = omega (arith, c, k.low (d - 1))

module _ (w l : ℕ) where
  along_start : (d b : ℕ) → d ≡ l + 1 → b ≡ 2 ^ d → Along w l 0 d (bit_or 1 b)
  unfolding stepped
  along_start d b e f =
      record {
        here = e ∙ add-one l;
        some = λ j z. absurd (not-suc-le-zero z);
        different = λ j i x y. absurd (omega arith);
        nothing = (is_more 1 d b 0 f).from (inl (in_pow 0 0));
        met = λ ℓ. is_iff (is_more 1 d b (suc ℓ) f) (λ q. (0, zero-le, start ℓ q)) (λ q. back ℓ q.0 q.1 q.2);
      }
    where
      start : (ℓ : ℕ) → Noted 1 (suc ℓ) ⊎ (suc ℓ ≡ d) → l ≡ ℓ
      start ℓ (inl q) = absurd (omega (arith, (is_eq (suc ℓ) 0).to (sym (in_pow 0 (suc ℓ)) ∙ q)))
      start ℓ (inr q) = omega arith

      back : (ℓ j : ℕ) → j ≤ 0 → stepped (cells w) l j ≡ ℓ → Noted 1 (suc ℓ) ⊎ (suc ℓ ≡ d)
      back ℓ zero z q = inr (omega arith)
      back ℓ (suc j) z q = absurd (not-suc-le-zero z)

  -- a path of enough links from l goes the same way
  on_the_way : (k i : ℕ) (q : PathFrom k l (cells w)) → i ≤ k → q.path.at i ≡ stepped (cells w) l i
  on_the_way k i q m = path_stepped k (cells w) q.path i m ∙ ap (λ (a : ℕ). stepped (cells w) a i) q.first

  module _ (i d m : ℕ) (a : Along w l i d m) (e : ℕ) (c : e ≡ cells w (d - 1)) where
    there : e ≡ cells w (stepped (cells w) l i)
    there = c ∙ ap (cells w) (omega (arith, a.here))

    after : pred e ≡ stepped (cells w) l (suc i)
    unfolding stepped
    after = ap pred there

    -- no cell, or a location that was met before: no link
    along_stuck : (p : ℕ) → i ≤ p → Noted m e → ¬ PathFrom (suc p) l (cells w)
    along_stuck p n o q = go e refl
      where
        go : (y : ℕ) → y ≡ e → ⊥
        go zero z = absurd (omega (arith, there, z, q.path.link i (omega arith), ap (cells w) (on_the_way (suc p) i q (omega arith))))
        go (suc y) z =
            let t = (a.met y).to (subst (Noted m) (sym z) o) in
            q.path.different t.0 (suc i) (omega (arith, t.1)) (omega arith)
            (on_the_way (suc p) t.0 q (omega (arith, t.1)) ∙ t.2 ∙ ap pred z ∙ after ∙ sym (on_the_way (suc p) (suc i) q (omega arith)))

    -- a location that is new: a link
    along_next : (b : ℕ) → ¬ Noted m e → b ≡ 2 ^ e → Along w l (i + 1) e (bit_or m b)
    along_next b f u =
        record {
          here = next;
          some = λ j n. ⊎_elim (λ (y : j ≡ i). λ o. some' (there ∙ ap (λ (k : ℕ). cells w (stepped (cells w) l k)) (sym y) ∙ o)) (λ (y : j < i). a.some j y) (eq-or-lt_of_le (le_of_suc-le-suc (rw (add-one i) at n)));
          different = λ j k n r. ⊎_elim (λ (y : k ≡ i + 1). λ o. new j (omega arith) (o ∙ ap (stepped (cells w) l) y)) (λ (y : k < i + 1). a.different j k n (omega arith)) (eq-or-lt_of_le r);
          nothing = (is_more m e b 0 u).from (inl a.nothing);
          met = λ ℓ. is_iff (is_more m e b (suc ℓ) u) (to ℓ) (λ q. back ℓ q.0 q.1 q.2);
        }
      where
        some' : ¬ (e ≡ 0)
        some' z = f (subst (Noted m) (sym z) a.nothing)

        next : e ≡ suc (stepped (cells w) l (i + 1))
        next = omega (arith, some', after, ap (stepped (cells w) l) (add-one i))

        new : (j : ℕ) → j ≤ i → ¬ (stepped (cells w) l j ≡ stepped (cells w) l (i + 1))
        new j n y = f (subst (Noted m) (sym next) ((a.met (stepped (cells w) l (i + 1))).from (j, n, y)))

        to : (ℓ : ℕ) → Noted m (suc ℓ) ⊎ (suc ℓ ≡ e) → (j : ℕ) × (j ≤ i + 1) × (stepped (cells w) l j ≡ ℓ)
        to ℓ (inl o) = let q = (a.met ℓ).to o in (q.0, omega (arith, q.1), q.2)
        to ℓ (inr y) = (i + 1, omega arith, omega (arith, next, y))

        back : (ℓ j : ℕ) → j ≤ i + 1 → stepped (cells w) l j ≡ ℓ → Noted m (suc ℓ) ⊎ (suc ℓ ≡ e)
        back ℓ j n y = ⊎_elim (λ (k : j ≡ i + 1). inr (omega (arith, next, ap (stepped (cells w) l) k, y))) (λ (k : j < i + 1). inl ((a.met ℓ).from (j, omega arith, y))) (eq-or-lt_of_le n)

  -- all links of a long path
  along_end : (p i d m : ℕ) → Along w l i d m → i ≡ suc p → PathFrom (suc p) l (cells w)
  unfolding stepped
  along_end p i d m a e =
      rw (← e)
      (record {
        path = record { at = stepped (cells w) l; link = λ j n. value (cells w (stepped (cells w) l j)) (a.some j n); different = a.different };
        first = refl;
      })
    where
      value : (y : ℕ) → ¬ (y ≡ 0) → y ≡ suc (pred y)
      value y n = omega arith

  -- ---- the walk
  module _ (p : ℕ) where
    pub walk_start : (d b : ℕ) → l ≤ most → d ≡ l + 1 → b ≡ 2 ^ d → Walk p w l 0 d (bit_or 1 b) 0
    walk_start d b k e f = record { low = omega arith; on = λ _. along_start d b e f; off = λ o. false_true (sym (in_nothing 1) ∙ o) }

    pub walk_next : (i d m r e b : ℕ) → Heap most (cells w) → Walk p w l i d m r → i ≤ p → e ≡ cells w (d - 1) → b ≡ 2 ^ e → Walk p w l (i + 1) e (bit_or m b) (bit_or r (m / 2 ^ e))
    walk_next i d m r e b k a n c u =
        record {
          low = next_low w d e k c;
          on = λ f. along_next i d m (a.on (λ o. f ((is_noted r m e).from (inl o)))) e c b (λ o. f ((is_noted r m e).from (inr o))) u;
          off = λ o. ⊎_elim a.off (λ y. ⊎_elim a.off (λ f. along_stuck i d m (a.on f) e c p n y) (decided (in_part r 1) (is_self (in_part r 1)))) ((is_noted r m e).to o);
        }

    pub walk_end : (i d m r : ℕ) → Walk p w l i d m r → i ≡ suc p → Is (eqb (r % 2) 0) (PathFrom (suc p) l (cells w))
    unfolding in_part digit
    walk_end i d m r a e =
        is_iff (is_eq (r % 2) 0)
        (λ (z : r % 2 ≡ 0). along_end p i d m (a.on (λ o. false_true (ap (λ (y : ℕ). eqb y 1) (sym z) ∙ o))) e)
        (λ q. ⊎_elim (λ o. absurd (a.off o q)) even (decided (in_part r 1) (is_self (in_part r 1))))
      where
        even : ¬ (eqb (r % 2) 1 ≡ true) → r % 2 ≡ 0
        even f = let g : ¬ (r % 2 ≡ 1) = λ z. f ((is_eq (r % 2) 1).from z) in omega arith

-- ---- every start

-- no path of more than p links starts below l
abbrev pub NoneBelow : ℕ → ℕ → ℕ → Type 0
NoneBelow p w l = (j : ℕ) → j < l → ¬ PathFrom (suc p) j (cells w)

pub none_nil : (p w : ℕ) → NoneBelow p w 1
none_nil p w zero a q = absurd (omega (arith, q.path.link 0 (omega arith), ap (cells w) q.first, cells_nil w))
none_nil p w (suc j) a q = absurd (omega arith)

pub none_above : (p w l : ℕ) → NoneBelow p w l → ¬ PathFrom (suc p) l (cells w) → NoneBelow p w (l + 1)
none_above p w l f g j a q =
    ⊎_elim (λ (e : j ≡ l). g (subst (λ (i : ℕ). PathFrom (suc p) i (cells w)) e q)) (λ (n : j < l). f j n q) (eq-or-lt_of_le (omega arith))

pub one_long : (p w l : ℕ) → PathFrom (suc p) l (cells w) → Is false (NoLongPath p (cells w))
one_long p w l q = record { to = λ t. false_true t; from = λ f. absurd (f (suc p) (omega arith) q.path) }

pub all_none : (n p w l : ℕ) → Heap n (cells w) → NoneBelow p w l → n < l → Is true (NoLongPath p (cells w))
all_none n p w l k f z = record { to = λ _. none_long n p (cells w) k (λ a m. f a (omega arith)); from = λ _. refl }
