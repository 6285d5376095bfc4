-- A simple path has at most as many links as there are allocated locations; and what is tested of paths is what is said of them.
-- Assumes nothing.
use Rattle.std.specs.Prelude.{◌≡◌, Bool, true, false, not, eqb}
use Rattle.std.proofs.Math.Path.{refl, ap}
use Rattle.std.proofs.Common.{sym, ◌∙◌, eq-or-lt_of_le, le_of_suc-le-suc, arith}
use Rattle.std.proofs.Math.Logic.{⊎_elim}
use Prim.Native.Nat.{ℕ, zero, suc, zero-le, pred, ◌<◌, ◌≤◌}
use borrow.Author.Tests.{ne_eqb}
use Rattle.logic.specs.Heap.{Map, Heap, Allocated}
use Rattle.logic.specs.Paths.{Path, NoLongPath}
use Rattle.logic.specs.Tests.{pick, all, allocated, without, stepped, path_from, short}
use Rattle.logic.specs.Reflect.{Is}
use Rattle.logic.proofs.Reflect.{is_iff, is_eq, is_and, is_not, is_all, is_any}
use Rattle.logic.proofs.Agree.{is_allocated, allocated_low}
use Rattle.logic.proofs.Without.{without_here, without_there, without_heap}
use Rattle.logic.specs.PathLaws.{one, size, PathFrom}

one_le : (b : Bool) → pick b 0 1 ≤ 1
one_le true = omega arith
one_le false = omega arith

pub size_le : (n : ℕ) (h : Map) → size n h ≤ n
unfolding size
size_le zero h = zero-le
size_le (suc n) h = omega (arith, size_le n h, one_le (eqb (h (suc n)) 0))

module _ (a : ℕ) (h : Map) where
  size_past : (n : ℕ) → n < a → size n (without a h) ≡ size n h
  unfolding size
  size_past zero l = refl
  size_past (suc n) l =
      omega (arith, size_past n (omega arith), ap one (without_there a h (suc n) (λ (e : suc n ≡ a). omega arith)))

  size_without : (n : ℕ) → 1 ≤ a → a ≤ n → Allocated h a → size n h ≡ suc (size n (without a h))
  unfolding size
  size_without zero l m f = absurd (omega arith)
  size_without (suc n) l m f =
      ⊎_elim
      (λ (e : a ≡ suc n). rw (← e, ne_eqb (h a) 0 f, without_here a h) (omega (arith, size_past n (omega arith))))
      (λ (q : a < suc n).
      omega (arith, size_without n l (le_of_suc-le-suc q) f, ap one (without_there a h (suc n) (λ (e : suc n ≡ a). omega arith))))
      (eq-or-lt_of_le m)

-- one link less in front
path_less : (k : ℕ) (h : Map) (q : Path (suc k) h) → Path k (without (q.at 0) h)
path_less k h q =
    record {
      at = λ i. q.at (suc i);
      link = λ i l. without_there (q.at 0) h (q.at (suc i)) (λ e. q.different 0 (suc i) (omega arith) (omega arith) (sym e)) ∙ q.link (suc i) (omega arith);
      different = λ i j l m. q.different (suc i) (suc j) (omega arith) (omega arith);
    }

pub path_size : (n k : ℕ) (h : Map) → Heap n h → Path k h → k ≤ size n h
path_size n zero h g q = zero-le
path_size n (suc k) h g q =
    let some : Allocated h (q.at 0) = λ z. absurd (omega (arith, z, q.link 0 (omega arith))) in
    omega (arith, path_size n k (without (q.at 0) h) (without_heap n (q.at 0) h g) (path_less k h q), size_without (q.at 0) h n (go (q.at 0) refl) (allocated_low n h (q.at 0) g some) some)
  where
    go : (a : ℕ) → a ≡ q.at 0 → 1 ≤ a
    go zero e = absurd (omega (arith, ap h e, g.nil, q.link 0 (omega arith)))
    go (suc a) e = omega arith

-- "limited by n alone": a path along a heap of n locations has at most n links
pub path_le : (n k : ℕ) (h : Map) → Heap n h → Path k h → k ≤ n
path_le n k h g q = omega (arith, path_size n k h g q, size_le n h)

-- ---- what is tested

pub path_stepped : (k : ℕ) (h : Map) (q : Path k h) (i : ℕ) → i ≤ k → q.at i ≡ stepped h (q.at 0) i
unfolding stepped
path_stepped k h q zero l = refl
path_stepped k h q (suc i) l =
    let e : h (q.at i) ≡ suc (q.at (suc i)) = q.link i l in
    omega (arith, e) ∙ ap (λ (x : ℕ). pred (h x)) (path_stepped k h q i (omega arith))

suc_pred : (x : ℕ) → ¬ (x ≡ 0) → x ≡ suc (pred x)
suc_pred x f = omega arith

pub is_path_from : (k a : ℕ) (h : Map) → Is (path_from h k a) (PathFrom k a h)
unfolding path_from stepped
is_path_from k a h =
    is_iff
    (is_and _ _ (is_all (λ i. allocated h (stepped h a i)) (λ i. Allocated h (stepped h a i)) k (λ i _. is_allocated h (stepped h a i)))
    (is_all (λ j. all j (λ i. not (eqb (stepped h a i) (stepped h a j)))) (λ j. (i : ℕ) → i < j → ¬ (stepped h a i ≡ stepped h a j)) (suc k)
    (λ j _. is_all (λ i. not (eqb (stepped h a i) (stepped h a j))) (λ i. ¬ (stepped h a i ≡ stepped h a j)) j (λ i _. is_not _ (is_eq (stepped h a i) (stepped h a j))))))
    (λ q. record {
      path = record { at = stepped h a; link = λ i l. suc_pred (h (stepped h a i)) (q.0 i l); different = λ i j l m. q.1 j (omega arith) i l };
      first = refl;
    })
    (λ q. (λ i l z. absurd (omega (arith, q.path.link i l, ap h (same q i (omega arith)), z)), λ j l i m e. q.path.different i j m (omega arith) (same q i (omega arith) ∙ e ∙ sym (same q j (omega arith)))))
  where
    same : (q : PathFrom k a h) (i : ℕ) → i ≤ k → q.path.at i ≡ stepped h a i
    same q i l = path_stepped k h q.path i l ∙ ap (λ (x : ℕ). stepped h x i) q.first

-- the first links of a path
pub path_first : (k j : ℕ) (h : Map) → j ≤ k → Path k h → Path j h
path_first k j h l q = record { at = q.at; link = λ i m. q.link i (omega arith); different = λ i m a b. q.different i m a (omega arith) }

-- no path of p + 1 links from any location, no path of more than p
pub none_long : (n p : ℕ) (h : Map) → Heap n h → ((a : ℕ) → a ≤ n → ¬ PathFrom (suc p) a h) → NoLongPath p h
none_long n p h g f k l q =
    let r = path_first k (suc p) h l q in
    f (r.at 0) (allocated_low n h (r.at 0) g (λ z. absurd (omega (arith, z, r.link 0 (omega arith))))) (record { path = r; first = refl })

pub is_short : (n p : ℕ) (h : Map) → Heap n h → Is (short n p h) (NoLongPath p h)
unfolding short
is_short n p h g =
    is_iff (is_not _ (is_any (path_from h (suc p)) (λ a. PathFrom (suc p) a h) (suc n) (λ a _. is_path_from (suc p) a h)))
    (λ f. none_long n p h g (λ a l q. f (a, omega arith, q)))
    (λ f q. f (suc p) (omega arith) q.2.path)
