-- The list segment that is walked and the one in words agree. Assumes nothing.
use Rattle.std.specs.Prelude.{◌≡◌, refl, ℕ, zero, suc, pred, ◌<◌, ◌≤◌, eqb}
use Rattle.std.proofs.Common.{sym, ◌∙◌, ap, inl, inr, ⊎_elim, zero-le, suc-le-suc, not-suc-le-zero, eq-or-lt_of_le, le_of_suc-le-suc, arith, eq-eqb, ne_eqb}
use Rattle.std.proofs.Math.Decide.{ℕ_discrete}
use Rattle.logic.specs.Heap.{Map, Heap, Allocated, Value, Empty}
use Rattle.logic.specs.Holds.{Chain, Segment}
use Rattle.logic.specs.Tests.{andb, pickb, allocated, without, empty, chain}
use Rattle.logic.specs.Reflect.{Is}
use Rattle.logic.proofs.Reflect.{is_iff, is_eq, is_and, same_of_not}
use Rattle.logic.proofs.Agree.{is_allocated, is_empty}
use Rattle.logic.proofs.Without.{without_there, without_some, without_heap}
use Rattle.logic.specs.Paths.{Path}
use Rattle.logic.proofs.PathLaws.{path_le}

-- no link: an empty heap
chain_none : (a b : ℕ) (h : Map) → a ≡ b → Empty h → Chain 0 a b h
chain_none a b h e q =
    record {
      at = λ i. a;
      first = refl;
      last = e;
      link = λ i l. absurd (not-suc-le-zero l);
      different = λ i j l m. absurd (omega arith);
      only = λ ℓ f. absurd (f (q ℓ));
    }

chain_empty : (a b : ℕ) (h : Map) → Chain 0 a b h → (a ≡ b) × Empty h
chain_empty a b h c = (sym c.first ∙ c.last, λ ℓ. same_of_not (h ℓ) 0 (λ f. absurd (not-suc-le-zero (c.only ℓ f).1)))

-- a chain whose ends are the same has no link
chain_loop : (k a b : ℕ) (h : Map) → a ≡ b → Chain (suc k) a b h → ⊥
chain_loop k a b h e c = c.different 0 (suc k) (omega arith) (omega arith) (c.first ∙ e ∙ sym c.last)

-- one location more in front
shift : ℕ → Map → Map
shift a f zero = a
shift a f (suc i) = f i

chain_more : (k a b : ℕ) (h : Map) → ¬ (a ≡ b) → Allocated h a → Chain k (pred (h a)) b (without a h) → Chain (suc k) a b h
unfolding shift
chain_more k a b h ne z c =
    record { at = shift a c.at; first = refl; last = c.last; link = link'; different = different'; only = λ ℓ f. only' ℓ f (ℕ_discrete ℓ a) }
  where
    there : (i : ℕ) → i < k → ¬ (c.at i ≡ a)
    there i l = without_some a h (c.at i) (λ e. let q = c.link i l in absurd (omega (arith, q, e)))

    suc_pred : (x : ℕ) → ¬ (x ≡ 0) → x ≡ suc (pred x)
    suc_pred x f = omega arith

    link' : (i : ℕ) → i < suc k → Value h (shift a c.at i) (shift a c.at (suc i))
    link' zero l = suc_pred (h a) z ∙ ap suc (sym c.first)
    link' (suc i) l = sym (without_there a h (c.at i) (there i (le_of_suc-le-suc l))) ∙ c.link i (le_of_suc-le-suc l)

    different' : (i j : ℕ) → i < j → j ≤ suc k → ¬ (shift a c.at i ≡ shift a c.at j)
    different' i zero l m e = absurd (not-suc-le-zero l)
    different' zero (suc j) l m e =
        ⊎_elim (λ (q : j ≡ k). ne (e ∙ ap c.at q ∙ c.last)) (λ (q : j < k). there j q (sym e)) (eq-or-lt_of_le (le_of_suc-le-suc m))
    different' (suc i) (suc j) l m e = c.different i j (le_of_suc-le-suc l) (le_of_suc-le-suc m) e

    only' : (ℓ : ℕ) → Allocated h ℓ → Dec (ℓ ≡ a) → (i : ℕ) × (i < suc k) × (shift a c.at i ≡ ℓ)
    only' ℓ f (yes e) = (0, omega arith, sym e)
    only' ℓ f (no e) = let q = c.only ℓ (λ y. f (sym (without_there a h ℓ e) ∙ y)) in (suc q.0, suc-le-suc q.1, q.2)

-- one link less in front
pub chain_less : (k a b : ℕ) (h : Map) → Chain (suc k) a b h → Allocated h a × Chain k (pred (h a)) b (without a h)
chain_less k a b h c = (
  (λ e. let q = step in absurd (omega (arith, q, e))),
  record {
    at = λ i. c.at (suc i);
    first = omega (arith, step);
    last = c.last;
    link = link';
    different = λ i j l m. c.different (suc i) (suc j) (suc-le-suc l) (suc-le-suc m);
    only = λ ℓ f. only' ℓ f (c.only ℓ (λ y. f (without_there a h ℓ (without_some a h ℓ f) ∙ y)));
  },
)
  where
    step : h a ≡ suc (c.at 1)
    step = ap h (sym c.first) ∙ c.link 0 (omega arith)

    link' : (i : ℕ) → i < k → Value (without a h) (c.at (suc i)) (c.at (suc (suc i)))
    link' i l =
        without_there a h (c.at (suc i)) (λ e. c.different 0 (suc i) (omega arith) (omega arith) (c.first ∙ sym e)) ∙ c.link (suc i) (omega arith)

    only' : (ℓ : ℕ) → Allocated (without a h) ℓ → (i : ℕ) × (i < suc k) × (c.at i ≡ ℓ) → (i : ℕ) × (i < k) × (c.at (suc i) ≡ ℓ)
    only' ℓ f q = go q.0 q.1 q.2
      where
        go : (i : ℕ) → i < suc k → c.at i ≡ ℓ → (i : ℕ) × (i < k) × (c.at (suc i) ≡ ℓ)
        go zero l e = absurd (without_some a h ℓ f (sym e ∙ c.first))
        go (suc i) l e = (i, le_of_suc-le-suc l, e)

pub is_chain : (n p a b : ℕ) (h : Map) → Heap n h → Is (chain n p a b h) ((k : ℕ) × (k ≤ p) × Chain k a b h)
unfolding chain
is_chain n zero a b h g =
    is_iff (is_and (eqb a b) (empty n h) (is_eq a b) (is_empty n h g))
    (λ q. (0, zero-le, chain_none a b h q.0 q.1))
    (λ q. none q.0 q.1 q.2)
  where
    none : (k : ℕ) → k ≤ 0 → Chain k a b h → (a ≡ b) × Empty h
    none zero l c = chain_empty a b h c
    none (suc k) l c = absurd (not-suc-le-zero l)
is_chain n (suc p) a b h g = go (ℕ_discrete a b) (is_chain n p (pred (h a)) b (without a h) (without_heap n a h g))
  where
    stop : (k : ℕ) → a ≡ b → Chain k a b h → Empty h
    stop zero e c = (chain_empty a b h c).1
    stop (suc k) e c = absurd (chain_loop k a b h e c)

    back : (k : ℕ) → k ≤ suc p → Chain k a b h → ¬ (a ≡ b) → Allocated h a × ((j : ℕ) × (j ≤ p) × Chain j (pred (h a)) b (without a h))
    back zero l c ne = absurd (ne (chain_empty a b h c).0)
    back (suc k) l c ne = let q = chain_less k a b h c in (q.0, (k, le_of_suc-le-suc l, q.1))

    go : Dec (a ≡ b) → Is (chain n p (pred (h a)) b (without a h)) ((k : ℕ) × (k ≤ p) × Chain k (pred (h a)) b (without a h)) → Is (pickb (eqb a b) (empty n h) (andb (allocated h a) (chain n p (pred (h a)) b (without a h)))) ((k : ℕ) × (k ≤ suc p) × Chain k a b h)
    go (yes e) i =
        rw (eq-eqb a b e)
        (is_iff (is_empty n h g) (λ q. (0, zero-le, chain_none a b h e q)) (λ q. stop q.0 e q.2))
    go (no e) i =
        rw (ne_eqb a b e)
        (is_iff (is_and (allocated h a) (chain n p (pred (h a)) b (without a h)) (is_allocated h a) i)
        (λ q. (suc q.1.0, suc-le-suc q.1.1, chain_more q.1.0 a b h e q.0 q.1.2))
        (λ q. back q.0 q.1 q.2 e))

chain_path : (k a b : ℕ) (h : Map) → Chain k a b h → Path k h
chain_path k a b h c = record { at = c.at; link = c.link; different = c.different }

-- a chain has at most n links, so those of at most n are all; "x and y the same and h empty" is the chain of no link
pub is_segment : (n a b : ℕ) (h : Map) → Heap n h → Is (chain n n a b h) (Segment a b h)
is_segment n a b h g =
    is_iff (is_chain n n a b h g)
    (λ q. split q.0 q.2)
    (⊎_elim (λ q. (0, zero-le, chain_none a b h q.0 q.1)) (λ q. (q.0, path_le n q.0 h g (chain_path q.0 a b h q.2), q.2)))
  where
    split : (k : ℕ) → Chain k a b h → Segment a b h
    split zero c = inl (chain_empty a b h c)
    split (suc k) c = inr (suc k, omega arith, c)
