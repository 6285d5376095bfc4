-- The facts of a node at one location, for one stack: which digits a heap on which it holds may have there, and how far the number
-- of cells that point there may be from that of the cells that stand there. Assumes nothing: these are definitions.
use Rattle.std.specs.Prelude.{◌≡◌, ◌⊎◌, ℕ, suc, ◌+◌, ◌-◌, ◌≤◌}
use Rattle.logic.specs.declared.Profile.{Profile}
use Rattle.logic.specs.Heap.{Map, Heap}
use Rattle.logic.specs.Formula.{Form}
use Rattle.logic.specs.Formula.Form.{same, diff, pts, ls, conj, disj, but, neg, sep, sept}
use Rattle.logic.specs.Holds.{Holds}
use Rattle.skips.specs.Counts.{hit, incoming, outgoing, smaller, larger}

-- ---- what a fact says: the rules of specs/DigitRules.antt and BoundRules.antt lead from the children to their parent

module _ (π : Profile) (v n : ℕ) (F : Form) (s : Map) (ℓ : ℕ) where
  -- P is among the sets that hold the digit at ℓ of every heap on which F holds
  unfoldable pub Digits : (ℕ → Type 0) → Type 0
  Digits P = (h : Map) → Heap n h → Holds π v n F s h → P (h ℓ)

  -- "in(ℓ) + 1 ≤ out(ℓ) + cap" on every such heap
  unfoldable pub Caps : ℕ → Type 0
  Caps k = (h : Map) → Heap n h → Holds π v n F s h → incoming n h ℓ + 1 ≤ outgoing h ℓ + k

  -- "out(ℓ) + 1 ≤ in(ℓ) + need" on every such heap
  unfoldable pub Needs : ℕ → Type 0
  Needs k = (h : Map) → Heap n h → Holds π v n F s h → outgoing h ℓ + 1 ≤ incoming n h ℓ + k

-- F holds on no heap
unfoldable pub Hopeless : Profile → ℕ → ℕ → Form → Map → Type 0
Hopeless π v n F s = (h : Map) → Heap n h → ¬ Holds π v n F s h

-- ---- the sets of digits, operator by operator

-- a cell from a to b and nothing else
abbrev pub PointsDigit : ℕ → ℕ → ℕ → ℕ → Type 0
PointsDigit a b ℓ d = ((ℓ ≡ a) × (d ≡ suc b)) ⊎ ((¬ (ℓ ≡ a)) × (d ≡ 0))

-- a cell with value x at ℓ in a list from a to another location b: nil and b have none; none points to a or to itself, and none to
-- nil but where the list ends there
pub record ListCell (n a b ℓ x : ℕ) : Type 0 where
  pub no_nil : ¬ (ℓ ≡ 0)
  pub no_end : ¬ (ℓ ≡ b)
  pub no_start : ¬ (x ≡ a)
  pub no_loop : ¬ (x ≡ ℓ)
  pub end : x ≡ 0 → b ≡ 0
  pub low : x ≤ n

abbrev pub ListDigit : ℕ → ℕ → ℕ → ℕ → ℕ → Type 0
ListDigit n a b ℓ d = ((¬ (ℓ ≡ a)) × (d ≡ 0)) ⊎ ((x : ℕ) × (d ≡ suc x) × ListCell n a b ℓ x)

-- a digit of a heap at ℓ
abbrev pub AnyDigit : ℕ → ℕ → ℕ → Type 0
AnyDigit n ℓ d = (d ≤ suc n) × (ℓ ≡ 0 → d ≡ 0)

-- digit d of two parts together: one has it, and the other none
abbrev pub SepDigit : (ℕ → Type 0) → (ℕ → Type 0) → ℕ → Type 0
SepDigit P Q d = (P d × Q 0) ⊎ (P 0 × Q d)

-- digit d of what is left of a whole (digits in Q) without what was added (digits in P): the whole's, where nothing was added; or
-- none, where a cell was added
abbrev pub SeptDigit : (ℕ → Type 0) → (ℕ → Type 0) → ℕ → Type 0
SeptDigit P Q d = (P 0 × Q d) ⊎ ((d ≡ 0) × ((e : ℕ) × P e × Q e))

-- the digits that may stand at ℓ
module _ (n : ℕ) (s : Map) (ℓ : ℕ) where
  unfoldable pub May : Form → ℕ → Type 0
  May (same x y) d = (s x ≡ s y) × (d ≡ 0)
  May (diff x y) d = (¬ (s x ≡ s y)) × (d ≡ 0)
  May (pts x y) d = (¬ (s x ≡ 0)) × PointsDigit (s x) (s y) ℓ d
  May (ls x y) d = ((s x ≡ s y) × (d ≡ 0)) ⊎ ((¬ (s x ≡ s y)) × (¬ (s x ≡ 0)) × ListDigit n (s x) (s y) ℓ d)
  May (conj a b) d = May a d × May b d
  May (disj a b) d = May a d ⊎ May b d
  May (but a b) d = May a d
  May (neg a) d = AnyDigit n ℓ d
  May (sep a b) d = SepDigit (May a) (May b) d
  May (sept a b) d = SeptDigit (May a) (May b) d

-- ---- the bounds, operator by operator

-- one cell or a list from a to b: in(ℓ) + [ℓ is a] = out(ℓ) + [ℓ is b]
abbrev pub cap_of_path : ℕ → ℕ → ℕ → ℕ
cap_of_path a b ℓ = 1 + hit (suc b) ℓ - hit (suc a) ℓ

module _ (n : ℕ) (s : Map) (ℓ : ℕ) where
  unfoldable mutual
    pub cap_of : Form → ℕ
    cap_of (same x y) = 1
    cap_of (diff x y) = 1
    cap_of (pts x y) = cap_of_path (s x) (s y) ℓ
    cap_of (ls x y) = cap_of_path (s x) (s y) ℓ
    cap_of (conj a b) = smaller (cap_of a) (cap_of b)
    cap_of (disj a b) = larger (cap_of a) (cap_of b)
    cap_of (but a b) = cap_of a
    cap_of (neg a) = n + 1
    cap_of (sep a b) = cap_of a + cap_of b - 1
    cap_of (sept a b) = cap_of b + need_of a - 1

    pub need_of : Form → ℕ
    need_of (same x y) = 1
    need_of (diff x y) = 1
    need_of (pts x y) = cap_of_path (s y) (s x) ℓ
    need_of (ls x y) = cap_of_path (s y) (s x) ℓ
    need_of (conj a b) = smaller (need_of a) (need_of b)
    need_of (disj a b) = larger (need_of a) (need_of b)
    need_of (but a b) = need_of a
    need_of (neg a) = 2
    need_of (sep a b) = need_of a + need_of b - 1
    need_of (sept a b) = need_of b + cap_of a - 1
