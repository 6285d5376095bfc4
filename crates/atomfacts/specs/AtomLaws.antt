-- Facts of an atom, by bits. Assumes nothing.
use Rattle.std.specs.Prelude.{◌≡◌, refl, Bool, true, false, not, ℕ, suc, ◌+◌, ◌-◌, ◌^◌, ◌<◌, ◌≤◌, eqb}
use Rattle.std.proofs.Math.Path.{sym, subst, ap}
use Rattle.std.proofs.Common.{subst₂, ◌∙◌, ap₂, eq-eqb, ne_eqb}
use Rattle.std.proofs.Math.Logic.{⊎_elim}
use native.Mathlib.Omega.{arith}
use Rattle.std.specs.Int.{from_bool}
use Rattle.std.specs.Int.Bits.{bit_and, bit_xor}
use Rattle.std.proofs.Math.Decide.{ℕ_discrete}
use Rattle.std.proofs.lemmas.Nat.{and_le_l, xor_lt}
use Rattle.logic.specs.declared.Profile.{Profile}
use Rattle.logic.specs.Heap.{Map}
use Rattle.logic.specs.Formula.{Form}
use Rattle.logic.specs.Formula.Form.{same, diff, pts, ls}
use Rattle.logic.specs.Tests.{andb, pickb, in_part}
use Rattle.logic.specs.Table.{atom_of}
use Rattle.logic.proofs.Reflect.{is_not, is_eq}
use Rattle.cells.specs.Sets.{in_and, in_xor, in_pow, in_all}
use Rattle.skips.specs.Counts.{hit}
use Rattle.skips.proofs.CountLaws.{hit_is, hit_not}
use Rattle.skips.specs.Facts.{Digits, Caps, Needs, May, PointsDigit, ListCell, ListDigit, cap_of_path}
use Rattle.skips.proofs.DigitRules.{hopeless, digits_more, digits_same, digits_diff, digits_pts, digits_ls}
use Rattle.skips.proofs.BoundRules.{caps_same, caps_diff, caps_pts, caps_ls, needs_same, needs_diff, needs_pts, needs_ls}
use Rattle.facts.specs.declared.fact.Fact.{Fact}
use Rattle.facts.specs.Known.{In, Known}
use Rattle.facts.specs.KnownLaws.{in_one, hopeless_known}
use Rattle.atomfacts.specs.Atoms.{AtomAs, Dropped, PointsSet, ListSet}

-- ---- bits

pub one_there : (x l : ℕ) → x ≡ l → (1 ≡ hit (suc x) l) × (1 ≤ 1)
one_there x l e = (sym (hit_is x l e), omega arith)

pub one_elsewhere : (x l : ℕ) → ¬ (x ≡ l) → (0 ≡ hit (suc x) l) × (0 ≤ 1)
one_elsewhere x l e = (sym (hit_not x l e), omega arith)

pub one_is : (x l y : ℕ) → y ≡ from_bool (eqb x l) → (y ≡ hit (suc x) l) × (y ≤ 1)
one_is x l y e = go (ℕ_discrete x l)
  where
    go : Dec (x ≡ l) → (y ≡ hit (suc x) l) × (y ≤ 1)
    go (yes q) = rw (e, eq-eqb x l q) (one_there x l q)
    go (no q) = rw (e, ne_eqb x l q) (one_elsewhere x l q)

pub cap_is : (a b l y z : ℕ) → y ≡ from_bool (eqb b l) → z ≡ from_bool (eqb a l) → (1 + y - z ≡ cap_of_path a b l) × (1 + y - z ≤ 2)
cap_is a b l y z ey ez =
    let p = one_is b l y ey in
    let q = one_is a l z ez in
    (ap₂ (λ (i j : ℕ). 1 + i - j) p.0 q.0, omega (arith, p.1))

pub not_zero : (b : ℕ) → not (eqb b 0) ≡ true → ¬ (b ≡ 0)
not_zero b e = (is_not (eqb b 0) (is_eq b 0)).to e

in_bit : (d : ℕ) → In (2 ^ d) d
in_bit d = in_pow d d ∙ eq-eqb d d refl

pub dropped_there : (m d p : ℕ) (Yes : Type 0) → m < 2 ^ 16 → p ≡ 2 ^ d → Yes → Dropped m d Yes (bit_xor m (bit_and m p))
dropped_there m d p Yes small ep yes' =
    record { small = xor_lt 16 m (bit_and m p) small (omega (arith, and_le_l m p)); has = λ e q f. has' e q (f yes') }
  where
    off : (e : ℕ) → ¬ (e ≡ d) → in_part (bit_and m p) (suc e) ≡ false
    off e f = in_and m p (suc e) ∙ ap (andb (in_part m (suc e))) (ap (λ (x : ℕ). in_part x (suc e)) ep ∙ in_pow d e ∙ ne_eqb e d f) ∙ none (in_part m (suc e))
      where
        none : (b : Bool) → andb b false ≡ false
        none true = refl
        none false = refl

    has' : (e : ℕ) → In m e → ¬ (e ≡ d) → In (bit_xor m (bit_and m p)) e
    has' e q f = in_xor m (bit_and m p) (suc e) ∙ ap₂ (λ (x y : Bool). pickb x (not y) y) q (off e f)

-- ---- the sets of digits

pub points_there : (a b l r : ℕ) → l ≡ a → (r ≡ 2 ^ (b + 1)) × (r < 2 ^ 16) → PointsSet a b l r
points_there a b l r e q =
    record {
      small = q.1;
      has = λ d w. ⊎_elim (λ w. subst₂ In (sym q.0) (omega (arith, w.1)) (in_bit (b + 1))) (λ w. absurd (w.0 e)) w;
    }

pub points_elsewhere : (a b l : ℕ) → ¬ (l ≡ a) → PointsSet a b l 1
points_elsewhere a b l e =
    record { small = omega arith; has = λ d w. ⊎_elim (λ w. absurd (e w.0)) (λ w. subst (In 1) (sym w.1) in_one) w }

pub list_at_nil : (n a b l : ℕ) → l ≡ 0 → ListSet n a b l 1
list_at_nil n a b l e =
    record { small = omega arith; has = λ d w. ⊎_elim (λ w. subst (In 1) (sym w.1) in_one) (λ w. absurd (w.2.no_nil e)) w }

pub list_at_end : (n a b l : ℕ) → l ≡ b → ListSet n a b l 1
list_at_end n a b l e =
    record { small = omega arith; has = λ d w. ⊎_elim (λ w. subst (In 1) (sym w.1) in_one) (λ w. absurd (w.2.no_end e)) w }

pub list_set : (n a b l p m1 m2 m3 r : ℕ) (Nil Start : Type 0) → p ≡ 2 ^ (n + 2) → (Nil → ¬ (b ≡ 0)) → (Start → l ≡ a) → Dropped (p - 1) (a + 1) (true ≡ true) m1 → Dropped m1 (l + 1) (true ≡ true) m2 → Dropped m2 1 Nil m3 → Dropped m3 0 Start r → ListSet n a b l r
list_set n a b l p m1 m2 m3 r Nil Start ep nil' start d1 d2 d3 d4 =
    record { small = d4.small; has = λ d w. ⊎_elim (λ w. subst (In r) (sym w.1) (first w.0)) (λ w. subst (In r) (sym w.1) (cell w.0 w.2)) w }
  where
    all : (e : ℕ) → e < n + 2 → In (p - 1) e
    all e l = ap (λ (x : ℕ). in_part (x - 1) (suc e)) ep ∙ in_all (n + 2) e l

    first : ¬ (l ≡ a) → In r 0
    first f =
        d4.has 0 (d3.has 0 (d2.has 0 (d1.has 0 (all 0 (omega arith)) (λ _ (e : 0 ≡ a + 1). omega arith)) (λ _ (e : 0 ≡ l + 1). omega arith)) (λ _ (e : 0 ≡ 1). omega arith)) (λ s _. f (start s))

    cell : (x : ℕ) → ListCell n a b l x → In r (suc x)
    cell x c =
        d4.has (suc x)
        (d3.has (suc x)
        (d2.has (suc x)
        (d1.has (suc x) (all (suc x) (omega (arith, c.low))) (λ _ (e : suc x ≡ a + 1). c.no_start (omega arith)))
        (λ _ (e : suc x ≡ l + 1). c.no_loop (omega arith)))
        (λ w (e : suc x ≡ 1). nil' w (c.end (omega arith))))
        (λ _ (e : suc x ≡ 0). omega arith)

-- ---- the atoms

-- a fact's three numbers, where a test has chosen between two facts
pub numbers_are : {x y : ℕ × (ℕ × (ℕ × Unit {0}))} → x ≡ y → (x.0 ≡ y.0) × (x.1.0 ≡ y.1.0) × (x.1.1.0 ≡ y.1.1.0)
numbers_are e =
    (ap (λ (x : ℕ × (ℕ × (ℕ × Unit {0}))). x.0) e, ap (λ (x : ℕ × (ℕ × (ℕ × Unit {0}))). x.1.0) e, ap (λ (x : ℕ × (ℕ × (ℕ × Unit {0}))). x.1.1.0) e)

module _ (π : Profile) (v n : ℕ) (s : Map) (ℓ : ℕ) (F : Form) where
  -- a node that holds on no heap
  nothing_known : (P : ℕ → Type 0) (r : Fact) → Digits π v n F s ℓ P → ((d : ℕ) → d ≤ suc n → ¬ P d) → Known π v n F s ℓ r
  nothing_known P r f none = hopeless_known π v n F s ℓ r (hopeless π v n s ℓ F P f none)

  -- one that holds on the empty heap only
  empty_known : (P : ℕ → Type 0) (r : Fact) → (r.digits ≡ 1) × (r.cap ≡ 1) × (r.need ≡ 1) → Digits π v n F s ℓ P → ((d : ℕ) → P d → d ≡ 0) → Caps π v n F s ℓ 1 → Needs π v n F s ℓ 1 → Known π v n F s ℓ r
  empty_known P r e f zero' c m =
      record {
        digits = digits_more π v n s ℓ F P (In r.digits) (λ d _ q. subst₂ In (sym e.0) (sym (zero' d q)) in_one) f;
        caps = subst (Caps π v n F s ℓ) (sym e.1) c;
        needs = subst (Needs π v n F s ℓ) (sym e.2) m;
      }

module _ (n l a b : ℕ) (r : Fact) where
  pub same_there : a ≡ b → (r.digits ≡ 1) × (r.cap ≡ 1) × (r.need ≡ 1) → AtomAs same n l a b r
  unfolding May
  same_there e q =
      record {
        known = λ π v s x y ex ey. empty_known π v n s l (same x y) (May n s l (same x y)) r q (digits_same π v n s l x y) (λ d w. w.1) (caps_same π v n s l x y) (needs_same π v n s l x y);
      }

  pub same_elsewhere : ¬ (a ≡ b) → (r.digits ≡ 0) × (r.cap ≡ 0) × (r.need ≡ 0) → AtomAs same n l a b r
  unfolding May
  same_elsewhere e q =
      record {
        known = λ π v s x y ex ey. nothing_known π v n s l (same x y) (May n s l (same x y)) r (digits_same π v n s l x y) (λ d _ w. e (sym ex ∙ w.0 ∙ ey));
      }

  pub diff_there : a ≡ b → (r.digits ≡ 0) × (r.cap ≡ 0) × (r.need ≡ 0) → AtomAs diff n l a b r
  unfolding May
  diff_there e q =
      record {
        known = λ π v s x y ex ey. nothing_known π v n s l (diff x y) (May n s l (diff x y)) r (digits_diff π v n s l x y) (λ d _ w. w.0 (ex ∙ e ∙ sym ey));
      }

  pub diff_elsewhere : ¬ (a ≡ b) → (r.digits ≡ 1) × (r.cap ≡ 1) × (r.need ≡ 1) → AtomAs diff n l a b r
  unfolding May
  diff_elsewhere e q =
      record {
        known = λ π v s x y ex ey. empty_known π v n s l (diff x y) (May n s l (diff x y)) r q (digits_diff π v n s l x y) (λ d w. w.1) (caps_diff π v n s l x y) (needs_diff π v n s l x y);
      }

  pub points_nil : a ≡ 0 → (r.digits ≡ 0) × (r.cap ≡ 0) × (r.need ≡ 0) → AtomAs pts n l a b r
  unfolding May
  points_nil e q =
      record {
        known = λ π v s x y ex ey. nothing_known π v n s l (pts x y) (May n s l (pts x y)) r (digits_pts π v n s l x y) (λ d _ w. w.0 (ex ∙ e));
      }

  pub list_same : a ≡ b → (r.digits ≡ 1) × (r.cap ≡ 1) × (r.need ≡ 1) → AtomAs ls n l a b r
  unfolding May
  list_same e q =
      record {
        known = λ π v s x y ex ey. empty_known π v n s l (ls x y) (May n s l (ls x y)) r q (digits_ls π v n s l x y) (λ d w. ⊎_elim (λ w. w.1) (λ w. absurd (w.0 (ex ∙ e ∙ sym ey))) w) (subst (Caps π v n (ls x y) s l) (flat (s x) (s y) (ex ∙ e ∙ sym ey)) (caps_ls π v n s l x y)) (subst (Needs π v n (ls x y) s l) (flat (s y) (s x) (sym (ex ∙ e ∙ sym ey))) (needs_ls π v n s l x y));
      }
    where
      flat : (i j : ℕ) → i ≡ j → cap_of_path i j l ≡ 1
      flat i j z = ap (λ (k : ℕ). 1 + hit (suc j) l - hit (suc k) l) z ∙ omega arith

  pub list_nil : ¬ (a ≡ b) → a ≡ 0 → (r.digits ≡ 0) × (r.cap ≡ 0) × (r.need ≡ 0) → AtomAs ls n l a b r
  unfolding May
  list_nil f e q =
      record {
        known = λ π v s x y ex ey. nothing_known π v n s l (ls x y) (May n s l (ls x y)) r (digits_ls π v n s l x y) (λ d _ w. ⊎_elim (λ w. f (sym ex ∙ w.0 ∙ ey)) (λ w. w.1 (ex ∙ e)) w);
      }

module _ (n l a b : ℕ) (r : Fact) (cy : r.cap ≡ cap_of_path a b l) (cz : r.need ≡ cap_of_path b a l) where
  pub points_cell : PointsSet a b l r.digits → AtomAs pts n l a b r
  unfolding May
  points_cell q =
      record {
        known = λ π v s x u ex eu. record {
          digits = digits_more π v n s l (pts x u) (May n s l (pts x u)) (In r.digits) (λ d _ w. q.has d (subst₂ (λ (i j : ℕ). PointsDigit i j l d) ex eu w.1)) (digits_pts π v n s l x u);
          caps = subst (Caps π v n (pts x u) s l) (ap₂ (λ (i j : ℕ). cap_of_path i j l) ex eu ∙ sym cy) (caps_pts π v n s l x u);
          needs = subst (Needs π v n (pts x u) s l) (ap₂ (λ (i j : ℕ). cap_of_path j i l) ex eu ∙ sym cz) (needs_pts π v n s l x u);
        };
      }

  pub list_cells : ¬ (a ≡ b) → ListSet n a b l r.digits → AtomAs ls n l a b r
  unfolding May
  list_cells f q =
      record {
        known = λ π v s x u ex eu. record {
          digits = digits_more π v n s l (ls x u) (May n s l (ls x u)) (In r.digits) (λ d _ w. ⊎_elim (λ w. absurd (f (sym ex ∙ w.0 ∙ eu))) (λ w. q.has d (subst₂ (λ (i j : ℕ). ListDigit n i j l d) ex eu w.2)) w) (digits_ls π v n s l x u);
          caps = subst (Caps π v n (ls x u) s l) (ap₂ (λ (i j : ℕ). cap_of_path i j l) ex eu ∙ sym cy) (caps_ls π v n s l x u);
          needs = subst (Needs π v n (ls x u) s l) (ap₂ (λ (i j : ℕ). cap_of_path j i l) ex eu ∙ sym cz) (needs_ls π v n s l x u);
        };
      }

-- ---- by the operator's number

module _ (o n l a b : ℕ) (r : Fact) where
  pub atom_1 : o ≡ 1 → AtomAs same n l a b r → AtomAs (atom_of o) n l a b r
  unfolding atom_of
  atom_1 e q = rw e (record { known = λ π v s x y. q.known π v s x y })

  pub atom_2 : o ≡ 2 → AtomAs diff n l a b r → AtomAs (atom_of o) n l a b r
  unfolding atom_of
  atom_2 e q = rw e (record { known = λ π v s x y. q.known π v s x y })

  pub atom_3 : o ≡ 3 → AtomAs pts n l a b r → AtomAs (atom_of o) n l a b r
  unfolding atom_of
  atom_3 e q = rw e (record { known = λ π v s x y. q.known π v s x y })

  pub atom_4 : o ≡ 4 → AtomAs ls n l a b r → AtomAs (atom_of o) n l a b r
  unfolding atom_of
  atom_4 e q = rw e (record { known = λ π v s x y. q.known π v s x y })
