-- What is said of a node, from what is said of its children and of its own rows. Assumes nothing.
use Rattle.std.specs.Prelude.{◌≡◌, refl, Bool, true, false, not, List, ℕ, ◌+◌, ◌<◌, ◌≤◌}
use Rattle.std.proofs.Common.{sym, ap₂, subst, ◌∙◌, arith}
use Rattle.logic.specs.Formula.{Form}
use Rattle.logic.specs.Formula.Form.{conj, disj, but, neg, sep, sept}
use Rattle.logic.specs.Holds.{Holds}
use Rattle.logic.specs.Reflect.{Is}
use Rattle.logic.proofs.Reflect.{is_iff, is_and, is_or, is_not, false_true}
use Rattle.logic.specs.Tests.{andb, orb}
use Rattle.logic.specs.Table.{op_of, operand_of, atom_of, join_of, join_from5, tree}
use Rattle.logic.specs.Book.{nodes, Known}
use Rattle.rows.specs.Assignment.{on}
use Rattle.rows.specs.Meaning.{Splits, Apart, Same}
use Rattle.rows.specs.Table.{arrays_in, sets_in}
use Rattle.rows.specs.Condition.{Condition}
use Rattle.logic.proofs.Operators.{each_atom}
use Rattle.rows.proofs.Sound.{flat}
use Rattle.logic.proofs.KnownLaws.{atom_tree, join_tree}
use Rattle.encodable.specs.EncodableLaws.{flat_atoms}
use Rattle.rowjudge.specs.declared.Setting.{Setting}
use Rattle.rowjudge.specs.declared.Told.{Told}
use Rattle.rowjudge.specs.declared.Pair.{Pair}
use Rattle.rowjudge.specs.Setting.{given, Ready, Within, Judged, JudgedBoth, WithinBoth, Also}

atom_arrays : (o x y : ℕ) → 1 ≤ o → o ≤ 4 → (arrays_in (atom_of o x y) ≡ 0) × (sets_in (atom_of o x y) ≡ 0)
unfolding arrays_in sets_in atom_of
atom_arrays o x y = each_atom (λ o. (arrays_in (atom_of o x y) ≡ 0) × (sets_in (atom_of o x y) ≡ 0)) (refl, refl) (refl, refl) (refl, refl) (refl, refl) o

-- ---- a test after another

pub passed : {b e r : Bool} {Q : Type 0} → b ≡ true → Is e Q → r ≡ e → Also b Q r
passed d i c = (λ x. rw c i, λ x. false_true (sym x ∙ d))

pub failed : {b r : Bool} {Q : Type 0} → b ≡ false → r ≡ b → Also b Q r
failed d c = (λ x. false_true (sym d ∙ x), λ x. c ∙ d)

pub is_also : (b h : Bool) {P Q : Type 0} → Is b P → Also b Q h → Is h (P × Q)
is_also true h i a = is_iff (a.0 refl) (λ q. (i.to refl, q)) (λ x. x.1)
is_also false h i a = record { to = λ e. false_true (sym (a.1 refl) ∙ e); from = λ x. false_true (i.from x.0) }

module _ (g : Setting) (q : List ℕ) where
  -- an atom's truth is its rows' condition
  pub judged_atom : (arrays : List (List ℕ)) → Ready g q arrays → (op x y A S i j : ℕ) (h : Bool) → 1 ≤ op → op ≤ 4
      → Is h (Holds g.profile g.v g.n (atom_of op x y) (given g q).stack (on ((given g q).array A) ((given g q).set S)))
      → Judged g q (atom_of op x y) A S i j (record { holds = h; next = record { array = i; set = j } })
  judged_atom arrays r op x y A S i j h l m t =
      let e = flat g.profile g.v g.n (given g q) r.within_range (atom_of op x y) A S i j (flat_atoms op x y l m) in
      let z = atom_arrays op x y l m in
      record { holds = is_iff t e.1 e.0; array = omega (arith, z.0); set = omega (arith, z.1) }

  module _ (op A S i j : ℕ) (a b : Form) (r : Pair) (h : Bool) where
    pub judged_conj : op ≡ 5 → JudgedBoth g q a b A S S i j r → h ≡ andb r.first r.second → Judged g q (join_of op a b) A S i j (record { holds = h; next = r.next })
    unfolding join_of join_from5 Condition arrays_in sets_in
    judged_conj e p d = rw (e, d) (record { holds = is_and r.first r.second p.first p.second; array = p.array; set = p.set })

    pub judged_disj : op ≡ 6 → JudgedBoth g q a b A S S i j r → h ≡ orb r.first r.second → Judged g q (join_of op a b) A S i j (record { holds = h; next = r.next })
    unfolding join_of join_from5 Condition arrays_in sets_in
    judged_disj e p d = rw (e, d) (record { holds = is_or r.first r.second p.first p.second; array = p.array; set = p.set })

    pub judged_but : op ≡ 7 → JudgedBoth g q a b A S S i j r → h ≡ andb r.first (not r.second) → Judged g q (join_of op a b) A S i j (record { holds = h; next = r.next })
    unfolding join_of join_from5 Condition arrays_in sets_in
    judged_but e p d = rw (e, d) (record { holds = is_and r.first (not r.second) p.first (is_not r.second p.second); array = p.array; set = p.set })

    pub judged_sep : (h₁ h₂ : Bool) → op ≡ 9 → JudgedBoth g q a b A j (j + 1) i (j + 2) r → h₁ ≡ andb r.first r.second
        → Also h₁ (Splits ((given g q).set S) ((given g q).set j) ((given g q).set (j + 1))) h₂ → Also h₂ (Apart g.profile g.v (given g q).stack ((given g q).array A) ((given g q).set j) ((given g q).set (j + 1))) h
        → Judged g q (join_of op a b) A S i j (record { holds = h; next = r.next })
    unfolding join_of join_from5 Condition arrays_in sets_in
    judged_sep h₁ h₂ e p d x y =
        rw e (record {
          holds = is_also h₂ h (is_also h₁ h₂ (rw d (is_and r.first r.second p.first p.second)) x) y;
          array = p.array;
          set = omega (arith, p.set);
        })

    pub judged_sept : (h₁ h₂ h₃ : Bool) → op ≡ 10 → JudgedBoth g q a b i j (j + 1) (i + 1) (j + 2) r → h₁ ≡ andb r.first r.second
        → Also h₁ (Splits ((given g q).set (j + 1)) ((given g q).set j) ((given g q).set S)) h₂ → Also h₂ (Apart g.profile g.v (given g q).stack ((given g q).array i) ((given g q).set j) ((given g q).set S)) h₃
        → Also h₃ (Same ((given g q).array A) ((given g q).array i) ((given g q).set S)) h → Judged g q (join_of op a b) A S i j (record { holds = h; next = r.next })
    unfolding join_of join_from5 Condition arrays_in sets_in
    judged_sept h₁ h₂ h₃ e p d x y z =
        rw e (record {
          holds = is_also h₃ h (is_also h₂ h₃ (is_also h₁ h₂ (rw d (is_and r.first r.second p.first p.second)) x) y) z;
          array = omega (arith, p.array);
          set = omega (arith, p.set);
        })

  pub judged_neg : (op A S i j : ℕ) (a b : Form) (r : Told) → op ≡ 8 → Judged g q a A S i j r → Judged g q (join_of op a b) A S i j (record { holds = not r.holds; next = r.next })
  unfolding join_of join_from5 Condition arrays_in sets_in
  judged_neg op A S i j a b r e p = rw e (record { holds = is_not r.holds p.holds; array = p.array; set = p.set })

  pub judged_both : (a b : Form) (A S T i j : ℕ) (u w : Told) → Judged g q a A S i j u → Judged g q b A T u.next.array u.next.set w
      → JudgedBoth g q a b A S T i j (record { first = u.holds; second = w.holds; next = w.next })
  judged_both a b A S T i j u w p r =
      let e : Condition g.profile g.v g.n (given g q) b A T u.next.array u.next.set ≡ Condition g.profile g.v g.n (given g q) b A T (i + arrays_in a) (j + sets_in a) = ap₂ (Condition g.profile g.v g.n (given g q) b A T) p.array p.set in
      record { first = p.holds; second = subst (Is w.holds) e r.holds; array = omega (arith, p.array, r.array); set = omega (arith, p.set, r.set) }

-- ---- there are arrays and sets enough

module _ (g : Setting) (a b : Form) (A S T i j : ℕ) where
  pub within_first : WithinBoth g a b A S T i j → Within g a A S i j
  within_first w = record { array = w.array; set = w.first; arrays = omega (arith, w.arrays); sets = omega (arith, w.sets) }

  pub within_second : (q : List ℕ) (u : Told) → WithinBoth g a b A S T i j → Judged g q a A S i j u → Within g b A T u.next.array u.next.set
  within_second q u w p = record { array = omega (arith, w.array, p.array); set = omega (arith, w.second, p.set); arrays = omega (arith, w.arrays, p.array); sets = omega (arith, w.sets, p.set) }

module _ (g : Setting) (op : ℕ) (a b : Form) (A S i j : ℕ) (w : Within g (join_of op a b) A S i j) where
  pub within_conj : op ≡ 5 → WithinBoth g a b A S S i j
  unfolding join_of join_from5 arrays_in sets_in
  within_conj e = let v : Within g (conj a b) A S i j = rw e at w in record { array = v.array; first = v.set; second = v.set; arrays = v.arrays; sets = v.sets }

  pub within_disj : op ≡ 6 → WithinBoth g a b A S S i j
  unfolding join_of join_from5 arrays_in sets_in
  within_disj e = let v : Within g (disj a b) A S i j = rw e at w in record { array = v.array; first = v.set; second = v.set; arrays = v.arrays; sets = v.sets }

  pub within_but : op ≡ 7 → WithinBoth g a b A S S i j
  unfolding join_of join_from5 arrays_in sets_in
  within_but e = let v : Within g (but a b) A S i j = rw e at w in record { array = v.array; first = v.set; second = v.set; arrays = v.arrays; sets = v.sets }

  pub within_neg : op ≡ 8 → Within g a A S i j
  unfolding join_of join_from5 arrays_in sets_in
  within_neg e = let v : Within g (neg a) A S i j = rw e at w in record { array = v.array; set = v.set; arrays = v.arrays; sets = v.sets }

  pub within_sep : op ≡ 9 → WithinBoth g a b A j (j + 1) i (j + 2) × (j + 2 ≤ g.sets)
  unfolding join_of join_from5 arrays_in sets_in
  within_sep e =
      let v : Within g (sep a b) A S i j = rw e at w in
      (record { array = v.array; first = omega arith; second = omega arith; arrays = v.arrays; sets = omega (arith, v.sets) }, omega (arith, v.sets))

  pub within_sept : op ≡ 10 → WithinBoth g a b i j (j + 1) (i + 1) (j + 2) × (j + 2 ≤ g.sets) × (i + 1 ≤ g.arrays)
  unfolding join_of join_from5 arrays_in sets_in
  within_sept e =
      let v : Within g (sept a b) A S i j = rw e at w in
      (record { array = omega arith; first = omega arith; second = omega arith; arrays = omega (arith, v.arrays); sets = omega (arith, v.sets) }, omega (arith, v.sets), omega (arith, v.arrays))

-- ---- a node's

module _ (g : Setting) (q f : List ℕ) (w : Known g.v f) (k x y : ℕ) (h : k < nodes f) (ex : x ≡ operand_of f k 0) (ey : y ≡ operand_of f k 1) (A S i j : ℕ) where
  pub within_join : 5 ≤ op_of f k → Within g (tree f k) A S i j → Within g (join_of (op_of f k) (tree f x) (tree f y)) A S i j
  within_join l r = rw (join_tree g.v f w k x y h ex ey l) at r

  pub judged_leaf : (r : Told) → op_of f k ≤ 4 → Judged g q (atom_of (op_of f k) x y) A S i j r → Judged g q (tree f k) A S i j r
  judged_leaf r l p = rw (atom_tree g.v f w k x y h ex ey l) p

  pub judged_join : (r : Told) → 5 ≤ op_of f k → Judged g q (join_of (op_of f k) (tree f x) (tree f y)) A S i j r → Judged g q (tree f k) A S i j r
  judged_join r l p = rw (join_tree g.v f w k x y h ex ey l) p
